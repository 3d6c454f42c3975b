-- What the clients of the definitions tell of the code's hub.
use Rattle.std.proofs.Common.{◌≡◌, ◌<◌, ◌+◌, ℕ, Bool, true, false, List, [], ◌∷◌, drop, length, Option, Some, None, IfSome, Result}
use Rattle.std.proofs.Common.{Ok, Err, refl, sym, ap, ◌∙◌, subst, arith}
use Rattle.std.specs.Prelude.{is_some, nat_eq}
use Rattle.ipc_limits.specs.declared.limits.Limits.{Limits}
use Rattle.std.specs.List.{IsDistinct, AllByRecursion}
use Rattle.std.proofs.lemmas.Bool.Decides.{nat_tests}
use Rattle.std.proofs.lemmas.Map.Keys.{IsDistinct-cons}
use Rattle.ipc_base.specs.Table.{value_at, ArePaired, IsRising}
use Rattle.ipc_base.proofs.CallerLemmas.{same_keys, paired-keys, paired-at, paired-none}
use Rattle.ipc_hub.specs.declared.fault.ServeError.{ServeError}
use Rattle.ipc_hub.specs.declared.fault.ServeError.TheVariants as serve
use Rattle.ipc_script.specs.declared.fault.ScriptFault.TheVariants.{Device, Unknown}
use Rattle.ipc_script.specs.Relations.Faults.{ByFault, IfRefused, of_serve_error}
use Rattle.ipc_hub.specs.Clients.{accepted, Clients, client_at, all_bytes, shown_at, ended_at}
use Rattle.ipc_hub.specs.View.{ConnectionView, HubView, StoredHub, HasFewFrames, HasNoFrame, HasStopped, IsBare, KeepsFew}
use Rattle.ipc_hub.specs.View.{ended_of, is_connected, kept, output_of}
use Rattle.ipc_hub.specs.Relations.Matches.{ClientMatches, HubMatches}

-- the numbers that are connected
pub connected : (limits : Limits) (confirmed : ℕ) (hub : HubView) (h : Clients) (conn : ℕ) → HubMatches limits confirmed hub h
    → is_connected hub conn ≡ is_some (client_at h conn)
connected limits confirmed hub h conn m =
    same_keys hub.connections h.clients conn (paired-keys (ClientMatches confirmed (accepted h)) hub.connections h.clients m.clients)

-- a client without frames has an empty outbox
pub no_frame : (limits : Limits) (confirmed : ℕ) (hub : HubView) (h : Clients) (conn : ℕ) → HubMatches limits confirmed hub h
    → IfSome (client_at h conn) (λ c. c.consumed ≡ 0) → IfSome (client_at h conn) (λ c. c.frames ≡ []) → HasNoFrame hub conn
no_frame limits confirmed hub h conn m u q = by_value (value_at nat_eq hub.connections conn) refl
  where
    by_value : (r : Option ConnectionView) → value_at nat_eq hub.connections conn ≡ r → IfSome r (λ v. kept v.outbox ≡ [])
    by_value None is = tt
    by_value (Some v) is =
        let p = paired-at (ClientMatches confirmed (accepted h)) hub.connections h.clients conn v m.clients is in
        let none : p.0.consumed ≡ 0 = rw p.1.0 at u in
        let empty : p.0.frames ≡ [] = rw p.1.0 at q in
        p.1.1.kept ∙ ap (λ (n : ℕ). drop n (all_bytes p.0.frames)) none ∙ ap all_bytes empty

-- none are few
pub few_frames : (hub : HubView) (conn : ℕ) → HasNoFrame hub conn → HasFewFrames hub conn
few_frames hub conn = by_value (value_at nat_eq hub.connections conn)
  where
    by_value : (r : Option ConnectionView) → IsBare r → KeepsFew r
    by_value None none = tt
    by_value (Some v) none = omega (arith, ap length none)

-- what the hub shows of a connection is what the client may see, and so is whether it has ended
pub shows : (limits : Limits) (confirmed : ℕ) (hub : HubView) (h : Clients) (conn : ℕ) → HubMatches limits confirmed hub h
    → (output_of hub conn ≡ shown_at confirmed h conn) × (ended_of hub conn ≡ ended_at h conn)
shows limits confirmed hub h conn m = by_value (value_at nat_eq hub.connections conn) refl
  where
    by_value : (r : Option ConnectionView) → value_at nat_eq hub.connections conn ≡ r
        → (output_of hub conn ≡ shown_at confirmed h conn) × (ended_of hub conn ≡ ended_at h conn)
    by_value None is =
        let none = paired-none (ClientMatches confirmed (accepted h)) hub.connections h.clients conn m.clients is in
        rw is (rw none (refl, refl))
    by_value (Some v) is =
        let p = paired-at (ClientMatches confirmed (accepted h)) hub.connections h.clients conn v m.clients is in
        rw is (rw p.1.0 (p.1.1.visible, p.1.1.ended))

-- ---- refusals

-- a call that was done named a connection
pub is_known : {A D : Type 0} (hub : StoredHub D) (conn : ℕ) (result : Result A ServeError) (v : A) → result ≡ Ok v
    → (HasStopped hub → result ≡ Err serve.Stopped)
    → (¬ HasStopped hub → is_connected hub.hub conn ≡ false → result ≡ Err serve.Unknown) → is_connected hub.hub conn ≡ false → ⊥
is_known hub conn result v is stopped unknown none =
    let running : ¬ HasStopped hub = λ has. let bad : Ok v ≡ Err serve.Stopped = sym is ∙ stopped has in cc in
    let bad : Ok v ≡ Err serve.Unknown = sym is ∙ unknown running none in cc

-- what says why a call was refused, as `Refuses` and `RefusesFeed`
module _ (R : ServeError → Type 0) where
  -- one that was refused and did not fail named none
  pub is_unknown : (P : Type 0) (e : ServeError) (number : ℕ) → (R serve.Unknown → P) → R e → IfRefused (of_serve_error e number) P
  is_unknown P serve.Unknown number makes r = makes r
  is_unknown P serve.Device number makes r = tt
  is_unknown P serve.Stopped number makes r = tt

  -- so it has that fault, and the hub is as it was; or what waits could not be made to last
  pub is_its_fault : (W V P Q : Type 0) (e : ServeError) (number : ℕ) → (R serve.Unknown → Q) → (R serve.Device → V) → (R serve.Stopped → V) → P → R e
      → ByFault (of_serve_error e number) W V ((of_serve_error e number ≡ Unknown number) × P × Q)
  is_its_fault W V P Q serve.Unknown number same device stopped p r = (refl, p, same r)
  is_its_fault W V P Q serve.Device number same device stopped p r = device r
  is_its_fault W V P Q serve.Stopped number same device stopped p r = stopped r

  -- it failed by this fault
  pub is_failed : (V : Type 0) (e : ServeError) (number : ℕ) → of_serve_error e number ≡ Device → (R serve.Device → V) → (R serve.Stopped → V) → R e → V
  is_failed V serve.Unknown number is device stopped r = let never : Unknown number ≡ Device = is in cc
  is_failed V serve.Device number is device stopped r = device r
  is_failed V serve.Stopped number is device stopped r = stopped r

-- ---- tables

module _ {X Y : Type 0} (R : X → Y → Type 0) where
  -- a client has its connection
  pub partner-at : (xs : List (ℕ × X)) (ys : List (ℕ × Y)) (k : ℕ) (y : Y) → ArePaired R xs ys → value_at nat_eq ys k ≡ Some y → (x : X) × R x y
  partner-at [] [] k y paired is = cc
  partner-at [] (f ∷ ys) k y paired is = absurd paired
  partner-at (e ∷ xs) [] k y paired is = cc
  partner-at (e ∷ xs) (f ∷ ys) k y paired is =
      by_test (nat_eq f.0 k) (λ t. rw t at is) (λ t. partner-at xs ys k y paired.1.1 (rw t at is)) refl
    where
      by_test : (b : Bool) → (nat_eq f.0 k ≡ true → Some f.1 ≡ Some y) → (nat_eq f.0 k ≡ false → (x : X) × R x y)
          → nat_eq f.0 k ≡ b → (x : X) × R x y
      by_test true found other t = let same : f.1 ≡ y = some_same (found t) in (e.1, subst (R e.1) same paired.1.0)
        where
          some_same : Some f.1 ≡ Some y → f.1 ≡ y
          some_same is = cc
      by_test false found other t = other t

-- numbers that rise are distinct
pub rising-distinct : (low : ℕ) (ns : List ℕ) (high : ℕ) → IsRising low ns high → IsDistinct nat_eq ns
unfolding IsDistinct
rising-distinct low [] high rising = tt
rising-distinct low (n ∷ ns) high rising =
    IsDistinct-cons nat_eq n ns (above (n + 1) ns rising.1 (omega arith)) (rising-distinct (n + 1) ns high rising.1)
  where
    above : (least : ℕ) (ms : List ℕ) → IsRising least ms high → n < least → AllByRecursion (λ m. nat_eq n m ≡ false) ms
    above least [] up lt = tt
    above least (m ∷ ms) up lt = (grind (arith, nat_tests, up.0, lt), above (m + 1) ms up.1 (omega (arith, up.0, lt)))
