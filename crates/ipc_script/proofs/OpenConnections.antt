-- The connections that are open, when one comes and when one goes.
use Rattle.std.proofs.Common.{◌≡◌, ◌<◌, ◌^◌, ℕ, ◌+◌, arith, Bool, true, false, ◌&&◌, List, [], ◌∷◌, ◌++◌, map, take, drop, None, refl, sym}
use Rattle.std.proofs.Common.{ap, ◌∙◌, subst, inl, inr}
use Rattle.std.specs.Prelude.{nat_eq, nat_lt, not, is_some, if◌then◌else◌}
use Rattle.std.proofs.lemmas.Bool.Decides.{nat_tests}
use Rattle.std.specs.List.{insert, prefix_len, AllByRecursion}
use Rattle.std.proofs.Math.Numerals.{one-add}
use Rattle.std.proofs.lemmas.Bool.{cases_eq}
use Rattle.ipc_limits.specs.declared.limits.Limits.{Limits}
use Rattle.ipc_base.specs.Table.{value_at, without, with_entry, keys_of, IsRising}
use Rattle.ipc_base.proofs.CallerLemmas.{value_at-without}
use Rattle.ipc_base.proofs.CallerLemmas.{entry-at, entry-other, rising-entry, rising-gone, rising-without}
use Rattle.ipc_base.proofs.CallerLemmas.{nobody}
use Rattle.ipc_disk.specs.Medium.{Medium}
use Rattle.ipc_hub.specs.View.{StoredHub, is_connected}
use Rattle.ipc_hub.specs.Clients.{Client, Clients, client_at, start_client, connect, hangup, tick, process_at}
use Rattle.ipc_hub.specs.Relations.Matches.{HubMatches, Simulates, Serves}
use Rattle.ipc_script.specs.declared.report.Opened.{Opened}
use Rattle.ipc_script.specs.Script.{Run, is_open, opened}
use Rattle.ipc_script.specs.Relations.Lasts.{LastsAs}
use Rattle.ipc_script.specs.Relations.Matches.{RunMatches, RunMatchesBetween, opened_of}
use Rattle.ipc_base.proofs.CallerLemmas.{test_cases as test, flipped, same_key as same_number}
use Rattle.ipc_script.proofs.RisingNumbers.{gone}
use Rattle.ipc_script.proofs.HubAndClients.{connected}
use Rattle.ipc_script.proofs.FedPieces.{open_here}
use Rattle.ipc_script.proofs.Lasting.{lasts-as-come}
use Rattle.ipc_script.proofs.UnchangedHeads.{heads, heads_leave, heads_tick, same_keys, same_untouched}

-- ---- one comes

-- what is told of the others is as before
same_told : (told later : ℕ → Bool) (n : ℕ) (ns : List ℕ) → AllByRecursion (λ m. nat_eq n m ≡ false) ns → ((m : ℕ) → nat_eq m n ≡ false → later m ≡ told m)
    → map (opened_of told) ns ≡ map (opened_of later) ns
same_told told later n [] apart same = refl
same_told told later n (m ∷ ns) apart same =
    ap (λ (b : Bool). record { conn = m; told = b } ∷ map (opened_of told) ns) (sym (same m (flipped m n ∙ apart.0)))
    ∙ ap (λ (os : List Opened). opened_of later m ∷ os) (same_told told later n ns apart.1 same)

-- a number among numbers that rise
abbrev pub put : ℕ → List ℕ → List ℕ
put n [] = n ∷ []
put n (m ∷ ms) = if nat_lt m n then m ∷ put n ms else n ∷ m ∷ ms

-- the place of a number among others
pub put_place : (told later : ℕ → Bool) (n : ℕ) (ns : List ℕ) → AllByRecursion (λ m. nat_eq n m ≡ false) ns
    → ((m : ℕ) → nat_eq m n ≡ false → later m ≡ told m) → later n ≡ false
    → insert (map (opened_of told) ns) (prefix_len (λ o. nat_lt o.conn n) (map (opened_of told) ns)) (record { conn = n; told = false }) ≡ map
    (opened_of later) (put n ns)
put_place told later n [] apart same new = ap (λ (b : Bool). record { conn = n; told = b } ∷ []) (sym new)
put_place told later n (m ∷ ns) apart same new =
    let here : later m ≡ told m = same m (flipped m n ∙ apart.0) in
    let rest = put_place told later n ns apart.1 same new in
    let places = map (opened_of told) ns in
    let k = prefix_len (λ (o : Opened). nat_lt o.conn n) places in
    let one : Opened = record { conn = n; told = false } in
    elim (test (nat_lt m n)) [
      | inl t ↦
          let step : take (1 + k) (opened_of told m ∷ places) ++ one ∷ drop (1 + k) (opened_of told m ∷ places) ≡ opened_of told m ∷ insert places k one =
          rw one-add refl in
          rw t (step
          ∙ (ap (λ (b : Bool). record { conn = m; told = b } ∷ insert places k one) (sym here) ∙ ap (λ (os : List Opened). opened_of later m ∷ os) rest))
      | inr f ↦
          rw f (ap (λ (b : Bool). record { conn = n; told = b } ∷ map (opened_of told) (m ∷ ns)) (sym new)
          ∙ ap (λ (os : List Opened). opened_of later n ∷ os) (same_told told later n (m ∷ ns) apart same))
    ]

-- no number of a table is one that has no value
no_key : {X : Type 0} (es : List (ℕ × X)) (n : ℕ) → is_some (value_at nat_eq es n) ≡ false → AllByRecursion (λ m. nat_eq n m ≡ false) (keys_of es)
no_key [] n h = tt
no_key (e ∷ es) n h =
    elim (test (nat_eq e.0 n)) [
      | inl t ↦ let bad : true ≡ false = rw t at h in cc
      | inr f ↦ (flipped n e.0 ∙ f, no_key es n (rw f at h))
    ]

-- the numbers of a table with an entry more
keys_entry : {X : Type 0} (es : List (ℕ × X)) (n : ℕ) (x : X) → AllByRecursion (λ m. nat_eq n m ≡ false) (keys_of es)
    → keys_of (with_entry es n x) ≡ put n (keys_of es)
keys_entry [] n x apart = refl
keys_entry (e ∷ es) n x apart =
    elim (test (nat_lt n e.0)) [
      | inl before ↦
          let beyond : nat_lt e.0 n ≡ false = grind (arith, nat_tests, before) in
          rw before (rw beyond refl)
      | inr beyond ↦
          let before : nat_lt e.0 n ≡ true = grind (arith, nat_tests, beyond, apart.0) in
          rw beyond (rw before (ap (λ (ks : List ℕ). e.0 ∷ ks) (keys_entry es n x apart.1)))
    ]

-- a connection was opened
pub open_in : {D : Type 0} (limits : Limits) (hub next : StoredHub D) (os : List Opened) (r : Run) (conn : ℕ) → conn < 2 ^ 32
    → RunMatchesBetween limits hub os r → is_connected hub.hub conn ≡ false
    → Simulates hub.hub next.hub (λ _ h. connect h conn) → next.store ≡ hub.store
    → (is_open r conn ≡ false)
    × RunMatches limits next (insert os (prefix_len (λ o. nat_lt o.conn conn) os) (record { conn = conn; told = false })) (opened r conn)
open_in limits hub next os r conn small b new takes same =
    let i : RunMatches limits hub os r = b.run in
    let closed : is_open r conn ≡ false = sym (connected limits hub.store.confirmed hub.hub r.hub conn i.matches.hub) ∙ new in
    let none : client_at r.hub conn ≡ None = nobody (client_at r.hub conn) closed in
    let numbers : List ℕ = keys_of r.hub.clients in
    let later : ℕ → Bool = λ other. not (nat_eq other conn) && r.told other in
    let placed = put_place r.told later conn numbers (no_key r.hub.clients conn closed) (λ m apart. rw apart refl) (rw (same_number conn) refl) in (
      closed,
      record {
        matches = record {
          hub = subst (λ (n : ℕ). HubMatches limits n next.hub (connect r.hub conn)) (sym (ap (λ st. st.confirmed) same))
              (takes limits hub.store.confirmed r.hub i.matches.hub);
          counts = ap (λ st. st.confirmed + st.waiting) same ∙ i.matches.counts;
        };
        kept = ap (λ (xs : List Opened). insert xs (prefix_len (λ o. nat_lt o.conn conn) xs) (record { conn = conn; told = false })) i.kept ∙ placed
            ∙ ap (λ (ns : List ℕ). map (opened_of later) ns) (sym (keys_entry r.hub.clients conn start_client (no_key r.hub.clients conn closed)));
        whole = λ n. elim (cases_eq n conn) [
          | inl same ↦ rw same (rw (entry-at r.hub.clients conn start_client none) refl)
          | inr apart ↦ rw (entry-other r.hub.clients conn n start_client apart) (i.whole n)
        ];
        rising = rising-entry 0 r.hub.clients (2 ^ 32) conn start_client i.rising (omega arith) small none;
      },
    )

-- ---- one goes

-- a connection that is open, by its number
abbrev pub by_number : Opened → ℕ × Opened
by_number o = (o.conn, o)

back : (os : List Opened) → map (λ e. e.1) (map by_number os) ≡ os
back [] = refl
back (o ∷ os) = ap (λ (ps : List Opened). o ∷ ps) (back os)

left_over : (told : ℕ → Bool) (n : ℕ) (ns : List ℕ)
    → without nat_eq (map by_number (map (opened_of told) ns)) n ≡ map by_number (map (opened_of told) (gone n ns))
left_over told n [] = refl
left_over told n (m ∷ ns) =
    elim (test (nat_eq m n)) [
      | inl t ↦ rw t refl
      | inr f ↦ rw f (ap (λ (es : List (ℕ × Opened)). by_number (opened_of told m) ∷ es) (left_over told n ns))
    ]

keys_left : (t : List (ℕ × Client)) (n : ℕ) → keys_of (without nat_eq t n) ≡ gone n (keys_of t)
keys_left [] n = refl
keys_left (e ∷ es) n =
    elim (test (nat_eq e.0 n)) [
      | inl t ↦ rw t refl
      | inr f ↦ rw f (ap (λ (ks : List ℕ). e.0 ∷ ks) (keys_left es n))
    ]

heads_left : (t : List (ℕ × Client)) (n : ℕ) → heads (without nat_eq t n) ≡ without nat_eq (heads t) n
heads_left [] n = refl
heads_left (e ∷ es) n =
    elim (test (nat_eq e.0 n)) [
      | inl t ↦ rw t refl
      | inr f ↦ rw f (ap (λ (hs : List (ℕ × ℕ)). (e.0, e.1.consumed) ∷ hs) (heads_left es n))
    ]

-- a connection was closed, and taken out of those that are open
pub close_in : {D : Type 0} (medium : D → Medium) (limits : Limits) (hub next : StoredHub D) (os items : List Opened) (r : Run) (conn moment : ℕ)
    → RunMatchesBetween limits hub os r
    → (is_connected hub.hub conn ≡ false → ⊥)
    → Serves medium hub next (λ limits h. hangup limits h conn moment) → map by_number items ≡ without nat_eq (map by_number os) conn
    → (is_open r conn ≡ true) × RunMatches limits next items (record r { hub = hangup limits r.hub conn moment })
    × LastsAs medium r.hub (hangup limits r.hub conn moment) hub.store next.store
close_in medium limits hub next os items r conn moment b known takes left =
    let i : RunMatches limits hub os r = b.run in
    let t : List (ℕ × Client) = r.hub.clients in
    let now : Clients = hangup limits r.hub conn moment in
    let rest = without nat_eq t conn in
    let ticked : Clients = tick limits r.hub moment in
    let like : heads now.clients ≡ heads rest =
    heads_leave limits (record ticked { clients = without nat_eq ticked.clients conn }) (process_at ticked conn) moment
    ∙ (heads_left ticked.clients conn ∙ (ap (λ (hs : List (ℕ × ℕ)). without nat_eq hs conn) (heads_tick limits conn moment r.hub) ∙ sym (heads_left t conn))) in
    let keys : keys_of now.clients ≡ keys_of rest = same_keys rest now.clients like in (
      open_here limits hub os r conn i known,
      record {
        matches = (takes limits r.hub i.matches).matches;
        kept = sym (back items) ∙ ap (map (λ (e : ℕ × Opened). e.1)) (left ∙ ap (λ (xs : List Opened). without nat_eq (map by_number xs) conn) i.kept
            ∙ left_over r.told conn (keys_of t)) ∙ back _
            ∙ ap (map (opened_of r.told)) (sym (keys ∙ keys_left t conn));
        whole = λ n. same_untouched rest now.clients like n (elim (cases_eq n conn) [
          | inl same ↦ rw same (rw (nobody (value_at nat_eq rest conn) (rising-gone 0 t (2 ^ 32) conn i.rising)) tt)
          | inr apart ↦ rw (value_at-without t conn n apart) (i.whole n)
        ]);
        rising = subst (λ (ks : List ℕ). IsRising 0 ks (2 ^ 32)) (sym keys) (rising-without 0 t (2 ^ 32) conn i.rising);
      },
      lasts-as-come medium limits r.hub now hub next (takes limits r.hub i.matches),
    )
