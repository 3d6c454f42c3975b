-- A piece of bytes, up to the end of a frame at most: what its taking in by the definitions comes to, and pieces in a row.
use Rattle.std.proofs.Common.{◌≡◌, ◌≤◌, ℕ, Bool, true, false, List, [], ◌∷◌, ◌++◌, length, drop, Some, None, refl, sym, ap, ◌∙◌, subst, arith}
use Rattle.std.proofs.Common.{append-nil, append_assoc, inl, inr}
use Rattle.std.specs.Prelude.{not}
use Rattle.std.proofs.lemmas.List.{length-append}
use Rattle.ipc_limits.specs.declared.limits.Limits.{Limits}
use Rattle.ipc_base.proofs.CallerLemmas.{each-at, test_cases, at-with, twice, own}
use Rattle.ipc_wire.specs.Stream.{PlainFrame, first, Stream, begins_with, stream_of}
use Rattle.ipc_wire.specs.Stream.PlainFrame.{More, Whole, Fault}
use Rattle.ipc_wire.specs.Stream.Ending.{Rest}
use Rattle.ipc_wire.proofs.CallerLemmas.{first_short, stream_begun}
use Rattle.ipc_disk.specs.Medium.{Image, Medium}
use Rattle.ipc_engine.specs.Event.{PlainEvent}
use Rattle.ipc_store.specs.View.{StoreView}
use Rattle.ipc_store.proofs.CallerLemmas.{Takes-none, Takes-both}
use Rattle.ipc_hub.specs.Hub.{client_at, with_client, on_request, on_ending, on_stream, fitted}
use Rattle.ipc_hub.specs.Clients.{Client, Clients, client_endpoint as kind, take_in, arriving}
use Rattle.ipc_hub.specs.View.{StoredHub}
use Rattle.ipc_hub.specs.Relations.Invariant.{IsSoundIn, HubInvariant}
use Rattle.ipc_hub.specs.Relations.Matches.{Accepts, Adds, Follows, IsAhead, Pends, TakesIn}
use Rattle.ipc_hub.specs.Relations.Rows.{is_open_in}
use Rattle.ipc_hub.proofs.Ending.{pair-at}
use Rattle.ipc_hub.proofs.Kept.{comes_of}
use Rattle.ipc_hub.proofs.Rows.{same_value}
use Rattle.ipc_hub.proofs.Pieces.{KeepsNone, over_or_live, acts, bare, emptied, ended-stays, take_in-acts, take_in-nothing, take_in-pieces, request-keeps}

-- nothing is after the requests, and nothing is kept
ending-none : (limits : Limits) (h : Clients) (conn moment : ℕ) → KeepsNone h conn → on_ending kind limits h conn moment (Rest []) ≡ h
ending-none limits h conn moment none =
    elim (over_or_live h conn) [
      | inl done ↦ done _
      | inr l ↦
          acts h conn _ l.c l.here l.live ∙ ap (λ (i : List ℕ). with_client h conn (record (l.c) { input = i })) (sym (none l.c l.here))
          ∙ ap (λ (es : List (ℕ × Client)). record h { clients = es }) (own h.clients conn l.c l.here)
    ]

-- ---- one frame

-- nothing follows a request
abbrev pub IsLast : List ℕ → PlainFrame → Type 0
IsLast bytes More = Unit {0}
IsLast bytes (Fault serial) = Unit {0}
IsLast bytes (Whole used request) = drop used bytes ≡ []

pub taken : (limits : Limits) (h : Clients) (conn moment : ℕ) (c : Client) (next : List ℕ) → client_at h conn ≡ Some c → c.ended ≡ false
    → (f : PlainFrame) (refused : Bool) → first (c.input ++ next) ≡ f → IsLast (c.input ++ next) f
    → take_in limits h conn next moment (refused ∷ []) ≡ comes_of kind limits h conn moment c next f refused
taken limits h conn moment c next here live f refused is last =
    take_in-acts limits h conn moment c next (refused ∷ []) here live
    ∙ ap (λ (s : Stream). on_stream kind limits (emptied h conn c) conn moment s (refused ∷ [])) (stream_begun (c.input ++ next) f is) ∙ by_frame f last
  where
    there : client_at (emptied h conn c) conn ≡ Some (bare c)
    there = at-with h.clients conn (bare c) c here

    by_frame : (g : PlainFrame) → IsLast (c.input ++ next) g → on_stream kind limits (emptied h conn c) conn moment
        (begins_with g (c.input ++ next) (λ used. stream_of (drop used (c.input ++ next)))) (refused ∷ []) ≡ comes_of kind limits h conn moment c next g refused
    by_frame More none =
        acts (emptied h conn c) conn (λ d. with_client (emptied h conn c) conn (record d { input = c.input ++ next })) (bare c) there live
        ∙ ap (λ (es : List (ℕ × Client)). record h { clients = es }) (twice h.clients conn (bare c) (record c { input = c.input ++ next }))
    by_frame (Fault serial) none = acts (emptied h conn c) conn _ (bare c) there live
    by_frame (Whole used request) none =
        ap (λ (s : Stream). on_stream kind limits (emptied h conn c) conn moment (record { requests = request ∷ s.requests; ending = s.ending }) (refused ∷ []))
        (ap stream_of none ∙ stream_begun [] More (first_short [] (omega arith)))
        ∙ ap (λ (t : Clients). on_ending kind limits t conn moment (Rest [])) (acts (emptied h conn c) conn _ (bare c) there live)
        ∙ ending-none limits (on_request kind limits (emptied h conn c) conn (bare c) moment request refused) conn moment
        (request-keeps limits (emptied h conn c) conn moment (bare c) request refused refl)

-- ---- nothing, an ended connection, and bytes in a row

-- what a crash may leave now is among what it may leave since now
abbrev pub Law : {D : Type 0} → (D → Medium) → Type 0
Law {D} medium = (d : D) (image : Image) → (medium d).images_since (medium d).moment image → (medium d).images_now image

-- events that are pending were added
pub pends-adds : {D : Type 0} {medium : D → Medium} {old new : StoreView D} {events : List PlainEvent} (n : ℕ) → Pends medium old events new
    → length events ≤ n → Adds n old new
pends-adds n p few =
    record { disk = p.disk; stopped = p.stopped; checkpoint = p.checkpoint; confirmed = p.confirmed; waiting = omega (arith, p.waiting, few) }

pub same-adds : {D : Type 0} {n : ℕ} (old new : StoreView D) → new ≡ old → Adds n old new
same-adds {D} {n} old new same =
    subst (Adds n old) (sym same) (record { disk = refl; stopped = refl; checkpoint = refl; confirmed = refl; waiting = omega arith })

module _ {D : Type 0} (medium : D → Medium) (law : Law medium) where
  -- no event came
  pub same-pends : (old new : StoreView D) → new ≡ old → Pends medium old [] new
  same-pends old new same =
      subst (Pends medium old []) (sym same)
      (record { disk = refl; stopped = refl; checkpoint = refl; confirmed = refl; waiting = omega arith; takes = Takes-none medium law old })

  pub same-accepts : (old new : StoreView D) (h now : Clients) → now.events ≡ h.events → new ≡ old → Accepts medium old new h now
  same-accepts old new h now stay same = record { events = []; adds = stay ∙ sym (append-nil h.events); pends = same-pends old new same }

  -- the hub is as it was, and so is the hub of the definitions
  takes-none : (old : StoredHub D) (conn moment : ℕ) (bytes : List ℕ) → ((limits : Limits) (confirmed : ℕ) (h : Clients)
      → IsAhead limits confirmed old.hub conn moment h → take_in limits h conn bytes moment [] ≡ h) → TakesIn medium old old conn bytes moment
  takes-none old conn moment next stays limits confirmed h ahead = (
    [],
    subst (Follows medium limits confirmed old old conn moment h) (sym (stays limits confirmed h ahead))
        (record { ahead = ahead; accepts = same-accepts old.store old.store h h refl refl }),
  )

  -- no bytes come
  pub nothing-takes : (old : StoredHub D) (conn moment : ℕ) → HubInvariant old.hub → TakesIn medium old old conn [] moment
  nothing-takes old conn moment inv = takes-none old conn moment [] (λ limits confirmed h ahead. take_in-nothing limits h conn moment (λ c is.
      elim (pair-at limits confirmed old.hub h conn ahead.matches) [
        | inl none ↦ let never : None ≡ Some c = sym none.1 ∙ is in cc
        | inr p ↦
            ap (λ (d : Client). first d.input) (same_value c p.c (sym is ∙ p.here)) ∙ ap first (sym p.mine.input)
            ∙ (each-at (IsSoundIn old.hub) old.hub.connections conn p.v inv.each p.at).input
      ]))

  -- the connection has ended, or there is none
  pub over-takes : (old : StoredHub D) (conn moment : ℕ) (bytes : List ℕ) → is_open_in old.hub.connections conn ≡ false
      → TakesIn medium old old conn bytes moment
  over-takes old conn moment next over = takes-none old conn moment next (λ limits confirmed h ahead.
      elim (pair-at limits confirmed old.hub h conn ahead.matches) [
        | inl none ↦ rw none.1 refl
        | inr p ↦
            let ended : not p.v.ended ≡ false = rw p.at at over in
            ended-stays h conn _ p.c p.here (sym p.mine.ended ∙
            elim (test_cases p.v.ended) [ inl t ↦ t | inr f ↦ let never : true ≡ false = rw f at ended in cc ])
      ])

  pub takes-then : (one two three : StoredHub D) (conn moment : ℕ) (part more : List ℕ) → TakesIn medium one two conn part moment
      → TakesIn medium two three conn more moment → TakesIn medium one three conn (part ++ more) moment
  takes-then one two three conn moment part more first_part second_part limits confirmed h ahead =
      let a = first_part limits confirmed h ahead in
      let h' : Clients = take_in limits h conn part moment a.0 in
      let b = second_part limits confirmed h' a.1.ahead in
      let x = a.1.accepts in
      let y = b.1.accepts in (
        fitted (length (arriving (client_at h conn) part)) a.0 ++ b.0,
        subst (Follows medium limits confirmed one three conn moment h) (take_in-pieces limits h conn moment part more a.0 b.0) (record {
          ahead = b.1.ahead;
          accepts = record {
            events = x.events ++ y.events;
            adds = y.adds ∙ ap (λ (es : List PlainEvent). es ++ y.events) x.adds ∙ append_assoc h.events x.events y.events;
            pends = record {
              disk = y.pends.disk ∙ x.pends.disk;
              stopped = y.pends.stopped ∙ x.pends.stopped;
              checkpoint = y.pends.checkpoint ∙ x.pends.checkpoint;
              confirmed = y.pends.confirmed ∙ x.pends.confirmed;
              waiting = omega (arith, x.pends.waiting, y.pends.waiting, length-append x.events y.events);
              takes = Takes-both medium one.store two.store three.store x.events y.events x.pends.takes y.pends.takes;
            };
          };
        }),
      )
