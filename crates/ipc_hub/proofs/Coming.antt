-- What a hub over its store comes to, one call within another: time passed, bytes were taken in, or a connection was taken out.
use Rattle.std.proofs.Common.{◌≡◌, ◌⊎◌, ℕ, false, List, [], ◌++◌, Option, Some, None, refl, sym, ap, ◌∙◌, subst, arith, inl, inr, length, ◌<◌}
use Rattle.std.proofs.Common.{append-nil, append_assoc}
use Rattle.std.specs.Prelude.{nat_eq, option_and_then, option_map}
use Rattle.std.proofs.lemmas.List.{length-append}
use Rattle.ipc_base.specs.Table.{value_at, without, seen_as}
use Rattle.ipc_limits.specs.declared.limits.Limits.{Limits}
use Rattle.ipc_base.proofs.CallerLemmas.{at-map}
use Rattle.ipc_disk.specs.Medium.{Medium}
use Rattle.ipc_store.specs.Histories.{Takes}
use Rattle.ipc_store.specs.View.{StoreView}
use Rattle.ipc_store.proofs.CallerLemmas.{Takes-both}
use Rattle.ipc_hub.specs.Hub.{accepted, leave}
use Rattle.ipc_hub.specs.Clients.{Clients, arriving, client_at, client_endpoint, fitted, tick, take_in, hangup}
use Rattle.ipc_hub.specs.View.{ConnectionView, HubView, StoredHub, HasFewFrames, KeepsFew, connection_of, kept}
use Rattle.ipc_hub.specs.Relations.Delivery.{released}
use Rattle.ipc_hub.specs.Relations.Invariant.{HasPassed, SameButSeen}
use Rattle.ipc_hub.specs.Relations.Matches.{HubMatches, StoredMatches, TakesIn, Comes, Accepts, Awaits, Pends, Serves, ServesBytes, ServesFeed}
use Rattle.ipc_hub.specs.Relations.Requests.{Left, exit_of}
use Rattle.ipc_hub.specs.Relations.Rows.{Table, goes_on, hub_view, stored_view, process_in, is_open_in}
use Rattle.ipc_hub.proofs.Changes.{without-matches, process-matches}
use Rattle.ipc_hub.proofs.Deliveries.{left-matches}
use Rattle.ipc_hub.proofs.Ending.{leave-adds}
use Rattle.ipc_hub.proofs.Pieces.{take_in-pieces}

-- ---- the same connections, or all that they keep is seen

module _ (old new : HubView) (same : SameButSeen old new) (conn : ℕ) where
  now-at : (P : Option ConnectionView → Type 0) → P (connection_of old conn) → P (option_map released (connection_of old conn)) → P (connection_of new conn)
  now-at P is seen =
      elim same [
        | inl s ↦ subst (λ (t : Table). P (value_at nat_eq t conn)) (sym s) is
        | inr s ↦ subst (λ (t : Table). P (value_at nat_eq t conn)) (sym s) (subst P (sym (at-map released old.connections conn)) seen)
      ]

  pub still-few : HasFewFrames old conn → HasFewFrames new conn
  still-few few = now-at KeepsFew few (by_value (connection_of old conn) few)
    where
      by_value : (r : Option ConnectionView) → KeepsFew r → KeepsFew (option_map released r)
      by_value None few = tt
      by_value (Some v) few = omega (arith, few, ap length (append-nil (kept v.outbox)))

  pub still-over : is_open_in old.connections conn ≡ false → is_open_in new.connections conn ≡ false
  still-over over = now-at (λ r. goes_on r ≡ false) over (by_value (connection_of old conn) over)
    where
      by_value : (r : Option ConnectionView) → goes_on r ≡ false → goes_on (option_map released r) ≡ false
      by_value None over = over
      by_value (Some v) over = over

-- and then time has passed
pub passes-then : (old mid new : HubView) → SameButSeen old mid → HasPassed mid new → HasPassed old new
passes-then old mid new same passed =
    record {
      ended = λ conn over. passed.ended conn (still-over old mid same conn over);
      space = λ conn few. passed.space conn (still-few old mid same conn few);
    }

-- a call that waits waits on when all is seen
pub released-awaits : (old new : HubView) (conn moment : ℕ) → new.state ≡ old.state → new.connections ≡ seen_as released old.connections
    → Awaits old conn moment → Awaits new conn moment
released-awaits old new conn moment state rows awaits = record {
  waits = rw (state, rows) (rw (sym (ap (option_and_then (λ c. c.process)) (at-map released old.connections conn) ∙ same (connection_of old conn)))
      at awaits.waits);
  come = rw state awaits.come;
}
  where
    same : (r : Option ConnectionView) → option_and_then (λ c. c.process) (option_map released r) ≡ option_and_then (λ c. c.process) r
    same None = refl
    same (Some c) = refl

-- ---- what a hub comes to

module _ {D : Type 0} (medium : D → Medium) (limits : Limits) where
  pub comes-same : (old new : StoredHub D) (h : Clients) → StoredMatches limits new h → Takes medium old.store [] new.store → Comes medium limits old new h h
  comes-same old new h m takes = record { matches = m; events = []; adds = sym (append-nil h.events); takes = takes }

  -- events are accepted, and wait
  comes-accepted : (old new : StoredHub D) (h next : Clients) → StoredMatches limits old h → HubMatches limits old.store.confirmed new.hub next
      → Accepts medium old.store new.store h next → Comes medium limits old new h next
  comes-accepted old new h next m matches a =
      record {
        matches = record {
          hub = rw a.pends.confirmed matches;
          counts = omega (arith, m.counts, a.pends.confirmed, a.pends.waiting, ap length a.adds, length-append h.events a.events);
        };
        events = a.events;
        adds = a.adds;
        takes = a.pends.takes;
      }

  comes-both : (old mid new : StoredHub D) (h now next : Clients) → Comes medium limits old mid h now → Comes medium limits mid new now next
      → Comes medium limits old new h next
  comes-both old mid new h now next came then =
      record {
        matches = then.matches;
        events = came.events ++ then.events;
        adds = then.adds ∙ ap (λ es. es ++ then.events) came.adds ∙ append_assoc h.events came.events then.events;
        takes = Takes-both medium old.store mid.store new.store came.events then.events came.takes then.takes;
      }

  pub comes-further : (old mid new : StoredHub D) (h now next : Clients) → Comes medium limits old mid h now
      → HubMatches limits mid.store.confirmed new.hub next → Accepts medium mid.store new.store now next → Comes medium limits old new h next
  comes-further old mid new h now next came m a = comes-both old mid new h now next came (comes-accepted mid new now next came.matches m a)

  -- time passed, and the client has gone
  pub comes-gone : (old : StoredHub D) (mid new : StoreView D) (table left after : Table) (conn moment : ℕ) (process : Option ℕ) (h : Clients)
      → left ≡ without nat_eq table conn → process ≡ process_in table conn → Comes medium limits old (stored_view mid table) h (tick limits h moment)
      → Left (hub_view mid.machine left) (hub_view new.machine after) process moment
      → Pends medium mid (exit_of process moment) new → Comes medium limits old (stored_view new after) h (hangup limits h conn moment)
  comes-gone old mid new table left after conn moment process h gone mine came leaves pends =
      let now : Clients = tick limits h moment in
      let gone_now : Clients = record now { clients = without nat_eq now.clients conn } in
      let m : HubMatches limits mid.confirmed (hub_view mid.machine left) gone_now =
      without-matches limits mid.confirmed (hub_view mid.machine table) (hub_view mid.machine left) now conn came.matches.hub refl refl gone in
      let done = comes-further old (stored_view mid table) (stored_view new after) h now (leave client_endpoint limits gone_now process moment) came
      (left-matches (hub_view mid.machine left) (hub_view new.machine after) process moment leaves limits mid.confirmed gone_now m)
      (record { events = exit_of process moment; adds = leave-adds client_endpoint limits gone_now process moment; pends = pends }) in
      subst (λ (p : Option ℕ). Comes medium limits old (stored_view new after) h (leave client_endpoint limits gone_now p moment))
      (mine ∙ process-matches limits mid.confirmed (hub_view mid.machine table) now conn came.matches.hub) done

-- ---- bytes are taken in

module _ {D : Type 0} (medium : D → Medium) where
  -- the last event is not confirmed, or a call waits
  pub serves-taken : (old new : StoredHub D) (conn : ℕ) (bytes : List ℕ) (moment : ℕ) → (0 < old.store.waiting) ⊎ Awaits old.hub conn moment
      → TakesIn medium old new conn bytes moment → ServesBytes medium old new conn bytes moment
  serves-taken old new conn bytes moment ahead takes limits h m =
      let later : (old.store.confirmed < accepted h) ⊎ Awaits old.hub conn moment =
      elim ahead [ inl some ↦ inl (omega (arith, m.counts, some)) | inr waits ↦ inr waits ] in
      let took = takes limits old.store.confirmed h (record { matches = m.hub; later = later }) in
      (took.0, comes-accepted medium limits old new h _ m took.1.ahead.matches took.1.accepts)

  -- some are, what waits is made to last, and then more are
  pub serves-twice : (old mid then new : StoredHub D) (conn : ℕ) (part more : List ℕ) (moment : ℕ) → ServesBytes medium old mid conn part moment
      → ((limits : Limits) (h : Clients) → StoredMatches limits mid h → StoredMatches limits then h) → Takes medium mid.store [] then.store
      → ServesBytes medium then new conn more moment → ServesBytes medium old new conn (part ++ more) moment
  serves-twice old mid then new conn part more moment first lasts takes second limits h m =
      let a = first limits h m in
      let now : Clients = take_in limits h conn part moment a.0 in
      let still = lasts limits now a.1.matches in
      let b = second limits now still in (
        fitted (length (arriving (client_at h conn) part)) a.0 ++ b.0,
        subst (Comes medium limits old new h) (take_in-pieces limits h conn moment part more a.0 b.0)
            (comes-both medium limits old mid new h now _ a.1
            (comes-both medium limits mid then new now now _ (comes-same medium limits mid then now still takes) b.1)),
      )

  -- time passed before
  pub serves-fed : (old mid new : StoredHub D) (conn : ℕ) (bytes : List ℕ) (moment : ℕ) → Serves medium old mid (λ limits h. tick limits h moment)
      → ServesBytes medium mid new conn bytes moment → ServesFeed medium old new conn bytes moment
  serves-fed old mid new conn bytes moment ticks serves limits h m =
      let came = ticks limits h m in
      let took = serves limits (tick limits h moment) came.matches in
      (took.0, comes-both medium limits old mid new h (tick limits h moment) _ came took.1)
