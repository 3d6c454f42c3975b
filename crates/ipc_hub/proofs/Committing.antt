-- A commit of the store: the frames that waited are seen, or it has failed and they are dropped.
use Rattle.std.proofs.Common.{◌≡◌, ℕ, ◌+◌, ◌≤◌, Bool, true, false, List, [], ◌⊎◌, ⊎_elim, inr, Ok, Err, refl, sym, ap, ◌∙◌, arith}
use Rattle.std.specs.Prelude.{◌↔◌, ⊤, Result, OnOk, OnErr}
use Rattle.ipc_base.specs.Table.{keys_of, seen_as, EachValue}
use Rattle.ipc_base.proofs.CallerLemmas.{keys-map}
use Rattle.ipc_disk.specs.Counts.{Counts, counted}
use Rattle.ipc_disk.specs.Medium.{Medium, IsHonest}
use Rattle.ipc_engine.specs.Engine.{Machine}
use Rattle.ipc_store.specs.declared.fault.CommitError.{CommitError}
use Rattle.ipc_store.specs.declared.fault.CommitError.TheVariants as commit
use Rattle.ipc_store.specs.Histories.{Takes}
use Rattle.ipc_store.specs.View.{StoreView, IsAtLastEpoch, IsCommitted, IsStopped, Spends, events_left}
use Rattle.ipc_store.proofs.CallerLemmas.{left-goes-on, left-same}
use Rattle.ipc_hub.specs.Clients.{accepted}
use Rattle.ipc_hub.specs.View.{StoredHub, HasStopped, most_events, of_commit_error}
use Rattle.ipc_hub.specs.Relations.Delivery.{released, failed, HasSpare}
use Rattle.ipc_hub.specs.Relations.Faults.{Fails, FailsBy, Halts, HaltsFeed, Lasts, RefusesFeed, Settles}
use Rattle.ipc_hub.specs.Relations.Invariant.{IsSoundIn, StoredInvariant}
use Rattle.ipc_hub.specs.Relations.Matches.{Adds}
use Rattle.ipc_hub.specs.Relations.Rows.{Table, hub_view, stored_view}
use Rattle.ipc_hub.proofs.Keeping.{each-weaker}
use Rattle.ipc_hub.proofs.Changes.{released-invariant, release-matches, fail-matches}

-- so many events are left of a hub that goes on
pub some-left : {D : Type 0} (v : StoredHub D) → ¬ HasStopped v → most_events ≤ events_left v.store
some-left v goes = omega arith

-- so of one that was asked and says no
pub asked-left : {D : Type 0} (v : StoredHub D) {b : Bool} → (b ≡ true) ↔ HasStopped v → b ≡ false → most_events ≤ events_left v.store
asked-left v asked says = some-left v (λ stopped. let never : true ≡ false = sym (asked.1 stopped) ∙ says in cc)

-- it has not stopped
pub goes-on : {D : Type 0} (v : StoredHub D) → ¬ HasStopped v → v.store.stopped ≡ false
goes-on v goes = left-goes-on v.store (omega (arith, some-left v goes))

-- a hub that has failed so is refused so
pub by-halts : {D : Type 0} (medium : D → Medium) (counts : D → Counts) (old new : StoredHub D) (e : CommitError) → FailsBy medium counts old new e
    → Halts medium counts old new e
by-halts medium counts old new commit.Device fails = fails
by-halts medium counts old new commit.Stopped fails = inr fails

-- so it is of a feed
pub halts-feed : {D : Type 0} (medium : D → Medium) (counts : D → Counts) (old new : StoredHub D) (conn : ℕ) (piece : List ℕ) (moment : ℕ) (e : CommitError)
    → HaltsFeed medium counts old new conn piece moment e → RefusesFeed medium counts old new conn piece moment (of_commit_error e)
halts-feed medium counts old new conn piece moment commit.Device halts = halts
halts-feed medium counts old new conn piece moment commit.Stopped halts = halts

-- events have come, and then more
pub adds-both : {D : Type 0} {i k : ℕ} (n : ℕ) {old mid new : StoreView D} → Adds i old mid → Adds k mid new → i + k ≤ n → Adds n old new
adds-both n first next fits = record {
  disk = next.disk ∙ first.disk;
  stopped = next.stopped ∙ first.stopped;
  checkpoint = next.checkpoint ∙ first.checkpoint;
  confirmed = next.confirmed ∙ first.confirmed;
  waiting = omega (arith, first.waiting, next.waiting, fits);
}

-- they use a number each
pub adds-spends : {D : Type 0} {counts : D → Counts} {i : ℕ} (n : ℕ) {old new : StoreView D} → old.stopped ≡ false → Adds i old new → i ≤ n
    → Spends counts n old new
adds-spends {D} {counts} n going adds fits = record {
  running = adds.stopped ∙ going;
  failures = ap (λ (d : D). (counts d).failures) adds.disk;
  numbers = rw adds.checkpoint (omega (arith, adds.confirmed, adds.waiting, fits));
}

-- none came
pub kept-spends : {D : Type 0} {counts : D → Counts} {n : ℕ} (store : StoreView D) → 1 ≤ events_left store → Spends counts n store store
kept-spends store left = record { running = left-goes-on store left; failures = refl; numbers = omega arith }

pub spends-then : {D : Type 0} {counts : D → Counts} {i k : ℕ} (n : ℕ) {old mid new : StoreView D} → Spends counts i old mid → Spends counts k mid new
    → i + k ≤ n → Spends counts n old new
spends-then n first next fits = record {
  running = next.running;
  failures = next.failures ∙ first.failures;
  numbers = omega (arith, first.numbers, next.numbers, fits);
}

-- what a commit or a save of the store came to
pub record Wrote {D : Type 0} (medium : D → Medium) (counts : D → Counts) (old new : StoreView D) (done : Result ⊤ CommitError) : Type 0 where
  pub commits : IsCommitted done old new
  pub takes : Takes medium old [] new
  pub device : done ≡ Err commit.Device → (counts new.disk).failures ≡ counted (counts old.disk).failures 1
  pub halted : done ≡ Err commit.Stopped → IsStopped old ⊎ IsAtLastEpoch old
  pub spends : OnOk done (Spends counts 1 old new)
  pub honest : IsHonest (medium old.disk) → IsHonest (medium new.disk)

-- the frames that waited are seen, or they are dropped
abbrev pub Told : Table → Table → Result ⊤ CommitError → Type 0
Told before after done = OnOk done (after ≡ seen_as released before) × OnErr done (after ≡ seen_as failed before)

-- a hub that has not stopped
module _ {D : Type 0} {old : StoreView D} {before : Table} (v : StoredHub D) (is : stored_view old before ≡ v) (going : v.store.stopped ≡ false) where
  goes : old.stopped ≡ false
  goes = ap (λ w. w.store.stopped) is ∙ going

  -- each of its connections has room for an EIO frame
  pub told-spare : StoredInvariant (stored_view old before) → EachValue HasSpare before
  told-spare inv = each-weaker (IsSoundIn (hub_view old.machine before)) HasSpare before (λ c k. k.spare) (inv goes).each

  -- once all events that waited last, nothing waits, and as many events are left as before
  pub told-lasts : {medium : D → Medium} {counts : D → Counts} (new : StoreView D) (after : Table) (done : Result ⊤ CommitError)
      → Wrote medium counts old new done → Told before after done → OnOk done (Lasts v (stored_view new after))
  told-lasts new after (Ok _) w told =
      rw (sym is) (record {
        all = told.0;
        confirmed = w.commits.confirmed;
        waiting = w.commits.waiting;
        records = w.commits.records;
        state = ap (λ (m : Machine). m.state) w.commits.machine;
        left = left-same old new goes w.commits.running (omega (arith, w.commits.confirmed, w.commits.waiting));
      })
  told-lasts new after (Err e) w told = tt

-- it is done or has failed, and the connections were told of it
module _ {D : Type 0} {medium : D → Medium} {counts : D → Counts} {old new : StoreView D} {before after : Table} (v : StoredHub D)
    (is : stored_view old before ≡ v) (going : v.store.stopped ≡ false) (inv : StoredInvariant (stored_view old before)) where
  pub told-stands : (done : Result ⊤ CommitError) → Wrote medium counts old new done → Told before after done → StoredInvariant (stored_view new after)
  told-stands (Ok _) w told =
      λ _. rw (w.commits.machine, told.0) (released-invariant (hub_view old.machine before) (inv (goes v is going)))
  told-stands (Err e) w told = λ on. let never : true ≡ false = sym w.commits.stops ∙ on in cc

  fails : (e : CommitError) → Wrote medium counts old new (Err e) → after ≡ seen_as failed before
      → Fails medium (stored_view old before) (stored_view new after)
  fails e w seen =
      record {
        takes = w.takes;
        stopped = w.commits.stops;
        unconfirmed = w.commits.unconfirmed;
        matches = λ limits h m. fail-matches limits old.confirmed (hub_view old.machine before) (hub_view new.machine after) h m.hub
            (ap (λ (s : Machine). s.limits) w.commits.machine) (ap (λ (s : Machine). s.state) w.commits.machine) seen;
      }

  fails-by : (e : CommitError) → Wrote medium counts old new (Err e) → after ≡ seen_as failed before
      → FailsBy medium counts (stored_view old before) (stored_view new after) e
  fails-by commit.Device w seen = (fails commit.Device w seen, w.device refl)
  fails-by commit.Stopped w seen = (
    fails commit.Stopped w seen,
    ⊎_elim (λ before. absurd (never (sym before ∙ goes v is going))) (λ last. last) (w.halted refl),
  )
    where
      never : true ≡ false → ⊥
      never is = cc

  pub told-settles : (done : Result ⊤ CommitError) → Wrote medium counts old new done → Told before after done
      → Settles medium counts v (stored_view new after) done
  told-settles (Ok _) w told =
      let numbers = ap keys_of told.0 ∙ keys-map released before in
      rw (sym is) (record {
        ok = λ limits h m.
            let all : new.confirmed ≡ accepted h = w.commits.confirmed ∙ m.counts in
            record {
              hub = rw all (release-matches limits old.confirmed (hub_view old.machine before) (hub_view new.machine after) h m.hub
                  (ap (λ (s : Machine). s.limits) w.commits.machine) (ap (λ (s : Machine). s.state) w.commits.machine) told.0);
              counts = omega (arith, all, w.commits.waiting);
            };
        takes = w.takes;
        numbers = numbers;
        refused = tt;
        spends = w.spends;
        honest = w.honest;
      })
  told-settles (Err e) w told =
      let numbers = ap keys_of told.1 ∙ keys-map failed before in
      rw (sym is) (record { ok = tt; takes = w.takes; numbers = numbers; refused = fails-by e w told.1; spends = tt; honest = w.honest })
