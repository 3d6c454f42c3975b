-- Bytes of a piece are taken in, and what waits is made to last once in between, if the store has run out of room.
use Rattle.std.proofs.Common.{◌≡◌, ◌⊎◌, ℕ, ◌+◌, ◌<◌, ◌≤◌, false, List, length, take, drop, Ok, Err, inl, inr, sym, ap, ◌∙◌, subst, arith}
use Rattle.std.proofs.Math.Seq.{take-add}
use Rattle.std.proofs.lemmas.List.{length-drop}
use Rattle.ipc_limits.specs.Limits.{longest_reply}
use Rattle.ipc_disk.specs.Counts.{Counts}
use Rattle.ipc_disk.specs.Medium.{Medium, IsHonest}
use Rattle.ipc_store.specs.declared.fault.CommitError.{CommitError}
use Rattle.ipc_store.specs.View.{Spends, events_left}
use Rattle.ipc_store.proofs.CallerLemmas.{left-goes-on}
use Rattle.ipc_hub.specs.View.{StoredHub, HasNoFrame, numbers_of}
use Rattle.ipc_hub.specs.Relations.Delivery.{HasSpaceFor}
use Rattle.ipc_hub.specs.Relations.Faults.{Lasts, Settles, TakesPiece}
use Rattle.ipc_hub.specs.Relations.Invariant.{HubInvariant}
use Rattle.ipc_hub.specs.Relations.Matches.{Adds, Awaits, ServesBytes, TakesIn}
use Rattle.ipc_hub.specs.Relations.Requests.{CanTake, RunsOut}
use Rattle.ipc_hub.specs.Relations.Rows.{is_open_in}
use Rattle.ipc_hub.proofs.Coming.{released-awaits, serves-taken, serves-twice}
use Rattle.ipc_hub.proofs.Committing.{adds-spends, spends-then}

-- an event more can be counted
pub one-left : {D : Type 0} {v : StoredHub D} {conn moment : ℕ} → CanTake v conn moment → 1 ≤ events_left v.store
one-left can = elim can.left [ inl two ↦ omega (arith, two) | inr one ↦ one.1 ]

-- what is sure of the bytes of a piece that were taken in
pub record TakenIn {D : Type 0} (medium : D → Medium) (old new : StoredHub D) (conn : ℕ) (piece : List ℕ) (moment taken : ℕ) : Type 0 where
  pub bytes : TakesIn medium old new conn (take taken piece) moment
  pub numbers : numbers_of new.hub ≡ numbers_of old.hub
  pub within : taken ≤ length piece
  pub whole : HasNoFrame new.hub conn → (taken ≡ length piece) ⊎ RunsOut old new conn moment taken
  pub starts : HasSpaceFor old.hub (longest_reply old.hub.limits) conn → 0 < length piece → 0 < taken
  pub dropped : is_open_in old.hub.connections conn ≡ false → taken ≡ length piece
  pub adds : Adds taken old.store new.store

module _ {D : Type 0} (medium : D → Medium) (counts : D → Counts) (old mid : StoredHub D) (conn : ℕ) (piece : List ℕ) (moment taken : ℕ)
    (later : 0 < old.store.waiting) (can : CanTake old conn moment) (t : TakenIn medium old mid conn piece moment taken) where
  serves : ServesBytes medium old mid conn (take taken piece) moment
  serves = serves-taken medium old mid conn (take taken piece) moment (inl later) t.bytes

  spends : (n : ℕ) → taken ≤ n → Spends counts n old.store mid.store
  spends n fits = adds-spends n (left-goes-on old.store (one-left can)) t.adds fits

  honest : IsHonest (medium old.store.disk) → IsHonest (medium mid.store.disk)
  honest is = subst (λ (d : D). IsHonest (medium d)) (sym t.adds.disk) is

  -- nothing more is to be taken
  pub takes-once : (HasNoFrame mid.hub conn → taken ≡ length piece) → TakesPiece medium counts old mid conn piece moment (Ok taken)
  takes-once whole = record {
    ok = serves;
    within = t.within;
    whole = whole;
    starts = t.starts;
    dropped = t.dropped;
    numbers = t.numbers;
    spends = spends (1 + taken) (omega arith);
    refused = tt;
    honest = honest;
  }

  module _ (out : RunsOut old mid conn moment taken) (then : StoredHub D) where
    -- what waits cannot be made to last
    pub takes-fails : (e : CommitError) → Settles medium counts mid then (Err e) → TakesPiece medium counts old then conn piece moment (Err e)
    takes-fails e settles = record {
      ok = tt;
      within = tt;
      whole = tt;
      starts = λ space some. tt;
      dropped = λ shut. tt;
      numbers = settles.numbers ∙ t.numbers;
      spends = tt;
      refused = record {
        taken = taken;
        some = out.some;
        within = t.within;
        fed = mid;
        serves = serves;
        spends = spends taken (omega arith);
        fails = settles.refused;
      };
      honest = λ is. settles.honest (honest is);
    }

    module _ (settles : Settles medium counts mid then (Ok tt)) (lasts : Lasts mid then) where
      awaits : Awaits then.hub conn moment
      awaits = released-awaits mid.hub then.hub conn moment lasts.state lasts.all out.awaits

      -- then there is room again
      pub can-again : HubInvariant then.hub → CanTake then conn moment
      can-again invariant = record {
        invariant = invariant;
        room = omega (arith, ap length lasts.records);
        left = inr (awaits, omega (arith, out.left, lasts.left));
      }

      -- and the rest is taken
      pub takes-twice : (new : StoredHub D) (more : ℕ) → TakenIn medium then new conn (drop taken piece) moment more
          → TakesPiece medium counts old new conn piece moment (Ok (taken + more))
      takes-twice new more u =
          let left = length-drop taken piece in
          record {
            ok = subst (λ (bytes : List ℕ). ServesBytes medium old new conn bytes moment) (sym (take-add taken more piece))
                (serves-twice medium old mid then new conn (take taken piece) (take more (drop taken piece)) moment serves settles.ok settles.takes
                (serves-taken medium then new conn (take more (drop taken piece)) moment (inr awaits) u.bytes));
            within = omega (arith, t.within, u.within, left);
            whole = λ none.
                elim (u.whole none) [
                  | inl all ↦ omega (arith, t.within, all, left)
                  | inr again ↦ absurd (omega (arith, again.none, awaits.waits))
                ];
            starts = λ space some. omega (arith, out.some);
            dropped = λ shut. omega (arith, t.dropped shut, u.within, left);
            numbers = u.numbers ∙ settles.numbers ∙ t.numbers;
            spends = spends-then (1 + (taken + more)) (spends taken (omega arith))
                (spends-then (1 + more) settles.spends (adds-spends more settles.spends.running u.adds (omega arith)) (omega arith)) (omega arith);
            refused = tt;
            honest = λ is. subst (λ (d : D). IsHonest (medium d)) (sym u.adds.disk) (settles.honest (honest is));
          }
