-- Registrations, each of some weight: all together weigh no more as some go, and queues that are no longer open.
use Rattle.std.proofs.Common.{◌≡◌, ℕ, ◌+◌, ◌≤◌, Bool, true, false, not, List, [], ◌∷◌, Option, Some, None, refl, ap, arith}
use Rattle.std.specs.Prelude.{filter, sum_by, if◌then◌else◌}
use Rattle.std.proofs.lemmas.List.Filters.{sum_by-filter_both}
use Rattle.std.proofs.lemmas.List.Sums.{sum_by-cons}
use Rattle.ipc_base.specs.Table.{seen_as}
use Rattle.ipc_keys.specs.declared.check.NameKind.TheVariants as names
use Rattle.posix_mq.specs.Queue.{Queue as Mq}
use Rattle.posix_mq.specs.declared.queue.Registration.{Registration}
use Rattle.ipc_state.specs.declared.parked.ObjectKind.TheVariants as kinds
use Rattle.ipc_state.specs.declared.processes.Process.{Process}
use Rattle.ipc_state.specs.Named.{Named, NamedEntry}
use Rattle.ipc_state.specs.Opening.{deregistered, stays, unless_so}

module _ (weight : Option Registration → ℕ) (none : weight None ≡ 0) where
  abbrev of-entry : ℕ × NamedEntry Mq → ℕ
  of-entry e = weight e.1.object.registration

  pub fewer-kept : (test : ℕ × NamedEntry Mq → Bool) (es : List (ℕ × NamedEntry Mq)) → sum_by of-entry (filter test es) ≤ sum_by of-entry es
  fewer-kept test es = omega (arith, sum_by-filter_both test (λ e. not (test e)) (λ e. refl) of-entry es)

  fewer-left : (goes : Registration → Bool) (r : Option Registration) → weight (unless_so goes r) ≤ weight r
  fewer-left goes None = omega arith
  fewer-left goes (Some r) = by_test (goes r)
    where
      by_test : (b : Bool) → weight (if b then None else Some r) ≤ weight (Some r)
      by_test true = omega (arith, none)
      by_test false = omega arith

  fewer-seen : (goes : Registration → Bool) (es : List (ℕ × NamedEntry Mq)) → sum_by of-entry (seen_as (deregistered goes) es) ≤ sum_by of-entry es
  fewer-seen goes [] = omega arith
  fewer-seen goes (e ∷ es) =
      let left : ℕ × NamedEntry Mq = (e.0, deregistered goes e.1) in
      let rest : List (ℕ × NamedEntry Mq) = seen_as (deregistered goes) es in
      let step : sum_by of-entry (seen_as (deregistered goes) (e ∷ es)) ≡ of-entry left + sum_by of-entry rest = sum_by-cons of-entry left rest in
      omega (arith, sum_by-cons of-entry e es, step, fewer-seen goes es, fewer-left goes e.1.object.registration)

  -- registrations go, and queues that are no longer open
  pub fewer-swept : (left : List (ℕ × Process)) (goes : Registration → Bool) (es : List (ℕ × NamedEntry Mq))
      → sum_by of-entry (filter (stays (kinds.Named names.Mq) left) (seen_as (deregistered goes) es)) ≤ sum_by of-entry es
  fewer-swept left goes es = omega (arith, fewer-kept (stays (kinds.Named names.Mq) left) (seen_as (deregistered goes) es), fewer-seen goes es)

-- all together, each of some weight
abbrev weighed : (Option Registration → ℕ) → Named Mq → ℕ
weighed weight o = sum_by (λ (e : ℕ × NamedEntry Mq). weight e.1.object.registration) o.entries

-- those that there are now are no more than those before, whatever each of them weighs
pub record AreFewer (old new : Named Mq) : Type 0 where
  pub weigh : (weight : Option Registration → ℕ) → weight None ≡ 0
      → sum_by (λ e. weight e.1.object.registration) new.entries ≤ sum_by (λ e. weight e.1.object.registration) old.entries

pub same-fewer : (old new : Named Mq) → new ≡ old → AreFewer old new
same-fewer old new is = record { weigh = λ w none. omega (arith, ap (weighed w) is) }
