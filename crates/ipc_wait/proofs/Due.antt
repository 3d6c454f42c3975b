-- What `first_due` answers.
use Rattle.std.proofs.Common.{◌≡◌, List, [], ◌∷◌, Option, Some, None, sym, ap, ◌∙◌}
use Rattle.std.specs.List.{find}
use Rattle.std.specs.Option.{option_copied, IfSome, IfNone}
use Rattle.std.specs.Borrow.{Bor}
use Rattle.ipc_base.specs.declared.identity.Moment.{Moment}
use Rattle.ipc_wait.specs.declared.list.Waiting.{Waiting}
use Rattle.ipc_wait.specs.Waits.{waiting_call_of, without, HaveDistinctPids, calls_due, is_due}
use Rattle.ipc_wait.proofs.Lists.{filter-first, none_pass}
use Rattle.ipc_wait.proofs.CallerLemmas.{waiting_call_of-passing, filter-without_passing}

pub record IsFirstDue {O C : Type 0} (now : Moment) (calls : List (Waiting O C)) (r : Option (Bor (Waiting O C))) : Type 0 where
  pub none : IfNone r (calls_due now calls ≡ [])
  pub first : IfSome r (λ w. calls_due now calls ≡ w.now ∷ calls_due now (without w.now.pid calls))
  pub found : IfSome r (λ w. waiting_call_of w.now.pid calls ≡ Some w.now)

pub first_due : {O C : Type 0} (now : Moment) (calls : List (Waiting O C)) (r : Option (Bor (Waiting O C))) → HaveDistinctPids calls
    → option_copied r ≡ find (is_due now) calls → IsFirstDue now calls r
first_due now calls None distinct is = record { none = none_pass (is_due now) calls (sym is); first = tt; found = tt }
first_due now calls (Some w) distinct is =
    let rest = filter-first (is_due now) calls w.now (sym is) in
    record {
      none = tt;
      first = rest.1 ∙ ap (λ ws. w.now ∷ ws) (sym (filter-without_passing (is_due now) calls [] rest.0 w.now distinct rest.1));
      found = waiting_call_of-passing (is_due now) calls [] rest.0 w.now distinct rest.1;
    }
