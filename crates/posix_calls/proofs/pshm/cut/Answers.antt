use Rattle.std.proofs.Common.{◌≡◌, ◌∙◌, true, length, sym, ap, rules}
use Rattle.std.specs.Prelude.{if◌then◌else◌}
use Rattle.shm_segment.specs.Segment.{Segment, truncated}
use Rattle.ipc_state.specs.Held.{Held}
use Rattle.ipc_state.specs.State.{with_pshm}
use Rattle.posix_calls.specs.Open.{has}
use Rattle.posix_calls.specs.Pshm.{trunc}
use Rattle.posix_calls.proofs.pshm.cut.Goals as goal

pub returns-then-contains : goal.returns-then-contains
returns-then-contains c =
    let old = c.args.state.now in
    let n = c.args.number in
    let asked : has c.args.flags.0 trunc ≡ true = search rules in
    let none : length c.new-zeros.result.bytes ≡ 0 = ap (λ (x : Segment). length x.bytes) c.new-zeros.ensures in
    record {
      held = λ e there. c.truncate.ensures.held e there
          ∙ (ap (λ k. let h : Held = record old { state = with_pshm old.state n (truncated k e.object) } in h) none
          ∙ ap (λ b. let h : Held = record old { state = if b then with_pshm old.state n (truncated 0 e.object) else old.state } in h) (sym asked));
    }
