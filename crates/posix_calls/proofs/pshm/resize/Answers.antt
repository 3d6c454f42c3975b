use Rattle.std.proofs.Common.{◌≡◌, ◌∙◌, ◌≤◌, ◌^◌, Some, false, length, refl, sym, ap, arith}
use Rattle.std.specs.Prelude.{Bool, nat_lt, ◌+◌, ◌-◌}
use Rattle.ipc_base.specs.declared.errno.Errno.TheVariants.{ENOSPC}
use Rattle.ipc_wire.specs.declared.reply.Body.TheVariants.{Empty}
use Rattle.ipc_keys.specs.declared.check.NameKind.TheVariants as names
use Rattle.ipc_state.specs.Finish.{Attempt, Done, Finishes, answer, done, ended, refuse, ◌>>◌, ◌>>=◌}
use Rattle.ipc_state.specs.Held.{Held}
use Rattle.ipc_state.specs.State.{State, with_pshm}
use Rattle.posix_calls.specs.Pshm.{FoundPshm, is_past_all}
use Rattle.std.proofs.lemmas.Bool.Decides.{nat_tests}
use Rattle.ipc_limits.proofs.CallerLemmas.{passed-bounds}
use Rattle.shm_segment.specs.Segment.{Segment, empty_segment, truncated}
use Rattle.ipc_state.specs.Sound.{segment_bytes}
use Rattle.posix_calls.proofs.Ending.{fewer-of, truncated-length}
use Rattle.posix_calls.proofs.pshm.resize.Goals.{After-unwrap}
use Rattle.posix_calls.proofs.pshm.resize.Goals as goal

pub is_past_all-requires : goal.is_past_all-requires
is_past_all-requires c =
    let f = c.in_ok-found.found in
    omega (
      arith,
      fewer-of c.args.state.now.state.pshm f.number f.entry.now c.in_ok-found.ensures.there,
      (c.requires.sound.named names.Pshm).together,
      (passed-bounds c.args.state.now.limits c.in_ok-found.ensures.passed).segment_bytes,
    )

-- the zeros are as many as were asked for
zeros : (c : After-unwrap) → c.unwrap.result ≡ truncated c.args.length empty_segment
zeros c =
    let old = c.args.state.now in
    let bound = (passed-bounds old.limits c.in_ok-found.ensures.passed).segment_bytes in
    let few : nat_lt old.limits.segment_bytes (segment_bytes old.state.pshm - length c.in_ok-found.found.entry.now.object.bytes + c.args.length) ≡ false =
    sym c.is_past_all.ensures ∙ c.if-is_past_all.false in
    let short : c.args.length ≤ 2 ^ 20 = grind (arith, nat_tests, bound) in
    let both : Some c.unwrap.result ≡ Some (truncated c.args.length empty_segment) = sym c.unwrap.ensures ∙ c.requires.zeros short in
    cc

pub truncate-requires-clause-zeros : goal.truncate-requires-clause-zeros
truncate-requires-clause-zeros c =
    let is = zeros (goal.at.truncate-requires-clause-zeros c).After-unwrap in
    let long : length c.unwrap.result.bytes ≡ c.args.length = ap (λ (x : Segment). length x.bytes) is ∙ truncated-length empty_segment c.args.length in
    is ∙ ap (λ n. truncated n empty_segment) (sym long)

pub returns-clause-finish : goal.returns-clause-finish
returns-clause-finish c =
    let is = zeros (goal.at.returns-clause-finish c).After-unwrap in
    let old = c.args.state.now in
    let f = c.in_ok-found.found in
    let long : length c.unwrap.result.bytes ≡ c.args.length = ap (λ (x : Segment). length x.bytes) is ∙ truncated-length empty_segment c.args.length in
    let left : c.truncate.new.state.state ≡ with_pshm old.state f.number (truncated c.args.length f.entry.now.object) =
    ap (λ (h : Held). h.state) (c.truncate.ensures.held f.entry.now c.in_ok-found.ensures.there)
    ∙ ap (λ n. with_pshm old.state f.number (truncated n f.entry.now.object)) long in
    let past : is_past_all old.limits old.state f.entry.now.object c.args.length ≡ false = sym c.is_past_all.ensures ∙ c.if-is_past_all.false in
    let last : Attempt Done = answer (with_pshm old.state f.number (truncated c.args.length f.entry.now.object)) Empty in
    let next : FoundPshm → Attempt Done =
    λ (g : FoundPshm). refuse ENOSPC (is_past_all old.limits old.state g.entry.object c.args.length) >> answer (with_pshm old.state g.number
    (truncated c.args.length g.entry.object)) Empty in
    ap (λ (s : State). Finishes (done s Empty)) left
    ∙ (ap (λ (b : Bool). ended old.state (refuse ENOSPC b >> last)) (sym past)
    ∙ ap (λ (a : Attempt FoundPshm). ended old.state (a >>= next)) c.in_ok-found.ensures.found)

pub returns-clause-held : goal.returns-clause-held
returns-clause-held c = rw (c.truncate.ensures.held _ c.in_ok-found.ensures.there) refl
