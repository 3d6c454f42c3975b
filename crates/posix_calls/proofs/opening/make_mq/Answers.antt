use Rattle.std.proofs.Common.{◌∙◌, ℕ, false, None, refl, sym, ap, subst}
use Rattle.ipc_limits.specs.declared.limits.Limits.{Limits}
use Rattle.posix_mq.specs.Queue.{empty_queue}
use Rattle.ipc_keys.specs.declared.check.NameKind.TheVariants as names
use Rattle.ipc_state.specs.declared.parked.ObjectKind.TheVariants as kinds
use Rattle.ipc_state.specs.Held.{Held}
use Rattle.ipc_state.specs.Sound.{HasSoundParts, IsSoundMq}
use Rattle.ipc_state.specs.State.{has_all_mq_bytes}
use Rattle.ipc_state.proofs.CallerLemmas.{kind-bounds, with_new-sound}
use Rattle.ipc_state.specs.Steps.{result_of}
use Rattle.posix_calls.proofs.Reaching.{attributes-ends}
use Rattle.posix_calls.proofs.opening.make_mq.Goals as goal

pub add_mq-number-requires : goal.add_mq-number-requires
add_mq-number-requires g c =
    let rising = (kind-bounds c.args.state.now.limits c.args.state.now.state (kinds.Named names.Mq) c.requires.0).numbers in
    (c.requires.1.1.1.1.1, (c.requires.1.1.1.1.0, (rising, sym c.has_all_mqs.ensures ∙ c.if-has_all_mqs.false)))

pub open_on-requires-clause-sound : goal.open_on-requires-clause-sound
open_on-requires-clause-sound g c =
    let old = c.args.state.now in
    let w = c.args.wanted in
    let given = sym c.attributes.ensures ∙ ap result_of c.in_ok-maxmsg.was in
    let good = (attributes-ends {never = false} c.limits.result.now w.attr w.maxmsg w.msgsize).holds _ given in
    subst (λ (h : Held). HasSoundParts h.limits h.state) (sym c.add_mq-number.ensures.added)
    (with_new-sound old.limits old.state (kinds.Named names.Mq) g.name c.args.cred w.mode _ c.requires.1.1.1.1.0
    (sym c.has_all_mqs.ensures ∙ c.if-has_all_mqs.false) c.requires.1.1.1.0
    (subst (λ (l : Limits). IsSoundMq l (empty_queue c.in_ok-maxmsg.maxmsg c.in_ok-maxmsg.msgsize None)) c.limits.ensures.limits good)
    (refl, ap (λ (n : ℕ). has_all_mq_bytes old.limits old.state n) (sym c.bytes_of_mq.ensures) ∙ sym c.has_all_mq_bytes.ensures ∙ c.if-has_all_mq_bytes.false)
    c.requires.0)
