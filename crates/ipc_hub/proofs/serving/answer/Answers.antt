use Rattle.std.proofs.Common.{◌≡◌, ◌-◌, suc, [], ◌∷◌, List, length, map, Option, sym, ap, ◌∙◌, subst, arith}
use Rattle.std.specs.Prelude.{option_map, slice_get}
use Rattle.std.specs.Option.{option_copied}
use Rattle.ipc_engine.specs.declared.event.Outcome.{Outcome}
use Rattle.ipc_engine.specs.Event.{PlainOutcome}
use Rattle.ipc_engine.specs.View.{plain_outcome}
use Rattle.ipc_hub.specs.Hub.{last_reply}
use Rattle.ipc_hub.specs.Relations.Delivery.{answered, with_answer, put_all, HasSpaceToGreet}
use Rattle.ipc_hub.proofs.Rows.{put-changed, same-changed}
use Rattle.ipc_hub.proofs.serving.answer.Goals.{Joined-get_mut, in-Some, in_default}
use Rattle.ipc_hub.proofs.serving.answer.Goals as goal

-- the last of some replies
last-is : (os : List Outcome) (last : Option Outcome) → last ≡ slice_get os (length os - 1)
    → option_map plain_outcome last ≡ last_reply (map plain_outcome os)
last-is [] last is = ap (option_map plain_outcome) is
last-is (o ∷ []) last is = ap (option_map plain_outcome) is
last-is (o ∷ p ∷ os) last is =
    let next : length (o ∷ p ∷ os) - 1 ≡ suc (length (p ∷ os) - 1) = omega arith in
    last-is (p ∷ os) last (is ∙ ap (slice_get (o ∷ p ∷ os)) next)

-- the connection that asked has been told
told : (c : Joined-get_mut) → c.match-get_mut.connections ≡ with_answer (map plain_outcome c.args.outcomes.now) c.args.conn c.args.connections.now
told c =
    elim c.match-get_mut.branch [
      | in-Some w ↦
          let was = w.in-Some.session.now in
          let now = w.take_reply.new.self in
          w.connections-is
          ∙ put-changed (answered (last_reply (map plain_outcome c.args.outcomes.now))) c.args.connections.now _ c.args.conn was now
          (c.get_mut.follows.holds now) w.in-Some.ensures.found
          (w.take_reply.ensures ∙ ap (λ (r : Option PlainOutcome). answered r was)
          (last-is c.args.outcomes.now (option_copied w.last.result) w.last.ensures.value))
      | in_default w ↦
          w.connections-is ∙ c.get_mut.follows.holds-at-none
          ∙ same-changed _ c.args.connections.now c.args.conn w.in_default.ensures.found
    ]

pub take_reply-requires : goal.take_reply-requires
take_reply-requires c none =
    subst (λ (r : Option PlainOutcome). HasSpaceToGreet r c.in-Some.session.now)
    (sym (last-is c.args.outcomes.now (option_copied c.last.result) c.last.ensures.value))
    ((rw (sym c.in-Some.ensures.found) at c.requires.space.own) none)

pub deliver-requires-clause-apart : goal.deliver-requires-clause-apart
deliver-requires-clause-apart c = rw (told (goal.at.deliver-requires-clause-apart c).Joined-get_mut) c.requires.apart

pub deliver-requires-clause-space : goal.deliver-requires-clause-space
deliver-requires-clause-space c = rw (told (goal.at.deliver-requires-clause-space c).Joined-get_mut) c.requires.space.all

pub returns : goal.returns
returns c = c.deliver.ensures ∙ ap (put_all (map plain_outcome c.args.outcomes.now)) (told (goal.at.returns c).Joined-get_mut)
