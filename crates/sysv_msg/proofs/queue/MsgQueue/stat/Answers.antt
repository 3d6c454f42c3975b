use Rattle.std.proofs.Common.{◌∷◌, [], List, map, subst}
use Rattle.std.specs.Prelude.{All, FitsSigned}
use Rattle.std.specs.Int.{w64}
use Rattle.std.proofs.lemmas.List.Elements.{All-nil, All-cons}
use Rattle.sysv_msg.specs.declared.message.Message.{Message}
use Rattle.sysv_msg.specs.Queue.{Queue, PlainMessage, plain}
use Rattle.sysv_msg.proofs.queue.MsgQueue.stat.Goals as goal

abbrev IsTyped : PlainMessage → Type 0
IsTyped m = FitsSigned w64 m.mtype

typed : (ms : List Message) → All IsTyped (map plain ms)
typed [] = All-nil IsTyped
typed (m ∷ ms) = All-cons IsTyped (plain m) (map plain ms) m.typed (typed ms)

pub returns-clause-types : goal.returns-clause-types
returns-clause-types c = subst (λ (q : Queue). All IsTyped q.messages) c.self.view_is (typed c.self.inside.messages.items)
