use Rattle.std.proofs.Common.{◌≡◌, rules, subst}
use Rattle.std.specs.Prelude.{is_some}
use Rattle.ipc_state.specs.declared.parked.ObjectKind.{ObjectKind}
use Rattle.ipc_state.specs.declared.parked.ObjectKind.TheVariants as kinds
use Rattle.ipc_state.specs.Numbered.{entry_of}
use Rattle.ipc_state.specs.State.{objects_of}
use Rattle.ipc_state.proofs.state.State.is_there.Goals as goal

pub returns-in-MsgQueue : goal.returns-in-MsgQueue
returns-in-MsgQueue c =
    let at = c.in-MsgQueue.is in
    let is : kinds.MsgQueue ≡ c.args.kind = cc in
    subst (λ (k : ObjectKind). c.is_some.result ≡ is_some (entry_of (objects_of c.args.self.now.state k) c.args.number)) is (search rules)

pub returns-in-Semset : goal.returns-in-Semset
returns-in-Semset c =
    let at = c.in-Semset.is in
    let is : kinds.Semset ≡ c.args.kind = cc in
    subst (λ (k : ObjectKind). c.is_some-in-Semset.result ≡ is_some (entry_of (objects_of c.args.self.now.state k) c.args.number)) is (search rules)

pub returns-in-Shm : goal.returns-in-Shm
returns-in-Shm c =
    let at = c.in-Shm.is in
    let is : kinds.Shm ≡ c.args.kind = cc in
    subst (λ (k : ObjectKind). c.is_some-in-Shm.result ≡ is_some (entry_of (objects_of c.args.self.now.state k) c.args.number)) is (search rules)

pub returns-in-Named : goal.returns-in-Named
returns-in-Named c =
    let at = c.in-Named.is in
    let is : kinds.Named c.in-Named.kind ≡ c.args.kind = cc in
    subst (λ (k : ObjectKind). c.is_named_there.result ≡ is_some (entry_of (objects_of c.args.self.now.state k) c.args.number)) is c.is_named_there.ensures
