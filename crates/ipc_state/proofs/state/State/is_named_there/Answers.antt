use Rattle.std.proofs.Common.{◌≡◌, rules, subst}
use Rattle.std.specs.Prelude.{is_some}
use Rattle.ipc_keys.specs.declared.check.NameKind.{NameKind}
use Rattle.ipc_keys.specs.declared.check.NameKind.TheVariants as names
use Rattle.ipc_state.specs.Numbered.{entry_of}
use Rattle.ipc_state.specs.State.{named_of}
use Rattle.ipc_state.proofs.state.State.is_named_there.Goals as goal

pub returns-in-Mq : goal.returns-in-Mq
returns-in-Mq c =
    let at = c.in-Mq.is in
    let is : names.Mq ≡ c.args.kind = cc in
    subst (λ (k : NameKind). c.is_some.result ≡ is_some (entry_of (named_of c.args.self.now.state k) c.args.number)) is (search rules)

pub returns-in-Psem : goal.returns-in-Psem
returns-in-Psem c =
    let at = c.in-Psem.is in
    let is : names.Psem ≡ c.args.kind = cc in
    subst (λ (k : NameKind). c.is_some-in-Psem.result ≡ is_some (entry_of (named_of c.args.self.now.state k) c.args.number)) is (search rules)

pub returns-in-Pshm : goal.returns-in-Pshm
returns-in-Pshm c =
    let at = c.in-Pshm.is in
    let is : names.Pshm ≡ c.args.kind = cc in
    subst (λ (k : NameKind). c.is_some-in-Pshm.result ≡ is_some (entry_of (named_of c.args.self.now.state k) c.args.number)) is (search rules)
