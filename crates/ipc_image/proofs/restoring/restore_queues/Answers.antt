-- Without marks a queue's object is that of an entry with a key.
use Rattle.ipc_image.proofs.restoring.restore_queues.Goals as goal

pub returns-else-form-clause-ok : goal.returns-else-form-clause-ok
returns-else-form-clause-ok c = rw c.if-form.false c.restore_kind-else-form.ensures.ok

pub returns-else-form-clause-whole : goal.returns-else-form-clause-whole
returns-else-form-clause-whole c = rw c.if-form.false c.restore_kind-else-form.ensures.whole

pub returns-else-form-clause-damaged : goal.returns-else-form-clause-damaged
returns-else-form-clause-damaged c = rw c.if-form.false c.restore_kind-else-form.ensures.damaged
