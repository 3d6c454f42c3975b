use Rattle.std.proofs.Common.{rules}
use Rattle.ipc_wire.proofs.spelling.request_parts.Goals as goal

pub returns-in-Hello-clause-fields : goal.returns-in-Hello-clause-fields
returns-in-Hello-clause-fields c = rw c.in-Hello.is c.spelled.ensures.fields

pub returns-in-Hello-clause-numbers : goal.returns-in-Hello-clause-numbers
returns-in-Hello-clause-numbers c = rw c.in-Hello.is (search rules)
