use Rattle.std.proofs.Common.{◌≡◌, rules}
use Rattle.std.specs.Prelude.{filter}
use Rattle.std.proofs.lemmas.Fn.{filter_same}
use Rattle.ipc_engine.specs.Changes.{is_object}
use Rattle.ipc_engine.proofs.changed.keep_there.Goals as goal
use Rattle.ipc_engine.proofs.changed.keep_there.Goals.{After-retain}

left : (c : After-retain) → c.retain.new.self.items ≡ filter (is_object c.args.state.now.state) c.args.marks.now.items
left c = filter_same _ (is_object c.args.state.now.state) _ (λ x b f' k. search rules) _ _ c.retain.ensures.filtered

pub returns-clause-items : goal.returns-clause-items
unfolding is_object
returns-clause-items c = left (goal.at.returns-clause-items c).After-retain
