use Rattle.ipc_engine.proofs.Waiting.{goes-first, goes-answered, goes-left}
use Rattle.ipc_engine.proofs.laws.the_earliest_goes_on_first.Goals as goal

pub returns-clause-first : goal.returns-clause-first
returns-clause-first c limits s before later w h is none goes = goes-first limits s before later w h is none goes

pub returns-clause-answered : goal.returns-clause-answered
returns-clause-answered c limits s before later w h is goes = goes-answered limits s before later w h is goes

pub returns-clause-left : goal.returns-clause-left
returns-clause-left c limits s before later w h is = goes-left limits s before later w h is
