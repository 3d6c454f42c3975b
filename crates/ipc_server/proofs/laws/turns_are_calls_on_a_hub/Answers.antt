use Rattle.ipc_server.proofs.Turning.{sent-of, serving, turned, broken, all-served, short}
use Rattle.ipc_server.proofs.laws.turns_are_calls_on_a_hub.Goals as goal

pub returns-clause-calls : goal.returns-clause-calls
returns-clause-calls g c = λ limits opened moment last now seen turns. serving g.D.SectorDisk.medium limits opened moment last now seen turns

pub returns-clause-sent : goal.returns-clause-sent
returns-clause-sent g c = λ limits moment last next now acts sent steps. sent-of g.D.SectorDisk.medium limits moment last now next acts sent steps

pub returns-clause-turn : goal.returns-clause-turn
returns-clause-turn g c = λ limits opened before moment last next now seen turns matches later goes.
    turned g.D.SectorDisk.medium limits opened before moment last next now seen matches turns later goes

pub returns-clause-broken : goal.returns-clause-broken
returns-clause-broken g c = λ limits opened before moment last next now seen error turns matches later breaks.
    broken g.D.SectorDisk.medium limits opened g.D.SectorDisk.counts before moment last next now seen error matches turns later breaks

pub returns-clause-served : goal.returns-clause-served
returns-clause-served g c = λ limits opened since moment turns last next now seen so_far matches served.
    all-served g.D.SectorDisk.medium limits opened since last now seen matches so_far turns moment next served

pub returns-clause-stops_short : goal.returns-clause-stops_short
returns-clause-stops_short g c = λ limits opened since turns last next now seen fault so_far matches stops.
    short g.D.SectorDisk.medium limits opened g.D.SectorDisk.counts since turns last next now seen fault matches so_far stops
