use Rattle.world_model.proofs.Histories.{kept_run}
use Rattle.world_model.proofs.Law.{after, host_after, host_legal, once, rump_legal, serves}
use Rattle.world_model.proofs.laws.world_law.Goals as goal

pub returns-clause-rump : goal.returns-clause-rump
returns-clause-rump c = rump_legal

pub returns-clause-host : goal.returns-clause-host
returns-clause-host c = host_legal

pub returns-clause-once : goal.returns-clause-once
returns-clause-once c = once kept_run

pub returns-clause-after : goal.returns-clause-after
returns-clause-after c = after kept_run

pub returns-clause-after_host : goal.returns-clause-after_host
returns-clause-after_host c = host_after

pub returns-clause-serves : goal.returns-clause-serves
returns-clause-serves c = serves
