use Rattle.request_core.proofs.Housed.{still_house, still_rises, still_serves}
use Rattle.request_core.proofs.house.respond_on.Goals as goal

pub returns-clause-house : goal.returns-clause-house
returns-clause-house g c = still_house _ c.requires.house _ _ _ _ _ _ _ c.respond_kept.ensures.base c.respond_kept.ensures.served

pub returns-clause-faults : goal.returns-clause-faults
returns-clause-faults g c = still_rises _ c.requires.house _ _ _ _ _ _ _ c.respond_kept.ensures.base c.respond_kept.ensures.served

pub returns-clause-served : goal.returns-clause-served
returns-clause-served g c = still_serves _ c.requires.house _ _ _ _ _ _ _ c.respond_kept.ensures.base c.respond_kept.ensures.served
