use Rattle.std.proofs.Common.{sym}
use Rattle.smart_tags.specs.Tags.{is_space}
use Rattle.smart_tags.proofs.TagFacts.{place_some, place_none}
use Rattle.smart_tags.proofs.parts.first_space.Goals as goal

pub returns-in-Some-clause-place : goal.returns-in-Some-clause-place
returns-in-Some-clause-place c = place_some is_space c.args.bytes.now _ (sym c.in-Some.ensures)

pub returns-in-None-clause-place : goal.returns-in-None-clause-place
returns-in-None-clause-place c = place_none is_space c.args.bytes.now (sym c.in-None.ensures)
