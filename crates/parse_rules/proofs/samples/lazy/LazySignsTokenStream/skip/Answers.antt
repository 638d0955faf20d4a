use Rattle.std.proofs.Common.{◌∙◌, ap}
use Rattle.std.proofs.lemmas.List.{take_rest}
use Rattle.parse_rules.specs.Lazy.{signs}
use Rattle.parse_rules.proofs.LazySigns.{tail_empty, tail_sign}
use Rattle.parse_rules.proofs.samples.lazy.LazySignsTokenStream.skip.Goals as goal

pub returns-in_default-clause-after : goal.returns-in_default-clause-after
returns-in_default-clause-after c = tail_empty c.self.inside.text.now c.pass_blanks.result.now _ c.self.view_is c.pass_blanks.ensures c.in_default.len_below

pub returns-in-len1-up-clause-after : goal.returns-in-len1-up-clause-after
returns-in-len1-up-clause-after c = ap signs (take_rest c.pass_blanks.result.now 1) ∙ tail_sign c.self.inside.text.now c.pass_blanks.result.now _ c.self.view_is c.pass_blanks.ensures c.in-len1-up.len_at_least
