use Rattle.parse_rules.proofs.LazySigns.{head_empty, head_sign}
use Rattle.parse_rules.proofs.samples.lazy.LazySignsTokenStream.peek.Goals as goal

pub returns-in-empty : goal.returns-in-empty
returns-in-empty c = head_empty c.self.inside.text.now c.pass_blanks.result.now _ c.self.view_is c.pass_blanks.ensures c.in-empty.len_below

pub returns-in-len1-up : goal.returns-in-len1-up
returns-in-len1-up c = head_sign c.self.inside.text.now c.pass_blanks.result.now _ c.self.view_is c.pass_blanks.ensures _ c.in-len1-up.len_at_least c.sign_of.ensures
