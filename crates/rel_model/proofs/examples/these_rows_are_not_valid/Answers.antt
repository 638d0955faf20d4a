use Rattle.std.proofs.Common.{◌≤◌, length, arith}
use Rattle.std.specs.Prelude.{codes}
use Rattle.std.specs.Str.{chars}
use Rattle.rel_model.proofs.ExampleTexts.{length-abc, is_no_text}
use Rattle.rel_model.proofs.examples.these_rows_are_not_valid.Goals as goal

pub returns-clause-long_text : goal.returns-clause-long_text
returns-clause-long_text c = λ v. let few : length (chars (codes "abc")) ≤ 2 = v.lists.0.cells.0.1.0.1 in absurd (omega (arith, few, length-abc))

pub returns-clause-no_text : goal.returns-clause-no_text
returns-clause-no_text c = λ v. is_no_text v.lists.0.cells.0.1.0.0.0
