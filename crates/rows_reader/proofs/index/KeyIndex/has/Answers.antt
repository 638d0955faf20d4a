use Rattle.std.proofs.Common.{Bool, ap, ◌∙◌}
use Rattle.std.specs.List.{list_any}
use Rattle.std.specs.Cmp.Lexicographic.{pointwise}
use Rattle.pg_base.specs.declared.cell.Cell.{Cell}
use Rattle.rows_reader.specs.Keys.{stands}
use Rattle.rows_reader.specs.Kept.{Index}
use Rattle.rows_reader.proofs.SameCells.{tests_are}
use Rattle.rows_reader.proofs.index.KeyIndex.has.Goals as goal

pub returns : goal.returns
returns c =
    c.contains.ensures
    ∙ ap (λ (test : Cell → Cell → Bool). list_any (pointwise test c.args.key.now) c.self.inside.keys.keys) tests_are
    ∙ ap (λ (index : Index). stands index.keys c.args.key.now) c.self.view_is
