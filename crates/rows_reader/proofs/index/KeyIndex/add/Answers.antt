use Rattle.std.proofs.Common.{◌≡◌, ℕ, List, Bool, ap, ◌∙◌, rules}
use Rattle.std.specs.Cmp.Lexicographic.{pointwise}
use Rattle.indexmap.specs.IndexSet.{insert_key}
use Rattle.pg_base.specs.declared.cell.Cell.{Cell}
use Rattle.rel_model.specs.Tables.{cells_at}
use Rattle.rows_reader.specs.Kept.{Index, with_key, grown}
use Rattle.rows_reader.proofs.SameCells.{tests_are}
use Rattle.rows_reader.proofs.index.KeyIndex.add.Goals as goal

abbrev index_of : List ℕ → List (List Cell) → Index
index_of places keys = record { places = places; keys = keys }

pub returns : goal.returns
returns c =
    let key : c.in_ok-key.key ≡ cells_at c.self.inside.places c.args.cells.now = search rules in
    ap (λ (keys : List (List Cell)). index_of c.self.inside.places keys) (c.in_ok-insert.ensures.keys
    ∙ ap (λ (test : Cell → Cell → Bool). insert_key (pointwise test) c.self.inside.keys.keys c.in_ok-key.key) tests_are
    ∙ ap (with_key c.self.inside.keys.keys) key)
    ∙ ap (grown c.args.cells.now) c.self.view_is
