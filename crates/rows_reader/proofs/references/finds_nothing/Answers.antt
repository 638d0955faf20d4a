use Rattle.std.proofs.Common.{List, sym, ap, ◌∙◌, subst, arith}
use Rattle.pg_base.specs.Lists.{Each}
use Rattle.rel_model.specs.declared.tables.Row.{Row}
use Rattle.rel_model.specs.declared.tables.TableRows.{TableRows}
use Rattle.rows_reader.specs.Kept.{IsIndexOf, IsKept}
use Rattle.rows_reader.proofs.Places.{pair_length}
use Rattle.rows_reader.proofs.Grown.{pair_index}
use Rattle.rows_reader.proofs.references.finds_nothing.Goals as goal

pub bounds-indexes-target : goal.bounds-indexes-target
bounds-indexes-target c = let long = pair_length IsKept c.args.lists.now c.args.indexes.now c.requires.kept in let lt = c.requires.target in omega (arith, long, lt)

pub find-requires : goal.find-requires
find-requires c =
    let own = pair_index IsKept c.args.lists.now c.args.indexes.now c.args.link.now.target c.index-lists-target.result c.index-lists-target.result c.index-indexes-target.result c.index-indexes-target.result
    c.requires.target (sym c.index-lists-target.is) (sym c.index-indexes-target.is) c.requires.kept in
    subst (λ (rows : List Row). Each (IsIndexOf rows) c.index-indexes-target.result) (sym (c.as_slice-rows.ensures ∙ ap (λ (l : TableRows). l.rows) (sym c.index-lists-target.is))) own.indexes
