use Rattle.std.proofs.Common.{◌≡◌, ℕ, List, Option, Some, slice_get, slice_set, sym, ap, ◌∙◌, rules}
use Rattle.pg_base.specs.Catalog.{CatalogParts}
use Rattle.pg_base.specs.declared.table_def.ColumnDef.{ColumnDef}
use Rattle.pg_catalog.specs.Names.{place_of, table_names, column_names}
use Rattle.pg_catalog.specs.Added.{changed_named, with_named_tags}
use Rattle.pg_catalog.specs.Added as spec
use Rattle.pg_catalog.proofs.TablesChanged.{item_there}
use Rattle.pg_catalog.proofs.CommentIndexes.{with_column_tags, table_commented}
use Rattle.pg_catalog.proofs.growing.Growing.with_column_tags.Goals as goal

pub indexed-requires : goal.indexed-requires
indexed-requires c =
    let base : CatalogParts = record { enums = c.self.inside.enums.items; tables = c.self.inside.tables.items } in
    let at = c.in-Some.place in
    let t = c.index_mut-found.result.now in
    let tags = c.args.tags.now in
    let here : slice_get base.tables at ≡ Some t = item_there c.self.inside.tables.items at t (search rules) (search rules) in
    let placed : place_of (table_names base) c.args.table.now ≡ Some at = ap (λ (d : CatalogParts). place_of (table_names d) c.args.table.now) c.self.view_is ∙ (search rules) in
    let f : ColumnDef → ColumnDef = λ column. record column { tags = tags } in
    let place = c.column_place-column.ensures t (ap (λ (d : CatalogParts). slice_get d.tables at) (sym c.self.view_is) ∙ here) in
    let columns : c.tag_column.new.columns ≡ changed_named t.columns c.column_place-column.result f = search rules in
    let made = ap (λ (l : List ColumnDef). slice_set base.tables at (record t { columns = l })) (columns ∙ ap (λ (o : Option ℕ). changed_named t.columns o f) place) in
    with_column_tags base _ _ _ c.self.invariant tags c.know_tags.ensures at t here (place_of (column_names t) c.args.name.now) _ made

pub returns : goal.returns
returns c =
    let base : CatalogParts = record { enums = c.self.inside.enums.items; tables = c.self.inside.tables.items } in
    let at = c.in-Some.place in
    let t = c.index_mut-found.result.now in
    let tags = c.args.tags.now in
    let here : slice_get base.tables at ≡ Some t = item_there c.self.inside.tables.items at t (search rules) (search rules) in
    let placed : place_of (table_names base) c.args.table.now ≡ Some at = ap (λ (d : CatalogParts). place_of (table_names d) c.args.table.now) c.self.view_is ∙ (search rules) in
    let f : ColumnDef → ColumnDef = λ column. record column { tags = tags } in
    let place = c.column_place-column.ensures t (ap (λ (d : CatalogParts). slice_get d.tables at) (sym c.self.view_is) ∙ here) in
    let columns : c.tag_column.new.columns ≡ changed_named t.columns c.column_place-column.result f = search rules in
    let made = ap (λ (l : List ColumnDef). slice_set base.tables at (record t { columns = l })) (columns ∙ ap (λ (o : Option ℕ). changed_named t.columns o f) place) in
    table_commented base _ c.self.view_is tags at t c.args.table.now placed here (spec.with_column_tags tags c.args.name.now) _ made c.indexed.result c.indexed.ensures
