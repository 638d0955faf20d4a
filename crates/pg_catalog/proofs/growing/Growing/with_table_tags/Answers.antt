use Rattle.std.proofs.Common.{◌≡◌, Some, slice_get, ap, ◌∙◌, rules}
use Rattle.pg_base.specs.Catalog.{CatalogParts}
use Rattle.pg_base.specs.declared.table_def.TableDef.{TableDef}
use Rattle.pg_catalog.specs.Names.{place_of, table_names}
use Rattle.pg_catalog.proofs.TablesChanged.{item_there}
use Rattle.pg_catalog.proofs.CommentIndexes.{with_table_tags, table_commented}
use Rattle.pg_catalog.proofs.growing.Growing.with_table_tags.Goals as goal

pub indexed-requires : goal.indexed-requires
indexed-requires c =
    let base : CatalogParts = record { enums = c.self.inside.enums.items; tables = c.self.inside.tables.items } in
    let at = c.in-Some.place in
    let t = c.index_mut.result.now in
    let tags = c.args.tags.now in
    let here : slice_get base.tables at ≡ Some t = item_there c.self.inside.tables.items at t (search rules) (search rules) in
    let placed : place_of (table_names base) c.args.name.now ≡ Some at = ap (λ (d : CatalogParts). place_of (table_names d) c.args.name.now) c.self.view_is ∙ (search rules) in
    with_table_tags base _ _ _ c.self.invariant tags c.know_tags.ensures at t here _ (search rules)

pub returns : goal.returns
returns c =
    let base : CatalogParts = record { enums = c.self.inside.enums.items; tables = c.self.inside.tables.items } in
    let at = c.in-Some.place in
    let t = c.index_mut.result.now in
    let tags = c.args.tags.now in
    let here : slice_get base.tables at ≡ Some t = item_there c.self.inside.tables.items at t (search rules) (search rules) in
    let placed : place_of (table_names base) c.args.name.now ≡ Some at = ap (λ (d : CatalogParts). place_of (table_names d) c.args.name.now) c.self.view_is ∙ (search rules) in
    table_commented base _ c.self.view_is tags at t c.args.name.now placed here (λ (u : TableDef). record u { tags = tags }) _ (search rules) c.indexed.result c.indexed.ensures
