use Rattle.std.proofs.Common.{◌≡◌, Some, slice_get, slice_set, map, ap, ◌∙◌, rules}
use Rattle.pg_base.specs.Catalog.{CatalogParts}
use Rattle.pg_base.specs.declared.table_def.TableDef.{TableDef}
use Rattle.pg_catalog.specs.Names.{place_of, table_names}
use Rattle.pg_catalog.specs.Added.{with_named_tags}
use Rattle.pg_catalog.proofs.TablesChanged.{item_there}
use Rattle.pg_catalog.proofs.CommentIndexes.{with_constraint, table_commented}
use Rattle.pg_catalog.proofs.growing.Growing.with_constraint_tags.Goals as goal

pub indexed-requires : goal.indexed-requires
indexed-requires c =
    let base : CatalogParts = record { enums = c.self.inside.enums.items; tables = c.self.inside.tables.items } in
    let at = c.in-Some.place in
    let t = c.index_mut.result.now in
    let tags = c.args.tags.now in
    let here : slice_get base.tables at ≡ Some t = item_there c.self.inside.tables.items at t (search rules) (search rules) in
    let placed : place_of (table_names base) c.args.table.now ≡ Some at = ap (λ (d : CatalogParts). place_of (table_names d) c.args.table.now) c.self.view_is ∙ (search rules) in
    let made : slice_set base.tables at c.tag_constraint.new.table ≡ slice_set base.tables at (with_named_tags tags c.args.name.now t) = ap (λ (u : TableDef). slice_set base.tables at u) (search rules) in
    with_constraint base _ _ _ c.self.invariant tags c.know_tags.ensures at t here (place_of (map (λ k. k.name) t.keys) c.args.name.now) (place_of (map (λ l. l.name) t.links) c.args.name.now) _ made

pub returns : goal.returns
returns c =
    let base : CatalogParts = record { enums = c.self.inside.enums.items; tables = c.self.inside.tables.items } in
    let at = c.in-Some.place in
    let t = c.index_mut.result.now in
    let tags = c.args.tags.now in
    let here : slice_get base.tables at ≡ Some t = item_there c.self.inside.tables.items at t (search rules) (search rules) in
    let placed : place_of (table_names base) c.args.table.now ≡ Some at = ap (λ (d : CatalogParts). place_of (table_names d) c.args.table.now) c.self.view_is ∙ (search rules) in
    let made : slice_set base.tables at c.tag_constraint.new.table ≡ slice_set base.tables at (with_named_tags tags c.args.name.now t) = ap (λ (u : TableDef). slice_set base.tables at u) (search rules) in
    table_commented base _ c.self.view_is tags at t c.args.table.now placed here (with_named_tags tags c.args.name.now) _ made c.indexed.result c.indexed.ensures
