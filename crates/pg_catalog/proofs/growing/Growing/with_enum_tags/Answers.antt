use Rattle.std.proofs.Common.{◌≡◌, Some, slice_get, ap, ◌∙◌, rules}
use Rattle.pg_base.specs.Catalog.{CatalogParts}
use Rattle.pg_catalog.specs.Names.{place_of, enum_names}
use Rattle.pg_catalog.proofs.TablesChanged.{item_there}
use Rattle.pg_catalog.proofs.CommentIndexes.{with_enum_tags, enum_commented}
use Rattle.pg_catalog.proofs.growing.Growing.with_enum_tags.Goals as goal

pub indexed-requires : goal.indexed-requires
indexed-requires c =
    let base : CatalogParts = record { enums = c.self.inside.enums.items; tables = c.self.inside.tables.items } in
    let at = c.in-Some.place in
    let e = c.index_mut.result.now in
    let tags = c.args.tags.now in
    let here : slice_get base.enums at ≡ Some e = item_there c.self.inside.enums.items at e (search rules) (search rules) in
    let placed : place_of (enum_names base) c.args.name.now ≡ Some at = ap (λ (d : CatalogParts). place_of (enum_names d) c.args.name.now) c.self.view_is ∙ (search rules) in
    with_enum_tags base _ _ _ c.self.invariant tags c.know_tags.ensures at e here _ (search rules)

pub returns : goal.returns
returns c =
    let base : CatalogParts = record { enums = c.self.inside.enums.items; tables = c.self.inside.tables.items } in
    let at = c.in-Some.place in
    let e = c.index_mut.result.now in
    let tags = c.args.tags.now in
    let here : slice_get base.enums at ≡ Some e = item_there c.self.inside.enums.items at e (search rules) (search rules) in
    let placed : place_of (enum_names base) c.args.name.now ≡ Some at = ap (λ (d : CatalogParts). place_of (enum_names d) c.args.name.now) c.self.view_is ∙ (search rules) in
    enum_commented base _ c.self.view_is c.args.name.now tags at e placed here _ (search rules) c.indexed.result c.indexed.ensures
