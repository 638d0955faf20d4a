use Rattle.std.proofs.Common.{◌≡◌, ℕ, List, Some, slice_get, slice_set, get_or, sym, ap, subst, ◌∙◌, rules}
use Rattle.std.specs.Option.{option_and_then}
use Rattle.std.specs.Str.{IsUtf8}
use Rattle.std.proofs.lemmas.Option.{slice_get-get_or}
use Rattle.pg_base.specs.Catalog.{CatalogParts}
use Rattle.pg_base.specs.declared.table_def.TableDef.{TableDef}
use Rattle.pg_catalog.specs.Names.{place_of, places_of, table_names, column_names, table_of}
use Rattle.pg_catalog.specs.Constraints.{target_places}
use Rattle.pg_catalog.proofs.TablesChanged.{found, item_there}
use Rattle.pg_catalog.proofs.LinkChanged.{link_unchanged, target_stands, link_made, link_indexed, link_added}
use Rattle.pg_catalog.proofs.growing.Growing.with_link.Goals as goal

pub returns-in_default : goal.returns-in_default
returns-in_default c = link_unchanged c.args.self c.args.part.now (search rules)

pub returns-in_default-table_place : goal.returns-in_default-table_place
returns-in_default-table_place c = absurd (target_stands c.args.self c.args.part.now c.requires.fault (search rules))

pub indexed-requires : goal.indexed-requires
indexed-requires c =
    let base : CatalogParts = record { enums = c.self.inside.enums.items; tables = c.self.inside.tables.items } in
    let p = c.args.part.now in
    let at = c.in-Some.place in
    let to = c.in-Some-table_place.target in
    let t = c.index_mut.result.now in
    let target = get_or c.self.inside.tables.items to t in
    let is : base ≡ c.args.self = c.self.view_is in
    let here : slice_get base.tables at ≡ Some t = item_there c.self.inside.tables.items at t (search rules) (search rules) in
    let there : slice_get base.tables to ≡ Some target = slice_get-get_or c.self.inside.tables.items to t (search rules) in
    let placed : place_of (table_names base) p.table ≡ Some at = ap (λ (d : CatalogParts). place_of (table_names d) p.table) is ∙ (search rules) in
    let aimed : place_of (table_names base) p.target ≡ Some to = ap (λ (d : CatalogParts). place_of (table_names d) p.target) is ∙ (search rules) in
    let text = subst (λ (n : List ℕ). IsUtf8 n) c.requires.name c.know_text.ensures in
    let columns = c.in_ok-columns.ensures t (ap (λ (d : CatalogParts). slice_get d.tables at) (sym is) ∙ here) ∙ ap (λ (n : List (List ℕ)). places_of (column_names t) n) c.as_slice.ensures in
    let places = c.in_ok-places.ensures ∙ ap (option_and_then (λ (q : TableDef). target_places q p.target_columns)) (ap (λ (d : CatalogParts). table_of d p.target) (sym is) ∙ found base p.target to target aimed there) in
    let made = ap (λ (n : TableDef). slice_set base.tables at n) (link_made base c.args.self is _ _ _ c.self.invariant p c.requires.fault text at t placed here to target aimed there _ _ _ c.requires.name columns places c.link_up.new.table (search rules)) in
    link_indexed base c.args.self is _ _ _ c.self.invariant p c.requires.fault text at t placed here to target aimed there _ made

pub returns : goal.returns
returns c =
    let base : CatalogParts = record { enums = c.self.inside.enums.items; tables = c.self.inside.tables.items } in
    let p = c.args.part.now in
    let at = c.in-Some.place in
    let to = c.in-Some-table_place.target in
    let t = c.index_mut.result.now in
    let target = get_or c.self.inside.tables.items to t in
    let is : base ≡ c.args.self = c.self.view_is in
    let here : slice_get base.tables at ≡ Some t = item_there c.self.inside.tables.items at t (search rules) (search rules) in
    let there : slice_get base.tables to ≡ Some target = slice_get-get_or c.self.inside.tables.items to t (search rules) in
    let placed : place_of (table_names base) p.table ≡ Some at = ap (λ (d : CatalogParts). place_of (table_names d) p.table) is ∙ (search rules) in
    let aimed : place_of (table_names base) p.target ≡ Some to = ap (λ (d : CatalogParts). place_of (table_names d) p.target) is ∙ (search rules) in
    let text = subst (λ (n : List ℕ). IsUtf8 n) c.requires.name c.know_text.ensures in
    let columns = c.in_ok-columns.ensures t (ap (λ (d : CatalogParts). slice_get d.tables at) (sym is) ∙ here) ∙ ap (λ (n : List (List ℕ)). places_of (column_names t) n) c.as_slice.ensures in
    let places = c.in_ok-places.ensures ∙ ap (option_and_then (λ (q : TableDef). target_places q p.target_columns)) (ap (λ (d : CatalogParts). table_of d p.target) (sym is) ∙ found base p.target to target aimed there) in
    let made = ap (λ (n : TableDef). slice_set base.tables at n) (link_made base c.args.self is _ _ _ c.self.invariant p c.requires.fault text at t placed here to target aimed there _ _ _ c.requires.name columns places c.link_up.new.table (search rules)) in
    link_added base c.args.self is _ _ _ c.self.invariant p c.requires.fault text at t placed here to target aimed there _ made c.indexed.result c.indexed.ensures
