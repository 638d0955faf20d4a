use Rattle.std.proofs.Common.{◌≡◌, ℕ, List, Some, ap, subst, ◌∙◌, rules}
use Rattle.std.specs.Str.{IsUtf8}
use Rattle.pg_base.specs.Catalog.{CatalogParts}
use Rattle.pg_catalog.specs.Names.{place_of, table_names}
use Rattle.pg_catalog.proofs.TablesChanged.{key_unchanged, item_there, key_indexed, key_added}
use Rattle.pg_catalog.proofs.growing.Growing.with_key.Goals as goal

pub returns-in_default : goal.returns-in_default
returns-in_default c = key_unchanged c.args.self c.args.part.now (search rules)

pub indexed-requires : goal.indexed-requires
indexed-requires c =
    let t = c.index_mut.result.now in
    let here = item_there c.self.inside.tables.items c.in-Some.place t (search rules) (search rules) in
    let placed : place_of (table_names (record { enums = c.self.inside.enums.items; tables = c.self.inside.tables.items })) c.args.part.now.table ≡ Some c.in-Some.place = ap (λ (d : CatalogParts). place_of (table_names d) c.args.part.now.table) c.self.view_is ∙ (search rules) in
    key_indexed _ _ c.self.view_is _ _ _ c.self.invariant c.args.part.now c.requires.fault (subst (λ (n : List ℕ). IsUtf8 n) c.requires.name c.know_text.ensures) c.in-Some.place t placed here _ (search rules)

pub returns : goal.returns
returns c =
    let t = c.index_mut.result.now in
    let here = item_there c.self.inside.tables.items c.in-Some.place t (search rules) (search rules) in
    let placed : place_of (table_names (record { enums = c.self.inside.enums.items; tables = c.self.inside.tables.items })) c.args.part.now.table ≡ Some c.in-Some.place = ap (λ (d : CatalogParts). place_of (table_names d) c.args.part.now.table) c.self.view_is ∙ (search rules) in
    key_added _ _ c.self.view_is _ _ _ c.self.invariant c.args.part.now c.requires.fault (subst (λ (n : List ℕ). IsUtf8 n) c.requires.name c.know_text.ensures) c.in-Some.place t placed here _ (search rules) c.indexed.result c.indexed.ensures
