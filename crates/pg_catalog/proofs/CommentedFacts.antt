-- A comment's tags leave a catalog valid.
use Rattle.std.proofs.Common.{◌≡◌, ℕ, suc, Bool, true, false, cond, List, [], ◌∷◌, ◌++◌, map, length, filter, refl, sym, ap, subst, ◌∙◌, arith}
use Rattle.pg_base.specs.Lists.{AreDistinct}
use Rattle.pg_base.specs.Catalog.{CatalogParts, IsValidEnum, IsValidTable, IsValidColumn, IsValidKey, IsValidLink, AreTexts}
use Rattle.pg_base.specs.declared.tags.Tags.{Tags}
use Rattle.pg_base.specs.declared.enum_def.EnumDef.{EnumDef}
use Rattle.pg_base.specs.declared.table_def.ColumnDef.{ColumnDef}
use Rattle.pg_base.specs.declared.table_def.KeyDef.{KeyDef}
use Rattle.pg_base.specs.declared.table_def.LinkDef.{LinkDef}
use Rattle.pg_base.specs.declared.table_def.TableDef.{TableDef}
use Rattle.pg_catalog.specs.Names.{table_names, changed}
use Rattle.pg_catalog.specs.Added.{with_tags_of_key, with_tags_of_link}
use Rattle.pg_catalog.specs.Indexed.{IsIndexed}
use Rattle.pg_catalog.proofs.EachFacts.{Each-map}
use Rattle.pg_catalog.proofs.Grown.{Covers-refl, Extends, Extends-refl, Grows, table_grows, link_grows, column_grows, same_cases}
use Rattle.pg_catalog.proofs.Changed.{Kept, column_kept, key_kept, length-changed, map-changed, Each-changed, Covers-changed}

-- lists whose keys are alike primary have as many primary ones
counted : (xs ys : List KeyDef) → map (λ k. k.primary) xs ≡ map (λ k. k.primary) ys → length (filter (λ k. k.primary) xs) ≡ length (filter (λ k. k.primary) ys)
counted [] [] e = refl
counted [] (y ∷ ys) e = absurd (cc)
counted (x ∷ xs) [] e = absurd (cc)
counted (x ∷ xs) (y ∷ ys) e =
    let first : x.primary ≡ y.primary = cc in
    let rest : map (λ (k : KeyDef). k.primary) xs ≡ map (λ (k : KeyDef). k.primary) ys = cc in
    one x.primary y.primary first (counted xs ys rest)
  where
    one : (a b : Bool) → a ≡ b → length (filter (λ k. k.primary) xs) ≡ length (filter (λ k. k.primary) ys) → length (cond a (x ∷ filter (λ k. k.primary) xs) (filter (λ k. k.primary) xs)) ≡ length (cond b (y ∷ filter (λ k. k.primary) ys) (filter (λ k. k.primary) ys))
    one true true e h = ap suc h
    one true false e h = absurd (cc)
    one false true e h = absurd (cc)
    one false false e h = h

as_many : (tags : Tags) (keys : List KeyDef) (at : ℕ) → length (filter (λ k. k.primary) (changed keys at (λ k. record k { tags = tags }))) ≡ length (filter (λ k. k.primary) keys)
as_many tags keys at =
    let f : KeyDef → KeyDef = λ k. record k { tags = tags } in
    counted (changed keys at f) keys (map-changed f (λ k. k.primary) (λ k. refl) keys at)

module _ (tags : Tags) (texts : AreTexts tags) where
  -- ---- an enum

  pub enum_indexed : (c : CatalogParts) (es ts : List (List ℕ)) (cs : List (List (List ℕ))) → IsIndexed c es ts cs → (at : ℕ) → IsIndexed (record c { enums = changed c.enums at (λ e. record e { tags = tags }) }) es ts cs
  enum_indexed c es ts cs h at =
      let f : EnumDef → EnumDef = λ e. record e { tags = tags } in
      let d : CatalogParts = record c { enums = changed c.enums at f } in
      let same = map-changed f (λ e. e.name) (λ e. refl) c.enums at in
      let count = length-changed f c.enums at in
      let grows : Grows c d = record {
        count = omega arith;
        enums = Covers-changed f same_cases (λ x. refl) (λ x. refl) c.enums at;
        tables = Covers-refl Extends Extends-refl c.tables;
      } in
      record {
        valid = record {
          enum_limit = omega (arith, h.valid.enum_limit);
          table_limit = h.valid.table_limit;
          names = subst (λ (l : List (List ℕ)). AreDistinct (l ++ table_names c)) (sym same) h.valid.names;
          enums = Each-changed f IsValidEnum (λ e g. record { named = g.named; tags = texts; cases = g.cases; limit = g.limit }) c.enums at h.valid.enums;
          tables = Each-map (IsValidTable c) (IsValidTable d) (table_grows c d grows) c.tables h.valid.tables;
        };
        enums = h.enums ∙ sym same;
        tables = h.tables;
        columns = h.columns;
      }

  module _ (c d : CatalogParts) (grows : Grows c d) (t : TableDef) (h : IsValidTable c t) where
    -- ---- a table

    pub tagged_table : IsValidTable d (record t { tags = tags })
    tagged_table =
        let g = table_grows c d grows t h in
        record {
          named = g.named;
          tags = texts;
          column_limit = g.column_limit;
          constraint_limit = g.constraint_limit;
          column_names = g.column_names;
          constraint_names = g.constraint_names;
          columns = g.columns;
          keys = g.keys;
          links = g.links;
          one_primary = g.one_primary;
        }

    -- ---- a column

    pub tagged_column : (at : ℕ) → Kept t.columns (changed t.columns at (λ column. record column { tags = tags })) → IsValidTable d (record t { columns = changed t.columns at (λ column. record column { tags = tags }) })
    tagged_column at kept =
        let more : List ColumnDef = changed t.columns at (λ column. record column { tags = tags }) in
        record {
          named = h.named;
          tags = h.tags;
          column_limit = omega (arith, kept.count, h.column_limit);
          constraint_limit = h.constraint_limit;
          column_names = subst (λ (l : List (List ℕ)). AreDistinct l) (sym kept.names) h.column_names;
          constraint_names = h.constraint_names;
          columns = Each-map (IsValidColumn c.enums) (IsValidColumn d.enums) (column_grows c.enums d.enums grows.count grows.enums) more (kept.valid c.enums h.columns);
          keys = Each-map (IsValidKey t.columns) (IsValidKey more) (key_kept t.columns more kept) t.keys h.keys;
          links = Each-map (IsValidLink c t.columns) (IsValidLink d more) (link_grows c d t.columns more grows kept.kinds kept.count) t.links h.links;
          one_primary = h.one_primary;
        }

    -- ---- a key

    pub tagged_key : (at : ℕ) → IsValidTable d (with_tags_of_key tags at t)
    tagged_key at =
        let f : KeyDef → KeyDef = λ k. record k { tags = tags } in
        let g = table_grows c d grows t h in
        record {
          named = g.named;
          tags = g.tags;
          column_limit = g.column_limit;
          constraint_limit = omega (arith, length-changed f t.keys at, g.constraint_limit);
          column_names = g.column_names;
          constraint_names = subst (λ (l : List (List ℕ)). AreDistinct (l ++ map (λ q. q.name) t.links)) (sym (map-changed f (λ k. k.name) (λ k. refl) t.keys at)) g.constraint_names;
          columns = g.columns;
          keys = Each-changed f (IsValidKey t.columns) (λ k v. record { named = v.named; tags = texts; columns = v.columns; primary = v.primary }) t.keys at g.keys;
          links = g.links;
          one_primary = omega (arith, as_many tags t.keys at, g.one_primary);
        }

    -- ---- a link

    pub tagged_link : (at : ℕ) → IsValidTable d (with_tags_of_link tags at t)
    tagged_link at =
        let f : LinkDef → LinkDef = λ q. record q { tags = tags } in
        let g = table_grows c d grows t h in
        record {
          named = g.named;
          tags = g.tags;
          column_limit = g.column_limit;
          constraint_limit = omega (arith, length-changed f t.links at, g.constraint_limit);
          column_names = g.column_names;
          constraint_names = subst (λ (l : List (List ℕ)). AreDistinct (map (λ k. k.name) t.keys ++ l)) (sym (map-changed f (λ q. q.name) (λ q. refl) t.links at)) g.constraint_names;
          columns = g.columns;
          keys = g.keys;
          links = Each-changed f (IsValidLink d t.columns) (λ q v. record { named = v.named; tags = texts; columns = v.columns; target = v.target }) t.links at g.links;
          one_primary = g.one_primary;
        }

  pub column_tags_kept : (own : List ColumnDef) (at : ℕ) → Kept own (changed own at (λ column. record column { tags = tags }))
  column_tags_kept own at = column_kept (λ column. record column { tags = tags }) (λ c. refl) (λ c. refl) (λ c h. h) (λ enums c h. record { named = h.named; tags = texts; kind = h.kind; default = h.default; identity = h.identity }) own at
