-- What a key or a link without a fault adds leaves its table valid.
use Rattle.std.proofs.Common.{◌≡◌, ℕ, ◌+◌, ◌<◌, ◌≤◌, Bool, true, false, cond, ◌&&◌, List, [], ◌∷◌, ◌++◌, map, length, filter, Option, None, Some, IsTrue, refl, sym, ap, subst, ◌∙◌, arith, length-append}
use Rattle.std.specs.Prelude.{nat_le, nat_lt}
use Rattle.std.specs.List.{list_any}
use Rattle.std.specs.Option.{option_and_then}
use Rattle.std.specs.Str.{IsUtf8}
use Rattle.std.proofs.lemmas.Bool.Decides.{nat_tests}
use Rattle.std.proofs.lemmas.List.{map-append, length-map}
use Rattle.pg_base.specs.Lists.{Each, AreDistinct, AreBelow}
use Rattle.pg_base.specs.Limits.{most_constraints, most_key_columns}
use Rattle.pg_base.specs.Catalog.{CatalogParts, IsValidTable, IsValidColumn, IsValidKey, IsValidLink, AreColumns, TakesNoNull, constraint_names}
use Rattle.pg_base.specs.declared.table_def.KeyDef.{KeyDef}
use Rattle.pg_base.specs.declared.table_def.TableDef.{TableDef}
use Rattle.pg_catalog.specs.declared.part.KeyPart.{KeyPart}
use Rattle.pg_catalog.specs.Names.{column_names, stands, first_double, is_long, places_of}
use Rattle.pg_catalog.specs.Constraints.{key_name, key_of}
use Rattle.pg_catalog.specs.Faults.{is_second, is_past_constraints}
use Rattle.pg_catalog.specs.Added.{columns_under, holding, not_null_at}
use Rattle.pg_catalog.proofs.EachFacts.{Each-pushed, Each-map}
use Rattle.pg_catalog.proofs.Passed.{or_false}
use Rattle.pg_catalog.proofs.NameFacts.{fresh, AreDistinct-amid, distinct}
use Rattle.pg_catalog.proofs.Grown.{Covers-append, Extends, Grows, link_grows, column_grows, same_columns}
use Rattle.pg_catalog.proofs.ValidParts.{no_texts, short_name}
use Rattle.pg_catalog.proofs.ValidLink.{places_differ, places_below, places_no_more}
use Rattle.pg_catalog.proofs.Changed.{under_kept, all_refused, key_kept}

-- the places of columns that a key or a link names
pub are_columns : (t : TableDef) (some : List (List ℕ)) → first_double some ≡ None → length some ≤ most_key_columns → AreColumns (length t.columns) (places_of (column_names t) some)
are_columns t some differ few = record {
  below = subst (λ (n : ℕ). AreBelow n (places_of (column_names t) some)) (length-map t.columns (λ column. column.name)) (places_below (column_names t) some);
  distinct = places_differ (column_names t) some (distinct some differ);
  limit = omega (arith, places_no_more (column_names t) some);
}

-- no fault in a table that stands is no fault of it
pub in_table : {A : Type 0} (f : A → Option (List ℕ)) (o : Option A) (t : A) → option_and_then f o ≡ None → o ≡ Some t → f t ≡ None
in_table f None t e is = absurd (cc)
in_table f (Some u) t e is = let same : u ≡ t = cc in ap f (sym same) ∙ e

filter-append : {A : Type 0} (test : A → Bool) (xs ys : List A) → filter test (xs ++ ys) ≡ filter test xs ++ filter test ys
filter-append test [] ys = refl
filter-append test (x ∷ xs) ys = go (test x) (filter-append test xs ys)
  where
    go : (b : Bool) → filter test (xs ++ ys) ≡ filter test xs ++ filter test ys → cond b (x ∷ filter test (xs ++ ys)) (filter test (xs ++ ys)) ≡ cond b (x ∷ filter test xs) (filter test xs) ++ filter test ys
    go true e = ap (λ l. x ∷ l) e
    go false e = e

filter_none : {A : Type 0} (test : A → Bool) (xs : List A) → list_any test xs ≡ false → filter test xs ≡ []
filter_none test [] e = refl
filter_none test (x ∷ xs) e =
    let z = or_false (test x) (list_any test xs) e in
    ap (λ b. cond b (x ∷ filter test xs) (filter test xs)) z.0 ∙ filter_none test xs z.1

one_more : (keys : List KeyDef) (key : KeyDef) (b : Bool) → key.primary ≡ b → length (filter (λ k. k.primary) keys) ≤ 1 → (b && list_any (λ k. k.primary) keys) ≡ false → length (filter (λ k. k.primary) keys ++ cond b (key ∷ []) []) ≤ 1
one_more keys key true is few clear = let empty : filter (λ (k : KeyDef). k.primary) keys ≡ [] = filter_none (λ (k : KeyDef). k.primary) keys clear in subst (λ (l : List KeyDef). length (l ++ key ∷ []) ≤ 1) (sym empty) (omega arith)
one_more keys key false is few clear = omega (arith, length-append (filter (λ (k : KeyDef). k.primary) keys) [])

module _ (c d : CatalogParts) (grows : Grows c d) (t : TableDef) (h : IsValidTable c t) (k : KeyPart) (text : IsUtf8 (key_name k)) where
  key_valid : first_double k.columns ≡ None → is_long (key_name k) ≡ false → length k.columns ≤ most_key_columns → IsValidKey (columns_under t.columns (key_of t k)) (key_of t k)
  key_valid differ short few = record {
    named = short_name (key_name k) text short;
    tags = no_texts;
    columns = subst (λ (n : ℕ). AreColumns n (places_of (column_names t) k.columns)) (sym (under_kept t.columns (key_of t k)).count) (are_columns t k.columns differ few);
    primary = go k.primary;
  }
    where
      places : List ℕ
      places = places_of (column_names t) k.columns

      go : (b : Bool) → IsTrue b → Each (TakesNoNull (cond b (not_null_at t.columns places) t.columns)) places
      go true e = all_refused t.columns places (are_columns t k.columns differ few).below
      go false e = absurd (let bad : false ≡ true = e in cc)

  pub holding_valid : stands (constraint_names t) (key_name k) ≡ false → is_second k.primary t ≡ false → is_past_constraints t k.columns ≡ false → first_double k.columns ≡ None → is_long (key_name k) ≡ false → IsValidTable d (holding t (key_of t k))
  holding_valid clear one limits differ short =
      let limit = or_false (nat_le most_constraints (length t.keys + length t.links)) (nat_lt most_key_columns (length k.columns)) limits in
      let kept = under_kept t.columns (key_of t k) in
      let few : length k.columns ≤ most_key_columns = let e = limit.1 in grind (arith, nat_tests) in
      let room : length t.keys + length t.links < most_constraints = let e = limit.0 in grind (arith, nat_tests) in
      record {
        named = h.named;
        tags = h.tags;
        column_limit = omega (arith, kept.count, h.column_limit);
        constraint_limit = omega (arith, length-append t.keys (key_of t k ∷ []));
        column_names = subst (λ (l : List (List ℕ)). AreDistinct l) (sym kept.names) h.column_names;
        constraint_names = subst (λ (l : List (List ℕ)). AreDistinct (l ++ map (λ l. l.name) t.links)) (sym (map-append (λ k. k.name) t.keys (key_of t k ∷ []))) (AreDistinct-amid (map (λ k. k.name) t.keys) (map (λ l. l.name) t.links) (key_name k) h.constraint_names (fresh (constraint_names t) (key_name k) clear));
        columns = Each-map (IsValidColumn c.enums) (IsValidColumn d.enums) (column_grows c.enums d.enums grows.count grows.enums) (columns_under t.columns (key_of t k)) (kept.valid c.enums h.columns);
        keys = Each-pushed (IsValidKey (columns_under t.columns (key_of t k))) t.keys (key_of t k) (Each-map (IsValidKey t.columns) (IsValidKey (columns_under t.columns (key_of t k))) (key_kept t.columns (columns_under t.columns (key_of t k)) kept) t.keys h.keys) (key_valid differ short few);
        links = Each-map (IsValidLink c t.columns) (IsValidLink d (columns_under t.columns (key_of t k))) (link_grows c d t.columns (columns_under t.columns (key_of t k)) grows kept.kinds kept.count) t.links h.links;
        one_primary = subst (λ (l : List KeyDef). length l ≤ 1) (sym (filter-append (λ (q : KeyDef). q.primary) t.keys (key_of t k ∷ []))) (one_more t.keys (key_of t k) k.primary refl h.one_primary one);
      }

-- the table with a key more extends the one before
pub holding_extends : (t : TableDef) (key : KeyDef) → Extends t (holding t key)
holding_extends t key = record {
  columns = (under_kept t.columns key).kinds;
  keys = Covers-append same_columns (λ x. refl) t.keys (key ∷ []);
}
