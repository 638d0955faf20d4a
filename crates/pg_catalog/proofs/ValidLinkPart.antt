-- What a link without a fault adds leaves its table valid.
use Rattle.std.proofs.Common.{◌≡◌, ℕ, ◌+◌, ◌<◌, ◌≤◌, true, false, ◌==◌, List, [], ◌∷◌, ◌++◌, map, length, Option, None, Some, IsSomeAnd, unwrap_or, refl, sym, ap, subst, ◌∙◌, arith, append_assoc, length-append}
use Rattle.std.specs.Prelude.{nat_le, nat_lt}
use Rattle.std.specs.List.{slice_get}
use Rattle.std.specs.Str.{IsUtf8}
use Rattle.std.proofs.lemmas.Bool.Decides.{nat_tests}
use Rattle.std.proofs.lemmas.List.{map-append}
use Rattle.pg_base.specs.Lists.{Each, AreDistinct, EachPair}
use Rattle.pg_base.specs.Limits.{most_constraints, most_key_columns}
use Rattle.pg_base.specs.Catalog.{CatalogParts, IsValidTable, IsValidColumn, IsValidKey, IsValidLink, CanCompare, AreKeyOf, RefersTo, constraint_names}
use Rattle.pg_base.specs.declared.table_def.LinkDef.{LinkDef}
use Rattle.pg_base.specs.declared.table_def.TableDef.{TableDef}
use Rattle.pg_catalog.specs.declared.part.LinkPart.{LinkPart}
use Rattle.pg_catalog.specs.Names.{table_names, column_names, stands, first_double, is_long, place_of, places_of}
use Rattle.pg_catalog.specs.Constraints.{link_name, link_of, target_places, are_key}
use Rattle.pg_catalog.specs.Faults.{meets_key, meets_kinds, finds_key, finds_kinds, is_past_constraints}
use Rattle.pg_catalog.specs.Added.{linked}
use Rattle.pg_catalog.proofs.EachFacts.{Each-pushed, Each-map}
use Rattle.pg_catalog.proofs.Passed.{and_true, or_false}
use Rattle.pg_catalog.proofs.NameFacts.{fresh, AreDistinct-pushed}
use Rattle.pg_catalog.proofs.Grown.{Covers-refl, Extends, Grows, link_grows, column_grows, same_kind, same_columns}
use Rattle.pg_catalog.proofs.ValidParts.{no_texts, short_name}
use Rattle.pg_catalog.proofs.ValidLink.{pairs, key_found}
use Rattle.pg_catalog.proofs.ValidKey.{are_columns}

-- the link's columns refer to a key of the target
refers : (c : CatalogParts) (t target : TableDef) (l : LinkPart) → Each (λ k. AreDistinct k.columns) target.keys → (o : Option (List ℕ)) → meets_key (length (places_of (column_names t) l.columns)) target o ≡ true → meets_kinds t target l o ≡ true → AreKeyOf target (unwrap_or o []) × EachPair (CanCompare t.columns target.columns) (places_of (column_names t) l.columns) (unwrap_or o [])
refers c t target l d None e f = absurd (cc)
refers c t target l d (Some places) e f =
    let both = and_true (length (places_of (column_names t) l.columns) == length places) (are_key target places) e in
    let count : (length (places_of (column_names t) l.columns) == length places) ≡ true = both.0 in
    (key_found target.keys places d both.1, pairs t target (places_of (column_names t) l.columns) places (grind (arith, nat_tests)) f)

module _ (c d : CatalogParts) (grows : Grows c d) (t : TableDef) (h : IsValidTable c t) (l : LinkPart) (text : IsUtf8 (link_name l)) where
  pub linked_valid : (target : TableDef) → IsValidTable c target → slice_get c.tables (unwrap_or (place_of (table_names c) l.target) 0) ≡ Some target → length (places_of (column_names t) l.columns) ≡ length l.columns → finds_key l target ≡ true → finds_kinds l t target ≡ true → stands (constraint_names t) (link_name l) ≡ false → is_past_constraints t l.columns ≡ false → first_double l.columns ≡ None → is_long (link_name l) ≡ false → IsValidTable d (linked t (link_of c t target l))
  linked_valid target good there all key kinds clear limits differ short =
      let limit = or_false (nat_le most_constraints (length t.keys + length t.links)) (nat_lt most_key_columns (length l.columns)) limits in
      let few : length l.columns ≤ most_key_columns = let e = limit.1 in grind (arith, nat_tests) in
      let room : length t.keys + length t.links < most_constraints = let e = limit.0 in grind (arith, nat_tests) in
      let found : meets_key (length (places_of (column_names t) l.columns)) target (target_places target l.target_columns) ≡ true = ap (λ (n : ℕ). meets_key n target (target_places target l.target_columns)) all ∙ key in
      let keys_apart = Each-map (IsValidKey target.columns) (λ k. AreDistinct k.columns) (λ k g. g.columns.distinct) target.keys good.keys in
      let to : RefersTo t.columns (link_of c t target l) target = refers c t target l keys_apart (target_places target l.target_columns) found kinds in
      let own : IsValidLink c t.columns (link_of c t target l) = record {
        named = short_name (link_name l) text short;
        tags = no_texts;
        columns = are_columns t l.columns differ few;
        target = subst (λ (o : Option TableDef). IsSomeAnd o (RefersTo t.columns (link_of c t target l))) (sym there) to;
      } in
      record {
        named = h.named;
        tags = h.tags;
        column_limit = h.column_limit;
        constraint_limit = omega (arith, length-append t.links (link_of c t target l ∷ []));
        column_names = h.column_names;
        constraint_names = subst (λ (n : List (List ℕ)). AreDistinct n) (append_assoc (map (λ k. k.name) t.keys) (map (λ q. q.name) t.links) (link_name l ∷ []) ∙ ap (λ (n : List (List ℕ)). map (λ k. k.name) t.keys ++ n) (sym (map-append (λ q. q.name) t.links (link_of c t target l ∷ [])))) (AreDistinct-pushed (constraint_names t) (link_name l) h.constraint_names (fresh (constraint_names t) (link_name l) clear));
        columns = Each-map (IsValidColumn c.enums) (IsValidColumn d.enums) (column_grows c.enums d.enums grows.count grows.enums) t.columns h.columns;
        keys = h.keys;
        links = Each-map (IsValidLink c t.columns) (IsValidLink d t.columns) (link_grows c d t.columns t.columns grows (Covers-refl same_kind (λ x. refl) t.columns) refl) (t.links ++ link_of c t target l ∷ []) (Each-pushed (IsValidLink c t.columns) t.links (link_of c t target l) h.links own);
        one_primary = h.one_primary;
      }

pub linked_extends : (t : TableDef) (link : LinkDef) → Extends t (linked t link)
linked_extends t link = record {
  columns = Covers-refl same_kind (λ x. refl) t.columns;
  keys = Covers-refl same_columns (λ x. refl) t.keys;
}
