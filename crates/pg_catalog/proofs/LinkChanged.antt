-- The look-ups after a link is added.
use Rattle.std.proofs.Common.{◌≡◌, ℕ, suc, ◌<◌, Bool, true, false, not, ◌||◌, cond, List, [], ◌∷◌, length, Option, None, Some, unwrap_or, refl, sym, ap, subst, ◌∙◌, arith}
use Rattle.std.specs.Prelude.{nat_lt}
use Rattle.std.specs.List.{slice_get, slice_set, list_any, cons_option, position_or_len}
use Rattle.std.specs.Option.{option_and_then, option_or, is_some}
use Rattle.std.specs.Str.{IsUtf8, bytes_eq}
use Rattle.std.proofs.lemmas.Bool.Decides.{nat_tests}
use Rattle.pg_base.specs.Lists.{Each}
use Rattle.pg_base.specs.Tags.{no_tags}
use Rattle.pg_base.specs.Catalog.{CatalogParts, IsValidTable, constraint_names}
use Rattle.pg_base.specs.declared.table_def.TableDef.{TableDef}
use Rattle.pg_catalog.specs.declared.part.Part.TheVariants as part
use Rattle.pg_catalog.specs.declared.part.LinkPart.{LinkPart}
use Rattle.pg_catalog.specs.Names.{table_names, column_names, place_of, places_of, table_of, stands, is_long, first_double}
use Rattle.pg_catalog.specs.Constraints.{link_name, link_of, target_places}
use Rattle.pg_catalog.specs.Faults.{when, fault_of, is_past_constraints, unknown, unknown_of, first_unknown, double_in, finds_key, finds_kinds}
use Rattle.pg_catalog.specs.Added.{added, with_link, with_link_to, linked}
use Rattle.pg_catalog.specs.Indexed.{IsIndexed}
use Rattle.pg_catalog.proofs.EachFacts.{Each-get}
use Rattle.pg_catalog.proofs.Passed.{passed, failed, not_false}
use Rattle.pg_catalog.proofs.Valid.{none_found}
use Rattle.pg_catalog.proofs.Replaced.{reindexed, after_grows}
use Rattle.pg_catalog.proofs.ValidKey.{in_table}
use Rattle.pg_catalog.proofs.ValidLinkPart.{linked_valid, linked_extends}
use Rattle.pg_catalog.proofs.TablesChanged.{found, changed_there, unchanged}

-- an item that passes stands before the end
before_end : {A : Type 0} (p : A → Bool) (xs : List A) → list_any p xs ≡ true → position_or_len p xs < length xs
before_end p [] e = absurd (cc)
before_end p (x ∷ xs) e = go (p x) refl (λ (h : list_any p xs ≡ true). before_end p xs h)
  where
    go : (v : Bool) → p x ≡ v → (list_any p xs ≡ true → position_or_len p xs < length xs) → position_or_len p (x ∷ xs) < length (x ∷ xs)
    go true hit later = rw hit (omega arith)
    go false miss later = let h = later (sym (ap (λ b. b || list_any p xs) miss) ∙ e) in rw miss (omega (arith, h))

stands_somewhere : (names : List (List ℕ)) (name : List ℕ) → stands names name ≡ true → place_of names name ≡ Some (position_or_len (bytes_eq name) names)
stands_somewhere names name e =
    let lt = before_end (bytes_eq name) names e in
    let holds : nat_lt (position_or_len (bytes_eq name) names) (length names) ≡ true = grind (arith, nat_tests) in
    ap (λ b. cond b (Some (position_or_len (bytes_eq name) names)) None) holds

-- names that all stand have as many places
all_placed : (names some : List (List ℕ)) → Each (λ name. not (stands names name) ≡ false) some → length (places_of names some) ≡ length some
all_placed names [] h = refl
all_placed names (x ∷ xs) h =
    ap (λ o. length (cons_option o (places_of names xs))) (stands_somewhere names x (not_false (stands names x) h.0)) ∙ ap suc (all_placed names xs h.1)

neither : {A : Type 0} (a b : Option A) → option_or a b ≡ None → a ≡ None
neither None b e = refl
neither (Some x) b e = absurd (cc)

module _ (c s : CatalogParts) (is : c ≡ s) (es ts : List (List ℕ)) (cs : List (List (List ℕ))) (h : IsIndexed c es ts cs) where
  module _ (l : LinkPart) (none : fault_of s (part.Link l) ≡ None) (text : IsUtf8 (link_name l)) (at : ℕ) (t : TableDef) (place : place_of (table_names c) l.table ≡ Some at) (there : slice_get c.tables at ≡ Some t) (to : ℕ) (target : TableDef) (target_place : place_of (table_names c) l.target ≡ Some to) (target_there : slice_get c.tables to ≡ Some target) where
    pub link_indexed : (tables : List TableDef) → tables ≡ slice_set c.tables at (linked t (link_of c t target l)) → IsIndexed (record { enums = c.enums; tables = tables }) es ts cs
    link_indexed tables made =
        let u = linked t (link_of c t target l) in
        let p = passed c (part.Link l) (ap (λ d. fault_of d (part.Link l)) is ∙ none) in
        let own = found c l.table at t place there in
        let other = found c l.target to target target_place target_there in
        let clear = failed (stands (constraint_names t) (link_name l)) (link_name l) (in_table (λ t. when (stands (constraint_names t) (link_name l)) (link_name l)) (table_of c l.table) t p.constraint own) in
        let limits = failed (is_past_constraints t l.columns) l.table (in_table (λ t. when (is_past_constraints t l.columns) l.table) (table_of c l.table) t p.limit own) in
        let short = failed (is_long (link_name l)) (link_name l) p.short in
        let differ = neither (first_double l.columns) (double_in l.target_columns) p.column in
        let known = in_table (first_unknown l.columns) (table_of c l.table) t (neither (unknown_of c l.table l.columns) (option_and_then (unknown_of c l.target) l.target_columns) p.known) own in
        let all = all_placed (column_names t) l.columns (none_found (λ column. not (stands (column_names t) column)) l.columns known) in
        let key = not_false (finds_key l target) (failed (not (finds_key l target)) (link_name l) (in_table (λ target. when (not (finds_key l target)) (link_name l)) (table_of c l.target) target p.key other)) in
        let kinds = not_false (finds_kinds l t target) (failed (not (finds_kinds l t target)) (link_name l) (in_table (λ target. when (not (finds_kinds l t target)) (link_name l)) (table_of c l.target) target (in_table (λ t. option_and_then (λ target. when (not (finds_kinds l t target)) (link_name l)) (table_of c l.target)) (table_of c l.table) t p.types own) other)) in
        let extends = linked_extends t (link_of c t target l) in
        let valid = h.valid.tables in
        let to_target : slice_get c.tables (unwrap_or (place_of (table_names c) l.target) 0) ≡ Some target = ap (λ (o : Option ℕ). slice_get c.tables (unwrap_or o 0)) target_place ∙ target_there in
        let good = linked_valid c (record c { tables = slice_set c.tables at u }) (after_grows c at t u there refl extends) t (Each-get (IsValidTable c) c.tables at t valid there) l text target (Each-get (IsValidTable c) c.tables to target valid target_there) to_target all key kinds clear limits differ short in
        subst (λ (q : List TableDef). IsIndexed (record { enums = c.enums; tables = q }) es ts cs) (sym made) (reindexed c at t u there refl extends es ts cs h refl good)

    pub link_added : (tables : List TableDef) → tables ≡ slice_set c.tables at (linked t (link_of c t target l)) → (r : CatalogParts) → r ≡ record { enums = c.enums; tables = tables } → r ≡ added s (part.Link l)
    unfolding added
    link_added tables made r same =
        same ∙ ap (λ (q : List TableDef). record { enums = c.enums; tables = q }) made
        ∙ ap (λ (o : Option TableDef). record c { tables = slice_set c.tables at (with_link_to c l o t) }) (sym (found c l.target to target target_place target_there))
        ∙ sym (changed_there c l.table (with_link c l) at t place there) ∙ ap (λ (d : CatalogParts). added d (part.Link l)) is

    pub link_made : (name columns : List ℕ) (places : Option (List ℕ)) → name ≡ link_name l → columns ≡ places_of (column_names t) l.columns → places ≡ target_places target l.target_columns → (new : TableDef) → new ≡ linked t (record { name = name; columns = columns; target = to; target_columns = unwrap_or places []; tags = no_tags }) → new ≡ linked t (link_of c t target l)
    link_made name columns places e f g new made =
        made ∙ ap (λ (n : List ℕ). linked t (record { name = n; columns = columns; target = to; target_columns = unwrap_or places []; tags = no_tags })) e
        ∙ ap (λ (n : List ℕ). linked t (record { name = link_name l; columns = n; target = to; target_columns = unwrap_or places []; tags = no_tags })) f
        ∙ ap (λ (o : Option (List ℕ)). linked t (record { name = link_name l; columns = places_of (column_names t) l.columns; target = to; target_columns = unwrap_or o []; tags = no_tags })) g
        ∙ ap (λ (o : Option ℕ). linked t (record { name = link_name l; columns = places_of (column_names t) l.columns; target = unwrap_or o 0; target_columns = unwrap_or (target_places target l.target_columns) []; tags = no_tags })) (sym target_place)

-- where no table has the name, or no target, nothing changes
pub link_unchanged : (s : CatalogParts) (l : LinkPart) → place_of (table_names s) l.table ≡ None → s ≡ added s (part.Link l)
unfolding added
link_unchanged s l is = unchanged s l.table (with_link s l) is

either_none : {A : Type 0} (a b : Option A) → option_or a b ≡ None → b ≡ None
either_none None b e = e
either_none (Some x) b e = absurd (cc)

-- the target of a link without a fault stands
pub target_stands : (s : CatalogParts) (l : LinkPart) → fault_of s (part.Link l) ≡ None → place_of (table_names s) l.target ≡ None → ⊥
target_stands s l none e =
    let p = passed s (part.Link l) none in
    let missing : unknown s l.target ≡ None = either_none (unknown s l.table) (unknown s l.target) p.table in
    let gone : table_of s l.target ≡ None = ap (λ (o : Option ℕ). option_and_then (slice_get s.tables) o) e in
    let bad : Some l.target ≡ None = sym (ap (λ (o : Option TableDef). when (not (is_some o)) l.target) gone) ∙ missing in
    absurd (cc)
