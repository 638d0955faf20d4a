-- The examples of valid catalogs are valid, and the others aren't.
use Rattle.std.proofs.Common.{◌≡◌, ◌≢◌, ℕ, zero, suc, pos, ◌<◌, Bool, true, false, ◌&&◌, not, nat_le, List, [], ◌∷◌, length, refl, sym, subst, arith}
use Rattle.std.specs.Prelude.{slice_get, IsSomeAnd, IsPermutation, codes}
use Rattle.std.specs.List.{list_all}
use Rattle.std.specs.Str.{bytes_eq}
use Rattle.std.proofs.lemmas.Bool.Decides.{nat_tests}
use Rattle.std.proofs.lemmas.Int.{ints}
use Rattle.std.proofs.lemmas.Slice.Eq.{bytes_eq-Decides}
use Rattle.std.proofs.lemmas.List.Sorted.{IsPermutation-refl, IsPermutation-append_comm}
use Rattle.pg_base.specs.Lists.{Each, AreDistinct}
use Rattle.pg_base.specs.Limits.{most_name_bytes}
use Rattle.pg_base.specs.Tags.{no_tags}
use Rattle.pg_base.specs.Kind.{IsKind, CanCount}
use Rattle.pg_base.specs.Catalog.{CatalogParts, IsObjectName, AreTexts, IsValidColumn, AreColumns, TakesNoNull, IsValidKey, IsValidTable, IsValidCatalog}
use Rattle.pg_base.specs.declared.cell.Cell.TheVariants as cell
use Rattle.pg_base.specs.declared.kind.Kind.{Kind}
use Rattle.pg_base.specs.declared.kind.Kind.TheVariants as kind
use Rattle.pg_base.specs.declared.enum_def.EnumDef.{EnumDef}
use Rattle.pg_base.specs.declared.table_def.ColumnDef.{ColumnDef}
use Rattle.pg_base.specs.declared.table_def.KeyDef.{KeyDef}
use Rattle.schema_laws.proofs.Ascii.{and_left, and_right, are_low, ascii}
use Rattle.schema_laws.specs.Examples as example
use Rattle.schema_laws.specs.Examples.{column, not_null, identity, primary, unique, table, catalog, valid_catalogs, invalid_catalogs}

-- ---- what a test over short lists shows

differs : (name other : List ℕ) → not (bytes_eq name other) ≡ true → name ≢ other
differs name other e h = let t : bytes_eq name other ≡ true = (bytes_eq-Decides name other).1 h in flipped (bytes_eq name other) e t
  where
    flipped : (v : Bool) → not v ≡ true → v ≡ true → ⊥
    flipped true e t = cc
    flipped false e t = cc

abbrev is_new : List ℕ → List (List ℕ) → Bool
is_new name names = list_all (λ other. not (bytes_eq name other)) names

abbrev all_new : List (List ℕ) → Bool
all_new [] = true
all_new (name ∷ names) = is_new name names && all_new names

apart : (name : List ℕ) (names : List (List ℕ)) → is_new name names ≡ true → Each (λ other. name ≢ other) names
apart name [] e = tt
apart name (other ∷ names) e = (differs name other (and_left (not (bytes_eq name other)) (is_new name names) e), apart name names (and_right (not (bytes_eq name other)) (is_new name names) e))

distinct : (names : List (List ℕ)) → all_new names ≡ true → AreDistinct names
distinct [] e = tt
distinct (name ∷ names) e = (apart name names (and_left (is_new name names) (all_new names) e), distinct names (and_right (is_new name names) (all_new names) e))

-- ---- valid parts

named : (name : List ℕ) → are_low name ≡ true → nat_le (length name) most_name_bytes ≡ true → IsObjectName name
named name e f = (ascii name e, grind (arith, nat_tests, f))

no_texts : AreTexts no_tags
no_texts = record { name = tt; field_name = tt; foreign_field_name = tt; deprecated = tt; description = tt }

plain : (enums : List EnumDef) (name : List ℕ) (k : Kind) → IsObjectName name → IsKind enums k → IsValidColumn enums (column name k)
plain enums name k n h = record { named = n; tags = no_texts; kind = h; default = tt; identity = λ e. cc }

plain_not_null : (enums : List EnumDef) (name : List ℕ) (k : Kind) → IsObjectName name → IsKind enums k → IsValidColumn enums (not_null name k)
plain_not_null enums name k n h = record { named = n; tags = no_texts; kind = h; default = tt; identity = λ e. cc }

counted : (enums : List EnumDef) (name : List ℕ) (k : Kind) → IsObjectName name → IsKind enums k → CanCount k → IsValidColumn enums (identity name k)
counted enums name k n h can = record { named = n; tags = no_texts; kind = h; default = tt; identity = λ e. can }

one_place : (width place : ℕ) → place < width → AreColumns width (place ∷ [])
one_place width place h = record { below = (h, tt); distinct = (tt, tt); limit = omega arith }

key_of_one : (own : List ColumnDef) (k : KeyDef) (place : ℕ) → IsObjectName k.name → k.tags ≡ no_tags → k.columns ≡ place ∷ [] → place < length own
    → (k.primary ≡ true → TakesNoNull own place) → IsValidKey own k
key_of_one own k place n e f h p = record {
  named = n;
  tags = subst AreTexts (sym e) no_texts;
  columns = subst (λ (places : List ℕ). AreColumns (length own) places) (sym f) (one_place (length own) place h);
  primary = λ on. subst (λ (places : List ℕ). Each (TakesNoNull own) places) (sym f) (p on, tt);
}

-- ---- the valid catalogs

t_valid : (c : CatalogParts) → IsValidTable c example.t_by_id
t_valid c = record {
  named = named (codes "t") refl refl;
  tags = no_texts;
  column_limit = omega arith;
  constraint_limit = omega arith;
  column_names = distinct (codes "id" ∷ []) refl;
  constraint_names = distinct (codes "t_pkey" ∷ []) refl;
  columns = (plain_not_null c.enums (codes "id") kind.Int (named (codes "id") refl refl) tt, tt);
  keys = (key_of_one example.t_by_id.columns (primary (codes "t_pkey") (0 ∷ [])) 0 (named (codes "t_pkey") refl refl) refl refl (omega arith) (λ e. refl), tt);
  links = tt;
  one_primary = omega arith;
}

empty_valid : IsValidCatalog example.empty
empty_valid = record { enum_limit = omega arith; table_limit = omega arith; names = tt; enums = tt; tables = tt }

one_table_valid : IsValidCatalog example.one_table
one_table_valid = record { enum_limit = omega arith; table_limit = omega arith; names = distinct (codes "t" ∷ []) refl; enums = tt; tables = (t_valid example.one_table, tt) }

linked_valid : IsValidCatalog example.linked
linked_valid =
    let c = example.linked in
    let own = example.u_to_t.columns in
    let u : IsValidTable c example.u_to_t = record {
      named = named (codes "u") refl refl;
      tags = no_texts;
      column_limit = omega arith;
      constraint_limit = omega arith;
      column_names = distinct (codes "t_id" ∷ []) refl;
      constraint_names = distinct (codes "u_t_id_fkey" ∷ []) refl;
      columns = (plain [] (codes "t_id") kind.BigInt (named (codes "t_id") refl refl) tt, tt);
      keys = tt;
      links = (
        record {
          named = named (codes "u_t_id_fkey") refl refl;
          tags = no_texts;
          columns = one_place 1 0 (omega arith);
          target = ((0, IsPermutation-refl (0 ∷ [])), (refl, tt));
        },
        tt,
      );
      one_primary = omega arith;
    } in
    record { enum_limit = omega arith; table_limit = omega arith; names = distinct (codes "t" ∷ codes "u" ∷ []) refl; enums = tt; tables = (t_valid c, (u, tt)) }

tree_valid : IsValidCatalog example.tree
tree_valid =
    let own = not_null (codes "id") kind.Int ∷ column (codes "up") kind.Int ∷ [] in
    record {
      enum_limit = omega arith;
      table_limit = omega arith;
      names = distinct (codes "t" ∷ []) refl;
      enums = tt;
      tables = (
        record {
          named = named (codes "t") refl refl;
          tags = no_texts;
          column_limit = omega arith;
          constraint_limit = omega arith;
          column_names = distinct (codes "id" ∷ codes "up" ∷ []) refl;
          constraint_names = distinct (codes "t_pkey" ∷ codes "t_up_fkey" ∷ []) refl;
          columns = (plain_not_null [] (codes "id") kind.Int (named (codes "id") refl refl) tt, (plain [] (codes "up") kind.Int (named (codes "up") refl refl) tt, tt));
          keys = (key_of_one own (primary (codes "t_pkey") (0 ∷ [])) 0 (named (codes "t_pkey") refl refl) refl refl (omega arith) (λ e. refl), tt);
          links = (
            record {
              named = named (codes "t_up_fkey") refl refl;
              tags = no_texts;
              columns = one_place 2 1 (omega arith);
              target = ((0, IsPermutation-refl (0 ∷ [])), (refl, tt));
            },
            tt,
          );
          one_primary = omega arith;
        },
        tt,
      );
    }

two_places : (a b : ℕ) → a < 2 → b < 2 → a ≢ b → AreColumns 2 (a ∷ b ∷ [])
two_places a b h k ne = record { below = (h, (k, tt)); distinct = ((ne, tt), (tt, tt)); limit = omega arith }

a_and_b_valid : Each (IsValidColumn []) example.a_and_b
a_and_b_valid = (plain_not_null [] (codes "a") kind.Int (named (codes "a") refl refl) tt, (plain_not_null [] (codes "b") (kind.Varchar 5) (named (codes "b") refl refl) (omega arith, omega arith), tt))

key_in_other_order_valid : IsValidCatalog example.key_in_other_order
key_in_other_order_valid = record {
  enum_limit = omega arith;
  table_limit = omega arith;
  names = distinct (codes "p" ∷ codes "q" ∷ []) refl;
  enums = tt;
  tables = (
    record {
      named = named (codes "p") refl refl;
      tags = no_texts;
      column_limit = omega arith;
      constraint_limit = omega arith;
      column_names = distinct (codes "a" ∷ codes "b" ∷ []) refl;
      constraint_names = distinct (codes "p_pkey" ∷ []) refl;
      columns = a_and_b_valid;
      keys = (record { named = named (codes "p_pkey") refl refl; tags = no_texts; columns = two_places 0 1 (omega arith) (omega arith) (λ e. cc); primary = λ e. (refl, (refl, tt)) }, tt);
      links = tt;
      one_primary = omega arith;
    },
    (
      record {
        named = named (codes "q") refl refl;
        tags = no_texts;
        column_limit = omega arith;
        constraint_limit = omega arith;
        column_names = distinct (codes "a" ∷ codes "b" ∷ []) refl;
        constraint_names = distinct (codes "q_fkey" ∷ []) refl;
        columns = a_and_b_valid;
        keys = tt;
        links = (
          record {
            named = named (codes "q_fkey") refl refl;
            tags = no_texts;
            columns = two_places 1 0 (omega arith) (omega arith) (λ e. cc);
            target = ((0, IsPermutation-append_comm (0 ∷ []) (1 ∷ [])), (refl, (refl, tt)));
          },
          tt,
        );
        one_primary = omega arith;
      },
      tt,
    ),
  );
}

enums_and_identity_valid : IsValidCatalog example.enums_and_identity
enums_and_identity_valid =
    let mood = example.enum (codes "mood") (codes "sad" ∷ codes "ok" ∷ []) in
    let own = identity (codes "id") kind.BigInt ∷ example.with_default (codes "m") (kind.Enum 0) (cell.EnumCase 1)
    ∷ example.with_default (codes "b") kind.Bool (cell.Bool true) ∷ example.with_default (codes "n") kind.Int (cell.Int (pos 7)) ∷ [] in
    record {
      enum_limit = omega arith;
      table_limit = omega arith;
      names = distinct (codes "mood" ∷ codes "t" ∷ []) refl;
      enums = (record { named = named (codes "mood") refl refl; tags = no_texts; cases = (ascii (codes "sad") refl, (ascii (codes "ok") refl, tt)); limit = omega arith }, tt);
      tables = (
        record {
          named = named (codes "t") refl refl;
          tags = no_texts;
          column_limit = omega arith;
          constraint_limit = omega arith;
          column_names = distinct (codes "id" ∷ codes "m" ∷ codes "b" ∷ codes "n" ∷ []) refl;
          constraint_names = distinct (codes "t_id_key" ∷ codes "t_m_key" ∷ []) refl;
          columns = (
            counted (mood ∷ []) (codes "id") kind.BigInt (named (codes "id") refl refl) tt refl,
            (
              record { named = named (codes "m") refl refl; tags = no_texts; kind = omega arith; default = omega arith; identity = λ e. cc },
              (
                record { named = named (codes "b") refl refl; tags = no_texts; kind = tt; default = tt; identity = λ e. cc },
                (record { named = named (codes "n") refl refl; tags = no_texts; kind = tt; default = omega (arith, ints); identity = λ e. cc }, tt),
              ),
            ),
          );
          keys = (
            key_of_one own (unique (codes "t_id_key") (0 ∷ [])) 0 (named (codes "t_id_key") refl refl) refl refl (omega arith) (λ e. cc),
            (key_of_one own (unique (codes "t_m_key") (1 ∷ [])) 1 (named (codes "t_m_key") refl refl) refl refl (omega arith) (λ e. cc), tt),
          );
          links = tt;
          one_primary = omega arith;
        },
        tt,
      );
    }

pub all_valid : Each IsValidCatalog valid_catalogs
all_valid = (empty_valid, (one_table_valid, (linked_valid, (tree_valid, (key_in_other_order_valid, (enums_and_identity_valid, tt))))))

-- ---- the invalid ones

no_key_at : (at : ℕ) (P : KeyDef → Type 0) → IsSomeAnd (slice_get [] at) P → ⊥
no_key_at zero P h = h
no_key_at (suc at) P h = h

pub none_valid : Each (λ c. IsValidCatalog c → ⊥) invalid_catalogs
none_valid = (
  λ v. v.names.0.0 refl,
  (
    λ v. v.names.0.0 refl,
    (
      λ v. v.tables.0.column_names.0.0 refl,
      (
        λ v. v.tables.0.constraint_names.0.0 refl,
        (
          λ v. let h = v.tables.0.named.1 in omega (arith, h),
          (
            λ v. let h = v.tables.0.columns.0.kind.0 in omega (arith, h),
            (
              λ v. let h = v.tables.0.columns.0.kind in omega (arith, h),
              (
                λ v. let h = v.tables.0.columns.0.identity refl in cc,
                (
                  λ v. v.tables.0.columns.0.default,
                  (
                    λ v. let h = v.tables.0.columns.0.default in omega (arith, h),
                    (
                      λ v. let h = v.tables.0.keys.0.columns.below.0 in omega (arith, h),
                      (
                        λ v. v.tables.0.keys.0.columns.distinct.0.0 refl,
                        (
                          λ v. let h = v.tables.0.keys.0.primary refl in let e = h.0 in cc,
                          (
                            λ v. let h = v.tables.0.one_primary in omega (arith, h),
                            (
                              λ v. v.tables.0.links.0.target,
                              (
                                λ v. let k = v.tables.0.links.0.target.0 in no_key_at k.0 (λ m. IsPermutation m.columns (0 ∷ [])) k.1,
                                (λ v. let e = v.tables.1.0.links.0.target.1.0 in cc, tt),
                              ),
                            ),
                          ),
                        ),
                      ),
                    ),
                  ),
                ),
              ),
            ),
          ),
        ),
      ),
    ),
  ),
)
