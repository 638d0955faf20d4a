-- The cases of an enum stand in the type at its place.
use Rattle.std.proofs.Common.{◌≡◌, ℕ, zero, suc, ◌+◌, ◌<◌, ◌≤◌, List, [], ◌∷◌, ◌++◌, map, length, Option, Some, None, inl, inr, refl, sym, ap, ◌∙◌, arith, append_assoc}
use Rattle.std.specs.Prelude.{slice_get, option_map, unwrap_or}
use Rattle.std.proofs.lemmas.Option.{slice_get-map}
use Rattle.pg_base.specs.Base.{BaseParts}
use Rattle.pg_base.specs.Catalog.{CatalogParts}
use Rattle.pg_base.specs.EnumCases.{case_of_label}
use Rattle.pg_base.specs.Listing.{when, each_at}
use Rattle.pg_base.specs.Lookups.{no_enum}
use Rattle.pg_base.specs.Roles.{enum_roles, table_roles, change_roles, has_mutation, roles_of, place_of}
use Rattle.pg_base.specs.Schema.{kind_of, kind_at, cases_of}
use Rattle.pg_base.specs.SchemaOf.{schema_of, type_of_role}
use Rattle.pg_base.specs.declared.enum_def.EnumDef.{EnumDef}
use Rattle.pg_base.specs.declared.role.Role.{Role}
use Rattle.pg_base.specs.declared.role.Role.TheVariants as role
use Rattle.schema_laws.proofs.Leading.{roles_is}
use Rattle.schema_laws.proofs.Orders.{kind_at-place}
use Rattle.schema_laws.proofs.Places.{at_place}
use Rattle.plan_steps.specs.Filled.{enum_cases}

kind_there : (c : CatalogParts) (o : Option Role) (k : ℕ) → slice_get (roles_of c) k ≡ o → kind_at (schema_of c) k ≡ kind_of (option_map (type_of_role c (roles_of c)) o)
unfolding schema_of
kind_there c o k at = ap kind_of (slice_get-map (type_of_role c (roles_of c)) (roles_of c) k ∙ ap (λ x. option_map (type_of_role c (roles_of c)) x) at)

enum_from : (n : ℕ) (es : List EnumDef) (rest : List Role) (i : ℕ) → i < length es → slice_get (each_at enum_roles n es ++ rest) i ≡ Some (role.Enum (n + i))
enum_from n [] rest i lt = absurd (omega (arith, lt))
enum_from n (e ∷ es) rest zero lt = let z : n ≡ n + 0 = omega arith in ap (λ j. Some (role.Enum j)) z
enum_from n (e ∷ es) rest (suc i) lt =
    let z : suc n + i ≡ n + suc i = omega arith in
    enum_from (suc n) es rest i (omega (arith, lt)) ∙ ap (λ j. Some (role.Enum j)) z

roles_there : (c : CatalogParts) → roles_of c ≡ role.BigInt ∷ role.Cursor ∷ role.PageInfo ∷ (each_at enum_roles 0 c.enums ++ (each_at table_roles 0 c.tables ++ role.Query ∷ (when (has_mutation c) role.Mutation ++ each_at change_roles 0 c.tables)))
roles_there c =
    sym (roles_is c)
    ∙ ap (λ l. role.BigInt ∷ role.Cursor ∷ role.PageInfo ∷ l) (append_assoc (each_at enum_roles 0 c.enums) (each_at table_roles 0 c.tables) (role.Query ∷ (when (has_mutation c) role.Mutation ++ each_at change_roles 0 c.tables)))

enum_there : (c : CatalogParts) (i : ℕ) → i < length c.enums → slice_get (roles_of c) (3 + i) ≡ Some (role.Enum i)
enum_there c i lt =
    let rest = each_at table_roles 0 c.tables ++ role.Query ∷ (when (has_mutation c) role.Mutation ++ each_at change_roles 0 c.tables) in
    let e : 3 + i ≡ suc (suc (suc i)) = omega arith in
    let z : 0 + i ≡ i = omega arith in
    ap (λ k. slice_get (roles_of c) k) e
    ∙ ap (λ l. slice_get l (suc (suc (suc i)))) (roles_there c)
    ∙ enum_from 0 c.enums rest i lt ∙ ap (λ k. Some (role.Enum k)) z

none_past : (es : List EnumDef) (e : ℕ) → length es ≤ e → slice_get es e ≡ None
none_past [] e le = refl
none_past (x ∷ es) zero le = absurd (omega (arith, le))
none_past (x ∷ es) (suc e) le = none_past es e (omega (arith, le))

module _ (base : BaseParts) (of_catalog : base.schema ≡ schema_of base.catalog) where
  pub cases_within : (e : ℕ) → e < length base.catalog.enums → cases_of (kind_at base.schema (3 + e)) ≡ enum_cases base e
  cases_within e lt =
      let c = base.catalog in
      let there = enum_there c e lt in
      ap (λ s. cases_of (kind_at s (3 + e))) of_catalog
      ∙ ap cases_of (kind_there c (Some (role.Enum e)) (3 + e) there)
      ∙ sym (ap cases_of (kind_at-place c (role.Enum e) (3 + e, there)))
      ∙ sym (ap (λ s. cases_of (kind_at s (place_of (roles_of c) (role.Enum e)))) of_catalog)

  pub cases_past : (e : ℕ) → length base.catalog.enums ≤ e → enum_cases base e ≡ []
  cases_past e le =
      ap (λ s. cases_of (kind_at s (place_of (roles_of base.catalog) (role.Enum e)))) of_catalog
      ∙ elim (at_place (roles_of base.catalog) (role.Enum e)) [
        | inl there ↦ ap cases_of (kind_there base.catalog (Some (role.Enum e)) (place_of (roles_of base.catalog) (role.Enum e)) there)
            ∙ ap (λ o. map case_of_label (unwrap_or o no_enum).cases) (none_past base.catalog.enums e le)
        | inr none ↦ ap cases_of (kind_there base.catalog None (place_of (roles_of base.catalog) (role.Enum e)) none)
      ]
