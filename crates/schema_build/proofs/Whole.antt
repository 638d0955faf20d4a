-- The parts of a schema, put together.
use Rattle.std.proofs.Common.{◌≡◌, ◌<◌, ◌^◌, ℕ, List, map, length, Option, Some, None, arith, sym, subst}
use Rattle.std.specs.Prelude.{if◌then◌else◌}
use Rattle.std.proofs.lemmas.List.{length-map}
use Rattle.pg_base.specs.Catalog.{CatalogParts}
use Rattle.pg_base.specs.Schema.{SchemaParts, IsValidSchema}
use Rattle.pg_base.specs.declared.schema.TypeDef.{TypeDef}
use Rattle.pg_base.specs.declared.role.Role.TheVariants as role
use Rattle.pg_base.specs.Roles.{roles_of, place_of, has_mutation}
use Rattle.pg_base.specs.SchemaOf.{schema_of, type_of_role}

pub few_roles : (c : CatalogParts) → IsValidSchema (schema_of c) → length (roles_of c) < 2 ^ 32
unfolding schema_of
few_roles c h =
    let n = length-map (roles_of c) (type_of_role c (roles_of c)) in
    omega (arith, h.numbered, n)

abbrev parts : List TypeDef → ℕ → Option ℕ → SchemaParts
parts types query mutation = record { types = types; query = query; mutation = mutation }

pub same_parts : (c : CatalogParts) (types : List TypeDef) (query : ℕ) (mutation : Option ℕ)
    → types ≡ map (type_of_role c (roles_of c)) (roles_of c) → query ≡ place_of (roles_of c) role.Query
    → mutation ≡ (if has_mutation c then Some (place_of (roles_of c) role.Mutation) else None)
    → parts types query mutation ≡ schema_of c
unfolding schema_of
same_parts c types query mutation t q m = λ i. record { types = t i; query = q i; mutation = m i }

pub valid_parts : (c : CatalogParts) (types : List TypeDef) (query : ℕ) (mutation : Option ℕ)
    → IsValidSchema (schema_of c)
    → types ≡ map (type_of_role c (roles_of c)) (roles_of c) → query ≡ place_of (roles_of c) role.Query
    → mutation ≡ (if has_mutation c then Some (place_of (roles_of c) role.Mutation) else None)
    → IsValidSchema (parts types query mutation)
valid_parts c types query mutation h t q m = subst IsValidSchema (sym (same_parts c types query mutation t q m)) h
