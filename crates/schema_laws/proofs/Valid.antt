-- The schema of a valid catalog is valid.
use Rattle.std.proofs.Common.{◌≡◌, ℕ, ◌≤◌, Bool, true, false, List, [], ◌∷◌, map, length, Option, Some, None, refl, sym, ap, ◌∙◌, subst, arith}
use Rattle.std.specs.Prelude.{IsSomeAnd, IfSome, option_map, if◌then◌else◌}
use Rattle.std.proofs.lemmas.Option.{slice_get-map}
use Rattle.std.proofs.lemmas.List.{length-map}
use Rattle.pg_base.specs.Lists.{Each}
use Rattle.pg_base.specs.Catalog.{CatalogParts, IsValidCatalog}
use Rattle.pg_base.specs.declared.schema.TypeDef.{TypeDef}
use Rattle.pg_base.specs.declared.role.Role.{Role}
use Rattle.pg_base.specs.declared.role.Role.TheVariants as role
use Rattle.pg_base.specs.Schema.{SchemaParts, AreFew, fields_of, is_object, IsObjectAt, IsValidField, IsValidType, IsValidSchema}
use Rattle.pg_base.specs.Roles.{roles_of, has_mutation, place_of}
use Rattle.pg_base.specs.SchemaOf.{kind_of_role, type_of_role, schema_of}
use Rattle.schema_laws.proofs.Eaches.{Has}
use Rattle.schema_laws.proofs.Places.{found}
use Rattle.schema_laws.proofs.InRoles.{has_query, has_mutation_type}
use Rattle.schema_laws.proofs.Numbers.{IsNumbered, is_numbered}
use Rattle.schema_laws.proofs.TypedRoles.{IsTypedField, IsTypedType, is_typed}
use Rattle.schema_laws.proofs.Counted.{AreSmall, are_small, HasFew, has_few}

Each-both : {A : Type 0} (P Q R : A → Type 0) (xs : List A) → ((x : A) → P x → Q x → R x) → Each P xs → Each Q xs → Each R xs
Each-both P Q R [] f h k = tt
Each-both P Q R (x ∷ xs) f h k = (f x h.0 k.0, Each-both P Q R xs f h.1 k.1)

valid_type : (schema : SchemaParts) (t : TypeDef) → IsTypedType schema t → HasFew t.kind → IsValidType schema t
valid_type schema t typed few = record {
  fields = Each-both (IsTypedField schema) (λ f. AreFew f.args) (IsValidField schema) (fields_of t.kind) (λ f h k. record { ty = h.0; args = h.1; few = k }) typed.0 few.args;
  inputs = typed.1;
  few_fields = few.fields;
  few_inputs = few.inputs;
  few_cases = few.cases;
}

few_types : (c : CatalogParts) → AreSmall c → (roles : List Role) → Each (λ t. HasFew t.kind) (map (type_of_role c (roles_of c)) roles)
few_types c small [] = tt
few_types c small (r ∷ roles) = (has_few c small (roles_of c) r, few_types c small roles)

object_at : (c : CatalogParts) (r : Role) → Has r (roles_of c) → is_object (kind_of_role c (roles_of c) r) ≡ true → IsObjectAt (schema_of c) (place_of (roles_of c) r)
unfolding schema_of
object_at c r h e =
    subst (λ (o : Option TypeDef). IsSomeAnd o (λ t. is_object t.kind ≡ true))
    (sym (slice_get-map (type_of_role c (roles_of c)) (roles_of c) (place_of (roles_of c) r) ∙ ap (λ o. option_map (type_of_role c (roles_of c)) o) (found (roles_of c) r h))) e

mutation_at : (c : CatalogParts) (on : Bool) → has_mutation c ≡ on → IfSome (if on then Some (place_of (roles_of c) role.Mutation) else None) (IsObjectAt (schema_of c))
mutation_at c true e = object_at c role.Mutation (has_mutation_type c e) refl
mutation_at c false e = tt

numbered : (c : CatalogParts) (n : ℕ) → IsNumbered c → n ≡ length (roles_of c) → n ≤ 4294967293
numbered c n h e = omega (arith, h, e)

pub is_valid : (c : CatalogParts) → IsValidCatalog c → IsValidSchema (schema_of c)
unfolding schema_of
is_valid c valid =
    let types = map (type_of_role c (roles_of c)) (roles_of c) in
    record {
      numbered = numbered c (length types) (is_numbered c valid) (length-map (roles_of c) (type_of_role c (roles_of c)));
      query = object_at c role.Query (has_query c) refl;
      mutation = mutation_at c (has_mutation c) refl;
      types = Each-both (IsTypedType (schema_of c)) (λ t. HasFew t.kind) (IsValidType (schema_of c)) types (valid_type (schema_of c)) (is_typed c valid) (few_types c (are_small c valid) (roles_of c));
    }
