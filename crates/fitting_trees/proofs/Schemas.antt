-- The names of the schema of a catalog without faults.
use Rattle.std.proofs.Common.{◌≡◌, ◌<◌, ℕ, zero, suc, List, [], ◌∷◌, map, length, Option, Some, None, refl, subst, arith}
use Rattle.std.specs.Prelude.{slice_get, ◌^◌}
use Rattle.std.proofs.lemmas.Option.{slice_get_past}
use Rattle.pg_base.specs.Catalog.{CatalogParts, IsValidCatalog}
use Rattle.pg_base.specs.Lists.{Each, AreDistinct}
use Rattle.pg_base.specs.Schema.{SchemaParts, kind_of, fields_of, IsValidType}
use Rattle.pg_base.specs.SchemaFaults.{build_fault}
use Rattle.pg_base.specs.SchemaOf.{schema_of}
use Rattle.pg_base.specs.declared.schema.ArgDef.{ArgDef}
use Rattle.pg_base.specs.declared.schema.FieldDef.{FieldDef}
use Rattle.pg_base.specs.declared.schema.TypeDef.{TypeDef}
use Rattle.pg_base.specs.declared.schema.TypeKind.{TypeKind}
use Rattle.pg_base.specs.declared.schema.TypeKind.TheVariants as kind
use Rattle.place_tree.specs.Fields.{typename}
use Rattle.schema_laws.specs.Named.{part_names, argument_names, IsNamed}
use Rattle.schema_laws.proofs.Distinct.{build_fault-none}
use Rattle.schema_laws.proofs.Eaches.{Each-get}
use Rattle.schema_laws.proofs.Valid.{is_valid}
use Rattle.fitting_trees.proofs.Named.{no_some, arg_names}
use Rattle.fitting_trees.proofs.Placed.{IsNamedSchema}

no_input : {A : Type 0} (args : List ArgDef) → kind.Scalar ≡ kind.Input args → A
no_input args e = absurd (cc)

arguments_apart : (fields : List FieldDef) (n : ℕ) (d : FieldDef) → Each AreDistinct (map (λ f. map (λ a. a.name) f.args) fields) → slice_get fields n ≡ Some d → AreDistinct (arg_names d.args)
arguments_apart [] n d h e = absurd (no_some d e)
arguments_apart (f ∷ fields) zero d h e = Each-get (λ (x : FieldDef). AreDistinct (arg_names x.args)) (f ∷ []) zero d (h.0, tt) e
arguments_apart (f ∷ fields) (suc n) d h e = arguments_apart fields n d h.1 e

arguments_by_kind : (k : TypeKind) (n : ℕ) (d : FieldDef) → Each AreDistinct (argument_names k) → slice_get (fields_of k) n ≡ Some d → AreDistinct (arg_names d.args)
arguments_by_kind kind.Scalar n d h e = absurd (no_some d e)
arguments_by_kind (kind.Object fields) n d h e = arguments_apart fields n d h e
arguments_by_kind (kind.Enum cases) n d h e = absurd (no_some d e)
arguments_by_kind (kind.Input args) n d h e = absurd (no_some d e)

module _ (schema : SchemaParts) (named : Each IsNamed schema.types) (types : Each (IsValidType schema) schema.types) where
  inputs_by : (n : ℕ) (o : Option TypeDef) (args : List ArgDef) → slice_get schema.types n ≡ o → kind_of o ≡ kind.Input args → AreDistinct (arg_names args)
  inputs_by n None args at e = no_input args e
  inputs_by n (Some t) args at e = subst (λ (k : TypeKind). AreDistinct (part_names k)) e (Each-get IsNamed schema.types n t named at).distinct_parts

  arguments_by : (ty n : ℕ) (d : FieldDef) (o : Option TypeDef) → slice_get schema.types ty ≡ o → slice_get (fields_of (kind_of o)) n ≡ Some d → AreDistinct (arg_names d.args)
  arguments_by ty n d None at e = absurd (no_some d e)
  arguments_by ty n d (Some t) at e = arguments_by_kind t.kind n d (Each-get IsNamed schema.types ty t named at).distinct_arguments e

  typename_by : (ty : ℕ) (o : Option TypeDef) → slice_get schema.types ty ≡ o → slice_get (fields_of (kind_of o)) typename ≡ None
  typename_by ty None at = refl
  typename_by ty (Some t) at =
      let few : length (fields_of t.kind) < 2 ^ 32 = (Each-get (IsValidType schema) schema.types ty t types at).few_fields in
      slice_get_past (fields_of t.kind) typename (omega (arith, few))

  all_named : IsNamedSchema schema
  all_named = record {
    inputs = λ n args e. inputs_by n (slice_get schema.types n) args refl e;
    arguments = λ ty n d e. arguments_by ty n d (slice_get schema.types ty) refl e;
    no_typename = λ ty. typename_by ty (slice_get schema.types ty) refl;
  }

pub named_schema : (c : CatalogParts) → IsValidCatalog c → build_fault c ≡ None → IsNamedSchema (schema_of c)
named_schema c valid none = all_named (schema_of c) (build_fault-none c none).each (is_valid c valid).types
