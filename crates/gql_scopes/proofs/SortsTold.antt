-- What holds of nodes of one sort, beside the tests of that sort.
use Rattle.std.proofs.Common.{◌≡◌, ℕ, Bool, true, Option, Some, None, refl, sym, true≢false}
use Rattle.std.specs.Prelude.{IsSomeAnd}
use Rattle.gql_reader.specs.declared.tree.ValueKind.{ValueKind}
use Rattle.gql_reader.specs.declared.tree.Definition.{Definition}
use Rattle.gql_reader.specs.declared.tree.VariableDefinition.{VariableDefinition}
use Rattle.gql_reader.specs.declared.tree.FragmentSpread.{FragmentSpread}
use Rattle.gql_types.specs.Types.{Ty}
use Rattle.gql_nodes.specs.Nodes.{Node, at_definition, at_variable, at_field, at_spread, at_inline, at_directive, at_argument, at_value, at_object_field}
use Rattle.gql_nodes.specs.Sorts.{on_definition}
use Rattle.gql_nodes.specs.Uses.{spread_name}
use Rattle.gql_scopes.specs.Conditions.{if_some}
use Rattle.gql_scopes.specs.Sorts.{on_variable, on_spread, on_value}
use Rattle.gql_scopes.specs.SortFacts.{OfVariable, OfSpread, OfValue}

pub some_told : {A : Type 0} (test : A → Bool) (F : A → Type 0) → ((x : A) → test x ≡ true → F x) → (o : Option A) → if_some test o ≡ true → IsSomeAnd o F
some_told test F f None h = absurd (true≢false (sym h))
some_told test F f (Some x) h = f x h

pub some_tells : {A : Type 0} (test : A → Bool) (F : A → Type 0) → ((x : A) → F x → test x ≡ true) → (o : Option A) → IsSomeAnd o F → if_some test o ≡ true
some_tells test F f None h = absurd h
some_tells test F f (Some x) h = f x h

pub same_definitions : (f g : Bool → Definition → Bool) → ((r : Bool) (d : Definition) → f r d ≡ g r d) → (x : Node) → on_definition f x ≡ on_definition g x
same_definitions f g e (at_definition repeated d) = e repeated d
same_definitions f g e (at_variable _ _) = refl
same_definitions f g e (at_field _ _ _ _) = refl
same_definitions f g e (at_spread _ _ _) = refl
same_definitions f g e (at_inline _ _ _) = refl
same_definitions f g e (at_directive _ _ _ _) = refl
same_definitions f g e (at_argument _ _ _) = refl
same_definitions f g e (at_value _ _ _) = refl
same_definitions f g e (at_object_field _ _ _ _) = refl

pub variable_told : (test : Bool → VariableDefinition → Bool) (F : VariableDefinition → Type 0) → ((repeated : Bool) (v : VariableDefinition) → test repeated v ≡ true → F v) → (x : Node) → on_variable test x ≡ true → OfVariable F x
variable_told test F go (at_definition _ _) h = true≢false (sym h)
variable_told test F go (at_variable repeated v) h = go repeated v h
variable_told test F go (at_field _ _ _ _) h = true≢false (sym h)
variable_told test F go (at_spread _ _ _) h = true≢false (sym h)
variable_told test F go (at_inline _ _ _) h = true≢false (sym h)
variable_told test F go (at_directive _ _ _ _) h = true≢false (sym h)
variable_told test F go (at_argument _ _ _) h = true≢false (sym h)
variable_told test F go (at_value _ _ _) h = true≢false (sym h)
variable_told test F go (at_object_field _ _ _ _) h = true≢false (sym h)

pub variable_tells : (test : Bool → VariableDefinition → Bool) (F : VariableDefinition → Type 0) → ((repeated : Bool) (v : VariableDefinition) → F v → test repeated v ≡ true) → (x : Node) → OfVariable F x → on_variable test x ≡ true
variable_tells test F go (at_definition _ _) h = absurd h
variable_tells test F go (at_variable repeated v) h = go repeated v h
variable_tells test F go (at_field _ _ _ _) h = absurd h
variable_tells test F go (at_spread _ _ _) h = absurd h
variable_tells test F go (at_inline _ _ _) h = absurd h
variable_tells test F go (at_directive _ _ _ _) h = absurd h
variable_tells test F go (at_argument _ _ _) h = absurd h
variable_tells test F go (at_value _ _ _) h = absurd h
variable_tells test F go (at_object_field _ _ _ _) h = absurd h

pub spread_told : (test : Option ℕ → FragmentSpread → Bool) (F : FragmentSpread → Type 0) → ((parent : Option ℕ) (s : FragmentSpread) → test parent s ≡ true → F s) → (x : Node) → on_spread test x ≡ true → OfSpread F x
spread_told test F go (at_definition _ _) h = true≢false (sym h)
spread_told test F go (at_variable _ _) h = true≢false (sym h)
spread_told test F go (at_field _ _ _ _) h = true≢false (sym h)
spread_told test F go (at_spread owner parent s) h = go parent s h
spread_told test F go (at_inline _ _ _) h = true≢false (sym h)
spread_told test F go (at_directive _ _ _ _) h = true≢false (sym h)
spread_told test F go (at_argument _ _ _) h = true≢false (sym h)
spread_told test F go (at_value _ _ _) h = true≢false (sym h)
spread_told test F go (at_object_field _ _ _ _) h = true≢false (sym h)

pub spread_tells : (test : Option ℕ → FragmentSpread → Bool) (F : FragmentSpread → Type 0) → ((parent : Option ℕ) (s : FragmentSpread) → F s → test parent s ≡ true) → (x : Node) → OfSpread F x → on_spread test x ≡ true
spread_tells test F go (at_definition _ _) h = absurd h
spread_tells test F go (at_variable _ _) h = absurd h
spread_tells test F go (at_field _ _ _ _) h = absurd h
spread_tells test F go (at_spread owner parent s) h = go parent s h
spread_tells test F go (at_inline _ _ _) h = absurd h
spread_tells test F go (at_directive _ _ _ _) h = absurd h
spread_tells test F go (at_argument _ _ _) h = absurd h
spread_tells test F go (at_value _ _ _) h = absurd h
spread_tells test F go (at_object_field _ _ _ _) h = absurd h

pub record SpreadOf (F : FragmentSpread → Type 0) (x : Node) : Type 0 where
  pub spread : FragmentSpread
  pub name : spread_name x ≡ Some spread.name
  pub fact : F spread

pub spread_of : (F : FragmentSpread → Type 0) (x : Node) → OfSpread F x → SpreadOf F x
spread_of F (at_definition _ _) h = absurd h
spread_of F (at_variable _ _) h = absurd h
spread_of F (at_field _ _ _ _) h = absurd h
spread_of F (at_spread owner parent s) h = record { spread = s; name = refl; fact = h }
spread_of F (at_inline _ _ _) h = absurd h
spread_of F (at_directive _ _ _ _) h = absurd h
spread_of F (at_argument _ _ _) h = absurd h
spread_of F (at_value _ _ _) h = absurd h
spread_of F (at_object_field _ _ _ _) h = absurd h

pub value_told : (test : Option Ty → ValueKind → Bool) (F : Option Ty → ValueKind → Type 0) → ((ty : Option Ty) (kind : ValueKind) → test ty kind ≡ true → F ty kind) → (x : Node) → on_value test x ≡ true → OfValue F x
value_told test F go (at_definition _ _) h = true≢false (sym h)
value_told test F go (at_variable _ _) h = true≢false (sym h)
value_told test F go (at_field _ _ _ _) h = true≢false (sym h)
value_told test F go (at_spread _ _ _) h = true≢false (sym h)
value_told test F go (at_inline _ _ _) h = true≢false (sym h)
value_told test F go (at_directive _ _ _ _) h = true≢false (sym h)
value_told test F go (at_argument _ _ _) h = true≢false (sym h)
value_told test F go (at_value ty kind pos) h = go ty kind h
value_told test F go (at_object_field _ _ _ _) h = true≢false (sym h)

pub value_tells : (test : Option Ty → ValueKind → Bool) (F : Option Ty → ValueKind → Type 0) → ((ty : Option Ty) (kind : ValueKind) → F ty kind → test ty kind ≡ true) → (x : Node) → OfValue F x → on_value test x ≡ true
value_tells test F go (at_definition _ _) h = absurd h
value_tells test F go (at_variable _ _) h = absurd h
value_tells test F go (at_field _ _ _ _) h = absurd h
value_tells test F go (at_spread _ _ _) h = absurd h
value_tells test F go (at_inline _ _ _) h = absurd h
value_tells test F go (at_directive _ _ _ _) h = absurd h
value_tells test F go (at_argument _ _ _) h = absurd h
value_tells test F go (at_value ty kind pos) h = go ty kind h
value_tells test F go (at_object_field _ _ _ _) h = absurd h

pub same_spreads : (f g : Option ℕ → FragmentSpread → Bool) → ((p : Option ℕ) (s : FragmentSpread) → f p s ≡ g p s) → (x : Node) → on_spread f x ≡ on_spread g x
same_spreads f g e (at_definition _ _) = refl
same_spreads f g e (at_variable _ _) = refl
same_spreads f g e (at_field _ _ _ _) = refl
same_spreads f g e (at_spread owner parent s) = e parent s
same_spreads f g e (at_inline _ _ _) = refl
same_spreads f g e (at_directive _ _ _ _) = refl
same_spreads f g e (at_argument _ _ _) = refl
same_spreads f g e (at_value _ _ _) = refl
same_spreads f g e (at_object_field _ _ _ _) = refl
