-- Fragments found by their names, as a map of them grows.
use Rattle.std.specs.Prelude.{◌≡◌, ℕ, ◌+◌, ◌<◌, List, [], ◌∷◌, Option, Some, None, Bool, true, false, if◌then◌else◌}
use Rattle.std.proofs.Common.{refl, ap, sym, ◌∙◌, length, get_or, drop}
use Rattle.std.specs.Str.{bytes_eq}
use Rattle.pg_base.proofs.ListSteps.{drop-item}
use Rattle.gql_reader.specs.declared.tree.FragmentDefinition.{FragmentDefinition}
use Rattle.gql_reader.specs.declared.tree.Definition.{Definition}
use Rattle.gql_reader.specs.declared.tree.Definition.TheVariants as definition
use Rattle.gql_collect.specs.Collected.{fragment_in}
use Rattle.gql_collect.specs.Fragments.{or_else}

none_else : {A : Type 0} (o : Option A) → or_else o None ≡ o
none_else None = refl
none_else (Some x) = refl

else_assoc : {A : Type 0} (a b c : Option A) → or_else (or_else a b) c ≡ or_else a (or_else b c)
else_assoc None b c = refl
else_assoc (Some x) b c = refl

here_or : (b : Bool) (f : FragmentDefinition) (rest : Option FragmentDefinition) → (if b then Some f else rest) ≡ or_else (if b then Some f else None) rest
here_or true f rest = refl
here_or false f rest = refl

first_or : (d : Definition) (rest : List Definition) (name : List ℕ) → fragment_in (d ∷ rest) name ≡ or_else (fragment_in (d ∷ []) name) (fragment_in rest name)
first_or (definition.Fragment f) rest name = here_or (bytes_eq f.name name) f (fragment_in rest name)
first_or (definition.Operation o) rest name = refl
first_or (definition.Foreign p) rest name = refl

pub found_goes : (definitions : List Definition) (i : ℕ) (d : Definition) (lt : i < length definitions) (is : d ≡ get_or definitions i d) (before after : List ℕ → Option FragmentDefinition)
    → ((name : List ℕ) → or_else (before name) (fragment_in (drop i definitions) name) ≡ fragment_in definitions name)
    → ((name : List ℕ) → after name ≡ or_else (before name) (fragment_in (d ∷ []) name))
    → (name : List ℕ) → or_else (after name) (fragment_in (drop (i + 1) definitions) name) ≡ fragment_in definitions name
found_goes definitions i d lt is before after so_far grown name =
    ap (λ o. or_else o (fragment_in (drop (i + 1) definitions) name)) (grown name)
    ∙ else_assoc (before name) (fragment_in (d ∷ []) name) (fragment_in (drop (i + 1) definitions) name)
    ∙ ap (or_else (before name)) (sym (first_or d (drop (i + 1) definitions) name))
    ∙ ap (λ l. or_else (before name) (fragment_in l name)) (sym (drop-item definitions i d lt is))
    ∙ so_far name

pub found_all : (definitions rest : List Definition) (after : Option FragmentDefinition) (name : List ℕ) → rest ≡ [] → or_else after (fragment_in rest name) ≡ fragment_in definitions name → after ≡ fragment_in definitions name
found_all definitions rest after name none h = sym (none_else after) ∙ ap (λ l. or_else after (fragment_in l name)) (sym none) ∙ h
