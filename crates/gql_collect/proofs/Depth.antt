-- How deep selections are, which bounds the recursion of collection.
use Rattle.std.proofs.Common.{◌≡◌, ◌≤◌, ◌<◌, ℕ, zero, suc, ◌+◌, ◌-◌, ◌*◌, max, List, [], ◌∷◌, Some, None, Bool, true, false, sym, subst, arith}
use Rattle.std.specs.Prelude.{if◌then◌else◌}
use Rattle.std.specs.Str.{bytes_eq}
use denote.Param.Weighed.{most}
use Rattle.gql_reader.specs.declared.tree.Selection.{Selection, size-Selection}
use Rattle.gql_reader.specs.declared.tree.FragmentDefinition.{FragmentDefinition}
use Rattle.gql_reader.specs.declared.tree.Definition.{Definition}
use Rattle.gql_reader.specs.declared.tree.Definition.TheVariants as definition
use Rattle.gql_collect.specs.Collected.{fragment_in}

abbrev pub set_depth : List Selection → ℕ
set_depth selections = most size-Selection selections

-- the depth of the deepest fragment
abbrev pub deepest : List Definition → ℕ
deepest [] = 0
deepest (definition.Fragment f ∷ definitions) = max (set_depth f.selections) (deepest definitions)
deepest (_ ∷ definitions) = deepest definitions

-- left times so much for each fragment, and the depth of what is at hand
abbrev pub work : ℕ → List Definition → ℕ → ℕ
work left definitions depth = 3 * (left * (deepest definitions + 1) + depth)

pub found_depth : (definitions : List Definition) (name : List ℕ) (f : FragmentDefinition) → fragment_in definitions name ≡ Some f → set_depth f.selections ≤ deepest definitions
found_depth [] name f e = absurd (let z : None ≡ Some f = e in cc)
found_depth (definition.Operation o ∷ definitions) name f e = found_depth definitions name f e
found_depth (definition.Foreign p ∷ definitions) name f e = found_depth definitions name f e
found_depth (definition.Fragment g ∷ definitions) name f e = by (bytes_eq g.name name) e (found_depth definitions name f)
  where
    by : (b : Bool) → (if b then Some g else fragment_in definitions name) ≡ Some f → (fragment_in definitions name ≡ Some f → set_depth f.selections ≤ deepest definitions) → set_depth f.selections ≤ max (set_depth g.selections) (deepest definitions)
    by true h later = let same : g ≡ f = cc in subst (λ x. set_depth x.selections ≤ max (set_depth g.selections) (deepest definitions)) same (omega arith)
    by false h later = let le = later h in omega arith

-- entering a fragment takes one of what is left
pub entering_falls : (left depth most : ℕ) → 0 < left → depth ≤ most → 3 * ((left - 1) * (most + 1) + depth) + 2 < 3 * (left * (most + 1) + 0)
entering_falls zero depth most lt le = absurd (omega arith)
entering_falls (suc n) depth most lt le =
    let e : suc n - 1 ≡ n = omega arith in
    subst (λ k. 3 * (k * (most + 1) + depth) + 2 < 3 * (suc n * (most + 1) + 0)) (sym e) (falls (n * (most + 1)) (suc n * (most + 1)) (steps n most))
  where
    steps : (n most : ℕ) → suc n * (most + 1) ≡ n * (most + 1) + (most + 1)
    steps n most = omega arith

    falls : (a b : ℕ) → b ≡ a + (most + 1) → 3 * (a + depth) + 2 < 3 * (b + 0)
    falls a b e = omega arith
