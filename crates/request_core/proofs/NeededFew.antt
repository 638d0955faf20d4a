-- A tree needs no more statements than it has places.
use Rattle.std.proofs.Common.{ℕ, ◌+◌, ◌≤◌, Bool, true, false, List, [], ◌∷◌, length, arith}
use Rattle.std.specs.List.{list_any}
use Rattle.std.specs.Prelude.{if◌then◌else◌}
use Rattle.pg_base.specs.Base.{BaseParts}
use Rattle.pg_base.specs.declared.vars.Vars.{Vars}
use Rattle.place_tree.specs.declared.place.Place.{Place}
use Rattle.place_tree.specs.declared.place.Tree.{Tree}
use Rattle.place_tree.specs.Needs.{Signature, same_signature, signatures, needs_own, needing, distinct, needed_statements}

one_more : (b : Bool) (d n : ℕ) → d ≤ n → (if b then d else d + 1) ≤ n + 1
one_more true d n most = omega (arith, most)
one_more false d n most = omega (arith, most)

distinct_within : {A : Type 0} (same : A → A → Bool) (xs : List A) → distinct same xs ≤ length xs
distinct_within same [] = omega arith
distinct_within same (x ∷ xs) =
    let z = one_more (list_any (same x) xs) (distinct same xs) (length xs) (distinct_within same xs) in omega (arith, z)

with_one : (b : Bool) (s : Signature) (ss : List Signature) (n : ℕ) → length ss ≤ n → length (if b then s ∷ ss else ss) ≤ n + 1
with_one true s ss n most = omega (arith, most)
with_one false s ss n most = omega (arith, most)

needing_within : (base : BaseParts) (vars : Vars) (ps : List Place) (ss : List Signature) → length (needing base vars ps ss) ≤ length ps
needing_within base vars [] ss = omega arith
needing_within base vars (p ∷ ps) [] = omega arith
needing_within base vars (p ∷ ps) (s ∷ ss) =
    let z = with_one (needs_own base vars p s) s (needing base vars ps ss) (length ps) (needing_within base vars ps ss) in
    omega (arith, z)

-- what is sent for a tree of so many places
pub sent_within : (base : BaseParts) (vars : Vars) (tree : Tree) (most before now : ℕ) → length tree.places ≤ most
    → now ≤ before + needed_statements base vars tree → now ≤ before + most
sent_within base vars tree most before now few sent =
    let needing_few = needing_within base vars tree.places (signatures base.schema tree.places) in
    let distinct_few = distinct_within same_signature (needing base vars tree.places (signatures base.schema tree.places)) in
    omega (arith, few, sent, needing_few, distinct_few)
