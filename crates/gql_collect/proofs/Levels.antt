-- The number of levels cuts nothing off a tree with fewer places.
use Rattle.std.proofs.Common.{◌≡◌, ◌≤◌, ◌<◌, ℕ, zero, suc, ◌+◌, List, [], ◌∷◌, ◌++◌, length, length-append, Option, Some, None, refl, ap, ◌∙◌, arith}
use Rattle.gql_reader.specs.declared.tree.Selection.{Selection}
use Rattle.gql_reader.specs.declared.tree.Field.{Field}
use Rattle.pg_base.specs.declared.schema.FieldDef.{FieldDef}
use Rattle.pg_base.specs.Schema.{field_at}
use Rattle.place_tree.specs.declared.place.Place.{Place}
use Rattle.place_tree.specs.declared.place.Tree.{Tree}
use Rattle.gql_collect.specs.Collected.{Request, Met, collected}
use Rattle.gql_collect.specs.Growing.{merged, keys_of, fields_with, number_of, place_of, with_place, below_place, by_number, with_group, with_keys, with_asked, with_set}
use Rattle.gql_collect.proofs.Grown.{group_grows, keys_grow, set_grows}

-- one level more does the same to a tree that has this many places at most, where these are too few to reach the last level
abbrev Enough : Request → ℕ → Type 0
Enough r n = (parent : Option ℕ) (ty : ℕ) (selections : List Selection) (tree : Tree) (m : ℕ)
    → length (with_set n r parent ty selections tree).places ≤ m → m < length tree.places + n
    → with_set (suc n) r parent ty selections tree ≡ with_set n r parent ty selections tree

module _ (r : Request) (n : ℕ) (enough : Enough r n) (parent : Option ℕ) (ty : ℕ) (low m : ℕ) (few : m < low + suc n) where
  below_enough : (d : Option FieldDef) (i : ℕ) (selections : List Selection) (tree : Tree) → low < length tree.places → length (below_place (with_set n r) d i selections tree).places ≤ m
      → below_place (with_set (suc n) r) d i selections tree ≡ below_place (with_set n r) d i selections tree
  below_enough None i selections tree lt le = refl
  below_enough (Some d) i selections tree lt le = enough (Some i) d.ty.name selections tree m le (omega arith)

  number_enough : (key : List ℕ) (f : Field) (selections : List Selection) (number : Option ℕ) (tree : Tree) → low ≤ length tree.places → length (by_number (with_set n r) r.schema parent ty key f selections number tree).places ≤ m
      → by_number (with_set (suc n) r) r.schema parent ty key f selections number tree ≡ by_number (with_set n r) r.schema parent ty key f selections number tree
  number_enough key f selections None tree at le = refl
  number_enough key f selections (Some number) tree at le =
      let p : Place = place_of r.schema parent ty key f number in
      let len : length (tree.places ++ p ∷ []) ≡ length tree.places + 1 = length-append tree.places (p ∷ []) in
      below_enough (field_at r.schema ty number) (length tree.places) selections (with_place p tree) (omega (arith, len)) le

  group_enough : (key : List ℕ) (fields : List Field) (tree : Tree) → low ≤ length tree.places → length (with_group (with_set n r) r.schema parent ty key fields tree).places ≤ m
      → with_group (with_set (suc n) r) r.schema parent ty key fields tree ≡ with_group (with_set n r) r.schema parent ty key fields tree
  group_enough key [] tree at le = refl
  group_enough key (f ∷ fields) tree at le = number_enough key f (merged (f ∷ fields)) (number_of r.schema ty f.name) tree at le

  keys_enough : (fields : List Field) (keys : List (List ℕ)) (tree : Tree) → low ≤ length tree.places → length (with_keys (with_set n r) r.schema parent ty fields keys tree).places ≤ m
      → with_keys (with_set (suc n) r) r.schema parent ty fields keys tree ≡ with_keys (with_set n r) r.schema parent ty fields keys tree
  keys_enough fields [] tree at le = refl
  keys_enough fields (key ∷ keys) tree at le =
      let group : Tree = with_group (with_set n r) r.schema parent ty key (fields_with key fields) tree in
      let grows = group_grows (with_set n r) (set_grows n r) r.schema parent ty key (fields_with key fields) tree in
      let later = keys_grow (with_set n r) (set_grows n r) r.schema parent ty fields keys group in
      ap (with_keys (with_set (suc n) r) r.schema parent ty fields keys) (group_enough key (fields_with key fields) tree at (omega (arith, later, le)))
      ∙ keys_enough fields keys group (omega (arith, grows)) le

pub levels_enough : (r : Request) (n : ℕ) → Enough r n
unfolding with_set
levels_enough r zero parent ty selections tree m le few = absurd (omega (arith, le, few))
levels_enough r (suc n) parent ty selections tree m le few =
    let met : Met = collected r ty selections tree.asked in
    keys_enough r n (levels_enough r n) parent ty (length tree.places) m few met.fields (keys_of met.fields) (with_asked met.asked tree) (omega arith) le

-- a tree with so few places stays the same with any more levels
pub more_levels : (r : Request) (n k : ℕ) (parent : Option ℕ) (ty : ℕ) (selections : List Selection) (tree : Tree) → length (with_set n r parent ty selections tree).places < length tree.places + n
    → with_set (n + k) r parent ty selections tree ≡ with_set n r parent ty selections tree
more_levels r n zero parent ty selections tree few = let e : n + 0 ≡ n = omega arith in ap (λ j. with_set j r parent ty selections tree) e
more_levels r n (suc k) parent ty selections tree few =
    let e : n + suc k ≡ suc (n + k) = omega arith in
    let same = more_levels r n k parent ty selections tree few in
    let len = ap (λ (t : Tree). length t.places) same in
    ap (λ j. with_set j r parent ty selections tree) e
    ∙ levels_enough r (n + k) parent ty selections tree (length (with_set (n + k) r parent ty selections tree).places) (omega arith) (omega (arith, len, few))
    ∙ same
