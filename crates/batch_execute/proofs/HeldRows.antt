-- The rows of a fetch that stand in what was found, and where they come from.
use Rattle.std.proofs.Common.{◌≡◌, ℕ, zero, suc, ◌-◌, ◌<◌, List, [], ◌∷◌, take, length, Some, inl, inr, refl, sym, ap, ◌∙◌, subst, arith}
use Rattle.plan_steps.specs.declared.plan.Step.{Step}
use Rattle.plan_steps.proofs.Vals.{get_take}
use Rattle.stmt_tree.specs.declared.found.Found.{Found}
use Rattle.stmt_tree.specs.declared.found.Found.TheViews.{out-Found}
use Rattle.stmt_tree.specs.declared.found.RowTree.{RowTree}
use Rattle.batch_execute.specs.declared.way.Way.{Way}
use Rattle.batch_execute.specs.declared.way.Way.TheVariants.{Other, Once, Sent, Read}
use Rattle.batch_execute.specs.Fetched.{FetchedParts}
use Rattle.batch_execute.specs.Held.{all_rows, rows_of, rows_below, held_by, held_within, held}
use Rattle.batch_execute.specs.Reading.{fetched_or, fetched_at, found_below}
use Rattle.batch_execute.specs.Ways.{way_of}
use Rattle.batch_execute.proofs.Items.{IsIn, in_left, in_right, in_either}

-- ---- members

pub record IsRowOf (tree : RowTree) (found : List Found) : Type 0 where
  pub of : Found
  pub among : IsIn of found
  pub row : IsIn tree (out-Found of).rows

pub in_all : (tree : RowTree) (found : List Found) → IsIn tree (all_rows found) → IsRowOf tree found
in_all tree [] h = absurd h
in_all tree (f ∷ found) h = elim (in_either tree (out-Found f).rows (all_rows found) h) [
  | inl k ↦ record { of = f; among = inl refl; row = k }
  | inr k ↦ let z = in_all tree found k in record { of = z.of; among = inr z.among; row = z.row }
]

pub all_in : (tree : RowTree) (f : Found) (found : List Found) → IsIn f found → IsIn tree (out-Found f).rows → IsIn tree (all_rows found)
all_in tree f [] h k = absurd h
all_in tree f (g ∷ found) (inl e) k = in_left tree (out-Found g).rows (all_rows found) (subst (λ x. IsIn tree (out-Found x).rows) (sym e) k)
all_in tree f (g ∷ found) (inr h) k = in_right tree (out-Found g).rows (all_rows found) (all_in tree f found h k)

pub record IsBelow (tree : RowTree) (child : ℕ) (above : List RowTree) : Type 0 where
  pub over : RowTree
  pub among : IsIn over above
  pub row : IsIn tree (rows_of (found_below (Some over) child))

pub in_below : (tree : RowTree) (child : ℕ) (above : List RowTree) → IsIn tree (rows_below child above) → IsBelow tree child above
in_below tree child [] h = absurd h
in_below tree child (t ∷ above) h = elim (in_either tree (rows_of (found_below (Some t) child)) (rows_below child above) h) [
  | inl k ↦ record { over = t; among = inl refl; row = k }
  | inr k ↦ let z = in_below tree child above k in record { over = z.over; among = inr z.among; row = z.row }
]

pub below_in : (tree over : RowTree) (child : ℕ) (above : List RowTree) → IsIn over above → IsIn tree (rows_of (found_below (Some over) child)) → IsIn tree (rows_below child above)
below_in tree over child [] h k = absurd h
below_in tree over child (t ∷ above) (inl e) k = in_left tree (rows_of (found_below (Some t) child)) (rows_below child above) (subst (λ x. IsIn tree (rows_of (found_below (Some x) child))) (sym e) k)
below_in tree over child (t ∷ above) (inr h) k = in_right tree (rows_of (found_below (Some t) child)) (rows_below child above) (below_in tree over child above h k)

pub held_layer : (n : ℕ) (steps : List Step) (fetched : List FetchedParts) (k : ℕ) (way : Way) → (n ≡ 0 → ⊥) → way ≡ way_of steps k → held_by (held_within (n - 1) steps fetched) fetched k way ≡ held_within n steps fetched k
held_layer zero steps fetched k way some e = absurd (some refl)
held_layer (suc n) steps fetched k way some e =
    let z : suc n - 1 ≡ n = omega arith in
    ap (λ j. held_by (held_within j steps fetched) fetched k way) z ∙ ap (held_by (held_within n steps fetched) fetched k) e

-- ---- what is held of a step depends on what was found up to it

module _ (steps : List Step) (earlier : (k g c : ℕ) → way_of steps k ≡ Read g c → g < k) where
  -- more steps to hang on change nothing
  more_held : (fetched : List FetchedParts) (n p k : ℕ) → k < n → k < p → held_within n steps fetched k ≡ held_within p steps fetched k
  more_held fetched zero p k lt le = absurd (omega (arith, lt))
  more_held fetched (suc n) zero k lt le = absurd (omega (arith, le))
  more_held fetched (suc n) (suc p) k lt le = by (way_of steps k) refl (λ g less. more_held fetched n p g (omega (arith, less, lt)) (omega (arith, less, le))) where
    by : (way : Way) → way_of steps k ≡ way → ((g : ℕ) → g < k → held_within n steps fetched g ≡ held_within p steps fetched g) → held_by (held_within n steps fetched) fetched k way ≡ held_by (held_within p steps fetched) fetched k way
    by Other e rest = refl
    by Once e rest = refl
    by (Sent g) e rest = refl
    by (Read g c) e rest = ap (rows_below c) (rest g (earlier k g c e))

  -- in one layer
  pub held_is : (fetched : List FetchedParts) (k : ℕ) → k < length steps → held steps fetched k ≡ held_by (held steps fetched) fetched k (way_of steps k)
  held_is fetched k lt = by_length (length steps) lt where
    by_length : (n : ℕ) → k < n → held_within n steps fetched k ≡ held_by (held_within n steps fetched) fetched k (way_of steps k)
    by_length zero lt = absurd (omega (arith, lt))
    by_length (suc n) lt = by (way_of steps k) refl where
      by : (way : Way) → way_of steps k ≡ way → held_by (held_within n steps fetched) fetched k way ≡ held_by (held_within (suc n) steps fetched) fetched k way
      by Other e = refl
      by Once e = refl
      by (Sent g) e = refl
      by (Read g c) e = let h = earlier k g c e in ap (rows_below c) (more_held fetched n (suc n) g (omega (arith, h, lt)) (omega (arith, h, lt)))

  fetched_take : (fetched : List FetchedParts) (n k : ℕ) → k < n → fetched_at (take n fetched) k ≡ fetched_at fetched k
  fetched_take fetched n k lt = ap fetched_or (get_take fetched n k lt)

  held_take_within : (fetched : List FetchedParts) (n d k : ℕ) → k < n → held_within d steps (take n fetched) k ≡ held_within d steps fetched k
  held_take_within fetched n zero k lt = refl
  held_take_within fetched n (suc d) k lt = by (way_of steps k) refl (λ g less. held_take_within fetched n d g (omega (arith, less, lt))) where
    by : (way : Way) → way_of steps k ≡ way → ((g : ℕ) → g < k → held_within d steps (take n fetched) g ≡ held_within d steps fetched g) → held_by (held_within d steps (take n fetched)) (take n fetched) k way ≡ held_by (held_within d steps fetched) fetched k way
    by Other e rest = refl
    by Once e rest = ap (λ (x : FetchedParts). all_rows x.found) (fetched_take fetched n k lt)
    by (Sent g) e rest = ap (λ (x : FetchedParts). all_rows x.found) (fetched_take fetched n k lt)
    by (Read g c) e rest = ap (rows_below c) (rest g (earlier k g c e))

  -- from what was found for the steps before
  pub held_take : (fetched : List FetchedParts) (n k : ℕ) → k < n → held steps (take n fetched) k ≡ held steps fetched k
  held_take fetched n k lt = held_take_within fetched n (length steps) k lt
