-- What a statement finds for its keys is what its fetch finds along the paths of its layer.
use Rattle.std.proofs.Common.{◌≡◌, ℕ, ◌+◌, ◌≤◌, List, [], ◌∷◌, ◌++◌, map, Option, Some, None, inl, inr, refl, sym, ap, ◌∙◌, subst, arith}
use Rattle.std.specs.declared.cmp.Ordering.TheVariants.{Less, Greater}
use Rattle.std.specs.Ordering.{ordering_reverse}
use Rattle.pg_base.specs.declared.cell.Cell.{Cell}
use Rattle.pg_base.specs.Lists.{Each}
use Rattle.rel_model.specs.declared.tables.Row.{Row}
use Rattle.rel_model.specs.declared.window.By.{By}
use Rattle.rel_model.specs.Ordered.{cells_order}
use Rattle.rel_model.proofs.Orders.{cells_order_total}
use Rattle.plan_steps.specs.declared.plan.FetchStep.{FetchStep}
use Rattle.plan_steps.specs.Denoted.{onto}
use Rattle.plan_steps.specs.Filled.{stmt_of}
use Rattle.plan_steps.specs.Sent.{extended, total, trees_for}
use Rattle.plan_steps.specs.Values.{Moment, Path, row_of, row_on}
use Rattle.plan_steps.proofs.Vals.{row_onto}
use Rattle.stmt_tree.specs.declared.found.Found.{Found}
use Rattle.stmt_tree.specs.declared.found.Found.TheViews.{out-Found, out-roll-Found}
use Rattle.stmt_tree.specs.declared.found.Key.{Key}
use Rattle.stmt_tree.specs.declared.found.RowTree.{RowTree}
use Rattle.stmt_tree.specs.Meaning.{found_for, meaning_of, trees_in, trees_in_all}
use Rattle.stmt_tree.proofs.Batched.{sum_cons}
use Rattle.batch_execute.specs.Fetched.{AreAscending}
use Rattle.batch_execute.specs.Held.{all_rows}
use Rattle.batch_execute.specs.Keys.{key_of}
use Rattle.batch_execute.proofs.GrownRows.{due, IsGrownBy, due_grown}
use Rattle.batch_execute.proofs.HeldRows.{in_all, all_in}
use Rattle.batch_execute.proofs.Items.{IsIn, in_left, in_right, in_either, in_map, in_mapped}

-- ---- paths that go on by a row

pub record IsOnto (rows : Path → List Row) (s : ℕ) (paths : List Path) (q : Path) : Type 0 where
  pub path : Path
  pub among : IsIn path paths
  pub row : Row
  pub found : IsIn row (rows path)
  pub is : onto s path row ≡ q

pub in_extended : (rows : Path → List Row) (s : ℕ) (paths : List Path) (q : Path) → IsIn q (extended rows s paths) → IsOnto rows s paths q
in_extended rows s [] q h = absurd h
in_extended rows s (path ∷ paths) q h = elim (in_either q (map (onto s path) (rows path)) (extended rows s paths) h) [
  | inl k ↦ let made = in_mapped (onto s path) q (rows path) k in record { path = path; among = inl refl; row = made.from; found = made.among; is = made.is }
  | inr k ↦ let z = in_extended rows s paths q k in record { path = z.path; among = inr z.among; row = z.row; found = z.found; is = z.is }
]

pub extended_in : (rows : Path → List Row) (s : ℕ) (paths : List Path) (path : Path) (row : Row) → IsIn path paths → IsIn row (rows path) → IsIn (onto s path row) (extended rows s paths)
extended_in rows s [] path row h k = absurd h
extended_in rows s (p ∷ paths) path row (inl e) k = in_left (onto s path row) (map (onto s p) (rows p)) (extended rows s paths)
    (subst (λ x. IsIn (onto s path row) (map (onto s x) (rows x))) (sym e) (in_map (onto s path) row (rows path) k))
extended_in rows s (p ∷ paths) path row (inr h) k = in_right (onto s path row) (map (onto s p) (rows p)) (extended rows s paths) (extended_in rows s paths path row h k)

-- ---- rows and paths that stand for one another

-- the row of a path at a step
pub record IsTreeFor (s : ℕ) (q : Path) (trees : List RowTree) : Type 0 where
  pub tree : RowTree
  pub among : IsIn tree trees
  pub row : row_on q s ≡ Some (row_of tree)

-- a path on which the row stands
pub record IsPathFor (s : ℕ) (tree : RowTree) (paths : List Path) : Type 0 where
  pub path : Path
  pub among : IsIn path paths
  pub row : row_on path s ≡ Some (row_of tree)

-- the key is that of a path
pub record IsKeyOn (key_on : Path → Option (List Cell)) (key : Key) (paths : List Path) : Type 0 where
  pub path : Path
  pub among : IsIn path paths
  pub is : key_on path ≡ Some key.cells

module _ (m : Moment) (f : FetchStep) (s : ℕ) (key_on : Path → Option (List Cell)) where
  abbrev rows_on : Path → List Row
  rows_on path = map row_of (out-Found (due m f (key_on path))).rows

  abbrev found_for_key : Key → Found
  found_for_key key = found_for m.tables (stmt_of m.base m.vars f) key.cells

  module _ (paths : List Path) (keys : List Key)
      (each_path : (path : Path) (cells : List Cell) → IsIn path paths → key_on path ≡ Some cells → IsIn (key_of cells) keys)
      (each_key : (key : Key) → IsIn key keys → IsKeyOn key_on key paths) where
    pub cover : (q : Path) → IsIn q (extended (λ path. map row_of (out-Found (due m f (key_on path))).rows) s paths) → IsTreeFor s q (all_rows (meaning_of m.tables (stmt_of m.base m.vars f) keys))
    cover q h =
        let z = in_extended rows_on s paths q h in
        let made = in_mapped row_of z.row (out-Found (due m f (key_on z.path))).rows z.found in
        let there : row_on q s ≡ Some (row_of made.from) = ap (λ p. row_on p s) (sym z.is) ∙ row_onto z.path s z.row ∙ ap (λ x. Some x) (sym made.is) in
        record { tree = made.from; among = by_key z.path z.among made.from (key_on z.path) refl made.among; row = there }
      where
        by_key : (path : Path) → IsIn path paths → (tree : RowTree) (key : Option (List Cell)) → key_on path ≡ key → IsIn tree (out-Found (due m f key)).rows → IsIn tree (all_rows (meaning_of m.tables (stmt_of m.base m.vars f) keys))
        by_key path among tree None e k = absurd (let n : IsIn tree [] = subst (λ o. IsIn tree o.rows) (out-roll-Found _) k in n)
        by_key path among tree (Some cells) e k =
            all_in tree (found_for_key (key_of cells)) (map found_for_key keys) (in_map found_for_key (key_of cells) keys (each_path path cells among e)) k

    pub reach : (tree : RowTree) → IsIn tree (all_rows (meaning_of m.tables (stmt_of m.base m.vars f) keys)) → IsPathFor s tree (extended (λ path. map row_of (out-Found (due m f (key_on path))).rows) s paths)
    reach tree h =
        let z = in_all tree (map found_for_key keys) h in
        let made = in_mapped found_for_key z.of keys z.among in
        let on = each_key made.from made.among in
        let row : IsIn tree (out-Found (due m f (key_on on.path))).rows = subst (λ o. IsIn tree (out-Found (due m f o)).rows) (sym on.is) (subst (λ x. IsIn tree (out-Found x).rows) (sym made.is) z.row) in
        record {
          path = onto s on.path (row_of tree);
          among = extended_in rows_on s paths on.path (row_of tree) on.among (in_map row_of tree (out-Found (due m f (key_on on.path))).rows row);
          row = row_onto on.path s (row_of tree);
        }

  pub all_grown : (keys : List Key) (tree : RowTree) → IsIn tree (all_rows (meaning_of m.tables (stmt_of m.base m.vars f) keys)) → IsGrownBy m f tree
  all_grown keys tree h =
      let z = in_all tree (map found_for_key keys) h in
      let made = in_mapped found_for_key z.of keys z.among in
      due_grown m f (Some made.from.cells) tree (subst (λ x. IsIn tree (out-Found x).rows) (sym made.is) z.row)

  -- ---- how many rows are found for keys that differ

  record Splits (path : Path) (paths : List Path) : Type 0 where
    pub front : List Path
    pub back : List Path
    pub is : paths ≡ front ++ path ∷ back

  split : (path : Path) (paths : List Path) → IsIn path paths → Splits path paths
  split path [] h = absurd h
  split path (p ∷ paths) (inl e) = record { front = []; back = paths; is = ap (λ x. x ∷ paths) e }
  split path (p ∷ paths) (inr h) = let z = split path paths h in record { front = p ∷ z.front; back = z.back; is = ap (λ l. p ∷ l) z.is }

  total_append : {A : Type 0} (g : A → ℕ) (xs ys : List A) → total g (xs ++ ys) ≡ total g xs + total g ys
  total_append g [] ys = omega arith
  total_append g (x ∷ xs) ys = let e = total_append g xs ys in omega (arith, e)

  -- the other paths have the other keys
  left_over : (key other : Key) (path : Path) (front back : List Path) → key_on path ≡ Some key.cells → (key.cells ≡ other.cells → ⊥) → IsKeyOn key_on other (front ++ path ∷ back) → IsKeyOn key_on other (front ++ back)
  left_over key other path front back e differ z = elim (in_either z.path front (path ∷ back) z.among) [
    | inl k ↦ record { path = z.path; among = in_left z.path front back k; is = z.is }
    | inr k ↦ elim k [
      | inl same ↦ absurd (differ (let both : Some key.cells ≡ Some other.cells = sym e ∙ ap key_on same ∙ z.is in cc))
      | inr n ↦ record { path = z.path; among = in_right z.path front back n; is = z.is }
    ]
  ]

  unequal : (order : List By) (key : Key) (keys : List Key) → Each (λ (j : Key). cells_order order key.cells j.cells ≡ Less) keys → (other : Key) → IsIn other keys → key.cells ≡ other.cells → ⊥
  unequal order key [] h other among e = absurd among
  unequal order key (j ∷ keys) h other (inl same) e =
      let less : cells_order order key.cells key.cells ≡ Less = subst (λ c. cells_order order key.cells c ≡ Less) (ap (λ (k : Key). k.cells) same ∙ sym e) h.0 in
      let turned = (cells_order_total order).antisymm key.cells key.cells in
      absurd (let z : Less ≡ Greater = sym less ∙ turned ∙ ap ordering_reverse less in cc)
  unequal order key (j ∷ keys) h other (inr among) e = unequal order key keys h.1 other among e

  pub few : (order : List By) (keys : List Key) (paths : List Path) → AreAscending order keys → ((key : Key) → IsIn key keys → IsKeyOn key_on key paths) →
      trees_in_all (meaning_of m.tables (stmt_of m.base m.vars f) keys) ≤ total (λ path. trees_for m f (key_on path)) paths
  few order [] paths up each = omega arith
  few order (key ∷ keys) paths up each =
      let on = each key (inl refl) in
      let z = split on.path paths on.among in
      let count = λ (path : Path). trees_for m f (key_on path) in
      let rest : trees_in_all (meaning_of m.tables (stmt_of m.base m.vars f) keys) ≤ total count (z.front ++ z.back) =
      few order keys (z.front ++ z.back) up.1 (λ other among. left_over key other on.path z.front z.back on.is (unequal order key keys up.0 other among) (subst (IsKeyOn key_on other) z.is (each other (inr among)))) in
      let here : count on.path ≡ trees_in (found_for_key key) = ap (trees_for m f) on.is in
      let whole : total count paths ≡ total count z.front + total count (on.path ∷ z.back) = ap (total count) z.is ∙ total_append count z.front (on.path ∷ z.back) in
      let parts = total_append count z.front z.back in
      let found : trees_in_all (meaning_of m.tables (stmt_of m.base m.vars f) (key ∷ keys)) ≡ trees_in (found_for_key key) + trees_in_all (meaning_of m.tables (stmt_of m.base m.vars f) keys) =
      sum_cons (trees_in (found_for_key key)) (map trees_in (meaning_of m.tables (stmt_of m.base m.vars f) keys)) in
      omega (arith, rest, here, whole, parts, found)
