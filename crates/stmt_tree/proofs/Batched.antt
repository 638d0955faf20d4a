-- A statement's meaning for many keys at once: its rows of all keys in one list, each child asked once for all of them.
use Rattle.std.proofs.Common.{◌≡◌, ℕ, ◌+◌, List, [], ◌∷◌, ◌++◌, map, length, take, drop, sum, refl, ap, sym, ◌∙◌, arith}
use Rattle.std.proofs.lemmas.List.{map-append, length-map}
use Rattle.std.proofs.lemmas.List.Sums.{sum-map, sum_by-cons}
use Rattle.std.proofs.Math.Seq.{take-append_seam, drop-append_seam}
use Rattle.rel_model.specs.declared.tables.Row.{Row}
use Rattle.rel_model.specs.declared.tables.Tables.{Tables}
use Rattle.rel_model.specs.Tables.{cells_at}
use Rattle.stmt_tree.specs.declared.stmt.Stmt.{Stmt}
use Rattle.stmt_tree.specs.declared.stmt.Child.{Child}
use Rattle.stmt_tree.specs.declared.stmt.Child.TheViews.{out-Stmt, out-Child}
use Rattle.stmt_tree.specs.declared.found.Key.{Key}
use Rattle.stmt_tree.specs.declared.found.Found.TheViews.{roll-RowTree}
use Rattle.stmt_tree.specs.Meaning.{tree_of, found_for, found_below, meaning_of, trees_in, trees_of, trees_in_all}
use Rattle.stmt_tree.specs.Batches.{list_for, lists_for, grown, found_with, part_in, all_parts, column, firsts, trees_from, founds_from, rebuilt}
use Rattle.stmt_tree.proofs.Meaning.{found_is, below_is, tree_is, trees_of_tree, trees_in_roll}

map_id : (ms : List ℕ) → map (λ n. n) ms ≡ ms
map_id [] = refl
map_id (m ∷ ms) = ap (λ l. m ∷ l) (map_id ms)

pub sum_cons : (m : ℕ) (ms : List ℕ) → sum (m ∷ ms) ≡ m + sum ms
sum_cons m ms = ap sum (sym (map_id (m ∷ ms))) ∙ sum-map (λ n. n) (m ∷ ms) ∙ sum_by-cons (λ n. n) m ms ∙ ap (λ n. m + n) (sym (sum-map (λ n. n) ms) ∙ ap sum (map_id ms))

pub sum_both : (ms ns : List ℕ) → sum (ms ++ ns) ≡ sum ms + sum ns
sum_both [] ns = omega arith
sum_both (m ∷ ms) ns = omega (arith, sum_cons m (ms ++ ns), sum_cons m ms, sum_both ms ns)

module _ (tables : Tables) where
  one_below : (row : Row) (k : Child) → found_for tables (out-Child k).stmt (cells_at (out-Child k).parent_columns row.cells) ≡ found_below tables k row.cells
  one_below row k = sym (below_is tables k row.cells)

  firsts_are : (row : Row) (rows : List Row) (kids : List Child) → map (λ k. found_below tables k row.cells) kids ≡ firsts (map (column tables (row ∷ rows)) kids)
  firsts_are row rows [] = refl
  firsts_are row rows (k ∷ kids) = ap (λ f. f ∷ map (λ k. found_below tables k row.cells) kids) (sym (one_below row k)) ∙ ap (λ l. found_for tables (out-Child k).stmt (cells_at (out-Child k).parent_columns row.cells) ∷ l) (firsts_are row rows kids)

  rests_are : (row : Row) (rows : List Row) (kids : List Child) → map (drop 1) (map (column tables (row ∷ rows)) kids) ≡ map (column tables rows) kids
  rests_are row rows [] = refl
  rests_are row rows (k ∷ kids) = ap (λ l. column tables rows k ∷ l) (rests_are row rows kids)

  -- the trees of rows, from one batch for each child
  pub grown_is : (stmt : Stmt) (rows : List Row) → grown tables stmt rows ≡ trees_from rows (map (column tables rows) (out-Stmt stmt).children)
  grown_is stmt [] = refl
  grown_is stmt (row ∷ rows) =
      let kids = (out-Stmt stmt).children in
      ap (λ t. t ∷ grown tables stmt rows) (tree_is tables kids row ∙ ap (λ l. roll-RowTree (record { number = row.number; cells = row.cells; children = l })) (firsts_are row rows kids))
      ∙ ap (λ l. roll-RowTree (record { number = row.number; cells = row.cells; children = firsts (map (column tables (row ∷ rows)) kids) }) ∷ l) (grown_is stmt rows ∙ ap (trees_from rows) (sym (rests_are row rows kids)))

  -- what is found for each key, from the trees of all rows
  pub founds_are : (stmt : Stmt) (keys : List Key) → meaning_of tables stmt keys ≡ founds_from stmt (map (λ k. list_for tables stmt k.cells) keys) (grown tables stmt (all_parts stmt (map (λ k. list_for tables stmt k.cells) keys)))
  founds_are stmt [] = refl
  founds_are stmt (k ∷ keys) =
      let list = list_for tables stmt k.cells in
      let part = part_in stmt list in
      let lists = map (λ k. list_for tables stmt k.cells) keys in
      let here = grown tables stmt part in
      let after = grown tables stmt (all_parts stmt lists) in
      let split : grown tables stmt (part ++ all_parts stmt lists) ≡ here ++ after = map-append _ part (all_parts stmt lists) in
      let long : length part ≡ length here = sym (length-map part (tree_of (map (found_below tables) (out-Stmt stmt).children))) in
      let front : take (length part) (here ++ after) ≡ here = ap (λ n. take n (here ++ after)) long ∙ take-append_seam here after in
      let back : drop (length part) (here ++ after) ≡ after = ap (λ n. drop n (here ++ after)) long ∙ drop-append_seam here after in
      ap (λ f. f ∷ meaning_of tables stmt keys) (found_is tables stmt k.cells ∙ ap (found_with stmt list) (sym front))
      ∙ ap (λ l. found_with stmt list (take (length part) (here ++ after)) ∷ l) (founds_are stmt keys ∙ ap (founds_from stmt lists) (sym back))
      ∙ ap (λ trees. founds_from stmt (list ∷ lists) trees) (sym split)

  -- the law: a batch, from the lists of its keys and one batch for each child
  pub batched : (stmt : Stmt) (keys : List Key) → meaning_of tables stmt keys ≡ rebuilt tables stmt (lists_for tables stmt keys)
  batched stmt keys =
      let lists = lists_for tables stmt keys in
      founds_are stmt keys ∙ ap (founds_from stmt lists) (grown_is stmt (all_parts stmt lists))

-- the number of row trees is the same, whichever way they are counted: the rows, and what each child's batch has
module _ (tables : Tables) where
  count_one : (row : Row) (kids : List Child) → trees_of (tree_of (map (found_below tables) kids) row) ≡ sum (map trees_in (map (λ k. found_below tables k row.cells) kids)) + 1
  count_one row kids = trees_of_tree tables kids row

  columns_nil : (kids : List Child) → sum (map (λ k. trees_in_all (column tables [] k)) kids) ≡ 0
  columns_nil [] = refl
  columns_nil (k ∷ kids) = sum_cons 0 (map (λ k. trees_in_all (column tables [] k)) kids) ∙ (let e = columns_nil kids in omega (arith, e))

  columns_cons : (row : Row) (rows : List Row) (kids : List Child) → sum (map (λ k. trees_in_all (column tables (row ∷ rows) k)) kids) ≡ sum (map trees_in (map (λ k. found_below tables k row.cells) kids)) + sum (map (λ k. trees_in_all (column tables rows k)) kids)
  columns_cons row rows [] = refl
  columns_cons row rows (k ∷ kids) =
      let one : trees_in (found_for tables (out-Child k).stmt (cells_at (out-Child k).parent_columns row.cells)) ≡ trees_in (found_below tables k row.cells) = ap trees_in (one_below tables row k) in
      let here = sum_cons (trees_in (found_for tables (out-Child k).stmt (cells_at (out-Child k).parent_columns row.cells))) (map trees_in (column tables rows k)) in
      let all = sum_cons (trees_in_all (column tables (row ∷ rows) k)) (map (λ k. trees_in_all (column tables (row ∷ rows) k)) kids) in
      let left = sum_cons (trees_in (found_below tables k row.cells)) (map trees_in (map (λ k. found_below tables k row.cells) kids)) in
      let right = sum_cons (trees_in_all (column tables rows k)) (map (λ k. trees_in_all (column tables rows k)) kids) in
      omega (arith, one, here, all, left, right, columns_cons row rows kids)

  grown_count : (stmt : Stmt) (rows : List Row) → sum (map trees_of (grown tables stmt rows)) ≡ length rows + sum (map (λ k. trees_in_all (column tables rows k)) (out-Stmt stmt).children)
  grown_count stmt [] = omega (arith, columns_nil (out-Stmt stmt).children)
  grown_count stmt (row ∷ rows) = omega (arith, sum_cons (trees_of (tree_of (map (found_below tables) (out-Stmt stmt).children) row)) (map trees_of (grown tables stmt rows)), count_one row (out-Stmt stmt).children, columns_cons row rows (out-Stmt stmt).children, grown_count stmt rows)

  meaning_count : (stmt : Stmt) (keys : List Key) → trees_in_all (meaning_of tables stmt keys) ≡ sum (map trees_of (grown tables stmt (all_parts stmt (map (λ k. list_for tables stmt k.cells) keys))))
  meaning_count stmt [] = refl
  meaning_count stmt (k ∷ keys) =
      let list = list_for tables stmt k.cells in
      let part = part_in stmt list in
      let after = all_parts stmt (map (λ k. list_for tables stmt k.cells) keys) in
      let one : trees_in (found_for tables stmt k.cells) ≡ sum (map trees_of (grown tables stmt part)) = ap trees_in (found_is tables stmt k.cells) ∙ trees_in_roll _ in
      let two : sum (map trees_of (grown tables stmt (part ++ after))) ≡ sum (map trees_of (grown tables stmt part)) + sum (map trees_of (grown tables stmt after)) =
      ap (λ l. sum (map trees_of l)) (map-append (tree_of (map (found_below tables) (out-Stmt stmt).children)) part after) ∙ ap sum (map-append trees_of (grown tables stmt part) (grown tables stmt after)) ∙ sum_both (map trees_of (grown tables stmt part)) (map trees_of (grown tables stmt after)) in
      omega (arith, one, two, sum_cons (trees_in (found_for tables stmt k.cells)) (map trees_in (meaning_of tables stmt keys)), meaning_count stmt keys)

  -- the law: what a batch takes of the room
  pub batched_count : (stmt : Stmt) (keys : List Key) →
      (let all = all_parts stmt (lists_for tables stmt keys) in
      trees_in_all (meaning_of tables stmt keys) ≡ length all + sum (map (λ k. trees_in_all (column tables all k)) (out-Stmt stmt).children))
  batched_count stmt keys = meaning_count stmt keys ∙ grown_count stmt (all_parts stmt (map (λ k. list_for tables stmt k.cells) keys))
