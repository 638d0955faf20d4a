-- A batch from its parts: what was laid out, and what each child found.
use Rattle.std.proofs.Common.{◌≡◌, ℕ, zero, suc, ◌+◌, ◌-◌, ◌<◌, ◌≤◌, List, [], ◌∷◌, ◌++◌, map, length, take, drop, set, get_or, sum, Bor, true, false, append_assoc, add-one, refl, sym, ap, ◌∙◌, arith}
use Rattle.std.proofs.lemmas.List.{map-append}
use Rattle.rel_model.specs.declared.tables.Row.{Row}
use Rattle.rel_model.specs.declared.tables.Tables.{Tables}
use Rattle.rel_model.specs.Ordered.{ordered}
use Rattle.rel_model.specs.Interval.{interval_of, rows_between}
use Rattle.rel_model.proofs.Listed.{interval_unordered, length-ordered}
use Rattle.stmt_tree.specs.declared.stmt.Stmt.{Stmt}
use Rattle.stmt_tree.specs.declared.stmt.Child.{Child}
use Rattle.stmt_tree.specs.declared.stmt.Child.TheViews.{out-Stmt}
use Rattle.stmt_tree.specs.declared.found.Key.{Key}
use Rattle.stmt_tree.specs.declared.found.RowTree.{RowTree}
use Rattle.stmt_tree.specs.declared.found.Found.{Found}
use Rattle.stmt_tree.specs.Meaning.{part_of, meaning_of, trees_in_all}
use Rattle.stmt_tree.specs.Batches.{part_in, all_parts, lists_for, column, firsts, trees_from, founds_from}
use Rattle.stmt_tree.proofs.Batched.{batched, batched_count}
use Rattle.stmt_run.specs.declared.laid.Shape.{Shape}
use Rattle.stmt_run.specs.Laid.{shape_of, found_of, founds_of}

abbrev pub now_all : List (Bor Row) → List Row
now_all rows = map (λ (r : Bor Row). r.now) rows

-- ---- the rows of one key

pub map_take : {A B : Type 0} (f : A → B) (n : ℕ) (xs : List A) → map f (take n xs) ≡ take n (map f xs)
map_take f zero xs = refl
map_take f (suc n) [] = refl
map_take f (suc n) (x ∷ xs) = ap (λ l. f x ∷ l) (map_take f n xs)

pub map_drop : {A B : Type 0} (f : A → B) (n : ℕ) (xs : List A) → map f (drop n xs) ≡ drop n (map f xs)
map_drop f zero xs = refl
map_drop f (suc n) [] = refl
map_drop f (suc n) (x ∷ xs) = map_drop f n xs

pub length_now : (rows : List (Bor Row)) → length (now_all rows) ≡ length rows
length_now [] = refl
length_now (r ∷ rows) = ap suc (length_now rows)

shape_same : (t t' : ℕ) (p p' : ℕ × ℕ) (n n' : ℕ) → t ≡ t' → p ≡ p' → n ≡ n' → ◌≡◌ {A = Shape} (record { total = t; from = p.0; to = p.1; count = n }) (record { total = t'; from = p'.0; to = p'.1; count = n' })
shape_same t t' p p' n n' e f g = λ i. record { total = e i; from = (f i).0; to = (f i).1; count = g i }

take_none : (n : ℕ) → take {A = Row} n [] ≡ []
take_none zero = refl
take_none (suc n) = refl

part_between : (a b : ℕ) (xs : List Row) → take (b - a) (drop a xs) ≡ drop a (take b xs)
part_between zero b xs = let e : b - 0 ≡ b = omega arith in ap (λ n. take n xs) e
part_between (suc a) zero xs = let e : 0 - suc a ≡ 0 = omega arith in ap (λ n. take n (drop (suc a) xs)) e
part_between (suc a) (suc b) [] = take_none (suc b - suc a)
part_between (suc a) (suc b) (x ∷ xs) = let e : suc b - suc a ≡ b - a = omega arith in ap (λ n. take n (drop a xs)) e ∙ part_between a b xs

module _ (stmt : Stmt) (old list : List (Bor Row)) (p : ℕ × ℕ) (at : p ≡ interval_of (out-Stmt stmt).order (out-Stmt stmt).window (now_all old)) where
  abbrev in_order : List Row
  in_order = ordered (out-Stmt stmt).order (now_all old)

  places : p ≡ interval_of (out-Stmt stmt).order (out-Stmt stmt).window in_order
  places = at ∙ sym (interval_unordered (out-Stmt stmt).order (out-Stmt stmt).window (now_all old))

  total : length old ≡ length in_order
  total = sym (length_now old) ∙ sym (length-ordered (out-Stmt stmt).order (now_all old))

  pub no_part : (n : ℕ) → n ≡ length old → (out-Stmt stmt).rows ≡ false → record { total = n; from = p.0; to = p.1; count = 0 } ≡ shape_of stmt in_order
  no_part n is rows = shape_same n (length in_order) p (interval_of (out-Stmt stmt).order (out-Stmt stmt).window in_order) 0 (length (part_in stmt in_order)) (is ∙ total) places (ap (λ b. length (part_of b (interval_of (out-Stmt stmt).order (out-Stmt stmt).window in_order) in_order)) (sym rows))

  module _ (rows : (out-Stmt stmt).rows ≡ true) (kept : now_all list ≡ take p.1 in_order) where
    part : now_all (drop p.0 list) ≡ part_in stmt in_order
    part =
        map_drop (λ (r : Bor Row). r.now) p.0 list
        ∙ ap (drop p.0) kept
        ∙ sym (part_between p.0 p.1 in_order)
        ∙ ap (λ q. rows_between q in_order) places
        ∙ ap (λ b. part_of b (interval_of (out-Stmt stmt).order (out-Stmt stmt).window in_order) in_order) (sym rows)

    pub laid_shape : (n count : ℕ) → n ≡ length old → count ≡ length (drop p.0 list) → record { total = n; from = p.0; to = p.1; count = count } ≡ shape_of stmt in_order
    laid_shape n count all is =
        shape_same n (length in_order) p (interval_of (out-Stmt stmt).order (out-Stmt stmt).window in_order) count (length (part_in stmt in_order)) (all ∙ total) places (is ∙ sym (length_now (drop p.0 list)) ∙ ap length part)

    pub laid_rows : (all new : List (Bor Row)) → new ≡ all ++ drop p.0 list → now_all new ≡ now_all all ++ part_in stmt in_order
    laid_rows all new pushed =
        ap now_all pushed
        ∙ map-append (λ (r : Bor Row). r.now) all (drop p.0 list)
        ∙ ap (λ l. now_all all ++ l) part

-- ---- the first of each column

firsts_split : (x : List Found) (columns : List (List Found)) → firsts (x ∷ columns) ≡ take 1 x ++ firsts columns
firsts_split [] columns = refl
firsts_split (f ∷ x) columns = refl

firsts_after : (columns : List (List Found)) (i : ℕ) (d : List Found) → i < length columns → firsts (drop i columns) ≡ take 1 (get_or columns i d) ++ firsts (drop (suc i) columns)
firsts_after [] i d lt = absurd (omega arith)
firsts_after (x ∷ columns) zero d lt = firsts_split x columns
firsts_after (x ∷ columns) (suc i) d lt = firsts_after columns i d (omega arith)

firsts_at : (columns : List (List Found)) (i : ℕ) (d : List Found) → i < length columns → firsts (drop i columns) ≡ take 1 (get_or columns i d) ++ firsts (drop (i + 1) columns)
firsts_at columns i d lt = rw add-one (firsts_after columns i d lt)

get_seam : {A : Type 0} (f : A → A) (xs : List A) (i : ℕ) (d : A) → i < length xs → get_or (map f (take i xs) ++ drop i xs) i d ≡ get_or xs i d
get_seam f [] i d lt = absurd (omega arith)
get_seam f (x ∷ xs) zero d lt = refl
get_seam f (x ∷ xs) (suc i) d lt = get_seam f xs i d (omega arith)

set_after : {A : Type 0} (f : A → A) (xs : List A) (i : ℕ) (d : A) → i < length xs → set (map f (take i xs) ++ drop i xs) i (f (get_or xs i d)) ≡ map f (take (suc i) xs) ++ drop (suc i) xs
set_after f [] i d lt = absurd (omega arith)
set_after f (x ∷ xs) zero d lt = refl
set_after f (x ∷ xs) (suc i) d lt = ap (λ l. f x ∷ l) (set_after f xs i d (omega arith))

set_turn : {A : Type 0} (f : A → A) (xs : List A) (i : ℕ) (d : A) → i < length xs → set (map f (take i xs) ++ drop i xs) i (f (get_or xs i d)) ≡ map f (take (i + 1) xs) ++ drop (i + 1) xs
set_turn f xs i d lt = rw add-one (set_after f xs i d lt)

length_seam : {A : Type 0} (f : A → A) (xs : List A) (i : ℕ) → length (map f (take i xs) ++ drop i xs) ≡ length xs
length_seam f [] zero = refl
length_seam f [] (suc i) = refl
length_seam f (x ∷ xs) zero = refl
length_seam f (x ∷ xs) (suc i) = ap suc (length_seam f xs i)

module _ (columns now : List (List Found)) (i : ℕ) (x after : List Found) (left : now ≡ map (λ c. drop 1 c) (take i columns) ++ drop i columns) (lt : i < length now) (is : x ≡ get_or now i x) where
  within : i < length columns
  within = let e = ap length left ∙ length_seam (λ (c : List Found). drop 1 c) columns i in omega (arith, lt, e)

  at : x ≡ get_or columns i x
  at = is ∙ ap (λ l. get_or l i x) left ∙ get_seam (λ (c : List Found). drop 1 c) columns i x within

  pub firsts_turn : (list more due : List Found) → list ++ firsts (drop i columns) ≡ due → more ≡ list ++ take 1 x → more ++ firsts (drop (i + 1) columns) ≡ due
  firsts_turn list more due so_far pushed =
      ap (λ l. l ++ firsts (drop (i + 1) columns)) pushed
      ∙ append_assoc list (take 1 x) (firsts (drop (i + 1) columns))
      ∙ ap (λ l. list ++ l) (ap (λ y. take 1 y ++ firsts (drop (i + 1) columns)) at ∙ sym (firsts_at columns i x within))
      ∙ so_far

  pub columns_turn : after ≡ drop 1 x → set now i after ≡ map (λ c. drop 1 c) (take (i + 1) columns) ++ drop (i + 1) columns
  columns_turn dropped =
      ap (λ l. set l i after) left
      ∙ ap (λ y. set (map (λ c. drop 1 c) (take i columns) ++ drop i columns) i y) (dropped ∙ ap (drop 1) at)
      ∙ set_turn (λ (c : List Found). drop 1 c) columns i x within

-- ---- all of it

pub parts_within : (tables : Tables) (stmt : Stmt) (keys : List Key) → length (all_parts stmt (lists_for tables stmt keys)) ≤ trees_in_all (meaning_of tables stmt keys)
parts_within tables stmt keys = let e = batched_count tables stmt keys in omega (arith, e)

founds_same : (stmt : Stmt) (lists : List (List Row)) (trees : List RowTree) → founds_of (map (shape_of stmt) lists) trees ≡ founds_from stmt lists trees
founds_same stmt [] trees = refl
founds_same stmt (list ∷ lists) trees =
    ap (λ l. found_of (shape_of stmt list) (take (length (part_in stmt list)) trees) ∷ l) (founds_same stmt lists (drop (length (part_in stmt list)) trees))

map_both : (tables : Tables) (rows : List Row) (kids : List Child) → map (λ k. trees_in_all (column tables rows k)) kids ≡ map trees_in_all (map (column tables rows) kids)
map_both tables rows [] = refl
map_both tables rows (k ∷ kids) = ap (λ l. trees_in_all (column tables rows k) ∷ l) (map_both tables rows kids)

module _ (tables : Tables) (stmt : Stmt) (keys : List Key) (rows : List (Bor Row)) (laid : now_all rows ≡ all_parts stmt (lists_for tables stmt keys)) where
  pub batch_count : trees_in_all (meaning_of tables stmt keys) ≡ length (all_parts stmt (lists_for tables stmt keys)) + sum (map trees_in_all (map (column tables (now_all rows)) (out-Stmt stmt).children))
  batch_count =
      batched_count tables stmt keys
      ∙ ap (λ l. length (all_parts stmt (lists_for tables stmt keys)) + sum (map (λ k. trees_in_all (column tables l k)) (out-Stmt stmt).children)) (sym laid)
      ∙ ap (λ l. length (all_parts stmt (lists_for tables stmt keys)) + sum l) (map_both tables (now_all rows) (out-Stmt stmt).children)

  pub batch_is : (shapes : List Shape) (columns : List (List Found)) (found : List Found) → shapes ≡ map (shape_of stmt) (lists_for tables stmt keys) → columns ≡ map (column tables (now_all rows)) (out-Stmt stmt).children → found ≡ founds_of shapes (trees_from (now_all rows) columns) → found ≡ meaning_of tables stmt keys
  batch_is shapes columns found a b c =
      c
      ∙ ap (λ s. founds_of s (trees_from (now_all rows) columns)) a
      ∙ founds_same stmt (lists_for tables stmt keys) (trees_from (now_all rows) columns)
      ∙ ap (λ l. founds_from stmt (lists_for tables stmt keys) (trees_from (now_all rows) l)) b
      ∙ ap (λ l. founds_from stmt (lists_for tables stmt keys) (trees_from l (map (column tables l) (out-Stmt stmt).children))) laid
      ∙ sym (batched tables stmt keys)

-- ---- the next of a queue

count_down : (n t : ℕ) → t < n → n - t ≡ suc (n - (t + 1))
count_down n t lt = omega (arith, lt)

next_take : {A : Type 0} (q : List A) (m : ℕ) → take 1 q ++ take m (drop 1 q) ≡ take (suc m) q
next_take [] zero = refl
next_take [] (suc m) = refl
next_take (x ∷ q) m = refl

next_drop : {A : Type 0} (q : List A) (m : ℕ) → drop m (drop 1 q) ≡ drop (suc m) q
next_drop [] zero = refl
next_drop [] (suc m) = refl
next_drop (x ∷ q) m = refl

module _ (n t : ℕ) (lt : t < n) (q q' : List RowTree) (dropped : q' ≡ drop 1 q) where
  pub taken_turn : (list more due : List RowTree) → list ++ take (n - t) q ≡ due → more ≡ list ++ take 1 q → more ++ take (n - (t + 1)) q' ≡ due
  taken_turn list more due so_far pushed =
      ap (λ l. l ++ take (n - (t + 1)) q') pushed
      ∙ append_assoc list (take 1 q) (take (n - (t + 1)) q')
      ∙ ap (λ l. list ++ l)
      (ap (λ l. take 1 q ++ take (n - (t + 1)) l) dropped ∙ next_take q (n - (t + 1)) ∙ ap (λ k. take k q) (sym (count_down n t lt)))
      ∙ so_far

  pub left_turn : (due : List RowTree) → drop (n - t) q ≡ due → drop (n - (t + 1)) q' ≡ due
  left_turn due so_far =
      ap (drop (n - (t + 1))) dropped ∙ next_drop q (n - (t + 1)) ∙ ap (λ k. drop k q) (sym (count_down n t lt)) ∙ so_far
