-- What a table keeps true where a row is put or left out.
use Rattle.std.proofs.Common.{◌≡◌, ℕ, ℤ, pos, zero, suc, add-one, ◌+◌, ◌<◌, ◌≤◌, ◌==◌, nat_le, List, [], ◌∷◌, ◌++◌, append_assoc, get_or, drop, length, Some, None, Bool, true, false, refl, sym, ap, ◌∙◌, subst, arith}
use Rattle.std.specs.Prelude.{if◌then◌else◌}
use Rattle.std.proofs.lemmas.Bool.Decides.{nat_tests}
use Rattle.pg_base.specs.declared.cell.Cell.{Cell}
use Rattle.pg_base.proofs.ListSteps.{drop-item}
use Rattle.rel_model.specs.declared.tables.Row.{Row}
use Rattle.rel_model.specs.Tables.{AreNumbered}
use Rattle.rel_model.specs.Picked.{row_numbered}
use Rattle.rel_model.proofs.Rising.{choose}
use Rattle.row_tables.specs.Rows.{put, left_out, next_above, all_raised, raised}

above_is : (next n : ℕ) → (next ≤ next_above next n) × (n < next_above next n)
above_is next n = by (nat_le next n) refl
  where
    by : (b : Bool) → nat_le next n ≡ b → (next ≤ (if b then n + 1 else next)) × (n < (if b then n + 1 else next))
    by true t = let le : next ≤ n = grind (arith, nat_tests, t) in (omega (arith, le), omega arith)
    by false t = let lt : n < next = grind (arith, nat_tests, t) in (omega arith, lt)

weaker : (from next more : ℕ) (rows : List Row) → next ≤ more → AreNumbered from next rows → AreNumbered from more rows
weaker from next more [] le h = tt
weaker from next more (r ∷ rows) le h = (h.0, (let k = h.1 in omega (arith, k, le)), weaker (r.number + 1) next more rows le h.2)

earlier : (from less next : ℕ) (rows : List Row) → less ≤ from → AreNumbered from next rows → AreNumbered less next rows
earlier from less next [] le h = tt
earlier from less next (r ∷ rows) le h = ((let k = h.0 in omega (arith, k, le)), h.1, h.2)

pub numbered_put : (r : Row) (from next : ℕ) (rows : List Row) → from ≤ next → AreNumbered from next rows → (row_numbered rows r.number ≡ None → next ≤ r.number) → AreNumbered from (next_above next r.number) (put r rows)
numbered_put r from next [] le h free =
    let up = above_is next r.number in
    let here = free refl in
    ((let k = here in omega (arith, k, le)), up.1, tt)
numbered_put r from next (s ∷ rows) le h free =
    by (s.number == r.number) refl (numbered_put r (s.number + 1) next rows (let k = h.1 in omega (arith, k)) h.2)
  where
    up : (next ≤ next_above next r.number) × (r.number < next_above next r.number)
    up = above_is next r.number

    by : (b : Bool) → (s.number == r.number) ≡ b → ((row_numbered rows r.number ≡ None → next ≤ r.number) → AreNumbered (s.number + 1) (next_above next r.number) (put r rows)) → AreNumbered from (next_above next r.number) (put r (s ∷ rows))
    by true t below =
        let same : s.number ≡ r.number = grind (arith, nat_tests, t) in
        subst (AreNumbered from (next_above next r.number)) (sym (choose (s.number == r.number) (r ∷ rows) (s ∷ put r rows) true t))
        ((let k = h.0 in omega (arith, k, same)), up.1, subst (λ n. AreNumbered (n + 1) (next_above next r.number) rows) same (weaker (s.number + 1) next (next_above next r.number) rows up.0 h.2))
    by false t below =
        subst (AreNumbered from (next_above next r.number)) (sym (choose (s.number == r.number) (r ∷ rows) (s ∷ put r rows) false t))
        (h.0, (let k = h.1 in let u = up.0 in omega (arith, k, u)), below (λ e. free (choose (s.number == r.number) (Some s) (row_numbered rows r.number) false t ∙ e)))

pub numbered_left : (n from next : ℕ) (rows : List Row) → AreNumbered from next rows → AreNumbered from next (left_out n rows)
numbered_left n from next [] h = tt
numbered_left n from next (s ∷ rows) h = by (s.number == n) (numbered_left n (s.number + 1) next rows h.2)
  where
    by : (b : Bool) → AreNumbered (s.number + 1) next (left_out n rows) → AreNumbered from next (if b then rows else s ∷ left_out n rows)
    by true below = earlier (s.number + 1) from next rows (let k = h.0 in omega (arith, k)) h.2
    by false below = (h.0, h.1, below)

pub next_some : (next n : ℕ) → 1 ≤ next → 1 ≤ next_above next n
next_some next n h = let up = above_is next n in let k = up.0 in omega (arith, k, h)

pub length-raised : (identities : List Bool) (counters : List ℤ) (cells : List Cell) → length counters ≡ length identities → length cells ≡ length identities → length (all_raised identities counters cells) ≡ length identities
length-raised [] counters cells e f = refl
length-raised (b ∷ identities) [] cells e f = absurd (omega (arith, e))
length-raised (b ∷ identities) (n ∷ counters) [] e f = absurd (omega (arith, f))
length-raised (b ∷ identities) (n ∷ counters) (value ∷ cells) e f =
    ap suc (length-raised identities counters cells (let k : length counters ≡ length identities = omega (arith, e) in k) (let k : length cells ≡ length identities = omega (arith, f) in k))

item_after : {A : Type 0} (xs : List A) (i : ℕ) (d : A) → i < length xs → drop i xs ≡ get_or xs i d ∷ drop (suc i) xs
item_after [] i d lt = absurd (omega arith)
item_after (x ∷ xs) zero d lt = refl
item_after (x ∷ xs) (suc i) d lt = item_after xs i d (omega arith)

item_at : {A : Type 0} (xs : List A) (i : ℕ) (d : A) → i < length xs → drop i xs ≡ get_or xs i d ∷ drop (i + 1) xs
item_at xs i d lt = rw add-one (item_after xs i d lt)

-- a turn of the loop over the counters
pub raised_turn : (identities : List Bool) (counters : List ℤ) (cells : List Cell) (i : ℕ) (value : Cell) (v : ℤ) (out more due : List ℤ) → out ++ all_raised (drop i identities) (drop i counters) (drop i cells) ≡ due → i < length identities → length counters ≡ length identities → length cells ≡ length identities → value ≡ get_or cells i value → v ≡ raised (get_or identities i false) (get_or counters i (pos 0)) value → more ≡ out ++ v ∷ [] → more ++ all_raised (drop (i + 1) identities) (drop (i + 1) counters) (drop (i + 1) cells) ≡ due
raised_turn identities counters cells i value v out more due so_far lt e f iv is pushed =
    let b = get_or identities i false in
    let n = get_or counters i (pos 0) in
    ap (λ l. l ++ all_raised (drop (i + 1) identities) (drop (i + 1) counters) (drop (i + 1) cells)) pushed
    ∙ append_assoc out (v ∷ []) (all_raised (drop (i + 1) identities) (drop (i + 1) counters) (drop (i + 1) cells))
    ∙ ap (λ l. out ++ l)
    (ap (λ w. w ∷ all_raised (drop (i + 1) identities) (drop (i + 1) counters) (drop (i + 1) cells)) is
    ∙ ap (λ l. all_raised l (n ∷ drop (i + 1) counters) (value ∷ drop (i + 1) cells)) (sym (item_at identities i false lt))
    ∙ ap (λ l. all_raised (drop i identities) l (value ∷ drop (i + 1) cells)) (sym (item_at counters i (pos 0) (let k : i < length counters = omega (arith, lt, e) in k)))
    ∙ ap (λ l. all_raised (drop i identities) (drop i counters) l) (sym (drop-item cells i value (let k : i < length cells = omega (arith, lt, f) in k) iv)))
    ∙ so_far
