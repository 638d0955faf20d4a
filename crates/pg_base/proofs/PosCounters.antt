-- Counters after more and more bytes.
use Rattle.std.proofs.Common.{◌≡◌, ℕ, ◌+◌, ◌-◌, ◌^◌, ◌<◌, ◌≤◌, min, Bool, true, false, ◌&&◌, ◌||◌, ◌==◌, not, List, [], ◌∷◌, ◌++◌, length, get_or, drop, refl, sym, ap, ◌∙◌, drop-cons, add-one, arith}
use Rattle.std.specs.List.{list_all}
use Rattle.std.proofs.lemmas.Bool.{and_parts}
use Rattle.std.proofs.lemmas.Bool.Decides.{nat_tests}
use Rattle.pg_base.proofs.ListSteps.{drop-past}
use Rattle.pg_base.specs.declared.pos.PosCounter.{PosCounter}
use Rattle.pg_base.specs.Pos.{is_continuation, is_plain, passed, counter_after}

pub counter_after-append : (counter : PosCounter) (xs ys : List ℕ) → counter_after counter (xs ++ ys) ≡ counter_after (counter_after counter xs) ys
unfolding counter_after
counter_after-append counter [] ys = refl
counter_after-append counter (x ∷ xs) ys = counter_after-append (passed counter x) xs ys

split : (z : List ℕ) (i : ℕ) → i < length z → drop i z ≡ get_or z i 0 ∷ drop (i + 1) z
split z i lt = rw add-one (drop-cons z i 0 lt)

pub counter_after-drop : (counter : PosCounter) (z : List ℕ) (i : ℕ) → i < length z → counter_after counter (drop i z) ≡ counter_after (passed counter (get_or z i 0)) (drop (i + 1) z)
unfolding counter_after
counter_after-drop counter z i lt = ap (λ (w : List ℕ). counter_after counter w) (split z i lt)

pub counter_after-end : (counter : PosCounter) (z : List ℕ) (i : ℕ) → length z ≤ i → counter_after counter (drop i z) ≡ counter
unfolding counter_after
counter_after-end counter z i le = ap (λ (w : List ℕ). counter_after counter w) (drop-past z i le)

-- after n bytes that end no line and begin a character
abbrev pub columns_after : PosCounter → ℕ → PosCounter
columns_after counter n = record { pos = record { line = counter.pos.line; column = min (counter.pos.column + n) (2 ^ 32 - 1) }; after_cr = false }

passed-plain : (counter : PosCounter) (b : ℕ) → is_plain b ≡ true → passed counter b ≡ columns_after counter 1
passed-plain counter b e =
    let no : is_continuation b ≡ false = grind (arith, nat_tests) in
    let lf : (b == 10) ≡ false = grind (arith, nat_tests) in
    let cr : (b == 13) ≡ false = grind (arith, nat_tests) in
    rw (no, lf, cr) refl

columns-more : (counter : PosCounter) (n : ℕ) → columns_after (columns_after counter 1) n ≡ columns_after counter (1 + n)
columns-more counter n =
    let k : min (min (counter.pos.column + 1) (2 ^ 32 - 1) + n) (2 ^ 32 - 1) ≡ min (counter.pos.column + (1 + n)) (2 ^ 32 - 1) = omega arith in
    ap (λ (c : ℕ). let r : PosCounter = record { pos = record { line = counter.pos.line; column = c }; after_cr = false } in r) k

pub counter_after-plain : (counter : PosCounter) (b : ℕ) (bytes : List ℕ) → list_all is_plain (b ∷ bytes) ≡ true → counter_after counter (b ∷ bytes) ≡ columns_after counter (1 + length bytes)
unfolding counter_after
counter_after-plain counter b [] e = passed-plain counter b (and_parts (is_plain b) true e).0
counter_after-plain counter b (c ∷ bytes) e =
    let p = and_parts (is_plain b) (list_all is_plain (c ∷ bytes)) e in
    let k : 1 + (1 + length bytes) ≡ 1 + length (c ∷ bytes) = omega arith in
    ap (λ (x : PosCounter). counter_after x (c ∷ bytes)) (passed-plain counter b p.0) ∙ counter_after-plain (columns_after counter 1) c bytes p.1 ∙ columns-more counter (1 + length bytes) ∙ ap (columns_after counter) k

some-plain : (counter : PosCounter) (bytes : List ℕ) → 0 < length bytes → list_all is_plain bytes ≡ true → counter_after counter bytes ≡ columns_after counter (length bytes)
some-plain counter [] lt e = absurd (omega arith)
some-plain counter (b ∷ bytes) lt e = let k : 1 + length bytes ≡ length (b ∷ bytes) = omega arith in counter_after-plain counter b bytes e ∙ ap (columns_after counter) k

-- the same as the code adds it
pub counter_after-columns : (counter : PosCounter) (bytes : List ℕ) (more : ℕ) → 0 < length bytes → list_all is_plain bytes ≡ true → more ≡ min (length bytes) (2 ^ 32 - 1) → columns_after counter more ≡ counter_after counter bytes
counter_after-columns counter bytes more lt e m =
    let k : min (counter.pos.column + more) (2 ^ 32 - 1) ≡ min (counter.pos.column + length bytes) (2 ^ 32 - 1) = omega arith in
    ap (λ (c : ℕ). let r : PosCounter = record { pos = record { line = counter.pos.line; column = c }; after_cr = false } in r) k ∙ sym (some-plain counter bytes lt e)

pub counter_after-nil : (counter : PosCounter) → counter_after counter [] ≡ counter
unfolding counter_after
counter_after-nil counter = refl
