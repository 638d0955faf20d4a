-- Where a place lies among parts.
use Rattle.std.proofs.Common.{◌≡◌, ◌∙◌, ap, sym, refl, subst, ℕ, ◌+◌, ◌-◌, ◌<◌, ◌≤◌, ◌^◌, Bool, true, false, List, [], ◌∷◌, ◌++◌, length, get_or, set, add-one, take, drop, inl, inr, Option, None, Some, arith}
use Rattle.std.specs.List.{flat_map, prefix_len, slice_get}
use Rattle.std.proofs.lemmas.List.{get_or-append-add, get_or_append_left, length-append, length-drop, length-take-le, take-append-drop, append-nil, take_all, set_split}
use Rattle.std.proofs.lemmas.List.Concat.{flat_map-append}
use Rattle.std.proofs.lemmas.List.Sums.{prefix_len-le-length}
use Rattle.std.proofs.lemmas.Option.{get_or_from_slice_get, slice_get_read, slice_get_within, slice_get_cases}
use Rattle.std.proofs.lemmas.Bool.{cases_lt}
use Rattle.std.specs.Option.{option_to_list}
use Rattle.shared_list.specs.Lists.{splice, Splits, IsSeat, IsBegun, IsNarrowed, IsRun, IsFirstMark, IsFirstBefore}
use Rattle.shared_list.proofs.Flat.{flat_at, flat_more, flat_front, splice_part, run_in}
use Rattle.shared_list.proofs.Front.{passes_before, fails_after, get_middle, splits_middle, front_middle}

-- how many items all parts have, by one of them
pub flat_length : {C T : Type 0} (f : C → List T) (cs : List C) (k : ℕ) (c : C) → k < length cs → length (flat_map f cs) ≡ length (flat_map f (take k cs)) + (length (f (get_or cs k c)) + length (flat_map f (drop (k + 1) cs)))
flat_length f cs k c within =
    ap length (flat_at f cs k c within)
    ∙ length-append (flat_map f (take k cs)) (f (get_or cs k c) ++ flat_map f (drop (k + 1) cs))
    ∙ ap (λ n. length (flat_map f (take k cs)) + n) (length-append (f (get_or cs k c)) (flat_map f (drop (k + 1) cs)))

-- an item of a part is one of all
pub get_flat : {C T : Type 0} (f : C → List T) (cs : List C) (k : ℕ) (c part : C) (j : ℕ) (x : T) → k < length cs → c ≡ get_or cs k c → part ≡ c → slice_get (f part) j ≡ Some x → (length (flat_map f (take k cs)) + j < length (flat_map f cs)) × (get_or (flat_map f cs) (length (flat_map f (take k cs)) + j) x ≡ x)
get_flat f cs k c part j x within is same found =
    let here : f part ≡ f (get_or cs k c) = ap f (same ∙ is) in
    let got : slice_get (f (get_or cs k c)) j ≡ Some x = ap (λ zs. slice_get zs j) (sym here) ∙ found in
    let inside : j < length (f (get_or cs k c)) = slice_get_within (f (get_or cs k c)) j x got in
    let all = flat_length f cs k c within in (
      omega arith,
      ap (λ zs. get_or zs (length (flat_map f (take k cs)) + j) x) (flat_at f cs k c within)
          ∙ get_middle (flat_map f (take k cs)) (f (get_or cs k c)) (flat_map f (drop (k + 1) cs)) j x inside
          ∙ get_or_from_slice_get (f (get_or cs k c)) j x x got,
    )

pub get_seat : {C T : Type 0} (f : C → List T) (cs : List C) (at k rest : ℕ) (c part : C) (x : T) → IsSeat f cs at 1 k rest → c ≡ get_or cs k c → part ≡ c → slice_get (f part) rest ≡ Some x → slice_get (flat_map f cs) at ≡ Some x
get_seat f cs at k rest c part x seat is same found =
    let both = get_flat f cs k c part rest x seat.within is same found in
    subst (λ n. slice_get (flat_map f cs) n ≡ Some x) seat.passed (slice_get_read (flat_map f cs) (length (flat_map f cs)) (length (flat_map f (take k cs)) + rest) x refl both.0 (sym both.1))

same_suc : (k m : ℕ) → k + 1 ≡ m + 1 → m ≡ k
same_suc k m e = omega arith

-- the search goes on after a part that begins before the place
pub narrowed_low : {C T : Type 0} (f : C → List T) (p : T → Bool) (cs : List C) (low high m : ℕ) (c part : C) (x : T) → IsNarrowed f cs low high (prefix_len p (flat_map f cs)) → Splits p (flat_map f cs) → m < high → c ≡ get_or cs m c → part ≡ c → slice_get (f part) 0 ≡ Some x → p x ≡ true → IsNarrowed f cs (m + 1) high (prefix_len p (flat_map f cs))
narrowed_low {C = C} f p cs low high m c part x so_far splits below is same found passes =
    let in_cs : m < length cs = omega (arith, so_far.within) in
    let both = get_flat f cs m c part 0 x in_cs is same found in
    let here = passes_before p (flat_map f cs) (length (flat_map f (take m cs)) + 0) x splits both.0 (ap p both.1 ∙ passes) in
    record {
      order = omega arith;
      within = so_far.within;
      before = λ k e. subst (λ n. length (flat_map f (take n cs)) < prefix_len p (flat_map f cs)) (same_suc k m e) (omega arith);
      after = so_far.after;
    }

-- and before one that doesn't
pub narrowed_high : {C T : Type 0} (f : C → List T) (p : T → Bool) (cs : List C) (low high m : ℕ) (c part : C) (x : T) → IsNarrowed f cs low high (prefix_len p (flat_map f cs)) → low ≤ m → m < high → c ≡ get_or cs m c → part ≡ c → slice_get (f part) 0 ≡ Some x → p x ≡ false → IsNarrowed f cs low m (prefix_len p (flat_map f cs))
narrowed_high f p cs low high m c part x so_far from below is same found fails =
    let in_cs : m < length cs = omega (arith, so_far.within) in
    let both = get_flat f cs m c part 0 x in_cs is same found in
    let here = fails_after p (flat_map f cs) (length (flat_map f (take m cs)) + 0) x (ap p both.1 ∙ fails) in
    record {
      order = from;
      within = omega arith;
      before = so_far.before;
      after = λ _. omega arith;
    }

pub splits_part : {C T : Type 0} (f : C → List T) (p : T → Bool) (cs : List C) (k : ℕ) (c part : C) → Splits p (flat_map f cs) → k < length cs → c ≡ get_or cs k c → part ≡ c → Splits p (f part)
splits_part {C = C} f p cs k c part splits within is same =
    subst (λ (q : C). Splits p (f q)) (sym (same ∙ is)) (splits_middle p (flat_map f (take k cs)) (f (get_or cs k c)) (flat_map f (drop (k + 1) cs)) (subst (Splits p) (flat_at f cs k c within) splits))

-- the place lies in the last part that begins before it
pub front_part : {C T : Type 0} (f : C → List T) (p : T → Bool) (cs : List C) (count last : ℕ) (c part : C) → IsBegun f cs count (prefix_len p (flat_map f cs)) → last + 1 ≡ count → c ≡ get_or cs last c → part ≡ c → length (flat_map f (take last cs)) + prefix_len p (f part) ≡ prefix_len p (flat_map f cs)
front_part {C = C} f p cs count last c part begun e is same =
    let in_cs : last < length cs = omega (arith, begun.within) in
    let before = begun.before last e in
    let all = flat_length f cs last c in_cs in
    let more = flat_more f cs last c in_cs in
    let top = prefix_len-le-length p (flat_map f cs) in
    let after : prefix_len p (flat_map f cs) ≤ length (flat_map f (take last cs)) + length (f (get_or cs last c)) =
    elim (cases_lt count (length cs)) [
      | inl h ↦ subst (λ n. prefix_len p (flat_map f cs) ≤ n) (ap (λ n. length (flat_map f (take n cs))) (sym e) ∙ more) (begun.after h)
      | inr h ↦
          let whole : take (last + 1) cs ≡ cs = take_all (last + 1) cs (omega arith) in
          subst (λ n. prefix_len p (flat_map f cs) ≤ n) (ap (λ zs. length (flat_map f zs)) (sym whole) ∙ more) top
    ] in
    let split = flat_at f cs last c in_cs in
    let at = front_middle p (flat_map f (take last cs)) (f (get_or cs last c)) (flat_map f (drop (last + 1) cs)) (subst (λ zs. length (flat_map f (take last cs)) ≤ prefix_len p zs) split (omega arith)) (subst (λ zs. prefix_len p zs ≤ length (flat_map f (take last cs)) + length (f (get_or cs last c))) split after) in
    ap (λ (q : C). length (flat_map f (take last cs)) + prefix_len p (f q)) (same ∙ is) ∙ sym at ∙ sym (ap (prefix_len p) split)

pub run_seat : {C T : Type 0} (f : C → List T) (cs : List C) (at k rest : ℕ) (c part : C) (run : List T) → IsSeat f cs at 1 k rest → c ≡ get_or cs k c → part ≡ c → IsRun (f part) rest run → IsRun (flat_map f cs) at run
run_seat {C = C} f cs at k rest c part run seat is same found =
    let here : IsRun (f (get_or cs k c)) rest run = subst (λ (q : C). IsRun (f q) rest run) (same ∙ is) found in
    let inside = seat.fits c in
    let size = ap length here.rest ∙ length-append run (drop (rest + length run) (f (get_or cs k c))) in
    let one = length-drop rest (f (get_or cs k c)) in
    let two = length-drop (rest + length run) (f (get_or cs k c)) in
    subst (λ zs. IsRun zs at run) (sym (flat_at f cs k c seat.within))
    (run_in (flat_map f (take k cs)) (f (get_or cs k c)) (flat_map f (drop (k + 1) cs)) run rest at seat.passed (omega arith) here (omega arith))

-- a part has no more items than all
pub part_fits : {C T : Type 0} (f : C → List T) (cs : List C) (k bound : ℕ) (c part : C) → length (flat_map f cs) < bound → k < length cs → c ≡ get_or cs k c → part ≡ c → length (f part) < bound
part_fits {C = C} f cs k bound c part less within is same =
    let all = flat_length f cs k c within in
    let here : length (f part) ≡ length (f (get_or cs k c)) = ap (λ (q : C). length (f q)) (same ∙ is) in
    omega arith

-- the sum of the first parts with one more
pub passed_fits : {C T : Type 0} (f : C → List T) (cs : List C) (count k bound : ℕ) (c : C) → length (flat_map f cs) < bound → k < length (take count cs) → c ≡ get_or (take count cs) k c → length (flat_map f (take k (take count cs))) + length (f c) < bound
passed_fits {C = C} f cs count k bound c less within is =
    let one = flat_more f (take count cs) k c within in
    let two = flat_front f (take count cs) (k + 1) in
    let three = flat_front f cs count in
    let here : length (f c) ≡ length (f (get_or (take count cs) k c)) = ap (λ (q : C). length (f q)) is in
    omega arith

-- the parts before, what the part has become, and the parts after
pub spliced_seat : {C T : Type 0} (f : C → List T) (cs parts : List C) (at gone k rest : ℕ) (c part : C) (made made' made'' made''' : List C) (more : List T) → IsSeat f cs at gone k rest → c ≡ get_or cs k c → part ≡ c → flat_map f parts ≡ splice (f part) rest gone more → made ≡ [] → made' ≡ made ++ take k cs → made'' ≡ made' ++ parts → made''' ≡ made'' ++ drop (k + 1) cs → flat_map f made''' ≡ splice (flat_map f cs) at gone more
spliced_seat {C = C} f cs parts at gone k rest c part made made' made'' made''' more seat is same changed none front middle after =
    let all : made''' ≡ (take k cs ++ parts) ++ drop (k + 1) cs = cc in
    ap (flat_map f) all ∙ splice_part f cs parts k rest gone at c more seat (changed ∙ ap (λ (q : C). splice (f q) rest gone more) (same ∙ is))

-- a list cut in two, in pieces
pub halves : {C T : Type 0} (f : C → List T) (cs front after : List C) (cut : ℕ) (a b target : List T) → front ≡ take cut cs → after ≡ drop cut cs → a ≡ flat_map f front → b ≡ flat_map f after → flat_map f cs ≡ target → a ++ (b ++ []) ≡ target
halves f cs front after cut a b target one two first second all =
    ap (λ zs. zs ++ (b ++ [])) (first ∙ ap (flat_map f) one)
    ∙ ap (λ zs. flat_map f (take cut cs) ++ zs) (append-nil b ∙ second ∙ ap (flat_map f) two)
    ∙ sym (flat_map-append f (take cut cs) (drop cut cs))
    ∙ ap (flat_map f) (take-append-drop cut cs)
    ∙ all

-- a changed list has one item more at most
pub splice_length : {T : Type 0} (xs more : List T) (at gone : ℕ) → at + gone ≤ length xs → length (splice xs at gone more) + gone ≡ length xs + length more
splice_length xs more at gone within =
    let one = length-append (take at xs) (more ++ drop (at + gone) xs) in
    let two = length-append more (drop (at + gone) xs) in
    let three = length-drop (at + gone) xs in
    let four = length-take-le at xs (omega arith) in
    omega arith

pub one_item : {T : Type 0} (item : Option T) → length (option_to_list item) ≤ 1
one_item None = omega arith
one_item (Some x) = omega arith

-- each half of a changed list is short enough
pub half_fits : {C T : Type 0} (f : C → List T) (cs front after : List C) (cut : ℕ) (xs : List T) (item : Option T) (at gone : ℕ) → front ≡ take cut cs → after ≡ drop cut cs → flat_map f cs ≡ splice xs at gone (option_to_list item) → at + gone ≤ length xs → length xs < 2 ^ 63 → (length (flat_map f cs) < 2 ^ 64) × (length (flat_map f front) < 2 ^ 64) × (length (flat_map f after) < 2 ^ 64)
half_fits f cs front after cut xs item at gone one two all within fits =
    let size = splice_length xs (option_to_list item) at gone within in
    let few = one_item item in
    let whole = ap length all in
    let sum = ap length (ap (flat_map f) (sym (take-append-drop cut cs)) ∙ flat_map-append f (take cut cs) (drop cut cs)) ∙ length-append (flat_map f (take cut cs)) (flat_map f (drop cut cs)) in
    let a = ap (λ zs. length (flat_map f zs)) one in
    let b = ap (λ zs. length (flat_map f zs)) two in
    (omega arith, omega arith, omega arith)

-- one item in place of another
pub set_splice : {T : Type 0} (xs : List T) (at : ℕ) (x : T) → at < length xs → set xs at x ≡ splice xs at 1 (x ∷ [])
set_splice xs at x within = rw add-one (set_split xs at x within)

-- the same by what a part tells of its first item
pub begun_low : {C T : Type 0} (f : C → List T) (p : T → Bool) (cs : List C) (low high m : ℕ) (c : C) (told : Bool) → IsNarrowed f cs low high (prefix_len p (flat_map f cs)) → Splits p (flat_map f cs) → m < high → c ≡ get_or cs m c → 0 < length (f c) → IsFirstBefore p (f c) told → told ≡ true → IsNarrowed f cs (m + 1) high (prefix_len p (flat_map f cs))
begun_low f p cs low high m c told so_far splits below is some first passes =
    elim ((slice_get_cases (f c) 0).1) [
      | inl w ↦ narrowed_low f p cs low high m c c w.0 so_far splits below is refl w.2 (first.first w.0 w.2 ∙ passes)
      | inr w ↦ absurd (omega (arith, w.0))
    ]

pub begun_high : {C T : Type 0} (f : C → List T) (p : T → Bool) (cs : List C) (low high m : ℕ) (c : C) (told : Bool) → IsNarrowed f cs low high (prefix_len p (flat_map f cs)) → low ≤ m → m < high → c ≡ get_or cs m c → 0 < length (f c) → IsFirstBefore p (f c) told → told ≡ false → IsNarrowed f cs low m (prefix_len p (flat_map f cs))
begun_high f p cs low high m c told so_far from below is some first fails =
    elim ((slice_get_cases (f c) 0).1) [
      | inl w ↦ narrowed_high f p cs low high m c c w.0 so_far from below is refl w.2 (first.first w.0 w.2 ∙ fails)
      | inr w ↦ absurd (omega (arith, w.0))
    ]

head_append : {T : Type 0} (a b : List T) → 0 < length a → slice_get (a ++ b) 0 ≡ slice_get a 0
head_append [] b some = absurd (omega arith)
head_append (x ∷ a) b some = refl

-- the first mark of a list in parts
pub first_flat : {C T : Type 0} (f : C → List T) (mark : T → ℕ) (cs : List C) (one two : C) (m : ℕ) → 0 < length cs → one ≡ get_or cs 0 one → two ≡ get_or cs 0 two → 0 < length (f one) → IsFirstMark mark (f two) m → IsFirstMark mark (flat_map f cs) m
first_flat f mark [] one two m within e g some first = absurd (omega arith)
first_flat {C = C} f mark (c ∷ cs) one two m within e g some first = record {
  first = λ x found.
      let here : 0 < length (f c) = subst (λ (q : C). 0 < length (f q)) e some in
      first.first x (ap (λ (q : C). slice_get (f q) 0) g ∙ sym (head_append (f c) (flat_map f cs) here) ∙ found);
}
