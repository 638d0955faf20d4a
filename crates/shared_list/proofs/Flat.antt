-- Lists in parts.
use Rattle.std.proofs.Common.{◌≡◌, ◌∙◌, ap, sym, refl, ℕ, ◌+◌, ◌-◌, ◌<◌, ◌≤◌, List, [], ◌∷◌, ◌++◌, length, get_or, take, drop, arith}
use Rattle.std.proofs.lemmas.List.{append_assoc, length-append, take-append-drop, drop_more, take_more, take-append-le, drop-append-le, drop-drop}
use Rattle.std.proofs.lemmas.List.Concat.{flat_map-append}
use Rattle.std.proofs.Math.Seq.{take-append-add, drop-append-add}
use Rattle.std.specs.List.{flat_map}
use Rattle.shared_list.specs.Lists.{splice, IsSeat, IsRun}

-- a list at one of its places
pub at_place : {X : Type 0} (xs : List X) (k : ℕ) (x : X) → k < length xs → xs ≡ take k xs ++ (get_or xs k x ∷ drop (k + 1) xs)
at_place xs k x within = sym (take-append-drop k xs) ∙ ap (λ zs. take k xs ++ zs) (drop_more xs k x within)

-- a list in parts, at one of these
pub flat_at : {C T : Type 0} (f : C → List T) (cs : List C) (k : ℕ) (c : C) → k < length cs → flat_map f cs ≡ flat_map f (take k cs) ++ (f (get_or cs k c) ++ flat_map f (drop (k + 1) cs))
flat_at f cs k c within = ap (flat_map f) (at_place cs k c within) ∙ flat_map-append f (take k cs) (get_or cs k c ∷ drop (k + 1) cs)

-- one part more
pub flat_more : {C T : Type 0} (f : C → List T) (cs : List C) (k : ℕ) (c : C) → k < length cs → length (flat_map f (take (k + 1) cs)) ≡ length (flat_map f (take k cs)) + length (f (get_or cs k c))
flat_more f cs k c within =
    ap (λ zs. length (flat_map f zs)) (take_more cs k c within)
    ∙ ap length (flat_map-append f (take k cs) (get_or cs k c ∷ []))
    ∙ length-append (flat_map f (take k cs)) (f (get_or cs k c) ++ [])
    ∙ ap (λ n. length (flat_map f (take k cs)) + n) (length-append (f (get_or cs k c)) [] ∙ omega arith)

-- the first parts have no more than all
pub flat_front : {C T : Type 0} (f : C → List T) (cs : List C) (k : ℕ) → length (flat_map f (take k cs)) ≤ length (flat_map f cs)
flat_front f cs k =
    let e = ap length (ap (flat_map f) (sym (take-append-drop k cs)) ∙ flat_map-append f (take k cs) (drop k cs)) ∙ length-append (flat_map f (take k cs)) (flat_map f (drop k cs)) in
    omega arith

-- a change in one of three pieces
pub splice_in : {T : Type 0} (a x b more : List T) (rest gone at : ℕ) → length a + rest ≡ at → rest + gone ≤ length x → splice (a ++ (x ++ b)) at gone more ≡ a ++ (splice x rest gone more ++ b)
splice_in a x b more rest gone at e fits =
    let front : take at (a ++ (x ++ b)) ≡ a ++ take rest x = ap (λ n. take n (a ++ (x ++ b))) (sym e) ∙ take-append-add a (x ++ b) rest ∙ ap (λ zs. a ++ zs) (take-append-le rest x b (omega arith)) in
    let same : at + gone ≡ length a + (rest + gone) = omega arith in
    let after : drop (at + gone) (a ++ (x ++ b)) ≡ drop (rest + gone) x ++ b = ap (λ n. drop n (a ++ (x ++ b))) same ∙ drop-append-add a (x ++ b) (rest + gone) ∙ drop-append-le (rest + gone) x b fits in
    ap (λ zs. zs ++ (more ++ drop (at + gone) (a ++ (x ++ b)))) front
    ∙ ap (λ zs. (a ++ take rest x) ++ (more ++ zs)) after
    ∙ simp append_assoc

-- the parts with one of them changed
pub splice_part : {C T : Type 0} (f : C → List T) (cs parts : List C) (k rest gone at : ℕ) (c : C) (more : List T) → IsSeat f cs at gone k rest → flat_map f parts ≡ splice (f (get_or cs k c)) rest gone more → flat_map f ((take k cs ++ parts) ++ drop (k + 1) cs) ≡ splice (flat_map f cs) at gone more
splice_part f cs parts k rest gone at c more seat changed =
    flat_map-append f (take k cs ++ parts) (drop (k + 1) cs)
    ∙ ap (λ zs. zs ++ flat_map f (drop (k + 1) cs)) (flat_map-append f (take k cs) parts ∙ ap (λ zs. flat_map f (take k cs) ++ zs) changed)
    ∙ append_assoc (flat_map f (take k cs)) (splice (f (get_or cs k c)) rest gone more) (flat_map f (drop (k + 1) cs))
    ∙ sym (splice_in (flat_map f (take k cs)) (f (get_or cs k c)) (flat_map f (drop (k + 1) cs)) more rest gone at seat.passed (seat.fits c))
    ∙ ap (λ zs. splice zs at gone more) (sym (flat_at f cs k c seat.within))

-- a run in one of three pieces
pub run_in : {T : Type 0} (a x b run : List T) (rest at : ℕ) → length a + rest ≡ at → rest ≤ length x → IsRun x rest run → rest + length run ≤ length x → IsRun (a ++ (x ++ b)) at run
run_in a x b run rest at e within is fits = record {
  rest =
      let one : drop at (a ++ (x ++ b)) ≡ drop rest x ++ b = ap (λ n. drop n (a ++ (x ++ b))) (sym e) ∙ drop-append-add a (x ++ b) rest ∙ drop-append-le rest x b within in
      let same : at + length run ≡ length a + (rest + length run) = omega arith in
      let two : drop (at + length run) (a ++ (x ++ b)) ≡ drop (rest + length run) x ++ b = ap (λ n. drop n (a ++ (x ++ b))) same ∙ drop-append-add a (x ++ b) (rest + length run) ∙ drop-append-le (rest + length run) x b fits in
      one ∙ ap (λ zs. zs ++ b) is.rest ∙ append_assoc run (drop (rest + length run) x) b ∙ ap (λ zs. run ++ zs) (sym two);
}
