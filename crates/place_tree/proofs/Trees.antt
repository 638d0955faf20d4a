-- Facts of places in preorder.
use Rattle.std.proofs.Common.{◌≡◌, ℕ, zero, suc, ◌+◌, ◌<◌, List, [], ◌∷◌, ◌++◌, length, length-append, drop, Option, Some, None, Bool, true, false, refl, sym, ap, ◌∙◌, subst, arith, zero-add}
use Rattle.std.specs.Prelude.{slice_get, ⊤, unwrap_or}
use Rattle.pg_base.specs.Schema.{SchemaParts}
use Rattle.place_tree.specs.declared.place.Place.{Place}
use Rattle.place_tree.specs.Fold.{Answer, same_place, when, fold}
use Rattle.place_tree.specs.Typed.{IsTree, StandsUnder}
use Rattle.place_tree.specs.Needs.{Signature, at_root, signature_below, signature_above, signatures_from, signatures}
use Rattle.place_tree.proofs.Folds.{same_place_true}

-- ---- what stands before a place is passed over below it

passed_over : {M : Type 0} (b : Bool) (f : ⊤ → M) (m : M) → b ≡ false → when b f m ≡ m
passed_over true f m h = cc
passed_over false f m h = refl

module _ {S M : Type 0} (ask : ℕ → Place → S → Answer S) (see : ℕ → Place → S → Answer M → M → M) (nothing : M) where
  pub skips : (n : ℕ) (places : List Place) (k : ℕ) (parent : Option ℕ) (s : S) → ((j : ℕ) (p : Place) → j < n → slice_get places j ≡ Some p → same_place p.parent parent ≡ false) → fold ask see nothing places k parent s ≡ fold ask see nothing (drop n places) (k + n) parent s
  skips zero places k parent s h = let e : k ≡ k + 0 = omega arith in ap (λ i. fold ask see nothing places i parent s) e
  skips (suc n) [] k parent s h = refl
  skips (suc n) (p ∷ places) k parent s h =
      let e : k + 1 + n ≡ k + suc n = omega arith in
      passed_over (same_place p.parent parent) _ _ (h zero p (omega arith) refl)
      ∙ skips n places (k + 1) parent s (λ j q lt at. h (suc j) q (omega arith) at)
      ∙ ap (λ i. fold ask see nothing (drop n places) i parent s) e

not_under : (o : Option ℕ) (i : ℕ) → ((above : ℕ) → o ≡ Some above → above < i) → same_place o (Some i) ≡ false
not_under None i h = refl
not_under (Some x) i h = by (same_place (Some x) (Some i)) refl
  where
    by : (b : Bool) → same_place (Some x) (Some i) ≡ b → b ≡ false
    by true e =
        let lt = h x refl in
        let same : Some x ≡ Some i = same_place_true (Some x) (Some i) e in
        let number : Option ℕ → ℕ = λ o. elim o as (λ _. ℕ) [ None ↦ i | Some y ↦ y ] in
        let equal : x ≡ i = ap number same in
        absurd (omega arith)
    by false e = refl

-- below a place of a tree, only the places behind it count
pub below_place : {S M : Type 0} (ask : ℕ → Place → S → Answer S) (see : ℕ → Place → S → Answer M → M → M) (nothing : M) (schema : SchemaParts) (root : ℕ) (places : List Place) → IsTree schema root places → (i : ℕ) (s : S) → fold ask see nothing places 0 (Some i) s ≡ fold ask see nothing (drop (i + 1) places) (i + 1) (Some i) s
below_place ask see nothing schema root places tree i s =
    let e : 0 + (i + 1) ≡ i + 1 = omega arith in
    skips ask see nothing (i + 1) places 0 (Some i) s (λ j p lt at. not_under p.parent i (λ above is. earlier j p lt at above is))
    ∙ ap (λ k. fold ask see nothing (drop (i + 1) places) k (Some i) s) e
  where
    earlier : (j : ℕ) (p : Place) → j < i + 1 → slice_get places j ≡ Some p → (above : ℕ) → p.parent ≡ Some above → above < i
    earlier j p lt at above is =
        let under : StandsUnder schema root places j p (Some above) = subst (StandsUnder schema root places j p) is (tree.under j p at) in
        let first = under.earlier in omega arith

-- ---- the signature of a place, from that of the place above it

get_first : {A : Type 0} (xs ys : List A) (k : ℕ) → k < length xs → slice_get (xs ++ ys) k ≡ slice_get xs k
get_first [] ys k lt = absurd (omega arith)
get_first (x ∷ xs) ys zero lt = refl
get_first (x ∷ xs) ys (suc k) lt = get_first xs ys k (omega arith)

get_seam : {A : Type 0} (xs ys : List A) (x : A) → slice_get (xs ++ x ∷ ys) (length xs) ≡ Some x
get_seam [] ys x = refl
get_seam (a ∷ xs) ys x = get_seam xs ys x

-- those that are made stay as they are
stays : (schema : SchemaParts) (done : List Signature) (places : List Place) (k : ℕ) → k < length done → slice_get (signatures_from schema done places) k ≡ slice_get done k
stays schema done [] k lt = refl
stays schema done (p ∷ places) k lt =
    let s = signature_below schema (length done) p (signature_above done p.parent) in
    stays schema (done ++ s ∷ []) places k (omega (arith, length-append done (s ∷ [])))
    ∙ get_first done (s ∷ []) k lt

above_same : (a b : List Signature) (parent : Option ℕ) → ((k : ℕ) → parent ≡ Some k → slice_get a k ≡ slice_get b k) → signature_above a parent ≡ signature_above b parent
above_same a b None h = refl
above_same a b (Some k) h = ap (λ o. unwrap_or o at_root) (h k refl)

made_here : (schema : SchemaParts) (done : List Signature) (q : Place) (places : List Place) → ((above : ℕ) → q.parent ≡ Some above → above < length done) →
    slice_get (signatures_from schema done (q ∷ places)) (length done) ≡ Some (signature_below schema (length done) q (signature_above (signatures_from schema done (q ∷ places)) q.parent))
made_here schema done q places h =
    let s = signature_below schema (length done) q (signature_above done q.parent) in
    let more = done ++ s ∷ [] in
    stays schema more places (length done) (omega (arith, length-append done (s ∷ [])))
    ∙ get_seam done [] s
    ∙ ap (λ v. Some (signature_below schema (length done) q v))
    (above_same done (signatures_from schema more places) q.parent (λ k is. sym (stays schema more places k (omega (arith, length-append done (s ∷ []), h k is)) ∙ get_first done (s ∷ []) k (h k is))))

one_place : (q p : Place) → Some q ≡ Some p → q ≡ p
one_place q p e = ap (λ o. unwrap_or o q) e

made : (schema : SchemaParts) (done : List Signature) (places : List Place) (j : ℕ) (p : Place) → slice_get places j ≡ Some p → ((above : ℕ) → p.parent ≡ Some above → above < length done + j) →
    slice_get (signatures_from schema done places) (length done + j) ≡ Some (signature_below schema (length done + j) p (signature_above (signatures_from schema done places) p.parent))
made schema done [] j p at h = cc
made schema done (q ∷ places) zero p at h =
    let all = signatures_from schema done (q ∷ places) in
    let same = one_place q p at in
    let e : length done ≡ length done + 0 = omega arith in
    let P : ℕ → Place → Type 0 = λ k x. slice_get all k ≡ Some (signature_below schema k x (signature_above all x.parent)) in
    let below : (above : ℕ) → q.parent ≡ Some above → above < length done = λ above is. (let lt = h above (ap (λ x. x.parent) (sym same) ∙ is) in omega arith) in
    subst (λ k. P k p) e (subst (P (length done)) same (made_here schema done q places below))
made schema done (q ∷ places) (suc j) p at h =
    let s = signature_below schema (length done) q (signature_above done q.parent) in
    let all = signatures_from schema (done ++ s ∷ []) places in
    let e : length (done ++ s ∷ []) + j ≡ length done + suc j = omega (arith, length-append done (s ∷ [])) in
    let P : ℕ → Type 0 = λ k. slice_get all k ≡ Some (signature_below schema k p (signature_above all p.parent)) in
    subst P e (made schema (done ++ s ∷ []) places j p at (λ above is. omega (arith, length-append done (s ∷ []), h above is)))

-- in a tree the signature of a place is made from that of the place above it
pub signature_at : (schema : SchemaParts) (root : ℕ) (places : List Place) → IsTree schema root places → (i : ℕ) (p : Place) → slice_get places i ≡ Some p →
    slice_get (signatures schema places) i ≡ Some (signature_below schema i p (signature_above (signatures schema places) p.parent))
signature_at schema root places tree i p at =
    let P : ℕ → Type 0 = λ k. slice_get (signatures schema places) k ≡ Some (signature_below schema k p (signature_above (signatures schema places) p.parent)) in
    subst P (zero-add i) (made schema [] places i p at (λ above is. earlier above is))
  where
    earlier : (above : ℕ) → p.parent ≡ Some above → above < 0 + i
    earlier above is =
        let under : StandsUnder schema root places i p (Some above) = subst (StandsUnder schema root places i p) is (tree.under i p at) in
        let first = under.earlier in omega arith
