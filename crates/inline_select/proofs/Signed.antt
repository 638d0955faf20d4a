-- The signatures of row fields: how each is made, and which are needed.
use Rattle.std.proofs.Common.{◌≡◌, ℕ, zero, suc, ◌+◌, ◌<◌, List, [], ◌∷◌, ◌++◌, filter, length, length-append, Option, Some, None, Bool, true, false, cond, refl, sym, ap, ◌∙◌, subst, arith, zero-add}
use Rattle.std.specs.Prelude.{slice_get, unwrap_or}
use Rattle.pg_base.specs.Base.{BaseParts}
use Rattle.pg_base.specs.Schema.{SchemaParts}
use Rattle.pg_base.specs.declared.vars.Vars.{Vars}
use Rattle.place_tree.specs.declared.place.Place.{Place}
use Rattle.place_tree.specs.Needs.{Signature, at_root, signature_below, signature_above, signatures_from, signatures, needs_own, needing}

-- ---- the signature of a place, from that of the place above it

get_first : {A : Type 0} (xs ys : List A) (k : ℕ) → k < length xs → slice_get (xs ++ ys) k ≡ slice_get xs k
get_first [] ys k lt = absurd (omega arith)
get_first (x ∷ xs) ys zero lt = refl
get_first (x ∷ xs) ys (suc k) lt = get_first xs ys k (omega arith)

get_seam : {A : Type 0} (xs ys : List A) (x : A) → slice_get (xs ++ x ∷ ys) (length xs) ≡ Some x
get_seam [] ys x = refl
get_seam (a ∷ xs) ys x = get_seam xs ys x

-- those that are made stay as they are
stays : (schema : SchemaParts) (done : List Signature) (places : List Place) (k : ℕ) → k < length done → slice_get (signatures_from schema done places) k ≡ slice_get done k
stays schema done [] k lt = refl
stays schema done (p ∷ places) k lt =
    let s = signature_below schema (length done) p (signature_above done p.parent) in
    stays schema (done ++ s ∷ []) places k (omega (arith, length-append done (s ∷ [])))
    ∙ get_first done (s ∷ []) k lt

above_same : (a b : List Signature) (parent : Option ℕ) → ((k : ℕ) → parent ≡ Some k → slice_get a k ≡ slice_get b k) → signature_above a parent ≡ signature_above b parent
above_same a b None h = refl
above_same a b (Some k) h = ap (λ o. unwrap_or o at_root) (h k refl)

made_here : (schema : SchemaParts) (done : List Signature) (q : Place) (places : List Place) → ((above : ℕ) → q.parent ≡ Some above → above < length done) →
    slice_get (signatures_from schema done (q ∷ places)) (length done) ≡ Some (signature_below schema (length done) q (signature_above (signatures_from schema done (q ∷ places)) q.parent))
made_here schema done q places h =
    let s = signature_below schema (length done) q (signature_above done q.parent) in
    let more = done ++ s ∷ [] in
    stays schema more places (length done) (omega (arith, length-append done (s ∷ [])))
    ∙ get_seam done [] s
    ∙ ap (λ v. Some (signature_below schema (length done) q v))
    (above_same done (signatures_from schema more places) q.parent (λ k is. sym (stays schema more places k (omega (arith, length-append done (s ∷ []), h k is)) ∙ get_first done (s ∷ []) k (h k is))))

one_place : (q p : Place) → Some q ≡ Some p → q ≡ p
one_place q p e = ap (λ o. unwrap_or o q) e

made : (schema : SchemaParts) (done : List Signature) (places : List Place) (j : ℕ) (p : Place) → slice_get places j ≡ Some p → ((above : ℕ) → p.parent ≡ Some above → above < length done + j) →
    slice_get (signatures_from schema done places) (length done + j) ≡ Some (signature_below schema (length done + j) p (signature_above (signatures_from schema done places) p.parent))
made schema done [] j p at h = cc
made schema done (q ∷ places) zero p at h =
    let all = signatures_from schema done (q ∷ places) in
    let same = one_place q p at in
    let e : length done ≡ length done + 0 = omega arith in
    let P : ℕ → Place → Type 0 = λ k x. slice_get all k ≡ Some (signature_below schema k x (signature_above all x.parent)) in
    let below : (above : ℕ) → q.parent ≡ Some above → above < length done = λ above is. (let lt = h above (ap (λ x. x.parent) (sym same) ∙ is) in omega arith) in
    subst (λ k. P k p) e (subst (P (length done)) same (made_here schema done q places below))
made schema done (q ∷ places) (suc j) p at h =
    let s = signature_below schema (length done) q (signature_above done q.parent) in
    let all = signatures_from schema (done ++ s ∷ []) places in
    let e : length (done ++ s ∷ []) + j ≡ length done + suc j = omega (arith, length-append done (s ∷ [])) in
    let P : ℕ → Type 0 = λ k. slice_get all k ≡ Some (signature_below schema k p (signature_above all p.parent)) in
    subst P e (made schema (done ++ s ∷ []) places j p at (λ above is. omega (arith, length-append done (s ∷ []), h above is)))

-- where each place stands behind the one above it, its signature is made from that one's
pub signature_at : (schema : SchemaParts) (places : List Place) → ((i : ℕ) (p : Place) (above : ℕ) → slice_get places i ≡ Some p → p.parent ≡ Some above → above < i) → (i : ℕ) (p : Place) → slice_get places i ≡ Some p →
    slice_get (signatures schema places) i ≡ Some (signature_below schema i p (signature_above (signatures schema places) p.parent))
signature_at schema places earlier i p at =
    let P : ℕ → Type 0 = λ k. slice_get (signatures schema places) k ≡ Some (signature_below schema k p (signature_above (signatures schema places) p.parent)) in
    subst P (zero-add i) (made schema [] places i p at (λ above is. let lt = earlier i p above at is in omega (arith, lt)))

-- ---- the signatures that are needed

pub needed_at : (base : BaseParts) (vars : Vars) (places : List Place) (ss : List Signature) (i : ℕ) (p : Place) (s : Signature) → slice_get places i ≡ Some p → slice_get ss i ≡ Some s → needs_own base vars p s ≡ true → (n : ℕ) × (slice_get (needing base vars places ss) n ≡ Some s)
needed_at base vars [] ss i p s at is h = cc
needed_at base vars (q ∷ places) [] i p s at is h = cc
needed_at base vars (q ∷ places) (t ∷ ss) zero p s at is h =
    let a : q ≡ p = cc in let b : t ≡ s = cc in
    let on : needs_own base vars q t ≡ true = (λ k. needs_own base vars (a k) (b k)) ∙ h in
    (0, ap (λ c. slice_get (cond c (t ∷ needing base vars places ss) (needing base vars places ss)) 0) on ∙ is)
needed_at base vars (q ∷ places) (t ∷ ss) (suc i) p s at is h = behind (needs_own base vars q t) (needed_at base vars places ss i p s at is h) where
  behind : (c : Bool) → (n : ℕ) × (slice_get (needing base vars places ss) n ≡ Some s) → (n : ℕ) × (slice_get (cond c (t ∷ needing base vars places ss) (needing base vars places ss)) n ≡ Some s)
  behind true z = (suc z.0, z.1)
  behind false z = z

pub filtered_at : {A : Type 0} (test : A → Bool) (xs : List A) (i : ℕ) (x : A) → slice_get xs i ≡ Some x → test x ≡ true → (n : ℕ) × (slice_get (filter test xs) n ≡ Some x)
filtered_at test [] i x at h = cc
filtered_at test (y ∷ xs) zero x at h = let a : y ≡ x = cc in (0, ap (λ c. slice_get (cond c (y ∷ filter test xs) (filter test xs)) 0) (ap test a ∙ h) ∙ at)
filtered_at test (y ∷ xs) (suc i) x at h = behind (test y) (filtered_at test xs i x at h) where
  behind : (c : Bool) → (n : ℕ) × (slice_get (filter test xs) n ≡ Some x) → (n : ℕ) × (slice_get (cond c (y ∷ filter test xs) (filter test xs)) n ≡ Some x)
  behind true z = (suc z.0, z.1)
  behind false z = z
