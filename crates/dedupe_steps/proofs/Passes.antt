-- Lists with an item for each of some things, changed by passes.
use Rattle.std.proofs.Common.{inl, inr, ◌≡◌, ℕ, zero, suc, ◌+◌, ◌<◌, ◌≤◌, ◌≢◌, List, [], ◌∷◌, ◌++◌, drop, length, Option, Some, None, Bool, true, false, cond, refl, sym, ap, ◌∙◌, subst, arith, eq-eqb}
use Rattle.std.specs.Prelude.{◌==◌, ◌&&◌, ◌||◌, if◌then◌else◌, slice_get, slice_set, unwrap_or}
use Rattle.std.specs.List.{position_from}
use Rattle.std.proofs.lemmas.Bool.Decides.{eqb_tells}
use Rattle.pg_base.specs.Base.{BaseParts}
use Rattle.place_tree.specs.declared.place.Tree.{Tree}
use Rattle.plan_steps.specs.declared.plan.Layer.{Layer}
use Rattle.plan_steps.specs.declared.plan.OutPlace.{OutPlace}
use Rattle.plan_steps.specs.Chains.{is_in}
use Rattle.dedupe_steps.specs.Orders.{or_else}
use Rattle.dedupe_steps.specs.Roots.{Mark, met, mark_from, root_at, field_in, is_field_at}
use Rattle.dedupe_steps.specs.Sights.{at_or}

-- ---- one item changed

set_same : {A : Type 0} (d v : A) (xs : List A) (i : ℕ) → i < length xs → at_or d (slice_set xs i v) i ≡ v
set_same d v [] i lt = absurd (omega arith)
set_same d v (x ∷ xs) zero lt = refl
set_same d v (x ∷ xs) (suc i) lt = set_same d v xs i (omega arith)

set_apart : {A : Type 0} (d v : A) (xs : List A) (i k : ℕ) → (i ≡ k → ⊥) → at_or d (slice_set xs i v) k ≡ at_or d xs k
set_apart d v [] i k h = refl
set_apart d v (x ∷ xs) zero zero h = absurd (h refl)
set_apart d v (x ∷ xs) zero (suc k) h = refl
set_apart d v (x ∷ xs) (suc i) zero h = refl
set_apart d v (x ∷ xs) (suc i) (suc k) h = set_apart d v xs i k (λ e. h (ap suc e))

pub set_at : {A : Type 0} (d v : A) (xs new : List A) (i k : ℕ) → new ≡ slice_set xs i v → i < length xs → at_or d new k ≡ (if i == k then v else at_or d xs k)
set_at d v xs new i k e lt = ap (λ l. at_or d l k) e ∙ elim (eqb_tells i k) [
  | inl h ↦ subst (λ n. at_or d (slice_set xs i v) n ≡ v) h.1 (set_same d v xs i lt) ∙ ap (λ b. cond b v (at_or d xs k)) (sym h.0)
  | inr h ↦ set_apart d v xs i k h.1 ∙ ap (λ b. cond b v (at_or d xs k)) (sym h.0)
]

-- one item made from what it was
pub put_at : {A : Type 0} (f : A → A) (d : A) (xs new : List A) (i : ℕ) (v : A) → new ≡ slice_set xs i v → i < length xs → v ≡ f (at_or d xs i)
    → (k : ℕ) → at_or d new k ≡ (if i == k then f (at_or d xs k) else at_or d xs k)
put_at f d xs new i v is lt e k = set_at d v xs new i k is lt ∙ elim (eqb_tells i k) [
  | inl h ↦ ap (λ b. cond b v (at_or d xs k)) h.0 ∙ e ∙ ap (λ n. f (at_or d xs n)) h.1 ∙ sym (ap (λ b. cond b (f (at_or d xs k)) (at_or d xs k)) h.0)
  | inr h ↦ ap (λ b. cond b v (at_or d xs k)) h.0 ∙ sym (ap (λ b. cond b (f (at_or d xs k)) (at_or d xs k)) h.0)
]

-- a place past the end is none that is asked for
pub set_nowhere : {A : Type 0} (v w : A) (i k n : ℕ) → n ≤ i → k < n → w ≡ (if i == k then v else w)
set_nowhere v w i k n le lt = elim (eqb_tells i k) [
  | inl h ↦ absurd (omega (arith, h.1))
  | inr h ↦ ap (λ b. cond b v w) (sym h.0)
]

-- an item that is there already stays, for a first one
pub first_stays : {A : Type 0} (i k : ℕ) (list : List (Option A)) (a v : A) → at_or None list i ≡ Some a
    → at_or None list k ≡ (if i == k then or_else (at_or None list k) (Some v) else at_or None list k)
first_stays i k list a v e = elim (eqb_tells i k) [
  | inl h ↦ (let there : at_or None list k ≡ Some a = subst (λ n. at_or None list n ≡ Some a) h.1 e in
      there ∙ sym (ap (λ o. or_else o (Some v)) there) ∙ ap (λ b. cond b (or_else (at_or None list k) (Some v)) (at_or None list k)) (sym h.0))
  | inr h ↦ ap (λ b. cond b (or_else (at_or None list k) (Some v)) (at_or None list k)) (sym h.0)
]

pub first_put : {A : Type 0} (i k : ℕ) (list new : List (Option A)) (v : A) → at_or None list i ≡ None → new ≡ slice_set list i (Some v) → i < length list
    → at_or None new k ≡ (if i == k then or_else (at_or None list k) (Some v) else at_or None list k)
first_put i k list new v e is lt = set_at None (Some v) list new i k is lt ∙ elim (eqb_tells i k) [
  | inl h ↦ (let there : at_or None list k ≡ None = subst (λ n. at_or None list n ≡ None) h.1 e in
      ap (λ b. cond b (Some v) (at_or None list k)) h.0 ∙ sym (ap (λ o. or_else o (Some v)) there) ∙ ap (λ b. cond b (or_else (at_or None list k) (Some v)) (at_or None list k)) (sym h.0))
  | inr h ↦ ap (λ b. cond b (Some v) (at_or None list k)) h.0 ∙ ap (λ b. cond b (or_else (at_or None list k) (Some v)) (at_or None list k)) (sym h.0)
]

-- ---- passes

pub marks_on : (roots : List (Option ℕ)) (out rest : List OutPlace) (k : ℕ) (o : OutPlace) (old new whole : Mark) → out ≡ o ∷ rest
    → new ≡ (if o.step == k then met old (root_at roots o.place) else old) → mark_from roots k old out ≡ whole → mark_from roots k new rest ≡ whole
marks_on roots out rest k o old new whole d e h =
    ap (λ m. mark_from roots k m rest) e ∙ sym (ap (λ l. mark_from roots k old l) d) ∙ h

or_else_on : {A : Type 0} (b : Bool) (old : Option A) (v : A) (rest : Option A) → or_else (cond b (or_else old (Some v)) old) rest ≡ or_else old (cond b (Some v) rest)
or_else_on true None v rest = refl
or_else_on true (Some a) v rest = refl
or_else_on false old v rest = refl

pub fields_on : (base : BaseParts) (tree : Tree) (out rest : List OutPlace) (k : ℕ) (o : OutPlace) (old new whole : Option ℕ) → out ≡ o ∷ rest
    → new ≡ (if (o.step == k) && is_field_at base tree o.place then or_else old (Some o.place) else old)
    → or_else old (field_in base tree out k) ≡ whole → or_else new (field_in base tree rest k) ≡ whole
fields_on base tree out rest k o old new whole d e h =
    ap (λ m. or_else m (field_in base tree rest k)) e
    ∙ or_else_on ((o.step == k) && is_field_at base tree o.place) old o.place (field_in base tree rest k)
    ∙ sym (ap (λ l. or_else old (field_in base tree l k)) d) ∙ h

twice : {A : Type 0} (b c : Bool) (old : Option A) (v : A)
    → cond c (or_else (cond b (or_else old (Some v)) old) (Some v)) (cond b (or_else old (Some v)) old) ≡ cond (b || c) (or_else old (Some v)) old
twice true true None v = refl
twice true true (Some a) v = refl
twice true false old v = refl
twice false c old v = refl

pub laid_on : (steps rest : List ℕ) (k s layer : ℕ) (old new whole : Option ℕ) → steps ≡ s ∷ rest
    → new ≡ (if s == k then or_else old (Some layer) else old)
    → (if is_in steps k then or_else old (Some layer) else old) ≡ whole → (if is_in rest k then or_else new (Some layer) else new) ≡ whole
laid_on steps rest k s layer old new whole d e h =
    ap (λ m. cond (is_in rest k) (or_else m (Some layer)) m) e
    ∙ twice (s == k) (is_in rest k) old layer
    ∙ sym (ap (λ l. cond (is_in l k) (or_else old (Some layer)) old) d) ∙ h

pub layers_on : (layers rest : List Layer) (k i : ℕ) (l : Layer) (old new whole : Option ℕ) → layers ≡ l ∷ rest
    → new ≡ (if is_in l.steps k then or_else old (Some i) else old)
    → or_else old (position_from (λ x. is_in x.steps k) i layers) ≡ whole → or_else new (position_from (λ x. is_in x.steps k) (i + 1) rest) ≡ whole
layers_on layers rest k i l old new whole d e h =
    ap (λ m. or_else m (position_from (λ x. is_in x.steps k) (i + 1) rest)) e
    ∙ or_else_on (is_in l.steps k) old i (position_from (λ x. is_in x.steps k) (i + 1) rest)
    ∙ sym (ap (λ ls. or_else old (position_from (λ x. is_in x.steps k) i ls)) d) ∙ h

pub or_else-none : {A : Type 0} (o : Option A) → or_else o None ≡ o
or_else-none None = refl
or_else-none (Some a) = refl
