-- Each value, from those before it.
use Rattle.std.proofs.Common.{◌≡◌, ℕ, zero, suc, ◌+◌, ◌<◌, List, [], ◌∷◌, ◌++◌, length, take, Option, Some, None, cond, refl, sym, ap, ◌∙◌, arith, length-append, append_assoc, append-nil, eq-eqb}
use Rattle.std.proofs.Math.Seq.{take-append_seam}
use Rattle.std.specs.Prelude.{slice_get, ◌==◌}
use Rattle.std.proofs.lemmas.Option.{slice_get_past}
use Rattle.rel_model.specs.declared.tables.Row.{Row}
use Rattle.plan_steps.specs.declared.plan.FetchStep.{FetchStep, out-FetchStep}
use Rattle.plan_steps.specs.declared.plan.Step.{Step}
use Rattle.plan_steps.specs.declared.plan.Step.TheVariants as step
use Rattle.plan_steps.specs.Built.{built}
use Rattle.plan_steps.specs.Values.{Moment, Path, Val, row_on, later, val_of_row, val_or_none, val_at, row_in, key_from, key_by, key_at, step_val, all_vals}
use Rattle.plan_steps.specs.Denoted.{onto}

get_seam : {X : Type 0} (xs ys : List X) (x : X) → slice_get (xs ++ x ∷ ys) (length xs) ≡ Some x
get_seam [] ys x = refl
get_seam (a ∷ xs) ys x = get_seam xs ys x

pub get_take : {X : Type 0} (xs : List X) (n k : ℕ) → k < n → slice_get (take n xs) k ≡ slice_get xs k
get_take [] zero k h = refl
get_take [] (suc n) k h = refl
get_take (a ∷ xs) zero k h = absurd (omega arith)
get_take (a ∷ xs) (suc n) zero h = refl
get_take (a ∷ xs) (suc n) (suc k) h = get_take xs n k (omega arith)

module _ {A B : Type 0} (next : List B → A → B) where
  built_grow : (rest : List A) (done : List B) → (more : List B) × (built next done rest ≡ done ++ more)
  built_grow [] done = ([], simp append-nil)
  built_grow (a ∷ rest) done =
      let g = built_grow rest (done ++ next done a ∷ []) in
      (next done a ∷ g.0, g.1 ∙ simp append_assoc)

  pub built_from : (rest : List A) (done : List B) (k : ℕ) (a : A) → slice_get rest k ≡ Some a → (n : ℕ) → n ≡ length done + k → slice_get (built next done rest) n ≡ Some (next (take n (built next done rest)) a)
  built_from [] done k a h n e = cc
  built_from (x ∷ rest) done zero a h n e =
      let b = next done x in
      let g = built_grow rest (done ++ b ∷ []) in
      let all : built next (done ++ b ∷ []) rest ≡ done ++ (b ∷ g.0) = g.1 ∙ simp append_assoc in
      let n' : n ≡ length done = omega arith in
      let front : take (length done) (done ++ (b ∷ g.0)) ≡ done = take-append_seam done (b ∷ g.0) in
      let same : x ≡ a = cc in
      rw (all, n', front, ← same) (get_seam done g.0 b)
  built_from (x ∷ rest) done (suc k) a h n e =
      let b = next done x in
      built_from rest (done ++ b ∷ []) k a h n (omega (arith, length-append done (b ∷ [])))

  pub built_past : (rest : List A) (done : List B) (k : ℕ) → slice_get rest k ≡ None → (n : ℕ) → n ≡ length done + k → slice_get (built next done rest) n ≡ None
  built_past [] done k h n e = slice_get_past done n (omega arith)
  built_past (x ∷ rest) done zero h n e = cc
  built_past (x ∷ rest) done (suc k) h n e = built_past rest (done ++ next done x ∷ []) k h n (omega (arith, length-append done (next done x ∷ [])))

  pub built_here : (all : List A) (k : ℕ) (a : A) → slice_get all k ≡ Some a → slice_get (built next [] all) k ≡ Some (next (take k (built next [] all)) a)
  built_here all k a h = built_from all [] k a h k (omega arith)

module _ (m : Moment) (path : Path) (steps : List Step) where
  -- each step's value, by those of the steps before it
  pub val_of : (k : ℕ) (s : Step) → slice_get steps k ≡ Some s → val_at (all_vals m steps path) k ≡ step_val m steps path (take k (all_vals m steps path)) s
  val_of k s h = ap val_or_none (built_here (step_val m steps path) steps k s h)

  pub val_before : (vals : List Val) (n k : ℕ) → k < n → val_at (take n vals) k ≡ val_at vals k
  val_before vals n k h = ap val_or_none (get_take vals n k h)

  row_val : (row : Option Row) → row_in (val_of_row row) ≡ row
  row_val None = refl
  row_val (Some row) = refl

  pub val_item : (p g : ℕ) → slice_get steps p ≡ Some (step.Item g) → row_in (val_at (all_vals m steps path) p) ≡ row_on path g
  val_item p g is = ap row_in (val_of p (step.Item g) is) ∙ row_val (row_on path g)

  -- the key of a fetch whose parent is the Item of a fetch is that of its row on the path
  pub key_item : (p g : ℕ) (f : FetchStep) → (out-FetchStep f).parent ≡ Some p → slice_get steps p ≡ Some (step.Item g) →
      key_at m f (all_vals m steps path) ≡ key_from (out-FetchStep f).parent_columns (row_on path g)
  key_item p g f e is = ap (key_by m f (all_vals m steps path)) e ∙ ap (key_from (out-FetchStep f).parent_columns) (val_item p g is)

  pub key_before : (k p : ℕ) (f : FetchStep) → p < k → (out-FetchStep f).parent ≡ Some p → key_at m f (take k (all_vals m steps path)) ≡ key_at m f (all_vals m steps path)
  key_before k p f lt e =
      ap (key_by m f (take k (all_vals m steps path))) e
      ∙ ap (λ v. key_from (out-FetchStep f).parent_columns (row_in v)) (val_before (all_vals m steps path) k p lt)
      ∙ sym (ap (key_by m f (all_vals m steps path)) e)

  key_by_cases : (k : ℕ) (f : FetchStep) → ((q : ℕ) → (out-FetchStep f).parent ≡ Some q → q < k) → (o : Option ℕ) → (out-FetchStep f).parent ≡ o → key_at m f (take k (all_vals m steps path)) ≡ key_at m f (all_vals m steps path)
  key_by_cases k f lt None e = ap (key_by m f (take k (all_vals m steps path))) e ∙ sym (ap (key_by m f (all_vals m steps path)) e)
  key_by_cases k f lt (Some q) e = key_before k q f (lt q e) e

  pub key_taken : (k : ℕ) (f : FetchStep) → ((q : ℕ) → (out-FetchStep f).parent ≡ Some q → q < k) → key_at m f (take k (all_vals m steps path)) ≡ key_at m f (all_vals m steps path)
  key_taken k f lt = key_by_cases k f lt (out-FetchStep f).parent refl

-- the row that was put on a path last
pub row_onto : (path : Path) (s : ℕ) (row : Row) → row_on (onto s path row) s ≡ Some row
row_onto [] s row = ap (λ b. cond b (Some row) None) (eq-eqb s s refl)
row_onto (t ∷ path) s row = ap (λ v. later v (cond (t.step == s) (Some t.row) None)) (row_onto path s row)
