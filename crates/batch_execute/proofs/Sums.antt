-- As many statements are sent as steps are asked, and no more rows are found than by the asked steps at each path.
use Rattle.std.proofs.Common.{◌≡◌, ℕ, ◌+◌, ◌<◌, ◌≤◌, List, [], ◌∷◌, ◌++◌, take, length, Option, Some, None, Bool, true, false, refl, sym, ap, ◌∙◌, subst, arith, length-append}
use Rattle.std.specs.Prelude.{slice_get, IfSome}
use Rattle.std.proofs.lemmas.Option.{slice_get_within}
use Rattle.place_tree.specs.declared.place.Tree.{Tree}
use Rattle.plan_steps.specs.declared.plan.FetchStep.{FetchStep, out-FetchStep}
use Rattle.plan_steps.specs.declared.plan.Plan.{Plan}
use Rattle.plan_steps.specs.declared.plan.Root.{Root}
use Rattle.plan_steps.specs.declared.plan.Step.{Step}
use Rattle.plan_steps.specs.declared.plan.Step.TheVariants as step
use Rattle.plan_steps.specs.Built.{built}
use Rattle.plan_steps.specs.Named.{named_by, fetch_at, fetch_in, over}
use Rattle.plan_steps.specs.Sent.{places_from, stances, is_asked, one_if, asked_count, total, rows_by, rows_found}
use Rattle.plan_steps.specs.Values.{Moment}
use Rattle.stmt_tree.specs.Meaning.{trees_in_all}
use Rattle.batch_execute.specs.Entries.{keys_at, is_sent_with, is_sent_now, answered_if, fetched_next, fetched_all, sent_from, trees_found}
use Rattle.batch_execute.specs.Fetched.{FetchedParts}
use Rattle.batch_execute.specs.Reading.{fetched_or, fetched_at}
use Rattle.batch_execute.specs.Ways.{fetch_above, way_of}
use Rattle.batch_execute.proofs.Built.{places_length, built_length, front_built, total_places, total_same}
use Rattle.batch_execute.proofs.Reached.{keys_same, fetched_is, reached, asked_same}

module _ (m : Moment) (tree : Tree) (plan : Plan) (r : Root) where
  sent_is : (ss : List Step) (k : ℕ) (made : List FetchedParts) → built (fetched_next m tree plan r) made (places_from k ss) ≡ fetched_all m tree plan r → length made ≡ k →
      sent_from m tree plan r made (places_from k ss) ≡ total (λ j. one_if (is_sent_now m tree plan r (take j (fetched_all m tree plan r)) j)) (places_from k ss)
  sent_is [] k made whole long = refl
  sent_is (s ∷ ss) k made whole long =
      let front : take k (fetched_all m tree plan r) ≡ made = ap (λ n. take n (fetched_all m tree plan r)) (sym long) ∙ ap (take (length made)) (sym whole) ∙ front_built (fetched_next m tree plan r) (places_from k (s ∷ ss)) made in
      let here : one_if (is_sent_now m tree plan r made k) ≡ one_if (is_sent_now m tree plan r (take k (fetched_all m tree plan r)) k) = ap (λ f. one_if (is_sent_now m tree plan r f k)) (sym front) in
      let n : length (made ++ fetched_next m tree plan r made k ∷ []) ≡ k + 1 = length-append made (fetched_next m tree plan r made k ∷ []) ∙ ap (λ j. j + 1) long in
      let rest = sent_is ss (k + 1) (made ++ fetched_next m tree plan r made k ∷ []) whole n in
      omega (arith, here, rest)

module _ (m : Moment) (tree : Tree) (plan : Plan) (r : Root)
    (earlier : (k : ℕ) (s : Step) → slice_get plan.steps k ≡ Some s → IfSome (named_by s) (λ j. j < k))
    (stands : (k : ℕ) (f : FetchStep) → slice_get plan.steps k ≡ Some (step.Fetch f) → over plan.layers k ≡ fetch_above plan.steps (out-FetchStep f).parent)
    (items : (p g : ℕ) → slice_get plan.steps p ≡ Some (step.Item g) → (f : FetchStep) × (slice_get plan.steps g ≡ Some (step.Fetch f))) where
  sent_same : (k : ℕ) → k < length plan.steps → one_if (is_sent_now m tree plan r (take k (fetched_all m tree plan r)) k) ≡ one_if (is_asked m tree plan r k)
  sent_same k lt =
      ap (λ keys. one_if (is_sent_with m tree plan r k keys)) (keys_same m tree plan r earlier stands k)
      ∙ ap one_if (sym (asked_same m tree plan r earlier stands items k lt))

  pub sent_all : sent_from m tree plan r [] (places_from 0 plan.steps) ≡ asked_count m tree plan r
  sent_all =
      sent_is m tree plan r plan.steps 0 [] refl refl
      ∙ total_same (λ k. one_if (is_sent_now m tree plan r (take k (fetched_all m tree plan r)) k)) (λ k. one_if (is_asked m tree plan r k)) 0 plan.steps
      (λ k lt. let z : 0 + k ≡ k = omega arith in subst (λ j. one_if (is_sent_now m tree plan r (take j (fetched_all m tree plan r)) j) ≡ one_if (is_asked m tree plan r j)) (sym z) (sent_same k lt))

  other_found : (k : ℕ) → k < length plan.steps → fetch_at plan.steps k ≡ None → trees_in_all (fetched_at (fetched_all m tree plan r) k).found ≡ 0
  other_found k lt none =
      let keys = keys_at m plan.steps (fetched_all m tree plan r) k (fetch_at plan.steps k) in
      ap (λ (x : FetchedParts). trees_in_all x.found) (fetched_is m tree plan r earlier stands k lt ∙ ap (answered_if (is_sent_with m tree plan r k keys) m (way_of plan.steps k) keys) none)
      ∙ by (is_sent_with m tree plan r k keys)
    where
      by : (b : Bool) → trees_in_all (answered_if b m (way_of plan.steps k) (keys_at m plan.steps (fetched_all m tree plan r) k (fetch_at plan.steps k)) None).found ≡ 0
      by true = refl
      by false = refl

  few_at : (k : ℕ) → k < length plan.steps → trees_in_all (fetched_at (fetched_all m tree plan r) k).found ≤ rows_by m plan.steps (stances m tree plan r) k
  few_at k lt = by (slice_get plan.steps k) refl where
    by : (o : Option Step) → slice_get plan.steps k ≡ o → trees_in_all (fetched_at (fetched_all m tree plan r) k).found ≤ rows_by m plan.steps (stances m tree plan r) k
    by (Some (step.Fetch f)) at = (reached m tree plan r earlier stands items k f at).few_
    by _ at = let n = other_found k lt (ap fetch_in at) in omega (arith, n)

  pub trees_all : trees_found (fetched_all m tree plan r) ≤ rows_found m tree plan r
  trees_all =
      let all = fetched_all m tree plan r in
      let long : length all ≡ length plan.steps = built_length (fetched_next m tree plan r) (places_from 0 plan.steps) [] ∙ (let e = places_length 0 plan.steps in omega (arith, e)) in
      total_places (λ (x : FetchedParts). trees_in_all x.found) (rows_by m plan.steps (stances m tree plan r)) 0 all plan.steps long
      (λ k x at.
      let lt : k < length plan.steps = (let w = slice_get_within all k x at in omega (arith, w, long)) in
      let same : fetched_at all k ≡ x = ap fetched_or at in
      let z : 0 + k ≡ k = omega arith in
      subst (λ j. trees_in_all x.found ≤ rows_by m plan.steps (stances m tree plan r) j) (sym z) (subst (λ (y : FetchedParts). trees_in_all y.found ≤ rows_by m plan.steps (stances m tree plan r) k) same (few_at k lt)))
