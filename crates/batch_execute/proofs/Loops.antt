-- A turn of the loop over the steps of a plan.
use Rattle.std.proofs.Common.{◌≡◌, ℕ, zero, suc, ◌+◌, ◌<◌, ◌≤◌, ◌^◌, List, [], ◌∷◌, ◌++◌, drop, length, Err, refl, sym, ap, ◌∙◌, subst, arith}
use Rattle.place_tree.specs.declared.place.Tree.{Tree}
use Rattle.plan_steps.specs.declared.plan.Plan.{Plan}
use Rattle.plan_steps.specs.declared.plan.Root.{Root}
use Rattle.plan_steps.specs.declared.plan.Step.{Step}
use Rattle.plan_steps.specs.Built.{built}
use Rattle.plan_steps.specs.Sent.{one_if, places_from, total}
use Rattle.plan_steps.specs.Values.{Moment}
use Rattle.stmt_tree.specs.Meaning.{trees_in_all}
use Rattle.batch_execute.specs.Entries.{is_sent_now, fetched_next, fetched_all, sent_from, trees_found}
use Rattle.batch_execute.specs.declared.fault.ExecFault.{ExecFault}
use Rattle.batch_execute.specs.declared.fault.ExecFault.TheVariants.{Store, TooManyRows, Memory}
use Rattle.batch_execute.specs.Execution.{Counts, Gives, GivesAll, GetsFor}
use Rattle.batch_execute.specs.Fetched.{FetchedParts}

total_append : {A : Type 0} (g : A → ℕ) (xs ys : List A) → total g (xs ++ ys) ≡ total g xs + total g ys
total_append g [] ys = omega arith
total_append g (x ∷ xs) ys = let e = total_append g xs ys in omega (arith, e)

pub found_more : (made : List FetchedParts) (x : FetchedParts) → trees_found (made ++ x ∷ []) ≡ trees_found made + trees_in_all x.found
found_more made x = let e = total_append (λ (y : FetchedParts). trees_in_all y.found) made (x ∷ []) in omega (arith, e)

-- the places that are left
places_next : (steps : List Step) (n k : ℕ) → k < length steps → places_from n (drop k steps) ≡ n ∷ places_from (n + 1) (drop (suc k) steps)
places_next [] n k lt = absurd (omega (arith, lt))
places_next (s ∷ steps) n zero lt = refl
places_next (s ∷ steps) n (suc k) lt = places_next steps n k (omega (arith, lt))

pub places_here : (steps : List Step) (n k : ℕ) → k < length steps → places_from n (drop k steps) ≡ n ∷ places_from (n + 1) (drop (k + 1) steps)
places_here steps n k lt = let e : suc k ≡ k + 1 = omega arith in places_next steps n k lt ∙ ap (λ j. n ∷ places_from (n + 1) (drop j steps)) e

pub places_end : (steps : List Step) (n k : ℕ) → length steps ≤ k → places_from n (drop k steps) ≡ []
places_end [] n zero le = refl
places_end [] n (suc k) le = refl
places_end (s ∷ steps) n zero le = absurd (omega (arith, le))
places_end (s ∷ steps) n (suc k) le = places_end steps n k (omega (arith, le))

module _ (m : Moment) (tree : Tree) (plan : Plan) (r : Root) where
  -- what was found so far is a part of the whole
  found_front : (rest : List ℕ) (made : List FetchedParts) → trees_found made ≤ trees_found (built (fetched_next m tree plan r) made rest)
  found_front [] made = omega arith
  found_front (k ∷ rest) made =
      let more = found_front rest (made ++ fetched_next m tree plan r made k ∷ []) in
      let e = found_more made (fetched_next m tree plan r made k) in
      omega (arith, more, e)

  pub found_within : (steps : List Step) (k : ℕ) (made : List FetchedParts) → built (fetched_next m tree plan r) made (places_from k (drop k steps)) ≡ fetched_all m tree plan r → trees_found made ≤ trees_found (fetched_all m tree plan r)
  found_within steps k made whole = let h = found_front (places_from k (drop k steps)) made in subst (λ l. trees_found made ≤ trees_found l) whole h

  module _ (k : ℕ) (lt : k < length plan.steps) (made : List FetchedParts) (whole : built (fetched_next m tree plan r) made (places_from k (drop k plan.steps)) ≡ fetched_all m tree plan r) where
    abbrev next : FetchedParts
    next = fetched_next m tree plan r made k

    pub whole_on : (one : FetchedParts) → one ≡ fetched_next m tree plan r made k → built (fetched_next m tree plan r) (made ++ one ∷ []) (places_from (k + 1) (drop (k + 1) plan.steps)) ≡ fetched_all m tree plan r
    whole_on one is =
        ap (λ x. built (fetched_next m tree plan r) (made ++ x ∷ []) (places_from (k + 1) (drop (k + 1) plan.steps))) is
        ∙ sym (ap (built (fetched_next m tree plan r) made) (places_here plan.steps k k lt)) ∙ whole

    pub next_within : trees_found made + trees_in_all (fetched_next m tree plan r made k).found ≤ trees_found (fetched_all m tree plan r)
    next_within =
        let h = found_within plan.steps (k + 1) (made ++ next ∷ []) (whole_on next refl) in
        let e = found_more made next in
        omega (arith, h, e)

  module _ (k : ℕ) (lt : k < length plan.steps) (made : List FetchedParts) where
    -- the statements that are left
    sent_here : sent_from m tree plan r made (places_from k (drop k plan.steps)) ≡ one_if (is_sent_now m tree plan r made k) + sent_from m tree plan r (made ++ fetched_next m tree plan r made k ∷ []) (places_from (k + 1) (drop (k + 1) plan.steps))
    sent_here = ap (sent_from m tree plan r made) (places_here plan.steps k k lt)

    pub sent_on : (first before now whole : ℕ) (one : FetchedParts) → one ≡ fetched_next m tree plan r made k →
        (first + whole < 2 ^ 64 → before + sent_from m tree plan r made (places_from k (drop k plan.steps)) ≡ first + whole) →
        Counts before now (one_if (is_sent_now m tree plan r made k)) →
        (first + whole < 2 ^ 64 → now + sent_from m tree plan r (made ++ one ∷ []) (places_from (k + 1) (drop (k + 1) plan.steps)) ≡ first + whole)
    sent_on first before now whole one is so counts less =
        let e = so less in
        let rest : sent_from m tree plan r (made ++ one ∷ []) (places_from (k + 1) (drop (k + 1) plan.steps)) ≡ sent_from m tree plan r (made ++ fetched_next m tree plan r made k ∷ []) (places_from (k + 1) (drop (k + 1) plan.steps)) =
        ap (λ x. sent_from m tree plan r (made ++ x ∷ []) (places_from (k + 1) (drop (k + 1) plan.steps))) is in
        let n : now ≡ before + one_if (is_sent_now m tree plan r made k) = counts (omega (arith, less, e, sent_here)) in
        omega (arith, e, sent_here, rest, n)

  module _ (k : ℕ) (lt : k < length plan.steps) (made : List FetchedParts) (whole : built (fetched_next m tree plan r) made (places_from k (drop k plan.steps)) ≡ fetched_all m tree plan r) where
    -- what was got before and at one step
    pub gets_on : (first left now : ℕ) (before got after : ℕ) (one : FetchedParts) → left + trees_found made ≡ first → before ≤ got → got ≤ before + trees_found made →
        one ≡ fetched_next m tree plan r made k → now + trees_in_all (fetched_next m tree plan r made k).found ≡ left → got ≤ after → after ≤ got + trees_in_all one.found → GetsFor m tree plan r first before after
    gets_on first left now before got after one so rises had is took more less =
        let within = next_within k lt made whole in
        let same : trees_in_all one.found ≡ trees_in_all (fetched_next m tree plan r made k).found = ap (λ (x : FetchedParts). trees_in_all x.found) is in
        record {
          rises = omega (arith, rises, more);
          room_ = omega (arith, so, had, took, less, same);
          found = omega (arith, had, less, same, within);
        }

    pub gets_none : (first left : ℕ) (before got after : ℕ) → left + trees_found made ≡ first → before ≤ got → got ≤ before + trees_found made → after ≡ got → GetsFor m tree plan r first before after
    gets_none first left before got after so rises had same =
        let within = next_within k lt made whole in
        record {
          rises = omega (arith, rises, same);
          room_ = omega (arith, so, had, same);
          found = omega (arith, had, same, within);
        }

    -- more is found than there is room for
    pub fails_on : (first left now : ℕ) (fault : ExecFault) → left + trees_found made ≡ first → Gives left now (fetched_next m tree plan r made k) (Err fault) → GivesAll m tree plan r first now (Err fault)
    fails_on first left now Store so h = tt
    fails_on first left now TooManyRows so h = let within = next_within k lt made whole in omega (arith, so, h, within)
    fails_on first left now Memory so h = tt

    pub left_on : (first left now : ℕ) (one : FetchedParts) → left + trees_found made ≡ first → one ≡ fetched_next m tree plan r made k → now + trees_in_all (fetched_next m tree plan r made k).found ≡ left → now + trees_found (made ++ one ∷ []) ≡ first
    left_on first left now one so is took =
        let same : trees_in_all one.found ≡ trees_in_all (fetched_next m tree plan r made k).found = ap (λ (x : FetchedParts). trees_in_all x.found) is in
        let e = found_more made one in
        omega (arith, so, took, same, e)

pub got_on : (made : List FetchedParts) (one : FetchedParts) (before got after : ℕ) → got ≤ before + trees_found made → after ≤ got + trees_in_all one.found → after ≤ before + trees_found (made ++ one ∷ [])
got_on made one before got after had less = let e = found_more made one in omega (arith, had, less, e)

-- the bound of the statements that are left
pub most_on : (g : ℕ → ℕ) (steps : List Step) (k : ℕ) → k < length steps → (before now most : ℕ) → before + total g (places_from k (drop k steps)) ≤ most → now ≤ before + g k → now + total g (places_from (k + 1) (drop (k + 1) steps)) ≤ most
most_on g steps k lt before now most so one = let e = ap (total g) (places_here steps k k lt) in omega (arith, e, so, one)
