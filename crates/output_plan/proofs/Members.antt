-- A turn of the walk over the places of a parent.
use Rattle.std.proofs.Common.{◌≡◌, ℕ, ◌+◌, ◌<◌, ◌≤◌, List, [], ◌∷◌, ◌++◌, drop, length, get_or, Option, Some, Bool, true, false, cond, refl, sym, ap, ◌∙◌, append_assoc}
use Rattle.std.specs.Prelude.{slice_get, ⊤}
use Rattle.pg_base.proofs.ListSteps.{drop-item, drop-past}
use Rattle.json_out.specs.JsonText.{json_key}
use Rattle.place_tree.specs.declared.place.Place.{Place}
use Rattle.place_tree.specs.Events.{comma}
use Rattle.place_tree.specs.Fold.{below, same_place, when}
use Rattle.place_tree.specs.Response.{Value, Members, member, value_of, more_members, value_text}
use Rattle.place_tree.proofs.Folds.{same_place_true}
use Rattle.place_tree.proofs.Lists.{drop_next}
use Rattle.batch_execute.specs.Nexts.{next_from, next_or}
use Rattle.batch_execute.specs.Reading.{Trail}
use Rattle.output_plan.specs.Laid.{Laid, shown_on}
use Rattle.output_plan.specs.declared.fault.PrintFault.{PrintFault}
use Rattle.output_plan.specs.Layout.{IsLaidOut}
use Rattle.output_plan.specs.Leaves.{Stops, text_or}
use Rattle.output_plan.specs.Printed.{members_left, members_at, answer_text, member_text}
use Rattle.output_plan.proofs.Objects.{value_same, stops_front}
use Rattle.output_plan.proofs.Tables.{label_is, next_is}

pub when_true : {M : Type 0} (b : Bool) (f : ⊤ → M) (m : M) → b ≡ true → when b f m ≡ f tt
when_true true f m h = refl
when_true false f m h = cc

pub when_false : {M : Type 0} (b : Bool) (f : ⊤ → M) (m : M) → b ≡ false → when b f m ≡ m
when_false true f m h = cc
when_false false f m h = refl

-- ---- places that are passed over

module _ (x : Laid) (places : List Place) (parent : Option ℕ) (s : Trail) where
  passed : (k : ℕ) (p : Place) (ps : List Place) → same_place p.parent parent ≡ false → members_at x (p ∷ ps) k parent s ≡ members_at x ps (k + 1) parent s
  passed k p ps h = when_false (same_place p.parent parent) _ _ h

  -- those up to the next one below the parent
  pub skipped : (ps : List Place) (k : ℕ) → drop k places ≡ ps → members_at x ps k parent s ≡ members_at x (drop (next_from parent k ps) places) (next_from parent k ps) parent s
  skipped [] k e = ap (λ l. members_at x l k parent s) (sym e)
  skipped (p ∷ ps) k e = by (same_place p.parent parent) refl (skipped ps (k + 1) (drop_next places ps k p e)) where
    by : (b : Bool) → same_place p.parent parent ≡ b → members_at x ps (k + 1) parent s ≡ members_at x (drop (next_from parent (k + 1) ps) places) (next_from parent (k + 1) ps) parent s
        → members_at x (p ∷ ps) k parent s ≡ members_at x (drop (next_from parent k (p ∷ ps)) places) (next_from parent k (p ∷ ps)) parent s
    by true h later =
        ap (λ l. members_at x l k parent s) (sym e)
        ∙ ap (λ n. members_at x (drop n places) n parent s) (sym (ap (λ b. cond b k (next_from parent (k + 1) ps)) h))
    by false h later =
        passed k p ps h ∙ later
        ∙ ap (λ n. members_at x (drop n places) n parent s) (sym (ap (λ b. cond b k (next_from parent (k + 1) ps)) h))

-- ---- a member

regrouped : (before c l a m : List ℕ) → (before ++ ((c ++ l) ++ a)) ++ m ≡ before ++ (c ++ (l ++ (a ++ m)))
regrouped before c l a m =
    append_assoc before ((c ++ l) ++ a) m
    ∙ ap (λ t. before ++ t) (append_assoc (c ++ l) a m ∙ append_assoc c l (a ++ m))

left_member : (due : Bool) (name : List ℕ) (v : Value) (ms : Members) → members_left due (member name v ms) ≡ comma due ++ (json_key name ++ (value_text v ++ more_members ms))
left_member true name v ms = refl
left_member false name v ms = refl

module _ (x : Laid) (places : List Place) (i : ℕ) (p : Place) (lt : i < length places) (is : p ≡ get_or places i p) (parent : Option ℕ) (s : Trail) (due : Bool)
    (so_far total : List ℕ) (same : so_far ++ members_left due (members_at x (drop i places) i parent s) ≡ total) where
  pub elsewhere : same_place p.parent parent ≡ false → so_far ++ members_left due (members_at x (drop (i + 1) places) (i + 1) parent s) ≡ total
  elsewhere h =
      ap (λ ms. so_far ++ members_left due ms)
      (sym (ap (λ l. members_at x l i parent s) (drop-item places i p lt is) ∙ passed x places parent s i p (drop (i + 1) places) h))
      ∙ same

  module _ (h : same_place p.parent parent ≡ true) (label : List ℕ) (labelled : label ≡ json_key p.key) where
    here : members_at x (drop i places) i parent s ≡ member p.key (value_of p (below (members_at x (drop (i + 1) places) (i + 1) (Some i)) (shown_on x i s))) (members_at x (drop (i + 1) places) (i + 1) parent s)
    here =
        ap (λ l. members_at x l i parent s) (drop-item places i p lt is)
        ∙ when_true (same_place p.parent parent) _ _ h

    on_member : (so_far ++ member_text x (drop (i + 1) places) i due label s) ++ more_members (members_at x (drop (i + 1) places) (i + 1) parent s) ≡ total
    on_member =
        let a = answer_text x (drop (i + 1) places) i (shown_on x i s) in
        let m = more_members (members_at x (drop (i + 1) places) (i + 1) parent s) in
        regrouped so_far (comma due) label a m
        ∙ ap (λ l. so_far ++ (comma due ++ (l ++ (a ++ m)))) labelled
        ∙ ap (λ t. so_far ++ (comma due ++ (json_key p.key ++ (t ++ m)))) (sym (value_same x (drop (i + 1) places) i p (shown_on x i s)))
        ∙ ap (λ t. so_far ++ t) (sym (left_member due p.key (value_of p (below (members_at x (drop (i + 1) places) (i + 1) (Some i)) (shown_on x i s))) (members_at x (drop (i + 1) places) (i + 1) parent s)))
        ∙ ap (λ ms. so_far ++ members_left due ms) (sym here)
        ∙ same

    pub member_on : (out : List ℕ) → out ≡ so_far ++ member_text x (drop (i + 1) places) i due label s → (n : ℕ) → n ≡ next_from parent (i + 1) (drop (i + 1) places)
        → out ++ members_left true (members_at x (drop n places) n parent s) ≡ total
    member_on out e n next =
        ap (λ o. o ++ more_members (members_at x (drop n places) n parent s)) e
        ∙ ap (λ k. (so_far ++ member_text x (drop (i + 1) places) i due label s) ++ more_members (members_at x (drop k places) k parent s)) next
        ∙ ap (λ ms. (so_far ++ member_text x (drop (i + 1) places) i due label s) ++ more_members ms) (sym (skipped x places parent s (drop (i + 1) places) (i + 1) refl))
        ∙ on_member

-- at the end nothing is left
pub end_of : (x : Laid) (places : List Place) (i : ℕ) (parent : Option ℕ) (s : Trail) (due : Bool) → length places ≤ i → members_left due (members_at x (drop i places) i parent s) ≡ []
end_of x places i parent s true le = ap (λ l. members_left true (members_at x l i parent s)) (drop-past places i le)
end_of x places i parent s false le = ap (λ l. members_left false (members_at x l i parent s)) (drop-past places i le)

-- ---- a turn with what is laid out

module _ (x : Laid) (places : List Place) (labels : List (List ℕ)) (nexts : List ℕ) (laid : IsLaidOut places labels nexts) (i : ℕ) (p : Place) (lt : i < length places) (is : p ≡ get_or places i p)
    (parent : Option ℕ) (s t : Trail) (at : t ≡ s) (due : Bool) (so_far total : List ℕ) (same : so_far ++ members_left due (members_at x (drop i places) i parent s) ≡ total) (h : same_place p.parent parent ≡ true) where
  moved : so_far ++ member_text x (drop (i + 1) places) i due (text_or (slice_get labels i)) t ≡ so_far ++ member_text x (drop (i + 1) places) i due (text_or (slice_get labels i)) s
  moved = ap (λ u. so_far ++ member_text x (drop (i + 1) places) i due (text_or (slice_get labels i)) u) at

  pub goes : (out : List ℕ) → out ≡ so_far ++ member_text x (drop (i + 1) places) i due (text_or (slice_get labels i)) t → (n : ℕ) → n ≡ next_or i (slice_get nexts i)
      → out ++ members_left true (members_at x (drop n places) n parent s) ≡ total
  goes out e n next =
      member_on x places i p lt is parent s due so_far total same h (text_or (slice_get labels i)) (label_is places labels nexts laid i p lt is) out (e ∙ moved) n
      (next ∙ next_is places labels nexts laid i p lt is ∙ ap (λ q. next_from q (i + 1) (drop (i + 1) places)) (same_place_true p.parent parent h))

  pub stops : (e : PrintFault) → Stops e (so_far ++ member_text x (drop (i + 1) places) i due (text_or (slice_get labels i)) t) → Stops e total
  stops e f =
      stops_front e (so_far ++ member_text x (drop (i + 1) places) i due (text_or (slice_get labels i)) t) (members_left true (members_at x (drop (next_or i (slice_get nexts i)) places) (next_or i (slice_get nexts i)) parent s)) total
      (goes (so_far ++ member_text x (drop (i + 1) places) i due (text_or (slice_get labels i)) t) refl (next_or i (slice_get nexts i)) refl) f
