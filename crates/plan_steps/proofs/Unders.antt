-- Places under a root, and the steps that they use.
use Rattle.std.proofs.Common.{◌≡◌, ℕ, zero, suc, ◌<◌, List, ◌∷◌, length, Option, Some, None, Bool, true, false, refl, sym, ap, ◌∙◌, arith, inl, inr, ◌⊎◌, eqb-true, eq-eqb}
use Rattle.std.proofs.lemmas.Option.{slice_get_within}
use Rattle.std.specs.Prelude.{slice_get, ◌==◌, ◌&&◌}
use Rattle.pg_base.specs.Base.{BaseParts}
use Rattle.place_tree.specs.declared.place.Place.{Place}
use Rattle.place_tree.specs.declared.place.Tree.{Tree}
use Rattle.place_tree.specs.Fields.{does_of}
use Rattle.place_tree.specs.Needs.{is_mutation}
use Rattle.plan_steps.specs.declared.plan.Plan.{Plan}
use Rattle.plan_steps.specs.declared.plan.Root.{Root}
use Rattle.plan_steps.specs.declared.plan.Root.TheVariants as root
use Rattle.plan_steps.specs.Chains.{or_nothing, chain, is_in}
use Rattle.plan_steps.specs.Fetches.{IsTreeOver, IsStart}
use Rattle.plan_steps.specs.Named.{named_at, used_by, step_for}
use Rattle.plan_steps.specs.Under.{parent_in, above, places_above, is_below, root_place, is_under, is_used}
use Rattle.plan_steps.proofs.Bools.{or_cases, or_left, or_right, and_both}
use Rattle.plan_steps.proofs.Checked.{at_some, any_out}
use Rattle.plan_steps.proofs.Served.{IsTreeOf}

-- ---- chains of numbers that fall

both_nothing : {A B : Type 0} (f g : A → List B) (o : Option A) → ((a : A) → o ≡ Some a → f a ≡ g a) → or_nothing f o ≡ or_nothing g o
both_nothing f g None h = refl
both_nothing f g (Some a) h = h a refl

chain_same : (next : ℕ → Option ℕ) → ((k j : ℕ) → next k ≡ Some j → j < k) → (n m k : ℕ) → k < n → k < m → chain next n k ≡ chain next m k
chain_same next falls zero m k lt less = absurd (omega (arith, lt))
chain_same next falls (suc n) zero k lt less = absurd (omega (arith, less))
chain_same next falls (suc n) (suc m) k lt less =
    ap (λ l. k ∷ l) (both_nothing (chain next n) (chain next m) (next k) (λ j e. let a = falls k j e in chain_same next falls n m j (omega (arith, a, lt)) (omega (arith, a, less))))

chain_has : (next : ℕ → Option ℕ) (n k : ℕ) → 0 < n → is_in (chain next n k) k ≡ true
chain_has next zero k lt = absurd (omega (arith, lt))
chain_has next (suc n) k lt = or_left (k == k) _ (eq-eqb k k refl)

-- ---- places below a root

module _ (places : List Place) (falls : (i a : ℕ) → above places i ≡ Some a → a < i) where
  up : (i a : ℕ) → above places i ≡ Some a → a < length places → places_above places i ≡ a ∷ places_above places a
  up i a e lt =
      ap (or_nothing (chain (above places) (length places))) e
      ∙ chain_same (above places) falls (length places) (suc (length places)) a lt (omega (arith, lt))

  below_cases : (start o : Option ℕ) (i : ℕ) → above places i ≡ o → i < length places → is_below places start i ≡ true → (o ≡ start) ⊎ (a : ℕ) × (o ≡ Some a) × (is_below places start a ≡ true)
  below_cases None None i e lt h = inl refl
  below_cases None (Some a) i e lt h = inr (a, refl, refl)
  below_cases (Some place) None i e lt h = let none = ap (λ o. is_in (or_nothing (chain (above places) (length places)) o) place) e in let z = sym none ∙ h in cc
  below_cases (Some place) (Some a) i e lt h =
      let less = falls i a e in
      elim (or_cases (a == place) (is_in (places_above places a) place) (sym (ap (λ l. is_in l place) (up i a e (omega (arith, less, lt)))) ∙ h)) [
        | inl t ↦ inl (ap (λ n. Some n) (eqb-true a place t))
        | inr t ↦ inr (a, refl, t)
      ]

  below_top : (start : Option ℕ) (i : ℕ) → above places i ≡ start → i < length places → is_below places start i ≡ true
  below_top None i e lt = refl
  below_top (Some place) i e lt =
      let less = falls i place e in
      ap (λ l. is_in l place) (up i place e (omega (arith, less, lt))) ∙ or_left (place == place) _ (eq-eqb place place refl)

  below_more : (start : Option ℕ) (i a : ℕ) → above places i ≡ Some a → i < length places → is_below places start a ≡ true → is_below places start i ≡ true
  below_more None i a e lt h = refl
  below_more (Some place) i a e lt h =
      let less = falls i a e in
      ap (λ l. is_in l place) (up i a e (omega (arith, less, lt))) ∙ or_right (a == place) _ h

module _ (base : BaseParts) (tree : Tree) (over_tree : IsTreeOver base tree) where
  falls : (i a : ℕ) → above tree.places i ≡ Some a → a < i
  falls i a e = by_place (slice_get tree.places i) refl e where
    by_place : (o : Option Place) → slice_get tree.places i ≡ o → parent_in o ≡ Some a → a < i
    by_place None at h = cc
    by_place (Some p) at h = over_tree.earlier i p a at h

  pub above_at : (i : ℕ) (p : Place) (a : ℕ) → slice_get tree.places i ≡ Some p → p.parent ≡ Some a → (q : Place) × (slice_get tree.places a ≡ Some q)
  above_at i p a at e = let lt = over_tree.earlier i p a at e in let n = slice_get_within tree.places i p at in at_some tree.places a (omega (arith, lt, n))

  -- a place under a root stands below it, or below a place under it
  pub under_cases : (r : Root) (i : ℕ) (p : Place) → slice_get tree.places i ≡ Some p → is_under tree r i ≡ true → (p.parent ≡ root_place r) ⊎ (a : ℕ) × (p.parent ≡ Some a) × (is_under tree r a ≡ true)
  under_cases r i p at u = below_cases tree.places falls (root_place r) p.parent i (ap parent_in at) (slice_get_within tree.places i p at) u

  pub under_top : (r : Root) (i : ℕ) (p : Place) → slice_get tree.places i ≡ Some p → p.parent ≡ root_place r → is_under tree r i ≡ true
  under_top r i p at e = below_top tree.places falls (root_place r) i (ap parent_in at ∙ e) (slice_get_within tree.places i p at)

  pub under_more : (r : Root) (i : ℕ) (p : Place) (a : ℕ) → slice_get tree.places i ≡ Some p → p.parent ≡ Some a → is_under tree r a ≡ true → is_under tree r i ≡ true
  under_more r i p a at e u = below_more tree.places falls (root_place r) i a (ap parent_in at ∙ e) (slice_get_within tree.places i p at) u

  -- no mutation field lies under a root
  pub under_mutation : (r : Root) → IsTreeOf base tree r → (i : ℕ) (p : Place) → slice_get tree.places i ≡ Some p → is_under tree r i ≡ true → is_mutation (does_of base.schema p) ≡ false
  under_mutation r of_tree i p at u = by_kind (is_mutation (does_of base.schema p)) refl where
    query : (x : Root) → None ≡ root_place x → x ≡ root.Query
    query root.Query e = refl
    query (root.Field place row) e = cc

    by_kind : (b : Bool) → is_mutation (does_of base.schema p) ≡ b → b ≡ false
    by_kind false e = refl
    by_kind true e =
        let none = over_tree.made.at_root i p at e in
        elim (under_cases r i p at u) [
          | inl top ↦ let is = of_tree.query (query r (sym none ∙ top)) i p at in let z = sym e ∙ is in cc
          | inr z ↦ let no_place = sym none ∙ z.1 in cc
        ]

pub start_of : (base : BaseParts) (tree : Tree) (r : Root) → IsTreeOf base tree r → IsStart base tree r
start_of base tree root.Query of_tree = tt
start_of base tree (root.Field place row) of_tree = of_tree.field place row refl

-- ---- steps that are used

-- a step that a place under a root shows is used
pub used_shown : (tree : Tree) (plan : Plan) (r : Root) (k i : ℕ) → k < length plan.steps → step_for plan.out i ≡ Some k → is_under tree r i ≡ true → is_used tree plan r k ≡ true
used_shown tree plan r k i lt out u =
    any_out (λ o. is_under tree r o.place && is_in (used_by plan.steps o.step) k) plan.out i k out
    (λ o at is. and_both (is_under tree r o.place) _ (ap (is_under tree r) at ∙ u)
    (ap (λ j. is_in (used_by plan.steps j) k) is ∙ chain_has (named_at plan.steps) (length plan.steps) k (omega (arith, lt))))
