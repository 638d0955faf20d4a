-- The mutation fields of places, by their signatures, and the places that show steps.
use Rattle.std.proofs.Common.{◌≡◌, ℕ, zero, suc, ◌+◌, ◌<◌, List, [], ◌∷◌, ◌++◌, map, length, length-append, Option, Some, None, Bool, true, false, cond, refl, sym, ap, ◌∙◌, subst, arith, inl, inr, eq-eqb, eqb-true, zero-add}
use Rattle.std.proofs.lemmas.List.{length-map}
use Rattle.std.specs.Prelude.{slice_get, ◌==◌, ◌&&◌, option_map, unwrap_or, IsTrue}
use Rattle.std.specs.Cmp.{first_so, second_so}
use Rattle.pg_base.specs.Base.{BaseParts}
use Rattle.pg_base.specs.Schema.{SchemaParts}
use Rattle.place_tree.specs.declared.place.Place.{Place}
use Rattle.place_tree.specs.declared.place.Tree.{Tree}
use Rattle.place_tree.specs.Fields.{does_of, is_row_field}
use Rattle.place_tree.specs.Needs.{is_mutation, Signature, at_root, signature_below, signature_above, signatures_from, signatures}
use Rattle.rel_model.specs.declared.tables.Row.{Row}
use Rattle.plan_steps.specs.declared.plan.OutPlace.{OutPlace}
use Rattle.plan_steps.specs.declared.plan.Plan.{Plan}
use Rattle.plan_steps.specs.declared.plan.Root.TheVariants as root
use Rattle.plan_steps.specs.Check.{is_checked}
use Rattle.plan_steps.specs.Fetches.{IsTreeOver, IsFieldOf}
use Rattle.plan_steps.specs.Named.{step_for}
use Rattle.plan_steps.specs.Under.{is_under}
use Rattle.plan_steps.proofs.Bools.{and_both}
use Rattle.plan_steps.proofs.Checked.{entry_checked}
use Rattle.plan_steps.proofs.Unders.{above_at, under_cases, under_top, under_more}
use Rattle.dedupe_steps.specs.Roots.{root_above, root_below, roots_from, roots, root_at, asks_rows, is_field_at, field_in, field_for}
use Rattle.dedupe_steps.proofs.Lists.{some_one}

-- ---- signatures

get_first : {A : Type 0} (xs ys : List A) (k : ℕ) → k < length xs → slice_get (xs ++ ys) k ≡ slice_get xs k
get_first [] ys k lt = absurd (omega (arith, lt))
get_first (x ∷ xs) ys zero lt = refl
get_first (x ∷ xs) ys (suc k) lt = get_first xs ys k (omega (arith, lt))

get_seam : {A : Type 0} (xs ys : List A) (x : A) → slice_get (xs ++ x ∷ ys) (length xs) ≡ Some x
get_seam [] ys x = refl
get_seam (a ∷ xs) ys x = get_seam xs ys x

stays : (schema : SchemaParts) (done : List Signature) (places : List Place) (k : ℕ) → k < length done → slice_get (signatures_from schema done places) k ≡ slice_get done k
stays schema done [] k lt = refl
stays schema done (p ∷ places) k lt =
    let s = signature_below schema (length done) p (signature_above done p.parent) in
    stays schema (done ++ s ∷ []) places k (omega (arith, length-append done (s ∷ []), lt))
    ∙ get_first done (s ∷ []) k lt

above_same : (a b : List Signature) (parent : Option ℕ) → ((k : ℕ) → parent ≡ Some k → slice_get a k ≡ slice_get b k) → signature_above a parent ≡ signature_above b parent
above_same a b None h = refl
above_same a b (Some k) h = ap (λ o. unwrap_or o at_root) (h k refl)

made_here : (schema : SchemaParts) (done : List Signature) (q : Place) (places : List Place) → ((above : ℕ) → q.parent ≡ Some above → above < length done) →
    slice_get (signatures_from schema done (q ∷ places)) (length done) ≡ Some (signature_below schema (length done) q (signature_above (signatures_from schema done (q ∷ places)) q.parent))
made_here schema done q places h =
    let s = signature_below schema (length done) q (signature_above done q.parent) in
    let more = done ++ s ∷ [] in
    stays schema more places (length done) (omega (arith, length-append done (s ∷ [])))
    ∙ get_seam done [] s
    ∙ ap (λ v. Some (signature_below schema (length done) q v))
    (above_same done (signatures_from schema more places) q.parent (λ k is. let lt = h k is in sym (stays schema more places k (omega (arith, length-append done (s ∷ []), lt)) ∙ get_first done (s ∷ []) k lt)))

made : (schema : SchemaParts) (done : List Signature) (places : List Place) (j : ℕ) (p : Place) → slice_get places j ≡ Some p → ((above : ℕ) → p.parent ≡ Some above → above < length done + j) →
    slice_get (signatures_from schema done places) (length done + j) ≡ Some (signature_below schema (length done + j) p (signature_above (signatures_from schema done places) p.parent))
made schema done [] j p at h = cc
made schema done (q ∷ places) zero p at h =
    let all = signatures_from schema done (q ∷ places) in
    let same = some_one q p at in
    let e : length done ≡ length done + 0 = omega arith in
    let P : ℕ → Place → Type 0 = λ k x. slice_get all k ≡ Some (signature_below schema k x (signature_above all x.parent)) in
    let below : (above : ℕ) → q.parent ≡ Some above → above < length done = λ above is. (let lt = h above (ap (λ x. x.parent) (sym same) ∙ is) in omega (arith, lt)) in
    subst (λ k. P k p) e (subst (P (length done)) same (made_here schema done q places below))
made schema done (q ∷ places) (suc j) p at h =
    let s = signature_below schema (length done) q (signature_above done q.parent) in
    let all = signatures_from schema (done ++ s ∷ []) places in
    let e : length (done ++ s ∷ []) + j ≡ length done + suc j = omega (arith, length-append done (s ∷ [])) in
    let P : ℕ → Type 0 = λ k. slice_get all k ≡ Some (signature_below schema k p (signature_above all p.parent)) in
    subst P e (made schema (done ++ s ∷ []) places j p at (λ above is. let lt = h above is in omega (arith, length-append done (s ∷ []), lt)))

-- ---- the mutation field of a place

get_mapped : {A B : Type 0} (f : A → B) (xs : List A) (k : ℕ) → slice_get (map f xs) k ≡ option_map f (slice_get xs k)
get_mapped f [] k = refl
get_mapped f (x ∷ xs) zero = refl
get_mapped f (x ∷ xs) (suc k) = get_mapped f xs k

map_push : {A B : Type 0} (f : A → B) (xs : List A) (x : A) → map f (xs ++ x ∷ []) ≡ map f xs ++ f x ∷ []
map_push f [] x = refl
map_push f (y ∷ xs) x = ap (λ ys. f y ∷ ys) (map_push f xs x)

abbrev root_in : Signature → Option ℕ
root_in s = s.root

opened : (o : Option Signature) → unwrap_or (option_map root_in o) None ≡ (unwrap_or o at_root).root
opened None = refl
opened (Some s) = refl

above_root : (done : List Signature) (parent : Option ℕ) → root_above (map root_in done) parent ≡ (signature_above done parent).root
above_root done None = refl
above_root done (Some i) = ap (λ o. unwrap_or o None) (get_mapped root_in done i) ∙ opened (slice_get done i)

chosen : (b : Bool) (n m : ℕ) (x y : Option ℕ) → n ≡ m → x ≡ y → cond b (Some n) x ≡ cond b (Some m) y
chosen true n m x y e f = ap (λ k. Some k) e
chosen false n m x y e f = f

below_root : (schema : SchemaParts) (done : List Signature) (p : Place) → root_below schema (map root_in done) p ≡ (signature_below schema (length done) p (signature_above done p.parent)).root
below_root schema done p = chosen (is_mutation (does_of schema p)) _ _ _ _ (length-map done root_in) (above_root done p.parent)

roots_are : (schema : SchemaParts) (done : List Signature) (places : List Place) → roots_from schema (map root_in done) places ≡ map root_in (signatures_from schema done places)
roots_are schema done [] = refl
roots_are schema done (p ∷ places) =
    let s = signature_below schema (length done) p (signature_above done p.parent) in
    ap (λ x. roots_from schema (map root_in done ++ x ∷ []) places) (below_root schema done p)
    ∙ ap (λ xs. roots_from schema xs places) (sym (map_push root_in done s))
    ∙ roots_are schema (done ++ s ∷ []) places

abbrev pub sign_at : SchemaParts → List Place → ℕ → Signature
sign_at schema places i = unwrap_or (slice_get (signatures schema places) i) at_root

pub root_signed : (schema : SchemaParts) (places : List Place) (i : ℕ) → root_at (roots schema places) i ≡ (sign_at schema places i).root
root_signed schema places i =
    ap (λ xs. root_at xs i) (roots_are schema [] places)
    ∙ ap (λ o. unwrap_or o None) (get_mapped root_in (signatures schema places) i)
    ∙ opened (slice_get (signatures schema places) i)

is_some_place : (o : Option ℕ) (a b : ℕ) → o ≡ Some a → o ≡ Some b → a ≡ b
is_some_place o a b e f = some_one a b (sym e ∙ f)

module _ (base : BaseParts) (tree : Tree) (over_ : IsTreeOver base tree) where
  abbrev pub sign : ℕ → Signature
  sign = sign_at base.schema tree.places

  abbrev sign_above : Option ℕ → Signature
  sign_above parent = signature_above (signatures base.schema tree.places) parent

  -- the signature of a place is made from that of the place above
  pub signed : (i : ℕ) (p : Place) → slice_get tree.places i ≡ Some p → sign i ≡ signature_below base.schema i p (sign_above p.parent)
  signed i p h =
      let lt : (above : ℕ) → p.parent ≡ Some above → above < 0 + i = λ above is. (let e = over_.earlier i p above h is in omega (arith, e)) in
      let P : ℕ → Type 0 = λ k. slice_get (signatures base.schema tree.places) k ≡ Some (signature_below base.schema k p (sign_above p.parent)) in
      ap (λ o. unwrap_or o at_root) (subst P (zero-add i) (made base.schema [] tree.places i p h lt))

  pub root_mutation : (i : ℕ) (p : Place) → slice_get tree.places i ≡ Some p → is_mutation (does_of base.schema p) ≡ true → (sign i).root ≡ Some i
  root_mutation i p h mutation = ap root_in (signed i p h) ∙ ap (λ b. cond b (Some i) (sign_above p.parent).root) mutation

  pub root_other : (i : ℕ) (p : Place) → slice_get tree.places i ≡ Some p → is_mutation (does_of base.schema p) ≡ false → (sign i).root ≡ (sign_above p.parent).root
  root_other i p h mutation = ap root_in (signed i p h) ∙ ap (λ b. cond b (Some i) (sign_above p.parent).root) mutation

  -- a place with one above it is no mutation field
  inner : (i a : ℕ) (p : Place) → slice_get tree.places i ≡ Some p → p.parent ≡ Some a → is_mutation (does_of base.schema p) ≡ false
  inner i a p h e = by (is_mutation (does_of base.schema p)) refl where
    by : (b : Bool) → is_mutation (does_of base.schema p) ≡ b → b ≡ false
    by false g = refl
    by true g = let none = over_.made.at_root i p h g in let z = sym none ∙ e in cc

  under_by : (n place : ℕ) (row : Row) (q : Place) → slice_get tree.places place ≡ Some q → is_mutation (does_of base.schema q) ≡ true
      → (i : ℕ) (p : Place) → i < n → slice_get tree.places i ≡ Some p → is_under tree (root.Field place row) i ≡ true → (sign i).root ≡ Some place
  under_by zero place row q at mutation i p lt h u = absurd (omega (arith, lt))
  under_by (suc n) place row q at mutation i p lt h u =
      elim (under_cases base tree over_ (root.Field place row) i p h u) [
        | inl e ↦ root_other i p h (inner i place p h e) ∙ ap (λ o. (sign_above o).root) e ∙ root_mutation place q at mutation
        | inr z ↦
            let less = over_.earlier i p z.0 h z.1 in
            let a = above_at base tree over_ i p z.0 h z.1 in
            root_other i p h (inner i z.0 p h z.1) ∙ ap (λ o. (sign_above o).root) z.1 ∙ under_by n place row q at mutation z.0 a.0 (omega (arith, less, lt)) a.1 z.2
      ]

  -- a place under a mutation field has that in its signature
  pub under_signed : (place : ℕ) (row : Row) (q : Place) → slice_get tree.places place ≡ Some q → is_mutation (does_of base.schema q) ≡ true
      → (i : ℕ) (p : Place) → slice_get tree.places i ≡ Some p → is_under tree (root.Field place row) i ≡ true → (sign i).root ≡ Some place
  under_signed place row q at mutation i p h u = under_by (i + 1) place row q at mutation i p (omega arith) h u

  signed_by : (n place : ℕ) (row : Row) (i : ℕ) (p : Place) → i < n → slice_get tree.places i ≡ Some p → is_mutation (does_of base.schema p) ≡ false → (sign i).root ≡ Some place → is_under tree (root.Field place row) i ≡ true
  signed_by zero place row i p lt h other e = absurd (omega (arith, lt))
  signed_by (suc n) place row i p lt h other e = by p.parent refl (signed_by n place row) where
    by : (o : Option ℕ) → p.parent ≡ o → ((j : ℕ) (q : Place) → j < n → slice_get tree.places j ≡ Some q → is_mutation (does_of base.schema q) ≡ false → (sign j).root ≡ Some place → is_under tree (root.Field place row) j ≡ true) → is_under tree (root.Field place row) i ≡ true
    by None none again = let z = sym (ap (λ o. (sign_above o).root) none) ∙ sym (root_other i p h other) ∙ e in cc
    by (Some a) some again = up (is_mutation (does_of base.schema (above_at base tree over_ i p a h some).0)) refl where
      q : Place
      q = (above_at base tree over_ i p a h some).0

      up : (b : Bool) → is_mutation (does_of base.schema (above_at base tree over_ i p a h some).0) ≡ b → is_under tree (root.Field place row) i ≡ true
      up true mutation =
          let there = (above_at base tree over_ i p a h some).1 in
          let here = sym (root_mutation a (above_at base tree over_ i p a h some).0 there mutation) ∙ sym (ap (λ o. (sign_above o).root) some) ∙ sym (root_other i p h other) ∙ e in
          under_top base tree over_ (root.Field place row) i p h (some ∙ here)
      up false mutation =
          let there = (above_at base tree over_ i p a h some).1 in
          let less = over_.earlier i p a h some in
          under_more base tree over_ (root.Field place row) i p a h some
          (again a (above_at base tree over_ i p a h some).0 (omega (arith, less, lt)) there mutation (sym (ap (λ o. (sign_above o).root) some) ∙ sym (root_other i p h other) ∙ e))

  pub signed_under : (place : ℕ) (row : Row) (i : ℕ) (p : Place) → slice_get tree.places i ≡ Some p → is_mutation (does_of base.schema p) ≡ false → (sign i).root ≡ Some place → is_under tree (root.Field place row) i ≡ true
  signed_under place row i p h other e = signed_by (i + 1) place row i p (omega arith) h other e

-- ---- the row field of a step

pub step_for_at : (out : List OutPlace) (i k : ℕ) → step_for out i ≡ Some k → (n : ℕ) × (o : OutPlace) × (slice_get out n ≡ Some o) × (o.place ≡ i) × (o.step ≡ k)
step_for_at [] i k h = cc
step_for_at (o ∷ out) i k h = by (o.place == i) refl (step_for_at out i k) h where
  by : (b : Bool) → (o.place == i) ≡ b → (step_for out i ≡ Some k → (n : ℕ) × (x : OutPlace) × (slice_get out n ≡ Some x) × (x.place ≡ i) × (x.step ≡ k)) → cond b (Some o.step) (step_for out i) ≡ Some k → (n : ℕ) × (x : OutPlace) × (slice_get (o ∷ out) n ≡ Some x) × (x.place ≡ i) × (x.step ≡ k)
  by true e again h = (0, o, refl, eqb-true o.place i e, some_one o.step k h)
  by false e again h = let z = again h in (suc z.0, z.1, z.2, z.3, z.4)

module _ (base : BaseParts) (tree : Tree) where
  field_some : (out : List OutPlace) (k n : ℕ) (o : OutPlace) → slice_get out n ≡ Some o → o.step ≡ k → is_field_at base tree o.place ≡ true → (x : ℕ) × (field_in base tree out k ≡ Some x)
  field_some [] k n o h e f = cc
  field_some (y ∷ out) k n o h e f = by ((y.step == k) && is_field_at base tree y.place) refl (λ j is. field_some out k j o is e f) n h where
    by : (b : Bool) → ((y.step == k) && is_field_at base tree y.place) ≡ b → ((j : ℕ) → slice_get out j ≡ Some o → (x : ℕ) × (field_in base tree out k ≡ Some x)) → (n : ℕ) → slice_get (y ∷ out) n ≡ Some o → (x : ℕ) × (cond b (Some y.place) (field_in base tree out k) ≡ Some x)
    by true g again n h = (y.place, refl)
    by false g again zero h =
        let same = some_one y o h in
        let yes = and_both (y.step == k) (is_field_at base tree y.place) (eq-eqb y.step k (ap (λ z. z.step) same ∙ e)) (ap (λ z. is_field_at base tree z.place) same ∙ f) in
        let z = sym yes ∙ g in cc
    by false g again (suc n) h = again n h

  field_found : (out : List OutPlace) (k x : ℕ) → field_in base tree out k ≡ Some x → (n : ℕ) × (o : OutPlace) × (slice_get out n ≡ Some o) × (o.step ≡ k) × (o.place ≡ x) × (is_field_at base tree x ≡ true)
  field_found [] k x h = cc
  field_found (y ∷ out) k x h = by ((y.step == k) && is_field_at base tree y.place) refl (field_found out k x) h where
    by : (b : Bool) → ((y.step == k) && is_field_at base tree y.place) ≡ b → (field_in base tree out k ≡ Some x → (n : ℕ) × (o : OutPlace) × (slice_get out n ≡ Some o) × (o.step ≡ k) × (o.place ≡ x) × (is_field_at base tree x ≡ true)) → cond b (Some y.place) (field_in base tree out k) ≡ Some x → (n : ℕ) × (o : OutPlace) × (slice_get (y ∷ out) n ≡ Some o) × (o.step ≡ k) × (o.place ≡ x) × (is_field_at base tree x ≡ true)
    by true g again h =
        let same = some_one y.place x h in
        (0, y, refl, eqb-true y.step k (first_so (y.step == k) _ g), same, sym (ap (is_field_at base tree) same) ∙ second_so (y.step == k) _ g)
    by false g again h = let z = again h in (suc z.0, z.1, z.2, z.3, z.4, z.5)

  place_there : (o : Option Place) → asks_rows base.schema o ≡ true → (p : Place) × (o ≡ Some p) × (is_row_field (does_of base.schema p) ≡ true)
  place_there None h = cc
  place_there (Some p) h = (p, refl, h)

  field_here : (i : ℕ) (p : Place) → slice_get tree.places i ≡ Some p → is_row_field (does_of base.schema p) ≡ true → is_field_at base tree i ≡ true
  field_here i p h row = ap (asks_rows base.schema) h ∙ row

  -- where each step has one row field at most, that is it
  pub field_is : (plan : Plan) → IsTrue (is_checked base tree plan) → ((k i j : ℕ) → IsFieldOf base tree plan k i → IsFieldOf base tree plan k j → i ≡ j)
      → (k i : ℕ) → IsFieldOf base tree plan k i → field_for base tree plan k ≡ Some i
  field_is plan ok own k i field =
      let e = step_for_at plan.out i k field.is_out in
      let f = field_here i field.place field.is_place field.is_field in
      let some = field_some plan.out k e.0 e.1 e.2 e.4 (ap (is_field_at base tree) e.3 ∙ f) in
      let x = field_found plan.out k some.0 some.1 in
      let p = place_there (slice_get tree.places some.0) x.5 in
      let out = entry_checked base tree plan ok x.0 x.1 x.2 in
      let other : IsFieldOf base tree plan k some.0 = record { place = p.0; is_place = p.1; is_field = p.2; is_out = sym (ap (step_for plan.out) x.4) ∙ out ∙ ap (λ n. Some n) x.3 } in
      some.1 ∙ ap (λ n. Some n) (own k some.0 i other field)
