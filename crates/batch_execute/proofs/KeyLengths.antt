-- The keys of a fetch are as long as what they are compared with, and ascend.
use Rattle.std.proofs.Common.{◌≡◌, ℕ, suc, ◌≤◌, min, List, [], ◌∷◌, map, drop, length, Option, Some, None, true, inl, inr, refl, sym, ap, ◌∙◌, arith, eqb-true}
use Rattle.std.proofs.lemmas.Bool.{cases_lt}
use Rattle.pg_base.proofs.ListSteps.{drop-past}
use Rattle.std.specs.Prelude.{slice_get}
use Rattle.pg_base.specs.Base.{BaseParts}
use Rattle.pg_base.specs.Lists.{Each}
use Rattle.pg_base.specs.declared.vars.Vars.{Vars}
use Rattle.rel_model.specs.declared.tables.Row.{Row}
use Rattle.rel_model.specs.Ordered.{ascending}
use Rattle.plan_steps.specs.declared.plan.FetchStep.{FetchStep, out-FetchStep}
use Rattle.plan_steps.specs.declared.plan.Slot.{Slot}
use Rattle.plan_steps.specs.declared.plan.Step.{Step}
use Rattle.plan_steps.specs.Check.{has_key}
use Rattle.plan_steps.specs.Filled.{filled_key}
use Rattle.stmt_tree.specs.declared.found.Key.{Key}
use Rattle.batch_execute.specs.declared.way.Way.{Way}
use Rattle.batch_execute.specs.declared.way.Way.TheVariants.{Other, Once, Sent, Read}
use Rattle.batch_execute.specs.Entries.{given_keys, once_keys, keys_by, order_by}
use Rattle.batch_execute.specs.Fetched.{FetchedParts, AreAscending}
use Rattle.batch_execute.specs.Held.{held}
use Rattle.batch_execute.specs.Keys.{keys_for}
use Rattle.batch_execute.specs.Reading.{Setting, row_by}
use Rattle.batch_execute.proofs.Items.{IsIn}
use Rattle.batch_execute.proofs.KeysTold.{keys_ascend, key_from}
use Rattle.batch_execute.proofs.WaysTold.{WayOf, is_once, is_own_of, is_read_of}

each_of : {A : Type 0} (P : A → Type 0) (xs : List A) → ((x : A) → IsIn x xs → P x) → Each P xs
each_of P [] h = tt
each_of P (x ∷ xs) h = (h x (inl refl), each_of P xs (λ y i. h y (inr i)))

long_map : {A B : Type 0} (f : A → B) (xs : List A) → length (map f xs) ≡ length xs
long_map f [] = refl
long_map f (x ∷ xs) = ap suc (long_map f xs)

filled_long : (base : BaseParts) (vars : Vars) (table : ℕ) (by : List ℕ) (key : List Slot) → length key ≡ length by → length (filled_key base vars table by key) ≡ length by
filled_long base vars table [] key e = refl
filled_long base vars table (c ∷ by) [] e = cc
filled_long base vars table (c ∷ by) (s ∷ key) e = ap suc (filled_long base vars table by key (let h : length key ≡ length by = cc in h))

-- no slot, or no column, is left
pub filled_end : (base : BaseParts) (vars : Vars) (table : ℕ) (by : List ℕ) (key : List Slot) (i : ℕ) (n : ℕ) → n ≤ i → n ≡ min (length by) (length key) → filled_key base vars table (drop i by) (drop i key) ≡ []
filled_end base vars table by key i n le e = elim (cases_lt (length key) (length by)) [
  | inl less ↦ ap (filled_key base vars table (drop i by)) (drop-past key i (omega (arith, le, e, less))) ∙ no_slots (drop i by)
  | inr more ↦ ap (λ l. filled_key base vars table l (drop i key)) (drop-past by i (omega (arith, le, e, more)))
] where
  no_slots : (columns : List ℕ) → filled_key base vars table columns [] ≡ []
  no_slots [] = refl
  no_slots (c ∷ columns) = refl

module _ (z : Setting) (steps : List Step) (fetched : List FetchedParts) (f : FetchStep) where
  abbrev IsLong : Key → Type 0
  IsLong key = length key.cells ≡ length (out-FetchStep f).by

  given_long : (o : Option Row) → length (out-FetchStep f).parent_columns ≡ length (out-FetchStep f).by → Each IsLong (given_keys (out-FetchStep f).parent_columns o)
  given_long None e = tt
  given_long (Some row) e = (long_map _ (out-FetchStep f).parent_columns ∙ e, tt)

  given_ascend : (columns : List ℕ) (o : Option Row) → AreAscending [] (given_keys columns o)
  given_ascend columns None = tt
  given_ascend columns (Some row) = (tt, tt)

  once_long : (o : Option ℕ) → has_key f o ≡ true → Each IsLong (once_keys z steps f o)
  once_long None h = (filled_long z.base z.vars (out-FetchStep f).table (out-FetchStep f).by (out-FetchStep f).key (eqb-true _ _ h), tt)
  once_long (Some p) h = given_long (row_by z.given [] (slice_get steps p)) (eqb-true _ _ h)

  once_ascend : (o : Option ℕ) → AreAscending [] (once_keys z steps f o)
  once_ascend None = (tt, tt)
  once_ascend (Some p) = given_ascend (out-FetchStep f).parent_columns (row_by z.given [] (slice_get steps p))

  sent_long : (g p : ℕ) → (out-FetchStep f).parent ≡ Some p → has_key f (out-FetchStep f).parent ≡ true → Each IsLong (keys_for (out-FetchStep f).parent_columns (held steps fetched g))
  sent_long g p e h =
      let long : length (out-FetchStep f).parent_columns ≡ length (out-FetchStep f).by = eqb-true _ _ (sym (ap (has_key f) e) ∙ h) in
      each_of IsLong (keys_for (out-FetchStep f).parent_columns (held steps fetched g)) (λ key i.
      let of = key_from (ascending (out-FetchStep f).parent_columns) key (held steps fetched g) i in
      ap length of.is ∙ long_map _ (ascending (out-FetchStep f).parent_columns) ∙ long_map _ (out-FetchStep f).parent_columns ∙ long)

  pub keys_long : has_key f (out-FetchStep f).parent ≡ true → (way : Way) → WayOf steps f way → Each (λ (key : Key). length key.cells ≡ length (out-FetchStep f).by) (keys_by z steps fetched f way)
  keys_long h _ (is_once none) = once_long (out-FetchStep f).parent h
  keys_long h _ (is_own_of g above hangs) = sent_long g hangs.parent hangs.is_parent h
  keys_long h _ (is_read_of g c above hangs there) = tt

  pub keys_rise : (way : Way) → AreAscending (order_by f way) (keys_by z steps fetched f way)
  keys_rise Other = tt
  keys_rise Once = once_ascend (out-FetchStep f).parent
  keys_rise (Sent g) = keys_ascend (ascending (out-FetchStep f).parent_columns) (held steps fetched g)
  keys_rise (Read g c) = tt
