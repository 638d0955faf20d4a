-- In a valid catalog a field for one row asks by columns among which a key lies.
use Rattle.std.proofs.Common.{◌≡◌, ℕ, List, [], ◌∷◌, Option, Some, None, Bool, true, false, refl, sym, ap, subst, inl, inr, eqb-true, eq-eqb}
use Rattle.std.specs.Prelude.{slice_get, ◌==◌, IsSomeAnd, IsPermutation}
use Rattle.std.specs.List.{list_any, list_all}
use Rattle.std.specs.Cmp.{IsEquivalence, first_so, second_so}
use Rattle.std.proofs.lemmas.List.Sorted.{Contains-permutation}
use Rattle.std.proofs.lemmas.Map.Views.{list_any-from_Contains, Contains-from_any}
use Rattle.pg_base.specs.Base.{BaseParts}
use Rattle.pg_base.specs.Catalog.{IsValidCatalog, IsValidTable, IsValidLink}
use Rattle.pg_base.specs.Lists.{Each}
use Rattle.pg_base.specs.declared.does.Does.{Does}
use Rattle.pg_base.specs.declared.does.Does.TheVariants as does
use Rattle.pg_base.specs.declared.schema.FieldDef.{FieldDef}
use Rattle.pg_base.specs.declared.table_def.KeyDef.{KeyDef}
use Rattle.pg_base.specs.declared.table_def.LinkDef.{LinkDef}
use Rattle.pg_base.specs.declared.table_def.TableDef.{TableDef}
use Rattle.pg_base.specs.declared.vars.Vars.{Vars}
use Rattle.place_tree.specs.declared.fetch.Fetch.{Fetch}
use Rattle.place_tree.specs.declared.fetch.KeyCells.TheVariants.{Given, OfParent}
use Rattle.place_tree.specs.declared.fetch.Shape.TheVariants as shape
use Rattle.place_tree.specs.declared.place.Place.{Place}
use Rattle.place_tree.specs.Fetch.{row_fetch, list_fetch, key_cells, key_fetch, forward_fetch, backward_fetch, referring_fetch, fetch_by, fetch_in, fetch_of}
use Rattle.place_tree.specs.Fields.{field_of, key_in, key_at, link_in, link_at, is_among, finds_one}
use Rattle.plan_steps.proofs.Bools.{or_cases, or_left, or_right}
use Rattle.plan_steps.proofs.Checked.{any_some}
use Rattle.plan_steps.proofs.OneRow.{HasKeyOf}
use Rattle.plan_steps.proofs.Served.{each_at, some_and}

same_bool : (a b : Bool) → (a ≡ true → b ≡ true) → (b ≡ true → a ≡ true) → a ≡ b
same_bool true b f g = sym (f refl)
same_bool false true f g = g refl
same_bool false false f g = refl

abbrev eq : ℕ → ℕ → Bool
eq x y = x == y

flip : (x y : ℕ) → eq x y ≡ true → eq y x ≡ true
flip x y h = eq-eqb y x (sym (eqb-true x y h))

numbers : IsEquivalence eq
numbers = record {
  refl = λ x. eq-eqb x x refl;
  symm = λ x y. same_bool (eq x y) (eq y x) (flip x y) (flip y x);
  congr = λ x y z h. ap (λ n. eq n z) (eqb-true x y h);
}

-- the two ways round
forth : (xs : List ℕ) (x : ℕ) → list_any (eq x) xs ≡ true → is_among xs x ≡ true
forth [] x h = cc
forth (y ∷ xs) x h = elim (or_cases (eq x y) _ h) [ inl e ↦ or_left (y == x) _ (flip x y e) | inr e ↦ or_right (y == x) _ (forth xs x e) ]

back : (xs : List ℕ) (x : ℕ) → is_among xs x ≡ true → list_any (eq x) xs ≡ true
back [] x h = cc
back (y ∷ xs) x h = elim (or_cases (y == x) _ h) [ inl e ↦ or_left (eq x y) _ (flip y x e) | inr e ↦ or_right (eq x y) _ (back xs x e) ]

in_each : (P : ℕ → Type 0) (xs : List ℕ) → ((k : ℕ) → is_among xs k ≡ true → P k) → Each P xs
in_each P [] h = tt
in_each P (x ∷ xs) h = (h x (or_left (x == x) _ (eq-eqb x x refl)), in_each P xs (λ k i. h k (or_right (x == k) _ i)))

-- columns in another order are the same columns
permuted : (xs ys : List ℕ) → IsPermutation xs ys → Each (λ c. is_among ys c ≡ true) xs
permuted xs ys p = in_each (λ c. is_among ys c ≡ true) xs (λ c i. forth ys c (list_any-from_Contains numbers c ys (Contains-permutation xs ys c p (Contains-from_any eqb-true c xs (back xs c i)))))

each_all : (test : ℕ → Bool) (xs : List ℕ) → list_all test xs ≡ true → Each (λ c. test c ≡ true) xs
each_all test [] h = tt
each_all test (x ∷ xs) h = (first_so (test x) _ h, each_all test xs (second_so (test x) _ h))

some_is : {A : Type 0} (P : A → Type 0) (o : Option A) (x : A) → o ≡ Some x → P x → IsSomeAnd o P
some_is P o x e h = subst (λ o. IsSomeAnd o P) (sym e) h

key_told : (o : Option TableDef) (key : ℕ) (k : KeyDef) → key_in o key ≡ Some k → (t : TableDef) × (o ≡ Some t) × (slice_get t.keys key ≡ Some k)
key_told None key k h = cc
key_told (Some t) key k h = (t, refl, h)

link_told : (o : Option TableDef) (link : ℕ) (l : LinkDef) → link_in o link ≡ Some l → (t : TableDef) × (o ≡ Some t) × (slice_get t.links link ≡ Some l)
link_told None link l h = cc
link_told (Some t) link l h = (t, refl, h)

module _ (base : BaseParts) (valid : IsValidCatalog base.catalog) where
  by_key : (table key : ℕ) (k : KeyDef) → key_at base.catalog table key ≡ Some k → HasKeyOf base table k.columns
  by_key table key k h =
      let z = key_told (slice_get base.catalog.tables table) key k h in
      some_is _ _ z.0 z.1 (key, some_is _ _ k z.2 (in_each (λ c. is_among k.columns c ≡ true) k.columns (λ c i. i)))

  by_target : (table link : ℕ) (l : LinkDef) → link_at base.catalog table link ≡ Some l → HasKeyOf base l.target l.target_columns
  by_target table link l h =
      let z = link_told (slice_get base.catalog.tables table) link l h in
      let t : IsValidTable base.catalog z.0 = each_at (IsValidTable base.catalog) base.catalog.tables table z.0 valid.tables z.1 in
      let v : IsValidLink base.catalog z.0.columns l = each_at (IsValidLink base.catalog z.0.columns) z.0.links link l t.links z.2 in
      let o = some_and _ (slice_get base.catalog.tables l.target) v.target in
      let k = some_and _ (slice_get o.0.keys o.2.0.0) o.2.0.1 in
      some_is _ _ o.0 o.1 (o.2.0.0, some_is _ _ k.0 k.1 (permuted k.0.columns l.target_columns k.2))

  by_one : (table : ℕ) (l : LinkDef) (t : Option TableDef) → slice_get base.catalog.tables table ≡ t → finds_one t l ≡ true → HasKeyOf base table l.columns
  by_one table l None e h = cc
  by_one table l (Some t) e h =
      let z = any_some (λ k. list_all (is_among l.columns) k.columns) t.keys h in
      some_is _ _ t e (z.0, some_is _ _ z.1 z.2 (each_all (is_among l.columns) z.1.columns z.3))

  abbrev Fits : Fetch → Type 0
  Fits due = due.shape ≡ shape.Row → HasKeyOf base due.table due.by

  fits_some : (x due : Fetch) → Fits x → Some x ≡ Some due → Fits due
  fits_some x due h e = let same : x ≡ due = cc in subst Fits same h

  by_backward : (f : FieldDef) (vars : Vars) (p : Place) (table : ℕ) (l : LinkDef) (b : Bool) → finds_one (slice_get base.catalog.tables table) l ≡ b → Fits (backward_fetch base f vars p table l b)
  by_backward f vars p table l true e h = by_one table l (slice_get base.catalog.tables table) refl e
  by_backward f vars p table l false e h = cc

  keyed_by : (f : FieldDef) (vars : Vars) (p : Place) (table key : ℕ) (o : Option KeyDef) → key_at base.catalog table key ≡ o → (due : Fetch) → key_fetch base f vars p table o ≡ Some due → Fits due
  keyed_by f vars p table key None at due e = cc
  keyed_by f vars p table key (Some k) at due e = fits_some (row_fetch table k.columns (Given (key_cells base.schema vars p 0 f.args))) due (λ h. by_key table key k at) e

  forward_by : (table link : ℕ) (o : Option LinkDef) → link_at base.catalog table link ≡ o → (due : Fetch) → forward_fetch o ≡ Some due → Fits due
  forward_by table link None at due e = cc
  forward_by table link (Some l) at due e = fits_some (row_fetch l.target l.target_columns (OfParent l.columns)) due (λ h. by_target table link l at) e

  referring_by : (f : FieldDef) (vars : Vars) (p : Place) (table : ℕ) (o : Option LinkDef) (due : Fetch) → referring_fetch base f vars p table o ≡ Some due → Fits due
  referring_by f vars p table None due e = cc
  referring_by f vars p table (Some l) due e =
      let one = finds_one (slice_get base.catalog.tables table) l in
      fits_some (backward_fetch base f vars p table l one) due (by_backward f vars p table l one refl) e

  by_does : (f : FieldDef) (vars : Vars) (p : Place) (d : Does) (due : Fetch) → fetch_by base f vars p d ≡ Some due → Fits due
  by_does f vars p (does.All table) due e = fits_some (list_fetch base f vars p table [] (Given [])) due (λ h. cc) e
  by_does f vars p (does.ByKey table key) due e = keyed_by f vars p table key (key_at base.catalog table key) refl due e
  by_does f vars p (does.Forward table link) due e = forward_by table link (link_at base.catalog table link) refl due e
  by_does f vars p (does.Backward table link) due e = referring_by f vars p table (link_at base.catalog table link) due e
  by_does f vars p _ due e = cc

  -- the law
  pub fetch_keyed : (vars : Vars) (p : Place) (due : Fetch) → fetch_of base vars p ≡ Some due → due.shape ≡ shape.Row → HasKeyOf base due.table due.by
  unfolding fetch_of
  fetch_keyed vars p due e = by_field (field_of base.schema p) e where
    by_field : (o : Option FieldDef) → fetch_in base vars p o ≡ Some due → due.shape ≡ shape.Row → HasKeyOf base due.table due.by
    by_field None e = cc
    by_field (Some f) e = by_does f vars p f.does due e
