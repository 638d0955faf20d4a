-- In the quotient of a plain plan, row fields of one signature share their fetch.
use Rattle.std.proofs.Common.{◌≡◌, ℕ, zero, suc, ◌+◌, ◌<◌, ◌≤◌, List, [], ◌∷◌, ◌++◌, Option, Some, None, true, false, cond, refl, sym, ap, ◌∙◌, subst, arith, inl, inr, ◌⊎◌}
use Rattle.std.proofs.lemmas.Bool.Decides.{nat_tests}
use Rattle.std.specs.Prelude.{slice_get, nat_lt, option_map, unwrap_or, is_some, IfSome, ⊤}
use Rattle.pg_base.specs.declared.does.Does.{Does}
use Rattle.pg_base.specs.declared.does.Does.TheVariants as does
use Rattle.pg_base.specs.declared.schema.FieldDef.{FieldDef}
use Rattle.place_tree.specs.declared.place.Place.{Place}
use Rattle.place_tree.specs.Arguments.{written, order_by}
use Rattle.place_tree.specs.Fields.{does_of, field_of, is_row_field}
use Rattle.place_tree.specs.Needs.{is_mutation, RowField, Signature, at_root, signature_below, signature_above, signatures}
use Rattle.plan_steps.specs.declared.plan.FetchStep.{FetchStep, out-FetchStep}
use Rattle.plan_steps.specs.declared.plan.Step.{Step}
use Rattle.plan_steps.specs.declared.plan.Step.TheVariants as step
use Rattle.plan_steps.specs.Fetches.{has_fields, HangsOn, IsBelowFetch, StandsWith, AreFetches, AreAlike, IsMerged}
use Rattle.plan_steps.specs.Named.{named_by, over}
use Rattle.plan_steps.specs.Serves.{Basis, OnNothing, OnRow, OnList, OnPage, OnEdge, OnPayload, OnGiven, OtherServes, ServesBy, basis_above}
use Rattle.plan_steps.proofs.Checked.{item_checked}
use Rattle.plan_steps.proofs.Earlier.{names_earlier}
use Rattle.plan_steps.proofs.Unders.{above_at}
use Rattle.dedupe_steps.specs.Keys.{Hook, OnGivenRow, hook_on, Ground, OverNothing, Numbered, Later, ground_of, Reach, Under, Key, order_at}
use Rattle.dedupe_steps.specs.Orders.{order_of}
use Rattle.dedupe_steps.proofs.Lists.{some_one, get_below}
use Rattle.dedupe_steps.proofs.Merging.{Merging, to, M, key, key_is}
use Rattle.dedupe_steps.proofs.Places.{sign, signed, root_mutation}
use Rattle.dedupe_steps.proofs.Serving.{hook_of_row, hook_of_given}
use Rattle.dedupe_steps.proofs.Fetching.{row_field_other, Field, field_back, root_is, order_is, fetches_there, tells_there}

-- ---- lists that end

no_end : {A : Type 0} (xs : List A) (x : A) → xs ++ x ∷ [] ≡ [] → ⊥
no_end [] x e = cc
no_end (y ∷ xs) x e = cc

abbrev head_or : {A : Type 0} → List A → A → A
head_or [] d = d
head_or (x ∷ xs) d = x

abbrev rest_of : {A : Type 0} → List A → List A
rest_of [] = []
rest_of (x ∷ xs) = xs

same_front : {A : Type 0} (xs ys : List A) (x y : A) → xs ++ x ∷ [] ≡ ys ++ y ∷ [] → (xs ≡ ys) × (x ≡ y)
same_front [] [] x y e = (refl, ap (λ l. head_or l x) e)
same_front [] (b ∷ ys) x y e = absurd (no_end ys y (sym (ap rest_of e)))
same_front (a ∷ xs) [] x y e = absurd (no_end xs x (ap rest_of e))
same_front (a ∷ xs) (b ∷ ys) x y e =
    let rest = same_front xs ys x y (ap rest_of e) in
    (ap (λ h. h ∷ xs) (ap (λ l. head_or l a) e) ∙ ap (λ t. b ∷ t) rest.0, rest.1)

-- ---- on what places stand

abbrev IsOn : Basis → ℕ → Type 0
IsOn OnNothing s = ⊥
IsOn (OnRow t) s = t ≡ s
IsOn (OnList t) s = t ≡ s
IsOn (OnPage t) s = t ≡ s
IsOn (OnEdge t) s = t ≡ s
IsOn OnPayload s = ⊥
IsOn OnGiven s = ⊥

abbrev IsGiven : Basis → Type 0
IsGiven OnNothing = ⊥
IsGiven (OnRow t) = ⊥
IsGiven (OnList t) = ⊥
IsGiven (OnPage t) = ⊥
IsGiven (OnEdge t) = ⊥
IsGiven OnPayload = ⊤
IsGiven OnGiven = ⊤

on_fetch : (k : ℕ) (b : Basis) → IsBelowFetch k b → IsOn b k
on_fetch k (OnList s) h = h
on_fetch k (OnRow s) h = h
on_fetch k OnNothing h = absurd h
on_fetch k OnGiven h = absurd h
on_fetch k (OnPage s) h = absurd h
on_fetch k (OnEdge s) h = absurd h
on_fetch k OnPayload h = absurd h

path_row : (schema : Rattle.pg_base.specs.Schema.SchemaParts) (i : ℕ) (p : Place) (above : Signature) → is_row_field (does_of schema p) ≡ true → (signature_below schema i p above).path ≡ above.path ++ record { ty = p.ty; field = p.field; args = p.args } ∷ []
path_row schema i p above h = ap (λ b. cond b (above.path ++ record { ty = p.ty; field = p.field; args = p.args } ∷ []) above.path) h

path_other : (schema : Rattle.pg_base.specs.Schema.SchemaParts) (i : ℕ) (p : Place) (above : Signature) → is_row_field (does_of schema p) ≡ false → (signature_below schema i p above).path ≡ above.path
path_other schema i p above h = ap (λ b. cond b (above.path ++ record { ty = p.ty; field = p.field; args = p.args } ∷ []) above.path) h

root_below : (schema : Rattle.pg_base.specs.Schema.SchemaParts) (i : ℕ) (p : Place) (above : Signature) → is_mutation (does_of schema p) ≡ false → (signature_below schema i p above).root ≡ above.root
root_below schema i p above h = ap (λ b. cond b (Some i) above.root) h

same_signature_of : (s t : Signature) → s.root ≡ t.root → s.path ≡ t.path → s ≡ t
same_signature_of s t e f = λ n. record { root = e n; path = f n }

mutation_other : (d : Option Does) → is_mutation d ≡ true → is_row_field d ≡ false
mutation_other None h = cc
mutation_other (Some (does.All t)) h = cc
mutation_other (Some (does.ByKey t k)) h = cc
mutation_other (Some (does.Forward t k)) h = cc
mutation_other (Some (does.Backward t k)) h = cc
mutation_other (Some _) h = refl

module _ (m : Merging) where
  abbrev fetches : AreFetches m.base m.tree m.constraints m.plan
  fetches = m.plain.fetches

  abbrev bases : ℕ → Basis
  bases = fetches.serves.bases

  abbrev s_at : ℕ → Signature
  s_at = sign m.base m.tree m.over_

  abbrev s_above : Option ℕ → Signature
  s_above parent = signature_above (signatures m.base.schema m.tree.places) parent

  -- a place below which others stand: it stands for a fetch, whose row field has its signature, or for what a mutation gave
  record OnFetch (a : ℕ) : Type 0 where
    pub fetch : ℕ
    pub field : ℕ
    pub is_field : Field m fetch field
    pub le : field ≤ a
    pub on : IsOn (bases a) fetch
    pub same : s_at field ≡ s_at a

  record OnMutation (a : ℕ) : Type 0 where
    pub root : ℕ
    pub given : IsGiven (bases a)
    pub is_root : (s_at a).root ≡ Some root
    pub path : (s_at a).path ≡ []

  -- the fetch of a row field
  fetch_at : (k i : ℕ) → Field m k i → (f : FetchStep) × (slice_get m.plan.steps k ≡ Some (step.Fetch f))
  fetch_at k i field =
      let s = fetches.serves.each i field.place field.is_place (row_field_other (does_of m.base.schema field.place) field.is_field) in
      let same : s.at ≡ k = some_one s.at k (sym s.is_out ∙ field.is_out) in
      let fits : ServesBy true m.base m.tree m.constraints m.plan.steps i field.place (basis_above bases field.place.parent) (bases i) s.at =
      subst (λ b. ServesBy b m.base m.tree m.constraints m.plan.steps i field.place (basis_above bases field.place.parent) (bases i) s.at) field.is_field s.fits in
      (fits.fetch, sym (ap (slice_get m.plan.steps) same) ∙ fits.is_fetch)

  abbrev Stands : ℕ → Type 0
  Stands a = OnFetch a ⊎ OnMutation a

  plain_signature : (i : ℕ) (p : Place) → slice_get m.tree.places i ≡ Some p → is_row_field (does_of m.base.schema p) ≡ false → is_mutation (does_of m.base.schema p) ≡ false → s_at i ≡ s_above p.parent
  plain_signature i p h row mutation =
      signed m.base m.tree m.over_ i p h
      ∙ same_signature_of (signature_below m.base.schema i p (s_above p.parent)) (s_above p.parent)
      (root_below m.base.schema i p (s_above p.parent) mutation) (path_other m.base.schema i p (s_above p.parent) row)

  there_is : (i : ℕ) (p : Place) → slice_get m.tree.places i ≡ Some p → (d : Does) → does_of m.base.schema p ≡ Some d → is_some (field_of m.base.schema p) ≡ true
  there_is i p h d e = by (field_of m.base.schema p) e where
    by : (o : Option FieldDef) → option_map (λ f. f.does) o ≡ Some d → is_some o ≡ true
    by None e = cc
    by (Some f) e = refl

  -- what a place of a kind stands on
  above_fetch : (n i a : ℕ) (p : Place) (b : Basis) (s : ℕ) → slice_get m.tree.places i ≡ Some p → p.parent ≡ Some a → bases a ≡ b → IsOn b s → Stands a
      → s_at i ≡ s_above p.parent → IsOn (bases i) s → OnFetch i
  above_fetch n i a p b s h e is on (inl f) same here =
      let less = m.over_.earlier i p a h e in
      let le = f.le in
      let one : f.fetch ≡ s = both_on (bases a) f.fetch s f.on (subst (λ x. IsOn x s) (sym is) on) in
      record {
        fetch = s;
        field = f.field;
        is_field = subst (λ k. Field m k f.field) one f.is_field;
        le = omega (arith, less, le);
        on = here;
        same = f.same ∙ sym (ap s_above e) ∙ sym same;
      } where
        both_on : (x : Basis) (k l : ℕ) → IsOn x k → IsOn x l → k ≡ l
        both_on OnNothing k l u v = absurd u
        both_on (OnRow t) k l u v = sym u ∙ v
        both_on (OnList t) k l u v = sym u ∙ v
        both_on (OnPage t) k l u v = sym u ∙ v
        both_on (OnEdge t) k l u v = sym u ∙ v
        both_on OnPayload k l u v = absurd u
        both_on OnGiven k l u v = absurd u
  above_fetch n i a p b s h e is on (inr g) same here = absurd (never (bases a) (subst (λ x. IsOn x s) (sym is) on) g.given) where
    never : (x : Basis) → IsOn x s → IsGiven x → ⊥
    never OnNothing u v = u
    never (OnRow t) u v = v
    never (OnList t) u v = v
    never (OnPage t) u v = v
    never (OnEdge t) u v = v
    never OnPayload u v = u
    never OnGiven u v = u

  above_given : (i a : ℕ) (p : Place) → slice_get m.tree.places i ≡ Some p → p.parent ≡ Some a → IsGiven (bases a) → Stands a → s_at i ≡ s_above p.parent → IsGiven (bases i) → OnMutation i
  above_given i a p h e given (inl f) same here = absurd (never (bases a) f.on given) where
    never : (x : Basis) → IsOn x f.fetch → IsGiven x → ⊥
    never OnNothing u v = u
    never (OnRow t) u v = v
    never (OnList t) u v = v
    never (OnPage t) u v = v
    never (OnEdge t) u v = v
    never OnPayload u v = u
    never OnGiven u v = u
  above_given i a p h e given (inr g) same here =
      let up = same ∙ ap s_above e in
      record { root = g.root; given = here; is_root = ap (λ s. s.root) up ∙ g.is_root; path = ap (λ s. s.path) up ∙ g.path }

  -- the place above, where what is on it isn't nothing
  parent_of : (o : Option ℕ) (b : Basis) → basis_above bases o ≡ b → (b ≡ OnNothing → ⊥) → (a : ℕ) × (o ≡ Some a) × (bases a ≡ b)
  parent_of None b e nowhere = absurd (nowhere (sym e))
  parent_of (Some a) b e nowhere = (a, refl, e)

  abbrev Below : ℕ → Type 0
  Below n = (i : ℕ) (p : Place) → i < n → slice_get m.tree.places i ≡ Some p → has_fields (does_of m.base.schema p) ≡ true → Stands i

  stands_by : (n : ℕ) → Below n
  stands_by zero i p lt h has = absurd (omega (arith, lt))
  stands_by (suc n) i p lt h has = by (stands_by n) (does_of m.base.schema p) refl has where
    up : Below n → (d : Does) → does_of m.base.schema p ≡ Some d → (a : ℕ) → p.parent ≡ Some a → Stands a
    up again d e a parent =
        let q = above_at m.base m.tree m.over_ i p a h parent in
        let less = m.over_.earlier i p a h parent in
        again a q.0 (omega (arith, less, lt)) q.1 (m.over_.above i p a q.0 h parent q.1 (there_is i p h d e))

    row : is_row_field (does_of m.base.schema p) ≡ true → Stands i
    row is =
        let s = fetches.serves.each i p h (row_field_other (does_of m.base.schema p) is) in
        let fits : ServesBy true m.base m.tree m.constraints m.plan.steps i p (basis_above bases p.parent) (bases i) s.at = subst (λ b. ServesBy b m.base m.tree m.constraints m.plan.steps i p (basis_above bases p.parent) (bases i) s.at) is s.fits in
        let field : Field m s.at i = record { place = p; is_place = h; is_field = is; is_out = s.is_out } in
        inl (record { fetch = s.at; field = i; is_field = field; le = omega arith; on = on_fetch s.at (bases i) (fetches.hangs s.at i fits.fetch field fits.is_fetch).1; same = refl })

    mutation : is_mutation (does_of m.base.schema p) ≡ true → Stands i
    mutation is =
        let top = m.over_.made.at_root i p h is in
        let path = ap (λ s. s.path) (signed m.base m.tree m.over_ i p h) ∙ path_other m.base.schema i p (s_above p.parent) (mutation_other (does_of m.base.schema p) is) ∙ ap (λ o. (s_above o).path) top in
        inr (record { root = i; given = subst IsGiven (sym (fetches.serves.payloads i p h is)) tt; is_root = root_mutation m.base m.tree m.over_ i p h is; path = path })

    -- what serves a place that is no row field
    other : (d : Does) → does_of m.base.schema p ≡ Some d → is_row_field (Some d) ≡ false → is_mutation (Some d) ≡ false → (k : ℕ) × OtherServes m.base m.tree m.plan.steps p (basis_above bases p.parent) (bases i) k (Some d)
    other d e no_row no_mutation =
        let s = fetches.serves.each i p h (ap is_mutation e ∙ no_mutation) in (
          s.at,
          subst (λ o. OtherServes m.base m.tree m.plan.steps p (basis_above bases p.parent) (bases i) s.at o) e
              (subst (λ b. ServesBy b m.base m.tree m.constraints m.plan.steps i p (basis_above bases p.parent) (bases i) s.at) (ap is_row_field e ∙ no_row) s.fits),
        )

    plain : (d : Does) → does_of m.base.schema p ≡ Some d → is_row_field (Some d) ≡ false → is_mutation (Some d) ≡ false → s_at i ≡ s_above p.parent
    plain d e no_row no_mutation = plain_signature i p h (ap is_row_field e ∙ no_row) (ap is_mutation e ∙ no_mutation)

    fetch : Below n → (d : Does) → does_of m.base.schema p ≡ Some d → is_row_field (Some d) ≡ false → is_mutation (Some d) ≡ false → (b : Basis) (s : ℕ) → basis_above bases p.parent ≡ b → (b ≡ OnNothing → ⊥) → IsOn b s → IsOn (bases i) s → Stands i
    fetch again d e no_row no_mutation b s is nowhere on here =
        let a = parent_of p.parent b is nowhere in
        inl (above_fetch n i a.0 p b s h a.1 a.2 on (up again d e a.0 a.1) (plain d e no_row no_mutation) here)

    by : Below n → (o : Option Does) → does_of m.base.schema p ≡ o → has_fields o ≡ true → Stands i
    by again None e has = cc
    by again (Some (does.Column t c)) e has = cc
    by again (Some (does.Forward t l)) e has = row (ap is_row_field e)
    by again (Some (does.Backward t l)) e has = row (ap is_row_field e)
    by again (Some (does.All t)) e has = row (ap is_row_field e)
    by again (Some (does.ByKey t k)) e has = row (ap is_row_field e)
    by again (Some (does.Create t)) e has = mutation (ap is_mutation e)
    by again (Some (does.Update t k)) e has = mutation (ap is_mutation e)
    by again (Some (does.Delete t k)) e has = mutation (ap is_mutation e)
    by again (Some does.Nodes) e has = let z = other does.Nodes e refl refl in fetch again does.Nodes e refl refl (OnList z.0) z.0 z.1.0 (λ q. cc) refl (subst (λ x. IsOn x z.0) (sym z.1.1) refl)
    by again (Some does.Edges) e has = let z = other does.Edges e refl refl in fetch again does.Edges e refl refl (OnList z.0) z.0 z.1.0 (λ q. cc) refl (subst (λ x. IsOn x z.0) (sym z.1.1) refl)
    by again (Some does.PageInfo) e has = let z = other does.PageInfo e refl refl in fetch again does.PageInfo e refl refl (OnList z.0) z.0 z.1.0 (λ q. cc) refl (subst (λ x. IsOn x z.0) (sym z.1.1) refl)
    by again (Some does.Node) e has = let z = other does.Node e refl refl in fetch again does.Node e refl refl (OnEdge z.1.0) z.1.0 z.1.1 (λ q. cc) refl (subst (λ x. IsOn x z.1.0) (sym z.1.2) refl)
    by again (Some does.Payload) e has =
        let z = other does.Payload e refl refl in
        let a = parent_of p.parent OnPayload z.1.0 (λ q. cc) in
        inr (above_given i a.0 p h a.1 (subst IsGiven (sym a.2) tt) (up again does.Payload e a.0 a.1) (plain does.Payload e refl refl) (subst IsGiven (sym z.1.1) tt))
    by again (Some does.Total) e has = cc
    by again (Some does.Cursor) e has = cc
    by again (Some does.HasNext) e has = cc
    by again (Some does.HasPrevious) e has = cc
    by again (Some does.Start) e has = cc
    by again (Some does.End) e has = cc
    by again (Some does.ClientId) e has = cc

  -- ---- keys that are equal

  key_same : (j k : ℕ) (s t : Step) → (key m j s).content ≡ (key m k t).content → (key m j s).hook ≡ (key m k t).hook → (key m j s).stand ≡ (key m k t).stand → (key m j s).reach ≡ (key m k t).reach → (key m j s).order ≡ (key m k t).order → key m j s ≡ key m k t
  key_same j k s t a b c d e = λ n. record { content = a n; hook = b n; stand = c n; reach = d n; order = e n }

  one_number : (j k : ℕ) (s t : Step) → slice_get m.plan.steps j ≡ Some s → slice_get m.plan.steps k ≡ Some t → key m j s ≡ key m k t → to m j ≡ to m k
  one_number j k s t h g e = m.numbered.one_number j k (get_below m.plan.steps j s h) (get_below m.plan.steps k t g) (key_is m j s h ∙ e ∙ sym (key_is m k t g))

  earlier : (k j : ℕ) (s : Step) → slice_get m.plan.steps k ≡ Some s → named_by s ≡ Some j → j < k
  earlier k j s h e = subst (λ o. IfSome o (λ x. x < k)) e (names_earlier m.base m.tree m.plan m.checked k s h)

  numbered_ground : (k s : ℕ) (o : Option ℕ) → o ≡ Some s → s < k → ground_of m.r.to k o ≡ Numbered (to m s)
  numbered_ground k s o e lt =
      let yes : nat_lt s k ≡ true = grind (arith, nat_tests, lt) in
      ap (ground_of m.r.to k) e ∙ ap (λ b. cond b (Numbered (to m s)) (Later s)) yes

  item_ground : (item s : ℕ) → slice_get m.plan.steps item ≡ Some (step.Item s) → ground_of m.r.to item (over m.plan.layers item) ≡ Numbered (to m s)
  item_ground item s h = numbered_ground item s (over m.plan.layers item) (item_checked m.base m.tree m.plan m.checked item s h).0 (earlier item s (step.Item s) h refl)

  -- Items of fetches of one number have one number
  items_same : (i j s t : ℕ) → slice_get m.plan.steps i ≡ Some (step.Item s) → slice_get m.plan.steps j ≡ Some (step.Item t) → to m s ≡ to m t → to m i ≡ to m j
  items_same i j s t h g e =
      one_number i j (step.Item s) (step.Item t) h g
      (key_same i j (step.Item s) (step.Item t) (ap (λ n. step.Item n) e) refl (item_ground i s h ∙ ap (λ n. Numbered n) e ∙ sym (item_ground j t g)) refl refl)

  -- what a fetch hangs on and what its layer stands over
  record Hung (k : ℕ) (f : FetchStep) (hook_ : Hook) (ground_ : Ground) : Type 0 where
    pub hook : hook_on m.r.to m.plan.steps (out-FetchStep f).parent ≡ hook_
    pub stand : ground_of m.r.to k (over m.plan.layers k) ≡ ground_

  hung_none : (k : ℕ) (f : FetchStep) → slice_get m.plan.steps k ≡ Some (step.Fetch f) → (out-FetchStep f).parent ≡ None → Hung k f Rattle.dedupe_steps.specs.Keys.Loose OverNothing
  hung_none k f h e = record {
    hook = ap (hook_on m.r.to m.plan.steps) e;
    stand = ap (ground_of m.r.to k) (subst (StandsWith m.plan.layers k) e (fetches.stands k f h));
  }

  hung_row : (k : ℕ) (f : FetchStep) (item s : ℕ) → slice_get m.plan.steps k ≡ Some (step.Fetch f) → (out-FetchStep f).parent ≡ Some item → slice_get m.plan.steps item ≡ Some (step.Item s) → Hung k f (Rattle.dedupe_steps.specs.Keys.OnRowOf (to m item)) (Numbered (to m s))
  hung_row k f item s h e is =
      let same : over m.plan.layers k ≡ over m.plan.layers item = subst (StandsWith m.plan.layers k) e (fetches.stands k f h) in
      let lt = earlier k item (step.Fetch f) h e in
      let less = earlier item s (step.Item s) is refl in
      record {
        hook = ap (hook_on m.r.to m.plan.steps) e ∙ hook_of_row m item s is;
        stand = numbered_ground k s (over m.plan.layers k) (same ∙ (item_checked m.base m.tree m.plan m.checked item s is).0) (omega (arith, lt, less));
      }

  hung_given : (k : ℕ) (f : FetchStep) (item : ℕ) → slice_get m.plan.steps k ≡ Some (step.Fetch f) → (out-FetchStep f).parent ≡ Some item → slice_get m.plan.steps item ≡ Some step.Given → Hung k f OnGivenRow OverNothing
  hung_given k f item h e is =
      let same : over m.plan.layers k ≡ over m.plan.layers item = subst (StandsWith m.plan.layers k) e (fetches.stands k f h) in
      record {
        hook = ap (hook_on m.r.to m.plan.steps) e ∙ hook_of_given m item is;
        stand = ap (ground_of m.r.to k) (same ∙ fetches.given item is);
      }

  fetch_key : (j k i o : ℕ) (f g : FetchStep) (field : Field m j i) (other : Field m k o) (hook_ : Hook) (ground_ : Ground)
      → slice_get m.plan.steps j ≡ Some (step.Fetch f) → slice_get m.plan.steps k ≡ Some (step.Fetch g)
      → AreAlike field.place other.place → s_at i ≡ s_at o → Hung j f hook_ ground_ → Hung k g hook_ ground_ → to m j ≡ to m k
  fetch_key j k i o f g field other hook_ ground_ h is alike same x y =
      one_number j k (step.Fetch f) (step.Fetch g) h is
      (key_same j k (step.Fetch f) (step.Fetch g)
      (ap (λ z. step.Fetch z) (m.plain.alike j k i o f g field other h is alike))
      (x.hook ∙ sym y.hook)
      (x.stand ∙ sym y.stand)
      (ap (λ z. Under z) (root_is m j i field ∙ ap (λ s. s.root) same ∙ sym (root_is m k o other)))
      (order_is m j i field ∙ ap (λ args. order_of m.constraints (written args order_by)) alike.1.1 ∙ sym (order_is m k o other)))

  -- ---- row fields of one signature

  -- the row of a fetch, where a fetch hangs on what stands on it
  on_row : (b : Basis) (s : ℕ) (parent : Option ℕ) → IsOn b s → HangsOn m.plan.steps b parent → (item : ℕ) × (parent ≡ Some item) × (slice_get m.plan.steps item ≡ Some (step.Item s))
  on_row (OnRow t) s parent on h = (h.0, h.1, h.2 ∙ ap (λ n. Some (step.Item n)) on)
  on_row OnNothing s parent on h = absurd on
  on_row (OnList t) s parent on h = absurd h
  on_row (OnPage t) s parent on h = absurd h
  on_row (OnEdge t) s parent on h = absurd h
  on_row OnPayload s parent on h = absurd on
  on_row OnGiven s parent on h = absurd on

  on_given : (b : Basis) (parent : Option ℕ) → IsGiven b → HangsOn m.plan.steps b parent → (item : ℕ) × (parent ≡ Some item) × (slice_get m.plan.steps item ≡ Some step.Given)
  on_given OnGiven parent on h = h
  on_given OnNothing parent on h = absurd on
  on_given (OnRow t) parent on h = absurd on
  on_given (OnList t) parent on h = absurd on
  on_given (OnPage t) parent on h = absurd on
  on_given (OnEdge t) parent on h = absurd on
  on_given OnPayload parent on h = absurd h

  row_signature : (i : ℕ) (p : Place) → slice_get m.tree.places i ≡ Some p → is_row_field (does_of m.base.schema p) ≡ true → ((s_at i).root ≡ (s_above p.parent).root) × ((s_at i).path ≡ (s_above p.parent).path ++ record { ty = p.ty; field = p.field; args = p.args } ∷ [])
  row_signature i p h is =
      let s = signed m.base m.tree m.over_ i p h in (
        ap (λ z. z.root) s ∙ root_below m.base.schema i p (s_above p.parent) (row_field_other (does_of m.base.schema p) is),
        ap (λ z. z.path) s ∙ path_row m.base.schema i p (s_above p.parent) is,
      )

  -- the signature of a row field isn't empty
  field_path : (k i : ℕ) (field : Field m k i) → (s_at i).path ≡ [] → ⊥
  field_path k i field e = no_end (s_above field.place.parent).path _ (sym (row_signature i field.place field.is_place field.is_field).1 ∙ e)

  is_some_field : (k i : ℕ) (field : Field m k i) → is_some (field_of m.base.schema field.place) ≡ true
  is_some_field k i field = by (field_of m.base.schema field.place) refl field.is_field where
    by : (o : Option FieldDef) → field_of m.base.schema field.place ≡ o → is_row_field (option_map (λ f. f.does) o) ≡ true → is_some o ≡ true
    by None e h = cc
    by (Some f) e h = refl

  up_of : (k i a : ℕ) (field : Field m k i) → field.place.parent ≡ Some a → Stands a
  up_of k i a field e =
      let q = above_at m.base m.tree m.over_ i field.place a field.is_place e in
      stands_by (a + 1) a q.0 (omega arith) q.1 (m.over_.above i field.place a q.0 field.is_place e q.1 (is_some_field k i field))

  abbrev written_as : Place → RowField
  written_as p = record { ty = p.ty; field = p.field; args = p.args }

  -- row fields of one signature are alike, and so are the signatures above them
  record Alike (p q : Place) : Type 0 where
    pub alike : AreAlike p q
    pub path : (s_above p.parent).path ≡ (s_above q.parent).path
    pub root : (s_above p.parent).root ≡ (s_above q.parent).root

  alike_of : (j k i o : ℕ) (field : Field m j i) (other : Field m k o) → s_at i ≡ s_at o → Alike field.place other.place
  alike_of j k i o field other same =
      let mine = row_signature i field.place field.is_place field.is_field in
      let its = row_signature o other.place other.is_place other.is_field in
      let front = same_front (s_above field.place.parent).path (s_above other.place.parent).path (written_as field.place) (written_as other.place) (sym mine.1 ∙ ap (λ s. s.path) same ∙ its.1) in
      record {
        alike = (ap (λ z. z.ty) front.1, (ap (λ z. z.field) front.1, ap (λ z. z.args) front.1));
        path = front.0;
        root = sym mine.0 ∙ ap (λ s. s.root) same ∙ its.0;
      }

  -- a row field at the root has not the signature of one below a place
  not_top : (b : ℕ) → Stands b → [] ≡ (s_at b).path → None ≡ (s_at b).root → ⊥
  not_top b (inl f) path root = field_path f.fetch f.field f.is_field (ap (λ s. s.path) f.same ∙ sym path)
  not_top b (inr g) path root = let z = root ∙ g.is_root in cc

  not_both : (a b : ℕ) → OnFetch a → OnMutation b → (s_at a).path ≡ (s_at b).path → ⊥
  not_both a b f g path = field_path f.fetch f.field f.is_field (ap (λ s. s.path) f.same ∙ path ∙ g.path)

  hangs_of : (j i a : ℕ) (f : FetchStep) (field : Field m j i) → slice_get m.plan.steps j ≡ Some (step.Fetch f) → field.place.parent ≡ Some a → HangsOn m.plan.steps (bases a) (out-FetchStep f).parent
  hangs_of j i a f field h e = subst (λ o. HangsOn m.plan.steps (basis_above bases o) (out-FetchStep f).parent) e (fetches.hangs j i f field h).0

  hangs_top : (j i : ℕ) (f : FetchStep) (field : Field m j i) → slice_get m.plan.steps j ≡ Some (step.Fetch f) → field.place.parent ≡ None → (out-FetchStep f).parent ≡ None
  hangs_top j i f field h e = subst (λ o. HangsOn m.plan.steps (basis_above bases o) (out-FetchStep f).parent) e (fetches.hangs j i f field h).0

  abbrev Earlier : ℕ → Type 0
  Earlier n = (j k i o : ℕ) (f g : FetchStep) (field : Field m j i) (other : Field m k o) → i < n
      → slice_get m.plan.steps j ≡ Some (step.Fetch f) → slice_get m.plan.steps k ≡ Some (step.Fetch g) → s_at i ≡ s_at o → to m j ≡ to m k

  shared_by : (n : ℕ) → Earlier n
  shared_by zero j k i o f g field other lt h is same = absurd (omega (arith, lt))
  shared_by (suc n) j k i o f g field other lt h is same = by (shared_by n) field.place.parent other.place.parent refl refl where
    below : Earlier n → (a b : ℕ) → field.place.parent ≡ Some a → other.place.parent ≡ Some b → Stands a → Stands b → to m j ≡ to m k
    below again a b e d (inl x) (inl y) =
        let z = alike_of j k i o field other same in
        let up : s_at a ≡ s_at b = same_signature_of (s_at a) (s_at b) (sym (ap (λ p. (s_above p).root) e) ∙ z.root ∙ ap (λ p. (s_above p).root) d) (sym (ap (λ p. (s_above p).path) e) ∙ z.path ∙ ap (λ p. (s_above p).path) d) in
        let fx = fetch_at x.fetch x.field x.is_field in
        let fy = fetch_at y.fetch y.field y.is_field in
        let less = m.over_.earlier i field.place a field.is_place e in
        let le = x.le in
        let one = again x.fetch y.fetch x.field y.field fx.0 fy.0 x.is_field y.is_field (omega (arith, less, le, lt)) fx.1 fy.1 (x.same ∙ up ∙ sym y.same) in
        let r = on_row (bases a) x.fetch (out-FetchStep f).parent x.on (hangs_of j i a f field h e) in
        let q = on_row (bases b) y.fetch (out-FetchStep g).parent y.on (hangs_of k o b g other is d) in
        let items = items_same r.0 q.0 x.fetch y.fetch r.2 q.2 one in
        let first = hung_row j f r.0 x.fetch h r.1 r.2 in
        let second = hung_row k g q.0 y.fetch is q.1 q.2 in
        fetch_key j k i o f g field other (Rattle.dedupe_steps.specs.Keys.OnRowOf (to m q.0)) (Numbered (to m y.fetch)) h is z.alike same
        (record { hook = first.hook ∙ ap (λ n. Rattle.dedupe_steps.specs.Keys.OnRowOf n) items; stand = first.stand ∙ ap (λ n. Numbered n) one }) second
    below again a b e d (inl x) (inr y) =
        let z = alike_of j k i o field other same in
        absurd (not_both a b x y (sym (ap (λ p. (s_above p).path) e) ∙ z.path ∙ ap (λ p. (s_above p).path) d))
    below again a b e d (inr x) (inl y) =
        let z = alike_of j k i o field other same in
        absurd (not_both b a y x (sym (ap (λ p. (s_above p).path) d) ∙ sym z.path ∙ ap (λ p. (s_above p).path) e))
    below again a b e d (inr x) (inr y) =
        let z = alike_of j k i o field other same in
        let r = on_given (bases a) (out-FetchStep f).parent x.given (hangs_of j i a f field h e) in
        let q = on_given (bases b) (out-FetchStep g).parent y.given (hangs_of k o b g other is d) in
        fetch_key j k i o f g field other OnGivenRow OverNothing h is z.alike same (hung_given j f r.0 h r.1 r.2) (hung_given k g q.0 is q.1 q.2)

    by : Earlier n → (a b : Option ℕ) → field.place.parent ≡ a → other.place.parent ≡ b → to m j ≡ to m k
    by again None None e d =
        let z = alike_of j k i o field other same in
        fetch_key j k i o f g field other Rattle.dedupe_steps.specs.Keys.Loose OverNothing h is z.alike same (hung_none j f h (hangs_top j i f field h e)) (hung_none k g is (hangs_top k o g other is d))
    by again None (Some b) e d =
        let z = alike_of j k i o field other same in
        absurd (not_top b (up_of k o b other d) (sym (ap (λ p. (s_above p).path) e) ∙ z.path ∙ ap (λ p. (s_above p).path) d) (sym (ap (λ p. (s_above p).root) e) ∙ z.root ∙ ap (λ p. (s_above p).root) d))
    by again (Some a) None e d =
        let z = alike_of j k i o field other same in
        absurd (not_top a (up_of j i a field e) (sym (ap (λ p. (s_above p).path) d) ∙ sym z.path ∙ ap (λ p. (s_above p).path) e) (sym (ap (λ p. (s_above p).root) d) ∙ sym z.root ∙ ap (λ p. (s_above p).root) e))
    by again (Some a) (Some b) e d = below again a b e d (up_of j i a field e) (up_of k o b other d)

  pub merged : IsMerged m.base m.tree m.constraints (M m)
  merged = record {
    fetches = fetches_there m;
    tells = tells_there m;
    shared = λ i j k l field other same.
        let a = field_back m k i field in
        let b = field_back m l j other in
        sym a.to_ ∙ shared_by (i + 1) a.old b.old i j a.fetch b.fetch a.field b.field (omega arith) a.is_old b.is_old (ap (λ o. unwrap_or o at_root) same) ∙ b.to_;
  }
