-- An inlined plan sends no more statements than are needed.
use Rattle.std.proofs.Common.{◌≡◌, ℕ, zero, suc, ◌<◌, ◌≤◌, List, [], ◌∷◌, ◌++◌, length, Option, Some, None, Bool, true, false, cond, refl, sym, ap, ◌∙◌, subst, arith, inl, inr, eq-eqb}
use Rattle.std.proofs.lemmas.Option.{slice_get_within}
use Rattle.std.specs.Prelude.{slice_get, option_map, ◌==◌, is_some, unwrap_or, ⊤}
use Rattle.std.specs.Cmp.{first_so, second_so}
use Rattle.pg_base.specs.Base.{BaseParts}
use Rattle.pg_base.specs.declared.does.Does.{Does}
use Rattle.pg_base.specs.declared.does.Does.TheVariants as does
use Rattle.pg_base.specs.declared.schema.FieldDef.{FieldDef}
use Rattle.pg_base.specs.declared.vars.Vars.{Vars}
use Rattle.rel_model.specs.declared.tables.Row.{Row}
use Rattle.place_tree.specs.declared.place.Place.{Place}
use Rattle.place_tree.specs.declared.place.Tree.{Tree}
use Rattle.place_tree.specs.Fold.{same_place}
use Rattle.place_tree.specs.Fields.{field_of, does_of, is_row_field}
use Rattle.place_tree.specs.Needs.{RowField, Signature, at_root, is_backward, is_mutation, signature_below, signature_above, signatures, same_signature, needs_own, distinct, signatures_needed}
use Rattle.place_tree.specs.Needs as needs
use Rattle.place_tree.proofs.Signatures.{same_signature_true}
use Rattle.plan_constraints.specs.Constraints.{Hold}
use Rattle.plan_constraints.specs.declared.constraint.Constraint.{Constraint}
use Rattle.plan_steps.specs.declared.plan.FetchStep.{FetchStep, out-FetchStep}
use Rattle.plan_steps.specs.declared.plan.Plan.{Plan}
use Rattle.plan_steps.specs.declared.plan.Root.{Root}
use Rattle.plan_steps.specs.declared.plan.Root.TheVariants as root
use Rattle.plan_steps.specs.declared.plan.Step.TheVariants as step
use Rattle.plan_steps.specs.Fetches.{has_fields, has_window, is_part, IsFieldOf, HangsOn, IsBelowFetch}
use Rattle.plan_steps.specs.Fitting.{FitTree}
use Rattle.plan_steps.specs.Named.{fetch_in, fetch_at, is_fetch, step_for}
use Rattle.plan_steps.specs.Sent.{is_sent, is_sent_for, sent_count}
use Rattle.plan_steps.specs.Serves.{Basis, OnNothing, OnRow, OnList, OnPage, OnEdge, OnPayload, OnGiven, OtherServes, ServesBy, basis_above}
use Rattle.plan_steps.specs.Sound.{needed_for}
use Rattle.plan_steps.specs.Under.{is_under, is_used}
use Rattle.plan_steps.proofs.Bools.{and_both, or_left, or_right, not_false}
use Rattle.plan_steps.proofs.Checked.{fetch_from}
use Rattle.plan_steps.proofs.Served.{IsTreeOf, tree_for}
use Rattle.plan_steps.proofs.Unders.{above_at, under_cases, under_mutation, start_of}
use Rattle.inline_select.specs.Inlined.{target, target_at, inlined}
use Rattle.inline_select.specs.Laws.{CanBeInlined, InlinedPlansAreLean}
use Rattle.inline_select.proofs.Bare.{is_used_bare}
use Rattle.inline_select.proofs.Distinct.{few_distinct}
use Rattle.inline_select.proofs.Fixed.{bare_is}
use Rattle.inline_select.proofs.Moved.{target_is}
use Rattle.inline_select.proofs.ReadFetches as reads
use Rattle.inline_select.proofs.Signed.{signature_at, needed_at, filtered_at}

has_field : (o : Option FieldDef) → has_fields (option_map (λ f. f.does) o) ≡ true → is_some o ≡ true
has_field None h = cc
has_field (Some f) h = refl

row_has_field : (o : Option FieldDef) → is_row_field (option_map (λ f. f.does) o) ≡ true → is_some o ≡ true
row_has_field None h = cc
row_has_field (Some f) h = refl

-- a mutation field is no row field
no_row : (d : Option Does) → is_mutation d ≡ true → is_row_field d ≡ false
no_row (Some (does.Create t)) h = refl
no_row (Some (does.Update t k)) h = refl
no_row (Some (does.Delete t k)) h = refl
no_row _ h = cc

-- the places below stand on no row of a fetch
abbrev Low : Basis → Type 0
Low OnNothing = ⊤
Low (OnRow s) = ⊥
Low (OnList s) = ⊥
Low (OnPage s) = ⊥
Low (OnEdge s) = ⊥
Low OnPayload = ⊤
Low OnGiven = ⊤

not_low : (k : ℕ) (b : Basis) → IsBelowFetch k b → Low b → ⊥
not_low k (OnList s) is low = low
not_low k (OnRow s) is low = low
not_low k _ is low = is

place_refl : (o : Option ℕ) → same_place o o ≡ true
place_refl None = refl
place_refl (Some n) = eq-eqb n n refl

-- those that a root needs
abbrev needed_in : BaseParts → Vars → Tree → Root → List Signature
needed_in base vars tree root.Query = signatures_needed base vars tree
needed_in base vars tree (root.Field place row) = needs.under place (signatures_needed base vars tree)

needed_is : (base : BaseParts) (vars : Vars) (tree : Tree) (r : Root) → needed_for base vars tree r ≡ distinct same_signature (needed_in base vars tree r)
needed_is base vars tree root.Query = refl
needed_is base vars tree (root.Field place row) = refl

module _ (base : BaseParts) (plan : Plan) (tree : Tree) (constraints : List Constraint) (ready : CanBeInlined base plan tree constraints) where
  abbrev are : Rattle.plan_steps.specs.Fetches.AreFetches base tree constraints plan
  are = ready.merged.fetches

  abbrev bases : ℕ → Basis
  bases = are.serves.bases

  abbrev signed : List Signature
  signed = signatures base.schema tree.places

  abbrev up : Option ℕ → Signature
  up parent = signature_above signed parent

  sign : (i : ℕ) (p : Place) → slice_get tree.places i ≡ Some p → slice_get signed i ≡ Some (signature_below base.schema i p (up p.parent))
  sign = signature_at base.schema tree.places ready.over_tree.earlier

  -- ---- fields at the root, or under the row of a mutation

  -- the signature of a place without a row field above it
  path_of : (i : ℕ) (p : Place) → slice_get tree.places i ≡ Some p → is_row_field (does_of base.schema p) ≡ false → (up (Some i)).path ≡ (up p.parent).path
  path_of i p at row =
      ap (λ o. (unwrap_or o at_root).path) (sign i p at)
      ∙ ap (λ b. cond b ((up p.parent).path ++ record { ty = p.ty; field = p.field; args = p.args } ∷ []) (up p.parent).path) row

  abbrev Earlier : ℕ → Type 0
  Earlier a = (above : ℕ) (p : Place) → above < a → slice_get tree.places above ≡ Some p → has_fields (does_of base.schema p) ≡ true → Low (bases above) → (up (Some above)).path ≡ []

  low_by : (a : ℕ) (q : Place) → slice_get tree.places a ≡ Some q → has_fields (does_of base.schema q) ≡ true → Earlier a → (o : Option ℕ) → q.parent ≡ o → Low (basis_above bases o) → (up o).path ≡ []
  low_by a q at has earlier None e low = refl
  low_by a q at has earlier (Some above) e low =
      let p = above_at base tree ready.over_tree a q above at e in
      earlier above p.0 (ready.over_tree.earlier a q above at e) p.1 (ready.over_tree.above a q above p.0 at e p.1 (has_field (field_of base.schema q) has)) low

  along : (b c : Basis) → b ≡ c → Low b → Low c
  along b c e low = subst Low e low

  other_low : (a k : ℕ) (q : Place) (b : Basis) (d : Option Does) → has_fields d ≡ true → is_mutation d ≡ false → is_row_field d ≡ false → OtherServes base tree plan.steps q b (bases a) k d → Low (bases a) → Low b
  other_low a k q b (Some does.Nodes) has mut row s low = absurd (along (bases a) (OnRow k) s.1 low)
  other_low a k q b (Some does.Edges) has mut row s low = absurd (along (bases a) (OnEdge k) s.1 low)
  other_low a k q b (Some does.PageInfo) has mut row s low = absurd (along (bases a) (OnPage k) s.1 low)
  other_low a k q b (Some does.Node) has mut row s low = absurd (along (bases a) (OnRow s.0) s.2 low)
  other_low a k q b (Some does.Payload) has mut row s low = along OnPayload b (sym s.0) tt
  other_low a k q b (Some (does.All c)) has mut row s low = cc
  other_low a k q b (Some (does.ByKey c d)) has mut row s low = cc
  other_low a k q b (Some (does.Forward c d)) has mut row s low = cc
  other_low a k q b (Some (does.Backward c d)) has mut row s low = cc
  other_low a k q b (Some (does.Create c)) has mut row s low = cc
  other_low a k q b (Some (does.Update c d)) has mut row s low = cc
  other_low a k q b (Some (does.Delete c d)) has mut row s low = cc
  other_low a k q b _ has mut row s low = cc

  low_next : (a : ℕ) (q : Place) → slice_get tree.places a ≡ Some q → has_fields (does_of base.schema q) ≡ true → Low (bases a) → Earlier a → (up (Some a)).path ≡ []
  low_next a q at has low earlier = by_mutation (is_mutation (does_of base.schema q)) refl where
    by_kind : is_mutation (does_of base.schema q) ≡ false → (k : ℕ) → step_for plan.out a ≡ Some k → (b : Bool) → is_row_field (does_of base.schema q) ≡ b → ServesBy b base tree constraints plan.steps a q (basis_above bases q.parent) (bases a) k → (up (Some a)).path ≡ []
    by_kind mut k out true row s =
        let own : IsFieldOf base tree plan k a = record { place = q; is_place = at; is_field = row; is_out = out } in
        absurd (not_low k (bases a) (are.hangs k a s.fetch own s.is_fetch).1 low)
    by_kind mut k out false row s =
        path_of a q at row ∙ low_by a q at has earlier q.parent refl (other_low a k q (basis_above bases q.parent) (does_of base.schema q) has mut row s low)

    by_mutation : (b : Bool) → is_mutation (does_of base.schema q) ≡ b → (up (Some a)).path ≡ []
    by_mutation true mut = path_of a q at (no_row (does_of base.schema q) mut) ∙ ap (λ o. (up o).path) (ready.over_tree.made.at_root a q at mut)
    by_mutation false mut =
        let sv = are.serves.each a q at mut in
        by_kind mut sv.at sv.is_out (is_row_field (does_of base.schema q)) refl sv.fits

  low_path : (n a : ℕ) → a < n → (q : Place) → slice_get tree.places a ≡ Some q → has_fields (does_of base.schema q) ≡ true → Low (bases a) → (up (Some a)).path ≡ []
  low_path zero a lt q at has low = absurd (omega (arith, lt))
  low_path (suc n) a lt q at has low = low_next a q at has low (λ above p less. low_path n above (omega (arith, less, lt)) p)

  -- such a field is the only row field of its signature
  one_field : (i : ℕ) (p : Place) → slice_get tree.places i ≡ Some p → is_row_field (does_of base.schema p) ≡ true → Low (basis_above bases p.parent) → (length (signature_below base.schema i p (up p.parent)).path == 1) ≡ true
  one_field i p at row low =
      let own : RowField = record { ty = p.ty; field = p.field; args = p.args } in
      ap (λ b. length (cond b ((up p.parent).path ++ own ∷ []) (up p.parent).path) == 1) row
      ∙ ap (λ (path : List RowField). length (path ++ own ∷ []) == 1) (empty p.parent refl low)
    where
      empty : (o : Option ℕ) → p.parent ≡ o → Low (basis_above bases o) → (up o).path ≡ []
      empty None e low = refl
      empty (Some a) e low =
          let q = above_at base tree ready.over_tree i p a at e in
          low_path (suc a) a (omega arith) q.0 q.1 (ready.over_tree.above i p a q.0 at e q.1 (row_has_field (field_of base.schema p) row)) low

  -- ---- what is sent needs a statement of its own

  module _ (vars : Vars) (fit : FitTree base vars tree) (hold : Hold constraints vars) where
    part_needs : (p : Place) (s : Signature) → is_row_field (does_of base.schema p) ≡ true → is_part base vars p ≡ true → needs_own base vars p s ≡ true
    part_needs p s row part = and_both (is_row_field (does_of base.schema p)) _ row (or_right (length s.path == 1) _ part)

    sent_needs : (k i : ℕ) (f : FetchStep) → slice_get plan.steps k ≡ Some (step.Fetch f) → target plan.steps f ≡ None → (field : IsFieldOf base tree plan k i) → needs_own base vars field.place (signature_below base.schema i field.place (up field.place.parent)) ≡ true
    sent_needs k i f at stays field = by_basis (basis_above bases field.place.parent) refl (are.hangs k i f field at).0 where
      s : Signature
      s = signature_below base.schema i field.place (up field.place.parent)

      low : Low (basis_above bases field.place.parent) → needs_own base vars field.place s ≡ true
      low h = and_both (is_row_field (does_of base.schema field.place)) _ field.is_field (or_left (length s.path == 1) _ (one_field i field.place field.is_place field.is_field h))

      by_window : (w : Bool) → has_window (out-FetchStep f).window ≡ w → (item g : ℕ) → (out-FetchStep f).parent ≡ Some item → slice_get plan.steps item ≡ Some (step.Item g) → needs_own base vars field.place s ≡ true
      by_window true w item g parent is =
          let told = ready.merged.tells vars fit hold k i item f field at parent in
          part_needs field.place s field.is_field (sym told.0 ∙ w)
      by_window false w item g parent is =
          let moves = target_is plan.steps f g (record { item = item; parent = parent; is_item = is; whole = w }) in
          let z = sym stays ∙ moves in cc

      by_basis : (b : Basis) → basis_above bases field.place.parent ≡ b → HangsOn plan.steps b (out-FetchStep f).parent → needs_own base vars field.place s ≡ true
      by_basis OnNothing e hang = low (subst Low (sym e) tt)
      by_basis OnGiven e hang = low (subst Low (sym e) tt)
      by_basis (OnRow g) e hang = by_window (has_window (out-FetchStep f).window) refl hang.0 g hang.1 hang.2
      by_basis _ e hang = absurd hang

    -- ---- under which root

    -- the signature of a place under a mutation field has this for its root
    rooted : (place : ℕ) (row : Row) (q : Place) → slice_get tree.places place ≡ Some q → is_mutation (does_of base.schema q) ≡ true → (n i : ℕ) → i < n → (p : Place) → slice_get tree.places i ≡ Some p → is_under tree (root.Field place row) i ≡ true → IsTreeOf base tree (root.Field place row) →
        (up (Some i)).root ≡ Some place
    rooted place row q at mut zero i lt p is u ofs = absurd (omega (arith, lt))
    rooted place row q at mut (suc n) i lt p is u ofs =
        let here = ap (λ o. (unwrap_or o at_root).root) (sign i p is) in
        let not_mut = under_mutation base tree ready.over_tree (root.Field place row) ofs i p is u in
        let below = here ∙ ap (λ b. cond b (Some i) (up p.parent).root) not_mut in
        elim (under_cases base tree ready.over_tree (root.Field place row) i p is u) [
          | inl e ↦
              below ∙ ap (λ o. (up o).root) e
              ∙ ap (λ o. (unwrap_or o at_root).root) (sign place q at)
              ∙ ap (λ b. cond b (Some place) (up q.parent).root) mut
          | inr z ↦
              let o = above_at base tree ready.over_tree i p z.0 is z.1 in
              let less = ready.over_tree.earlier i p z.0 is z.1 in
              below ∙ ap (λ o. (up o).root) z.1 ∙ rooted place row q at mut n z.0 (omega (arith, less, lt)) o.0 o.1 z.2 ofs
        ]

    -- a sent step that a root uses, by a field of its own signature
    record Owned (r : Root) (k : ℕ) : Type 0 where
      place : ℕ
      field : IsFieldOf base tree plan k place
      at : ℕ
      is_at : slice_get (needed_in base vars tree r) at ≡ slice_get signed place
      is_some_ : (s : Signature) × (slice_get signed place ≡ Some s)

    under_root : (r : Root) → IsTreeOf base tree r → (i : ℕ) → is_under tree r i ≡ true → (p : Place) → slice_get tree.places i ≡ Some p → (s : Signature) → slice_get signed i ≡ Some s → (n : ℕ) → slice_get (signatures_needed base vars tree) n ≡ Some s → (m : ℕ) × (slice_get (needed_in base vars tree r) m ≡ Some s)
    under_root root.Query ofs i u p at s sig n is = (n, is)
    under_root (root.Field place row) ofs i u p at s sig n is =
        let q = ofs.field place row refl in
        let own = rooted place row q.0 q.1 q.2 (suc i) i (omega arith) p at u ofs in
        let root_is : s.root ≡ Some place = sym (ap (λ o. (unwrap_or o at_root).root) sig) ∙ own in
        filtered_at (λ s. same_place s.root (Some place)) (signatures_needed base vars tree) n s is (ap (λ o. same_place o (Some place)) root_is ∙ place_refl (Some place))

    owned_by : (r : Root) → IsTreeOf base tree r → (k : ℕ) (f : FetchStep) → slice_get plan.steps k ≡ Some (step.Fetch f) → target plan.steps f ≡ None → is_used tree plan r k ≡ true → Owned r k
    owned_by r ofs k f at stays used =
        let u = are.used r (start_of base tree r ofs) k f at used in
        let p = u.1.place in
        let sig = sign u.0 p u.1.is_place in
        let s = signature_below base.schema u.0 p (up p.parent) in
        let n = needed_at base vars tree.places signed u.0 p s u.1.is_place sig (sent_needs k u.0 f at stays u.1) in
        let m = under_root r ofs u.0 u.2 p u.1.is_place s sig n.0 n.1 in
        record { place = u.0; field = u.1; at = m.0; is_at = m.1 ∙ sym sig; is_some_ = (s, sig) }

    no_target : (f : FetchStep) (k : ℕ) → slice_get plan.steps k ≡ Some (step.Fetch f) → is_some (target_at plan.steps (fetch_at plan.steps k)) ≡ false → target plan.steps f ≡ None
    no_target f k at h = none_of (target plan.steps f) (sym (ap (λ o. is_some (target_at plan.steps (fetch_in o))) at) ∙ h) where
      none_of : (o : Option ℕ) → is_some o ≡ false → o ≡ None
      none_of None e = refl
      none_of (Some n) e = cc

    owned : (r : Root) → IsTreeOf base tree r → (k : ℕ) → is_sent_for tree (inlined plan) r k ≡ true → Owned r k
    owned r ofs k h =
        let moves = is_some (target_at plan.steps (fetch_at plan.steps k)) in
        let sent = sym (reads.sent_made base plan tree ready.checked are.flat k) ∙ first_so (is_sent (inlined plan).steps k) _ h in
        let f = fetch_from plan.steps k (first_so (is_fetch plan.steps k) _ sent) in
        let stays = no_target f.0 k f.1 (not_false moves (second_so (is_fetch plan.steps k) _ sent)) in
        let used = ap (λ p. is_used tree p r k) (sym (bare_is plan are.flat)) ∙ is_used_bare tree (inlined plan) r k ∙ second_so (is_sent (inlined plan).steps k) _ h in
        owned_by r ofs k f.0 f.1 stays used

    module _ (r : Root) (ofs : IsTreeOf base tree r) where
      abbrev sends : ℕ → Bool
      sends k = is_sent_for tree (inlined plan) r k

      spot : (k : ℕ) (b : Bool) → sends k ≡ b → ℕ
      spot k true e = (owned r ofs k e).at
      spot k false e = 0

      spot_is : (P : ℕ → Type 0) (k : ℕ) (b : Bool) (e : sends k ≡ b) → sends k ≡ true → ((o : Owned r k) → P o.at) → P (spot k b e)
      unfolding spot
      spot_is P k true e on h = h (owned r ofs k e)
      spot_is P k false e on h = let z = sym e ∙ on in cc

      abbrev at_ : ℕ → ℕ
      at_ k = spot k (sends k) refl

      few : sent_count tree (inlined plan) r ≤ distinct same_signature (needed_in base vars tree r)
      few = few_distinct same_signature same_signature_true (inlined plan).steps 0 (needed_in base vars tree r) sends at_
          (λ k on. spot_is (λ n. n < length (needed_in base vars tree r)) k (sends k) refl on (λ o. slice_get_within (needed_in base vars tree r) o.at o.is_some_.0 (o.is_at ∙ o.is_some_.1)))
          (λ i j on off e.
          spot_is (λ n. slice_get (needed_in base vars tree r) n ≡ slice_get (needed_in base vars tree r) (at_ j) → i ≡ j) i (sends i) refl on (λ o e.
          spot_is (λ n. slice_get (needed_in base vars tree r) o.at ≡ slice_get (needed_in base vars tree r) n → i ≡ j) j (sends j) refl off (λ q e.
          ready.merged.shared o.place q.place i j o.field q.field (sym o.is_at ∙ e ∙ q.is_at)) e) e)

-- the law
pub inlined_lean : InlinedPlansAreLean
inlined_lean base plan tree constraints ready = record {
  few = λ vars r fit hold of_tree.
      let ofs = tree_for base tree r ready.over_tree.made of_tree in
      let le = few base plan tree constraints ready vars fit hold r ofs in
      let e = needed_is base vars tree r in
      omega (arith, le, e);
}
