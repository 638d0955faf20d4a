-- The plan that planning makes serves all places.
use Rattle.std.proofs.Common.{◌≡◌, ℕ, zero, suc, ◌+◌, ◌<◌, ◌≤◌, List, [], ◌∷◌, ◌++◌, length, drop, Option, Some, None, Bool, true, false, cond, refl, sym, ap, ◌∙◌, subst, arith, inl, inr, ◌⊎◌, length-append, eq-eqb, ne_eqb}
use Rattle.std.proofs.lemmas.Bool.{cases_lt}
use Rattle.std.specs.Prelude.{slice_get, unwrap_or, option_map, IfSome, IsSomeAnd, ◌==◌, ⊤}
use Rattle.pg_base.specs.Base.{BaseParts}
use Rattle.pg_base.specs.Catalog.{CatalogParts}
use Rattle.pg_base.specs.Lists.{Each}
use Rattle.pg_base.specs.Schema.{SchemaParts, type_name_at}
use Rattle.pg_base.specs.declared.does.Does.{Does}
use Rattle.pg_base.specs.declared.does.Does.TheVariants as does
use Rattle.pg_base.specs.declared.schema.ArgDef.{ArgDef}
use Rattle.pg_base.specs.declared.schema.FieldDef.{FieldDef}
use Rattle.pg_base.specs.declared.value.Value.TheVariants as value
use Rattle.pg_base.specs.declared.vars.Vars.{Vars}
use Rattle.place_tree.specs.Arguments.{argument}
use Rattle.place_tree.specs.Exec.{needs_rows, place_at, client_id}
use Rattle.place_tree.specs.Fields.{field_of, does_of, is_row_field, link_at, finds_one}
use Rattle.place_tree.specs.Needs.{is_mutation}
use Rattle.place_tree.specs.Typed.{Kind, OfQuery, OfMutation, OfRow, OfPayload, backward_kind, Leads, StandsUnder}
use Rattle.place_tree.specs.declared.place.Place.{Place}
use Rattle.place_tree.specs.declared.place.Tree.{Tree}
use Rattle.plan_constraints.specs.Constraints.{Hold}
use Rattle.plan_constraints.specs.Noted.{noted_all}
use Rattle.plan_constraints.specs.declared.constraint.Constraint.{Constraint}
use Rattle.plan_steps.specs.Chains.{chain, or_nothing}
use Rattle.plan_steps.specs.Denoted.{input_leaf}
use Rattle.plan_steps.specs.Fitting.{IsOf, FitsArg, FitsPlace, FitTree}
use Rattle.plan_steps.specs.Named.{step_for}
use Rattle.plan_steps.specs.Serves.{Basis, OnPayload, input_of, ServesBy, basis_above, Serves, ServesAll, IsWellMade}
use Rattle.plan_steps.specs.Under.{above, mutated, mutated_in, mutated_at}
use Rattle.plan_steps.specs.declared.plan.OutPlace.{OutPlace}
use Rattle.plan_steps.specs.declared.plan.Step.{Step}
use Rattle.plan_steps.specs.declared.plan.Step.TheVariants as step
use Rattle.schema_laws.proofs.Eaches.{Each-get}
use Rattle.step_plan.specs.Added.{id_of, added, added_for, added_by}
use Rattle.step_plan.specs.Drafted.{Making, at_root, below_of, steps_added, step_shown, footing_with, grown, with_place, with_places, nothing_made, made, plan_of, drafted}
use Rattle.step_plan.specs.declared.making.Added.{Added}
use Rattle.step_plan.specs.declared.making.Added.TheVariants as adds
use Rattle.step_plan.specs.declared.making.Below.{Below}
use Rattle.step_plan.specs.declared.making.Footing.{Footing}
use Rattle.step_plan.specs.declared.making.Footing.TheVariants as footing
use Rattle.step_plan.proofs.Facts.{IsInputArg, AreArgs}
use Rattle.step_plan.proofs.Givens.{TakesIn, TakesAt, IsTaken, IsTakenOn, AreTaken, taken_by}
use Rattle.step_plan.proofs.ShownIds.{id_shows}
use Rattle.step_plan.proofs.Places.{basis_of, FootingFits, or_above, table_below, some_and, inside, ServesAs, IsLocal, local}
use Rattle.step_plan.proofs.Plannable.{IsPlanned}
use Rattle.step_plan.proofs.Used.{holds_used}

-- ---- lists that grow

pub get_left : {X : Type 0} (xs ys : List X) (k : ℕ) (x : X) → slice_get xs k ≡ Some x → slice_get (xs ++ ys) k ≡ Some x
get_left [] ys k x h = cc
get_left (a ∷ xs) ys zero x h = h
get_left (a ∷ xs) ys (suc k) x h = get_left xs ys k x h

pub get_past : {X : Type 0} (xs ys : List X) (j : ℕ) → slice_get (xs ++ ys) (length xs + j) ≡ slice_get ys j
get_past [] ys j = let e : 0 + j ≡ j = omega arith in ap (slice_get ys) e
get_past (a ∷ xs) ys j = let e : suc (length xs) + j ≡ suc (length xs + j) = omega arith in ap (slice_get (a ∷ (xs ++ ys))) e ∙ get_past xs ys j

pub get_last : {X : Type 0} (xs : List X) (x : X) (n : ℕ) → length xs ≡ n → slice_get (xs ++ x ∷ []) n ≡ Some x
get_last xs x n e = let z : n ≡ length xs + 0 = omega (arith, e) in ap (slice_get (xs ++ x ∷ [])) z ∙ get_past xs (x ∷ []) 0

pub get_drop : {X : Type 0} (xs ys : List X) (k : ℕ) (x : X) → drop k xs ≡ x ∷ ys → slice_get xs k ≡ Some x
get_drop [] ys zero x h = cc
get_drop [] ys (suc k) x h = cc
get_drop (a ∷ xs) ys zero x h = cc
get_drop (a ∷ xs) ys (suc k) x h = get_drop xs ys k x h

pub drop_next : {X : Type 0} (xs ys : List X) (k : ℕ) (x : X) → drop k xs ≡ x ∷ ys → drop (k + 1) xs ≡ ys
drop_next [] ys zero x h = cc
drop_next [] ys (suc k) x h = cc
drop_next (a ∷ xs) ys zero x h = cc
drop_next (a ∷ xs) ys (suc k) x h = let e : suc k + 1 ≡ suc (k + 1) = omega arith in rw e (drop_next xs ys k x h)

pub there : {X : Type 0} (xs : List X) (k : ℕ) → k < length xs → (x : X) × (slice_get xs k ≡ Some x)
there [] k h = absurd (omega arith)
there (a ∷ xs) zero h = (a, refl)
there (a ∷ xs) (suc k) h = there xs k (omega arith)

cond_left : (b : Bool) (x s : ℕ) (y z : Option ℕ) → cond b (Some x) y ≡ Some s → (y ≡ Some s → z ≡ Some s) → cond b (Some x) z ≡ Some s
cond_left true x s y z h f = h
cond_left false x s y z h f = f h

cond_right : (b : Bool) (x : ℕ) (y z w : Option ℕ) → cond b (Some x) y ≡ None → (y ≡ None → z ≡ w) → cond b (Some x) z ≡ w
cond_right true x y z w h f = cc
cond_right false x y z w h f = f h

pub out_left : (out more : List OutPlace) (i s : ℕ) → step_for out i ≡ Some s → step_for (out ++ more) i ≡ Some s
out_left [] more i s h = cc
out_left (o ∷ out) more i s h = cond_left (o.place == i) o.step s _ _ h (out_left out more i s)

pub out_right : (out more : List OutPlace) (i : ℕ) → step_for out i ≡ None → step_for (out ++ more) i ≡ step_for more i
out_right [] more i h = refl
out_right (o ∷ out) more i h = cond_right (o.place == i) o.step _ _ _ h (out_right out more i)

-- ---- a plan that goes on

pub record GoesOn (m n : Making) : Type 0 where
  pub steps : (k : ℕ) (s : Step) → slice_get m.steps k ≡ Some s → slice_get n.steps k ≡ Some s
  pub out : (i k : ℕ) → step_for m.out i ≡ Some k → step_for n.out i ≡ Some k
  pub belows : (i : ℕ) (b : Below) → slice_get m.belows i ≡ Some b → slice_get n.belows i ≡ Some b

pub goes_grown : (m : Making) (i layer : ℕ) (a : Added) → GoesOn m (grown m i layer a)
goes_grown m i layer a = record {
  steps = λ k s h. get_left m.steps _ k s h;
  out = λ j k h. out_left m.out _ j k h;
  belows = λ j b h. get_left m.belows _ j b h;
}

pub goes_both : (l m n : Making) → GoesOn l m → GoesOn m n → GoesOn l n
goes_both l m n g h = record {
  steps = λ k s e. h.steps k s (g.steps k s e);
  out = λ i k e. h.out i k (g.out i k e);
  belows = λ i b e. h.belows i b (g.belows i b e);
}

abbrev pub added_at : BaseParts → Vars → Tree → ℕ → Place → Footing → Added
added_at base vars tree i p g = added base vars tree.places p (needs_rows base.schema tree.places i) g

pub goes_all : (base : BaseParts) (vars : Vars) (tree : Tree) (m : Making) (i : ℕ) (ps : List Place) → GoesOn m (with_places base vars tree m i ps)
goes_all base vars tree m i [] = record { steps = λ k s h. h; out = λ j k h. h; belows = λ j b h. h }
goes_all base vars tree m i (p ∷ ps) =
    let next = with_place base vars tree m i p in
    let up = below_of m.belows p.parent in
    goes_both m next (with_places base vars tree next (i + 1) ps) (goes_grown m i up.layer (added_at base vars tree i p up.footing)) (goes_all base vars tree next (i + 1) ps)

abbrev pub footing_at : List Below → ℕ → Footing
footing_at belows i = (below_of belows (Some i)).footing

abbrev pub basis_at : List Below → ℕ → Basis
basis_at belows i = basis_of (footing_at belows i)

pub at_first : (xs ys : List Below) (i : ℕ) → i < length xs → ((j : ℕ) (b : Below) → slice_get xs j ≡ Some b → slice_get ys j ≡ Some b) → below_of ys (Some i) ≡ below_of xs (Some i)
at_first xs ys i lt h = let t = there xs i lt in ap (λ o. unwrap_or o at_root) (h i t.0 t.1) ∙ sym (ap (λ o. unwrap_or o at_root) t.1)

-- ---- mutations stand at the root

pub back_no_mutation : (one : Bool) (t : ℕ) → backward_kind one t ≡ OfMutation → ⊥
back_no_mutation true t e = cc
back_no_mutation false t e = cc

pub no_mutation_type : (c : CatalogParts) (d : Does) (kind next : Kind) → Leads c d kind next → next ≡ OfMutation → ⊥
no_mutation_type c (does.Column t x) kind next l e = let q = l.2 in cc
no_mutation_type c (does.Forward t x) kind next l e = let k = some_and (λ y. next ≡ OfRow y.target) (link_at c t x) l.1 in let q = k.2 in cc
no_mutation_type c (does.Backward t x) kind next l e =
    let k = some_and (λ y. (kind ≡ OfRow y.target) × (next ≡ backward_kind (finds_one (slice_get c.tables t) y) t)) (link_at c t x) l in
    back_no_mutation (finds_one (slice_get c.tables t) k.0) t (sym k.2.1 ∙ e)
no_mutation_type c (does.All t) kind next l e = let q = l.2 in cc
no_mutation_type c (does.ByKey t k) kind next l e = let q = some_and (λ y. next ≡ OfRow t) (Rattle.place_tree.specs.Fields.key_at c t k) l.1 in let r = q.2 in cc
no_mutation_type c (does.Create t) kind next l e = let q = l.1 in cc
no_mutation_type c (does.Update t k) kind next l e = let q = l.1 in cc
no_mutation_type c (does.Delete t k) kind next l e = let q = l.1 in cc
no_mutation_type c does.Nodes kind next l e = let q = l.2 in cc
no_mutation_type c does.Edges kind next l e = let q = l.2 in cc
no_mutation_type c does.Node kind next l e = let q = l.2 in cc
no_mutation_type c does.PageInfo kind next l e = let q = l.2 in cc
no_mutation_type c does.Total kind next l e = let q = l.2 in cc
no_mutation_type c does.Cursor kind next l e = let q = l.2 in cc
no_mutation_type c does.HasNext kind next l e = let q = l.1 in cc
no_mutation_type c does.HasPrevious kind next l e = let q = l.1 in cc
no_mutation_type c does.Start kind next l e = let q = l.1 in cc
no_mutation_type c does.End kind next l e = let q = l.1 in cc
no_mutation_type c does.ClientId kind next l e = let q = l.2 in cc
no_mutation_type c does.Payload kind next l e = let q = l.2 in cc

back_no_payload : (one : Bool) (t u : ℕ) → backward_kind one t ≡ OfPayload u → ⊥
back_no_payload true t u e = cc
back_no_payload false t u e = cc

-- what gives a payload has an input
payload_input : (base : BaseParts) (args : List ArgDef) (d : Does) (kind next : Kind) (u : ℕ) → Leads base.catalog d kind next → next ≡ OfPayload u → AreArgs base args d → IsInputArg base args
payload_input base args (does.Column t x) kind next u l e law = let q = l.2 in cc
payload_input base args (does.Forward t x) kind next u l e law = let k = some_and (λ y. next ≡ OfRow y.target) (link_at base.catalog t x) l.1 in let q = k.2 in cc
payload_input base args (does.Backward t x) kind next u l e law =
    let k = some_and (λ y. (kind ≡ OfRow y.target) × (next ≡ backward_kind (finds_one (slice_get base.catalog.tables t) y) t)) (link_at base.catalog t x) l in
    absurd (back_no_payload (finds_one (slice_get base.catalog.tables t) k.0) t u (sym k.2.1 ∙ e))
payload_input base args (does.All t) kind next u l e law = let q = l.2 in cc
payload_input base args (does.ByKey t k) kind next u l e law = let q = some_and (λ y. next ≡ OfRow t) (Rattle.place_tree.specs.Fields.key_at base.catalog t k) l.1 in let r = q.2 in cc
payload_input base args (does.Create t) kind next u l e law = law
payload_input base args (does.Update t k) kind next u l e law = law
payload_input base args (does.Delete t k) kind next u l e law = law
payload_input base args does.Nodes kind next u l e law = let q = l.2 in cc
payload_input base args does.Edges kind next u l e law = let q = l.2 in cc
payload_input base args does.Node kind next u l e law = let q = l.2 in cc
payload_input base args does.PageInfo kind next u l e law = let q = l.2 in cc
payload_input base args does.Total kind next u l e law = let q = l.2 in cc
payload_input base args does.Cursor kind next u l e law = let q = l.2 in cc
payload_input base args does.HasNext kind next u l e law = let q = l.1 in cc
payload_input base args does.HasPrevious kind next u l e law = let q = l.1 in cc
payload_input base args does.Start kind next u l e law = let q = l.1 in cc
payload_input base args does.End kind next u l e law = let q = l.1 in cc
payload_input base args does.ClientId kind next u l e law = let q = l.2 in cc
payload_input base args does.Payload kind next u l e law = let q = l.2 in cc

id_kind : (c : CatalogParts) (d : Does) (kind next : Kind) → d ≡ does.ClientId → Leads c d kind next → (t : ℕ) × (kind ≡ OfPayload t)
id_kind c d kind next e l = let k = subst (λ x. Leads c x kind next) e l in (k.0, k.1)

-- ---- the table of the mutation under which a place stands

-- each mutation at the place or above it has this table
abbrev pub IsTableOf : SchemaParts → List Place → Option ℕ → ℕ → Type 0
IsTableOf schema places table i = (n : ℕ) → Each (λ x. (t : ℕ) → mutated_at schema places x ≡ Some t → table ≡ Some t) (chain (above places) n i)

abbrev pub IsTableAbove : SchemaParts → List Place → Option ℕ → Option ℕ → Type 0
IsTableAbove schema places table None = ⊤
IsTableAbove schema places table (Some a) = IsTableOf schema places table a

table_kept : (d : Does) (table : Option ℕ) → mutated (Some d) ≡ None → table_below d table ≡ table
table_kept d table e = ap (λ o. or_above o table) e

mutated_does : (schema : SchemaParts) (places : List Place) (i : ℕ) (p : Place) (f : FieldDef) → slice_get places i ≡ Some p → field_of schema p ≡ Some f → mutated_at schema places i ≡ mutated (Some f.does)
mutated_does schema places i p f at is = ap (mutated_in schema) at ∙ ap (λ o. mutated (option_map (λ g. g.does) o)) is

-- a place below which such a table is kept
table_here : (schema : SchemaParts) (places : List Place) (i : ℕ) (p : Place) (f : FieldDef) (table : Option ℕ) (parent : Option ℕ) → slice_get places i ≡ Some p → p.parent ≡ parent → field_of schema p ≡ Some f → (o : Option ℕ) → mutated (Some f.does) ≡ o
    → (o ≡ None ⊎ parent ≡ None) → IsTableAbove schema places table parent → IsTableOf schema places (or_above o table) i
table_here schema places i p f table parent at up is o m root h zero = tt
table_here schema places i p f table parent at up is o m root h (suc n) = (here o m, rest parent (ap Rattle.plan_steps.specs.Under.parent_in at ∙ up) root h)
  where
    here : (o : Option ℕ) → mutated (Some f.does) ≡ o → (t : ℕ) → mutated_at schema places i ≡ Some t → or_above o table ≡ Some t
    here None m t e = let q : None ≡ Some t = sym m ∙ sym (mutated_does schema places i p f at is) ∙ e in cc
    here (Some u) m t e = sym m ∙ sym (mutated_does schema places i p f at is) ∙ e

    rest : (parent : Option ℕ) → above places i ≡ parent → (o ≡ None ⊎ parent ≡ None) → IsTableAbove schema places table parent
        → Each (λ x. (t : ℕ) → mutated_at schema places x ≡ Some t → or_above o table ≡ Some t) (or_nothing (chain (above places) n) (above places i))
    rest None e root h = subst (λ q. Each (λ x. (t : ℕ) → mutated_at schema places x ≡ Some t → or_above o table ≡ Some t) (or_nothing (chain (above places) n) q)) (sym e) tt
    rest (Some a) e root h =
        subst (λ q. Each (λ x. (t : ℕ) → mutated_at schema places x ≡ Some t → or_above o table ≡ Some t) (or_nothing (chain (above places) n) q)) (sym e)
        (subst (λ y. Each (λ x. (t : ℕ) → mutated_at schema places x ≡ Some t → y ≡ Some t) (chain (above places) n a)) (sym (kept root)) (h n))
      where
        kept : (o ≡ None ⊎ Some a ≡ None) → or_above o table ≡ table
        kept (inl q) = ap (λ z. or_above z table) q
        kept (inr q) = cc

-- ---- the induction over the places, beside the whole plan

module _ (base : BaseParts) (tree : Tree) (vars : Vars) (planned : IsPlanned base tree vars) (constraints : List Constraint) (noted : (other : Vars) → Hold constraints other → Hold (noted_all base vars tree) other) (whole : Making) where
  -- what stands below a place is of the kind of its field's type, and a row that is given is of the table of the mutation
  pub record Stands (i : ℕ) (kind : Kind) (g : Footing) : Type 0 where
    pub table : Option ℕ
    pub is_table : IsTableOf base.schema tree.places table i
    pub fits : FootingFits kind whole.steps table g
    pub taken_ : IsTakenOn base whole.steps table g

  -- the same of what stands above a place
  pub record StandsOn (parent : Option ℕ) (kind : Kind) (g : Footing) : Type 0 where
    pub table : Option ℕ
    pub is_table : IsTableAbove base.schema tree.places table parent
    pub fits : FootingFits kind whole.steps table g
    pub taken_ : IsTakenOn base whole.steps table g

  -- the places so far stand on what fits their fields
  pub record Fits (m : Making) (n : ℕ) : Type 0 where
    pub count : length m.belows ≡ n
    pub fresh : (i : ℕ) → n ≤ i → step_for m.out i ≡ None
    pub footing : (i : ℕ) (p : Place) (f : FieldDef) → i < n → slice_get tree.places i ≡ Some p → field_of base.schema p ≡ Some f → Stands i (planned.kinds f.ty.name) (footing_at m.belows i)

  root_fits : (kind : Kind) → ((kind ≡ OfQuery) ⊎ (kind ≡ OfMutation)) → FootingFits kind whole.steps None footing.Nothing
  root_fits kind (inl e) = subst (λ k. FootingFits k whole.steps None footing.Nothing) (sym e) tt
  root_fits kind (inr e) = subst (λ k. FootingFits k whole.steps None footing.Nothing) (sym e) tt

  module _ (m : Making) (n : ℕ) (fits : Fits m n) (p : Place) (is_place : slice_get tree.places n ≡ Some p) where
    abbrev pub up : Below
    up = below_of m.belows p.parent

    abbrev pub adds_here : Added
    adds_here = added_at base vars tree n p up.footing

    abbrev pub next : Making
    next = grown m n up.layer adds_here

    -- what the place stands on fits its type
    above_fits : (parent : Option ℕ) → StandsUnder base.schema planned.root tree.places n p parent → StandsOn parent (planned.kinds p.ty) (below_of m.belows parent).footing
    above_fits None h = record {
      table = None;
      is_table = tt;
      fits = subst (λ t. FootingFits (planned.kinds t) whole.steps None footing.Nothing) (sym h) (root_fits (planned.kinds planned.root) planned.root_kind);
      taken_ = tt;
    }
    above_fits (Some a) h =
        let s = fits.footing a h.place h.field h.earlier h.is_place h.is_field in
        record {
          table = s.table;
          is_table = s.is_table;
          fits = subst (λ t. FootingFits (planned.kinds t) whole.steps s.table (footing_at m.belows a)) (sym h.is_type) s.fits;
          taken_ = s.taken_;
        }

    pub stands : StandsOn p.parent (planned.kinds p.ty) up.footing
    stands = above_fits p.parent (planned.is_tree.under n p is_place)

    -- the place above a client's id is a mutation's, with its input
    id_above : (t : ℕ) → planned.kinds p.ty ≡ OfPayload t → (parent : Option ℕ) → StandsUnder base.schema planned.root tree.places n p parent → (other : Vars) → FitTree base other tree
        → IsSomeAnd (input_of other (Some (id_of (place_at tree.places parent)))) (λ w. input_leaf w ≡ client_id other (place_at tree.places parent))
    id_above t e None h other fit = refl
    id_above t e (Some a) h other fit =
        let law = payload_input base h.field.args h.field.does (planned.kinds h.place.ty) (planned.kinds h.field.ty.name) t
        (planned.leads h.place.ty h.place.field h.field h.is_field) (sym (ap planned.kinds h.is_type) ∙ e) (planned.args h.place.ty h.place.field h.field h.is_field) in
        let fit_above = Each-get (FitsPlace base other) tree.places a h.place fit h.is_place in
        let fit_args = subst (λ (o : Option FieldDef). IfSome o (λ g. (arg : ℕ) → IfSome (slice_get g.args arg) (FitsArg base.schema other h.place arg))) h.is_field fit_above in
        let typed : IfSome (argument other h.place 0) (IsOf base.schema law.input.ty) = (subst (λ o. IfSome o (FitsArg base.schema other h.place 0)) law.is_input (fit_args 0)).0 in
        subst (λ o. IsSomeAnd (input_of other (Some (id_of o))) (λ w. input_leaf w ≡ client_id other o)) (sym h.is_place)
        (id_shows base h.field.args law other h.place (planned.once a h.place h.is_place) typed)

    module _ (on : GoesOn next whole) where
      pub placed : (j : ℕ) (s : Step) → slice_get (steps_added (length m.steps) adds_here) j ≡ Some s → slice_get whole.steps (length m.steps + j) ≡ Some s
      placed j s h = on.steps (length m.steps + j) s (get_past m.steps (steps_added (length m.steps) adds_here) j ∙ h)

      by_field : (f : FieldDef) → field_of base.schema p ≡ Some f → IsLocal base tree vars planned.fit constraints noted whole.steps (length m.steps) n p is_place stands.table up.footing (planned.kinds f.ty.name) f.does adds_here
      by_field f e =
          let same : adds_here ≡ added_by base vars tree.places p (needs_rows base.schema tree.places n) up.footing f f.does = ap (added_for base vars tree.places p (needs_rows base.schema tree.places n) up.footing) e in
          let leads = planned.leads p.ty p.field f e in
          subst (λ a. IsLocal base tree vars planned.fit constraints noted whole.steps (length m.steps) n p is_place stands.table up.footing (planned.kinds f.ty.name) f.does a) (sym same)
          (local base tree vars planned.fit constraints noted whole.steps (length m.steps) n p is_place f e (planned.kinds p.ty) (planned.kinds f.ty.name) stands.table up.footing f.does refl
          (planned.args p.ty p.field f e)
          (λ is. let k = id_kind base.catalog f.does (planned.kinds p.ty) (planned.kinds f.ty.name) is leads in id_above k.0 k.1 p.parent (planned.is_tree.under n p is_place))
          leads stands.fits
          (subst (λ a. (j : ℕ) (s : Step) → slice_get (steps_added (length m.steps) a) j ≡ Some s → slice_get whole.steps (length m.steps + j) ≡ Some s) same placed))

      -- what the added steps take from a row that is given
      taken_field : (f : FieldDef) → field_of base.schema p ≡ Some f → AreTaken base whole.steps vars (length m.steps) tree.places p (needs_rows base.schema tree.places n) f planned.links stands.table (table_below f.does stands.table) adds_here
      taken_field f e =
          let shown = needs_rows base.schema tree.places n in
          let same : adds_here ≡ added_by base vars tree.places p shown up.footing f f.does = ap (added_for base vars tree.places p shown up.footing) e in
          subst (λ a. AreTaken base whole.steps vars (length m.steps) tree.places p shown f planned.links stands.table (table_below f.does stands.table) a) (sym same)
          (taken_by base whole.steps vars (length m.steps) tree.places p shown f planned.links (planned.kinds p.ty) (planned.kinds f.ty.name) stands.table up.footing f.does (planned.leads p.ty p.field f e) stands.fits stands.taken_
          (subst (λ a. (j : ℕ) (s : Step) → slice_get (steps_added (length m.steps) a) j ≡ Some s → slice_get whole.steps (length m.steps + j) ≡ Some s) same placed))

      -- the step that is shown takes nothing that the table above hasn't
      pub shown_taken : IsTaken base whole.steps stands.table (step_shown (length m.steps) adds_here)
      shown_taken = by (field_of base.schema p) refl
        where
          by : (o : Option FieldDef) → field_of base.schema p ≡ o → IsTaken base whole.steps stands.table (step_shown (length m.steps) adds_here)
          by None e =
              let same : adds_here ≡ adds.Leaf (step.Const (value.Text (type_name_at base.schema p.ty))) = ap (added_for base vars tree.places p (needs_rows base.schema tree.places n) up.footing) e in
              let first : slice_get whole.steps (length m.steps + 0) ≡ Some (step.Const (value.Text (type_name_at base.schema p.ty))) = placed 0 _ (ap (λ a. slice_get (steps_added (length m.steps) a) 0) same) in
              let z : length m.steps + 0 ≡ length m.steps = omega arith in
              subst (λ a. IsTaken base whole.steps stands.table (step_shown (length m.steps) a)) (sym same)
              (let here = subst (λ k. slice_get whole.steps k ≡ Some (step.Const (value.Text (type_name_at base.schema p.ty)))) z first in holds_used whole.steps (TakesAt base whole.steps stands.table) (length m.steps) (step.Const (value.Text (type_name_at base.schema p.ty))) here (subst (TakesIn base whole.steps stands.table) (sym here) tt) tt)
          by (Some f) e = (taken_field f e).shows

      Target : Option Does → Type 0
      Target d = ServesAs base tree vars planned.fit constraints noted whole.steps (length m.steps) n p is_place (is_row_field d) (basis_of up.footing) (basis_of (footing_with (length m.steps) adds_here)) (step_shown (length m.steps) adds_here) d

      served_as : (o : Option FieldDef) → field_of base.schema p ≡ o → is_mutation (option_map (λ f. f.does) o) ≡ false → Target (option_map (λ f. f.does) o)
      unfolding Target
      served_as None e not_one =
          let same : adds_here ≡ adds.Leaf (step.Const (value.Text (type_name_at base.schema p.ty))) = ap (added_for base vars tree.places p (needs_rows base.schema tree.places n) up.footing) e in
          let first : slice_get whole.steps (length m.steps + 0) ≡ Some (step.Const (value.Text (type_name_at base.schema p.ty))) = placed 0 _ (ap (λ a. slice_get (steps_added (length m.steps) a) 0) same) in
          let z : length m.steps + 0 ≡ length m.steps = omega arith in
          subst (λ a. slice_get whole.steps (step_shown (length m.steps) a) ≡ Some (step.Const (value.Text (type_name_at base.schema p.ty)))) (sym same) (subst (λ k. slice_get whole.steps k ≡ Some (step.Const (value.Text (type_name_at base.schema p.ty)))) z first)
      served_as (Some f) e not_one = (by_field f e).serves not_one

      as_serves : (b : Bool) (h below : Basis) (k : ℕ) → ServesAs base tree vars planned.fit constraints noted whole.steps (length m.steps) n p is_place b h below k (does_of base.schema p) → ServesBy b base tree constraints whole.steps n p h below k
      as_serves true h below k s = s
      as_serves false h below k s = s

      served_here : is_mutation (does_of base.schema p) ≡ false → ServesBy (is_row_field (does_of base.schema p)) base tree constraints whole.steps n p (basis_of up.footing) (basis_of (footing_with (length m.steps) adds_here)) (step_shown (length m.steps) adds_here)
      unfolding Target
      served_here not_one = as_serves (is_row_field (does_of base.schema p)) _ _ _ (served_as (field_of base.schema p) refl not_one)

      -- where the place and the one above stand in the whole plan
      footing_here : footing_at whole.belows n ≡ footing_with (length m.steps) adds_here
      footing_here = ap (λ o. (unwrap_or o at_root).footing) (on.belows n _ (get_last m.belows _ n fits.count))

      before : Option ℕ → Type 0
      before None = ⊤
      before (Some a) = a < n

      bases_there : (parent : Option ℕ) → before parent → basis_above (basis_at whole.belows) parent ≡ basis_of (below_of m.belows parent).footing
      unfolding before
      bases_there None lt = refl
      bases_there (Some a) lt =
          ap (λ b. basis_of b.footing) (at_first m.belows whole.belows a (omega (arith, lt, fits.count)) (λ j b h. on.belows j b (get_left m.belows _ j b h)))

      earlier : (parent : Option ℕ) → StandsUnder base.schema planned.root tree.places n p parent → before parent
      unfolding before
      earlier None h = tt
      earlier (Some a) h = h.earlier

      out_here : step_for next.out n ≡ Some (step_shown (length m.steps) adds_here)
      out_here = out_right m.out _ n (fits.fresh n (omega arith)) ∙ ap (λ b. cond b (Some (step_shown (length m.steps) adds_here)) None) (eq-eqb n n refl)

      pub basis_here : basis_at whole.belows n ≡ basis_of (footing_with (length m.steps) adds_here)
      basis_here = ap basis_of footing_here

      pub basis_up : basis_above (basis_at whole.belows) p.parent ≡ basis_of up.footing
      basis_up = bases_there p.parent (earlier p.parent (planned.is_tree.under n p is_place))

      pub is_out_here : step_for whole.out n ≡ Some (step_shown (length m.steps) adds_here)
      is_out_here = on.out n _ out_here

      serves_here : is_mutation (does_of base.schema p) ≡ false → Serves base tree constraints (plan_of whole) (basis_at whole.belows) n p
      serves_here not_one = record {
        at = step_shown (length m.steps) adds_here;
        is_out = on.out n _ out_here;
        fits =
            subst (λ h. ServesBy (is_row_field (does_of base.schema p)) base tree constraints whole.steps n p h (basis_at whole.belows n) (step_shown (length m.steps) adds_here)) (sym (bases_there p.parent (earlier p.parent (planned.is_tree.under n p is_place))))
            (subst (λ h. ServesBy (is_row_field (does_of base.schema p)) base tree constraints whole.steps n p (basis_of up.footing) h (step_shown (length m.steps) adds_here)) (sym (ap basis_of footing_here)) (served_here not_one));
      }

      -- a mutation field stands at the root
      pub rooted : (d : Does) (kind next : Kind) → Leads base.catalog d kind next → kind ≡ planned.kinds p.ty → is_mutation (Some d) ≡ true → p.parent ≡ None
      rooted d kind follows l k e = by (mutation_kind d kind follows l e) p.parent refl (planned.is_tree.under n p is_place)
        where
          mutation_kind : (d : Does) (kind next : Kind) → Leads base.catalog d kind next → is_mutation (Some d) ≡ true → kind ≡ OfMutation
          mutation_kind (does.Create t) kind next l e = l.0
          mutation_kind (does.Update t k) kind next l e = l.0
          mutation_kind (does.Delete t k) kind next l e = l.0
          mutation_kind (does.Column t c) kind next l e = cc
          mutation_kind (does.Forward t c) kind next l e = cc
          mutation_kind (does.Backward t c) kind next l e = cc
          mutation_kind (does.All t) kind next l e = cc
          mutation_kind (does.ByKey t c) kind next l e = cc
          mutation_kind does.Nodes kind next l e = cc
          mutation_kind does.Edges kind next l e = cc
          mutation_kind does.PageInfo kind next l e = cc
          mutation_kind does.Total kind next l e = cc
          mutation_kind does.Node kind next l e = cc
          mutation_kind does.Cursor kind next l e = cc
          mutation_kind does.HasNext kind next l e = cc
          mutation_kind does.HasPrevious kind next l e = cc
          mutation_kind does.Start kind next l e = cc
          mutation_kind does.End kind next l e = cc
          mutation_kind does.ClientId kind next l e = cc
          mutation_kind does.Payload kind next l e = cc

          by : kind ≡ OfMutation → (parent : Option ℕ) → p.parent ≡ parent → StandsUnder base.schema planned.root tree.places n p parent → p.parent ≡ None
          by m None up h = up
          by m (Some a) up h =
              absurd (no_mutation_type base.catalog h.field.does (planned.kinds h.place.ty) (planned.kinds h.field.ty.name)
              (planned.leads h.place.ty h.place.field h.field h.is_field) (sym (ap planned.kinds h.is_type) ∙ sym k ∙ m))

      or_root : (d : Does) → d ≡ d → (mutated (Some d) ≡ None) ⊎ (is_mutation (Some d) ≡ true)
      or_root (does.Create t) e = inr refl
      or_root (does.Update t k) e = inr refl
      or_root (does.Delete t k) e = inr refl
      or_root (does.Column t c) e = inl refl
      or_root (does.Forward t c) e = inl refl
      or_root (does.Backward t c) e = inl refl
      or_root (does.All t) e = inl refl
      or_root (does.ByKey t c) e = inl refl
      or_root does.Nodes e = inl refl
      or_root does.Edges e = inl refl
      or_root does.PageInfo e = inl refl
      or_root does.Total e = inl refl
      or_root does.Node e = inl refl
      or_root does.Cursor e = inl refl
      or_root does.HasNext e = inl refl
      or_root does.HasPrevious e = inl refl
      or_root does.Start e = inl refl
      or_root does.End e = inl refl
      or_root does.ClientId e = inl refl
      or_root does.Payload e = inl refl

      table_next : (f : FieldDef) → field_of base.schema p ≡ Some f → IsTableOf base.schema tree.places (table_below f.does stands.table) n
      table_next f e =
          let root : (mutated (Some f.does) ≡ None) ⊎ (p.parent ≡ None) =
          elim (or_root f.does refl) [ inl q ↦ inl q | inr q ↦ inr (rooted f.does (planned.kinds p.ty) (planned.kinds f.ty.name) (planned.leads p.ty p.field f e) refl q) ] in
          table_here base.schema tree.places n p f stands.table p.parent is_place refl e (mutated (Some f.does)) refl root stands.is_table

      -- the places up to this one
      pub fits_next : Fits next (n + 1)
      fits_next = record {
        count = length-append m.belows _ ∙ ap (λ k. k + 1) fits.count;
        fresh = λ i h. out_right m.out _ i (fits.fresh i (omega arith)) ∙ ap (λ b. cond b (Some (step_shown (length m.steps) adds_here)) None) (ne_eqb n i (λ e. omega (arith, e)));
        footing = λ i q f lt at field.
            elim (cases_lt i n) [
              | inl h ↦ subst (λ b. Stands i (planned.kinds f.ty.name) b.footing) (sym (at_first m.belows next.belows i (omega (arith, h, fits.count)) (λ j b e. get_left m.belows _ j b e))) (fits.footing i q f h at field)
              | inr h ↦
                  let e : i ≡ n = omega arith in
                  let same : q ≡ p = inside q p (sym at ∙ ap (slice_get tree.places) e ∙ is_place) in
                  let is : field_of base.schema p ≡ Some f = ap (field_of base.schema) (sym same) ∙ field in
                  subst (λ j. Stands j (planned.kinds f.ty.name) (footing_at next.belows j)) (sym e)
                  (subst (λ o. Stands n (planned.kinds f.ty.name) (unwrap_or o at_root).footing) (sym (get_last m.belows _ n fits.count))
                  (record { table = table_below f.does stands.table; is_table = table_next f is; fits = (by_field f is).fits; taken_ = (taken_field f is).stands }))
            ];
      }

  -- a place is served, and stands where its field belongs
  pub record IsServed (i : ℕ) (p : Place) : Type 0 where
    pub serves : is_mutation (does_of base.schema p) ≡ false → Serves base tree constraints (plan_of whole) (basis_at whole.belows) i p
    pub rooted_ : is_mutation (does_of base.schema p) ≡ true → p.parent ≡ None
    pub payload : is_mutation (does_of base.schema p) ≡ true → basis_at whole.belows i ≡ OnPayload

  pub root_of : (n : ℕ) (m : Making) (fits : Fits m n) (p : Place) (at : slice_get tree.places n ≡ Some p) (on : GoesOn (next m n fits p at) whole) → (o : Option FieldDef) → field_of base.schema p ≡ o → is_mutation (option_map (λ f. f.does) o) ≡ true → p.parent ≡ None
  root_of n m fits p at on None e h = cc
  root_of n m fits p at on (Some f) e h = rooted m n fits p at on f.does (planned.kinds p.ty) (planned.kinds f.ty.name) (planned.leads p.ty p.field f e) refl h

  payload_for : (g : Footing) (places : List Place) (p : Place) (b : Bool) (f : FieldDef) (d : Does) → is_mutation (Some d) ≡ true → added_by base vars places p b g f d ≡ adds.Given
  payload_for g places p b f (does.Create t) e = refl
  payload_for g places p b f (does.Update t k) e = refl
  payload_for g places p b f (does.Delete t k) e = refl
  payload_for g places p b f (does.Column t c) e = cc
  payload_for g places p b f (does.Forward t c) e = cc
  payload_for g places p b f (does.Backward t c) e = cc
  payload_for g places p b f (does.All t) e = cc
  payload_for g places p b f (does.ByKey t c) e = cc
  payload_for g places p b f does.Nodes e = cc
  payload_for g places p b f does.Edges e = cc
  payload_for g places p b f does.PageInfo e = cc
  payload_for g places p b f does.Total e = cc
  payload_for g places p b f does.Node e = cc
  payload_for g places p b f does.Cursor e = cc
  payload_for g places p b f does.HasNext e = cc
  payload_for g places p b f does.HasPrevious e = cc
  payload_for g places p b f does.Start e = cc
  payload_for g places p b f does.End e = cc
  payload_for g places p b f does.ClientId e = cc
  payload_for g places p b f does.Payload e = cc

  payload_of : (n : ℕ) (m : Making) (fits : Fits m n) (p : Place) (at : slice_get tree.places n ≡ Some p) (on : GoesOn (next m n fits p at) whole) → (o : Option FieldDef) → field_of base.schema p ≡ o → is_mutation (option_map (λ f. f.does) o) ≡ true → basis_at whole.belows n ≡ OnPayload
  payload_of n m fits p at on None e h = cc
  payload_of n m fits p at on (Some f) e h =
      ap basis_of (footing_here m n fits p at on)
      ∙ ap (λ a. basis_of (footing_with (length m.steps) a)) (ap (added_for base vars tree.places p (needs_rows base.schema tree.places n) (up m n fits p at).footing) e ∙ payload_for (up m n fits p at).footing tree.places p (needs_rows base.schema tree.places n) f f.does h)

  served_at : (n : ℕ) (m : Making) (fits : Fits m n) (p : Place) (at : slice_get tree.places n ≡ Some p) (on : GoesOn (next m n fits p at) whole) → IsServed n p
  served_at n m fits p at on = record {
    serves = serves_here m n fits p at on;
    rooted_ = root_of n m fits p at on (field_of base.schema p) refl;
    payload = payload_of n m fits p at on (field_of base.schema p) refl;
  }

  all_serve : (ps : List Place) (n : ℕ) (m : Making) → drop n tree.places ≡ ps → Fits m n → with_places base vars tree m n ps ≡ whole → (j : ℕ) (p : Place) → slice_get ps j ≡ Some p → IsServed (n + j) p
  all_serve [] n m e fits is j p at = cc
  all_serve (q ∷ ps) n m e fits is zero p at =
      let there = get_drop tree.places ps n q e in
      let on = subst (GoesOn (next m n fits q there)) is (goes_all base vars tree (next m n fits q there) (n + 1) ps) in
      let same : q ≡ p = inside q p at in
      let z : n ≡ n + 0 = omega arith in
      subst (λ k. IsServed k p) z (subst (λ x. IsServed n x) same (served_at n m fits q there on))
  all_serve (q ∷ ps) n m e fits is (suc j) p at =
      let there = get_drop tree.places ps n q e in
      let on = subst (GoesOn (next m n fits q there)) is (goes_all base vars tree (next m n fits q there) (n + 1) ps) in
      let z : (n + 1) + j ≡ n + suc j = omega arith in
      subst (λ k. IsServed k p) z (all_serve ps (n + 1) (next m n fits q there) (drop_next tree.places ps n q e) (fits_next m n fits q there on) is j p at)

  pub fits_nothing : Fits nothing_made 0
  fits_nothing = record {
    count = refl;
    fresh = λ i h. refl;
    footing = λ i p f lt at e. absurd (omega arith);
  }

module _ (base : BaseParts) (tree : Tree) (vars : Vars) (planned : IsPlanned base tree vars) (constraints : List Constraint) (noted : (other : Vars) → Hold constraints other → Hold (noted_all base vars tree) other) where
  abbrev whole_plan : Making
  whole_plan = made base tree vars

  pub each_served : (i : ℕ) (p : Place) → slice_get tree.places i ≡ Some p → IsServed base tree vars planned constraints noted whole_plan i p
  each_served i p at =
      let z : 0 + i ≡ i = omega arith in
      subst (λ k. IsServed base tree vars planned constraints noted whole_plan k p) z
      (all_serve base tree vars planned constraints noted whole_plan tree.places 0 nothing_made refl (fits_nothing base tree vars planned constraints noted whole_plan) refl i p at)

  -- the law: what is drafted serves all places
  unfoldable pub drafted_serves : ServesAll base tree constraints (drafted base tree vars)
  drafted_serves = record {
    bases = basis_at whole_plan.belows;
    payloads = λ i p at e. (each_served i p at).payload e;
    each = λ i p at e. (each_served i p at).serves e;
  }

  pub well_made : IsWellMade base tree
  well_made = record { named = planned.named; at_root = λ i p at e. (each_served i p at).rooted_ e }
