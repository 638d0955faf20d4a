-- The keys that the code makes are the keys that are meant, and make the quotient.
use Rattle.std.proofs.Common.{◌≡◌, ℕ, zero, suc, ◌+◌, ◌<◌, List, [], ◌∷◌, length, get_or, None, Some, refl, sym, ap, ◌∙◌, subst, arith}
use Rattle.std.specs.Prelude.{slice_get, unwrap_or, option_map, IsTrue}
use Rattle.pg_base.specs.Base.{BaseParts}
use Rattle.place_tree.specs.declared.place.Tree.{Tree}
use Rattle.plan_constraints.specs.declared.constraint.Constraint.{Constraint}
use Rattle.plan_steps.specs.declared.plan.Layer.{Layer}
use Rattle.plan_steps.specs.declared.plan.Plan.{Plan}
use Rattle.plan_steps.specs.declared.plan.Step.{Step}
use Rattle.plan_steps.specs.declared.plan.Step.TheVariants as step
use Rattle.plan_steps.specs.Check.{is_checked}
use Rattle.plan_steps.specs.Fetches.{IsTreeOver, IsPlain, IsMerged}
use Rattle.plan_steps.specs.Named.{over_in, over_at}
use Rattle.plan_steps.specs.View.{Planned, IsSoundFor}
use Rattle.dedupe_steps.specs.declared.sights.Sights.{Sights}
use Rattle.dedupe_steps.specs.declared.words.Word.{Word}
use Rattle.dedupe_steps.specs.Keys.{content, hook, ground_of, reach, order_for, root_of, step_at, key_of, key_at}
use Rattle.dedupe_steps.specs.Made.{AreFlat, AreWithin, AreBelow, AreInOrder}
use Rattle.dedupe_steps.specs.Laws.{IsMergeOf}
use Rattle.dedupe_steps.specs.Numbered.{at, Renaming, IsNumbered}
use Rattle.dedupe_steps.specs.Numbering.{Numbers, no_numbers, numbered_with, renaming}
use Rattle.dedupe_steps.specs.Quotient.{IsQuotient, quotient, ground_at}
use Rattle.dedupe_steps.specs.Roots.{Unshown, mutates, mark_of, roots, field_for}
use Rattle.dedupe_steps.specs.Sights.{at_or, AreSights, reach_with, order_with, key_with}
use Rattle.dedupe_steps.specs.Words.{key_words, optional, number}
use Rattle.dedupe_steps.proofs.Lists.{get_below}
use Rattle.dedupe_steps.proofs.NumbersGrown.{StepsNumbered, steps_begin, step_numbered, LayersNumbered, layers_begin, layer_numbered}

-- ---- the keys that are meant

reach_is : (base : BaseParts) (tree : Tree) (plan : Plan) (seen : Sights) (k : ℕ) (s : Step) → AreSights base tree plan seen → k < length plan.steps
    → reach_with seen.mutates (at_or Unshown seen.marks k) (root_of seen.roots (at_or None seen.fields k)) k s ≡ reach base tree plan k s
reach_is base tree plan seen k s h lt =
    ap (λ r. reach_with r (at_or Unshown seen.marks k) (root_of seen.roots (at_or None seen.fields k)) k s) h.mutates
    ∙ ap (λ m. reach_with (mutates base.schema tree.places) m (root_of seen.roots (at_or None seen.fields k)) k s) (h.marks k lt)
    ∙ ap (λ f. reach_with (mutates base.schema tree.places) (mark_of seen.roots plan.out k) (root_of seen.roots f) k s) (h.fields k lt)
    ∙ ap (λ r. reach_with (mutates base.schema tree.places) (mark_of r plan.out k) (root_of r (field_for base tree plan k)) k s) h.roots
    ∙ by s where
      by : (s : Step) → reach_with (mutates base.schema tree.places) (mark_of (roots base.schema tree.places) plan.out k) (root_of (roots base.schema tree.places) (field_for base tree plan k)) k s ≡ reach base tree plan k s
      by (step.Const v) = refl
      by (step.Var path) = refl
      by step.Given = refl
      by (step.Fetch f) = refl
      by (step.Item x) = refl
      by (step.Column i c) = refl
      by (step.Count x) = refl
      by (step.Page x part) = refl
      by (step.CursorOf i) = refl

order_is : (base : BaseParts) (tree : Tree) (constraints : List Constraint) (plan : Plan) (k : ℕ) (s : Step) → order_with constraints tree (field_for base tree plan k) s ≡ order_for base tree constraints plan k s
order_is base tree constraints plan k (step.Const v) = refl
order_is base tree constraints plan k (step.Var path) = refl
order_is base tree constraints plan k step.Given = refl
order_is base tree constraints plan k (step.Fetch f) = refl
order_is base tree constraints plan k (step.Item x) = refl
order_is base tree constraints plan k (step.Column i c) = refl
order_is base tree constraints plan k (step.Count x) = refl
order_is base tree constraints plan k (step.Page x part) = refl
order_is base tree constraints plan k (step.CursorOf i) = refl

key_is : (base : BaseParts) (tree : Tree) (constraints : List Constraint) (plan : Plan) (seen : Sights) (to : List ℕ) (k : ℕ) (s : Step)
    → AreSights base tree plan seen → k < length plan.steps → key_with tree constraints plan seen to k s ≡ key_of base tree constraints plan to k s
key_is base tree constraints plan seen to k s h lt =
    let l = h.layers k lt in
    let r = reach_is base tree plan seen k s h lt in
    let o = ap (λ f. order_with constraints tree f s) (h.fields k lt) ∙ order_is base tree constraints plan k s in
    λ i. record { content = content to s; hook = hook to plan.steps s; stand = ground_of to k (over_at plan.layers (l i)); reach = r i; order = o i }

-- ---- numbers

pub steps_first : (base : BaseParts) (tree : Tree) (constraints : List Constraint) (plan : Plan) (n : Numbers) → IsTrue (is_checked base tree plan) → AreFlat plan.steps
    → n ≡ no_numbers → StepsNumbered base tree constraints plan 0 n
steps_first base tree constraints plan n ok flat e =
    subst (λ (m : Numbers). StepsNumbered base tree constraints plan 0 m) (sym e) (steps_begin base tree constraints plan ok flat)

pub steps_on : (base : BaseParts) (tree : Tree) (constraints : List Constraint) (plan : Plan) (seen : Sights) (k : ℕ) (s : Step) (n new : Numbers) (key : List Word)
    → IsTrue (is_checked base tree plan) → AreFlat plan.steps → AreSights base tree plan seen → slice_get plan.steps k ≡ Some s
    → StepsNumbered base tree constraints plan k n → key ≡ key_words (key_with tree constraints plan seen n.to k s) → new ≡ numbered_with n key
    → StepsNumbered base tree constraints plan (k + 1) new
steps_on base tree constraints plan seen k s n new key ok flat sights there h is e =
    let lt = get_below plan.steps k s there in
    let meant : key ≡ key_words (key_at base tree constraints plan n.to k) =
    is ∙ ap key_words (key_is base tree constraints plan seen n.to k s sights lt) ∙ ap (λ o. key_words (key_of base tree constraints plan n.to k (unwrap_or o step.Given))) (sym there) in
    subst (λ (m : Numbers). StepsNumbered base tree constraints plan (k + 1) m) (sym (e ∙ ap (numbered_with n) meant))
    (step_numbered base tree constraints plan ok flat k n lt h)

pub layers_first : (to : List ℕ) (layers : List Layer) (n : Numbers) → n ≡ no_numbers → LayersNumbered to layers 0 n
layers_first to layers n e = subst (λ (m : Numbers). LayersNumbered to layers 0 m) (sym e) (layers_begin to layers)

pub layers_on : (to : List ℕ) (layers : List Layer) (y : ℕ) (l : Layer) (n new : Numbers) (key : List Word) → slice_get layers y ≡ Some l
    → LayersNumbered to layers y n → key ≡ optional number (option_map (at to) l.over) → new ≡ numbered_with n key → LayersNumbered to layers (y + 1) new
layers_on to layers y l n new key there h is e =
    subst (λ (m : Numbers). LayersNumbered to layers (y + 1) m) (sym (e ∙ ap (numbered_with n) (is ∙ sym (ap (λ o. optional number (option_map (at to) (over_in o))) there))))
    (layer_numbered to layers y n h)

pub ends : {K : Type 0} (count n : ℕ) (key : ℕ → K) (r : Renaming) → count ≡ n → IsNumbered count key r → IsNumbered n key r
ends count n key r e h = subst (λ m. IsNumbered m key r) e h

-- ---- the quotient

pub firsts_within : {K : Type 0} (count : ℕ) (key : ℕ → K) (r : Renaming) → IsNumbered count key r → AreWithin r.to (length r.firsts) r.firsts
firsts_within count key r h m k e =
    let f = (h.first m k e).1 in
    let lt = get_below r.firsts m k e in
    omega (arith, f, lt)

pub firsts_below : {K : Type 0} (count : ℕ) (key : ℕ → K) (r : Renaming) → IsNumbered count key r → AreBelow count r.firsts
firsts_below count key r h m k e = (h.first m k e).0

pub firsts_in_order : {K : Type 0} (count : ℕ) (key : ℕ → K) (r : Renaming) → IsNumbered count key r → AreInOrder r.to r.firsts
firsts_in_order count key r h m k e = (h.first m k e).1

pub within_same : (to to' firsts firsts' : List ℕ) → to' ≡ to → firsts' ≡ firsts → AreWithin to (length firsts) firsts → AreWithin to' (length firsts') firsts'
within_same to to' firsts firsts' e f h = subst (λ t. AreWithin t (length firsts') firsts') (sym e) (subst (λ l. AreWithin to (length l) l) (sym f) h)

pub order_same : (to to' firsts firsts' : List ℕ) → to' ≡ to → firsts' ≡ firsts → AreInOrder to firsts → AreInOrder to' firsts'
order_same to to' firsts firsts' e f h = subst (λ t. AreInOrder t firsts') (sym e) (subst (λ l. AreInOrder to l) (sym f) h)

pub below_same : (count : ℕ) (firsts firsts' : List ℕ) → firsts' ≡ firsts → AreBelow count firsts → AreBelow count firsts'
below_same count firsts firsts' f h = subst (λ l. AreBelow count l) (sym f) h

pub is_quotient : (base : BaseParts) (tree : Tree) (constraints : List Constraint) (plan merged : Plan) (n l : Numbers) (to firsts to_layer layer_firsts : List ℕ)
    → IsNumbered (length plan.steps) (key_at base tree constraints plan n.to) (renaming n) → to ≡ n.to → firsts ≡ n.firsts
    → IsNumbered (length plan.layers) (ground_at to plan.layers) (renaming l) → to_layer ≡ l.to → layer_firsts ≡ l.firsts
    → merged ≡ quotient plan (record { to = to; firsts = firsts }) (record { to = to_layer; firsts = layer_firsts })
    → IsQuotient base tree constraints plan merged
is_quotient base tree constraints plan merged n l to firsts to_layer layer_firsts hn t f hl tl fl is =
    record {
      steps = renaming n;
      layers = renaming l;
      numbered = hn;
      laid = subst (λ x. IsNumbered (length plan.layers) (ground_at x plan.layers) (renaming l)) t hl;
      is = is ∙ (λ i. quotient plan (record { to = t i; firsts = f i }) (record { to = tl i; firsts = fl i }));
    }

-- ---- drafts

pub checked_of : (d : Planned) (base : BaseParts) (tree : Tree) (plan : Plan) → IsSoundFor d → base ≡ d.base → tree ≡ d.tree → plan ≡ d.plan → IsTrue (is_checked base tree plan)
checked_of d base tree plan h b t p =
    subst (λ x. IsTrue (is_checked x tree plan)) (sym b) (subst (λ x. IsTrue (is_checked d.base x plan)) (sym t) (subst (λ x. IsTrue (is_checked d.base d.tree x)) (sym p) h.checked))

pub flat_of : (d : Planned) (plan : Plan) → AreFlat d.plan.steps → plan ≡ d.plan → AreFlat plan.steps
flat_of d plan h p = subst (λ x. AreFlat x.steps) (sym p) h

pub quotient_of : (d : Planned) (base : BaseParts) (tree : Tree) (constraints : List Constraint) (plan merged : Plan)
    → base ≡ d.base → tree ≡ d.tree → constraints ≡ d.constraints → plan ≡ d.plan
    → IsQuotient base tree constraints plan merged → IsQuotient d.base d.tree d.constraints d.plan merged
quotient_of d base tree constraints plan merged b t c p h =
    subst (λ x. IsQuotient x d.tree d.constraints d.plan merged) b (subst (λ x. IsQuotient base x d.constraints d.plan merged) t
    (subst (λ x. IsQuotient base tree x d.plan merged) c (subst (λ x. IsQuotient base tree constraints x merged) p h)))

pub merge_of : (d : Planned) (merged : Plan) → IsTreeOver d.base d.tree → IsSoundFor d → IsPlain d.base d.tree d.constraints d.plan
    → IsQuotient d.base d.tree d.constraints d.plan merged → IsMergeOf d.base d.tree d.constraints d.plan merged
merge_of d merged tree sound plain quotient = record { tree_ = tree; checked = sound.checked; plain = plain; quotient = quotient }

pub renewed : (d new : Planned) (merged : Plan) → new ≡ record d { plan = merged } → IsMerged d.base d.tree d.constraints merged → IsMerged new.base new.tree new.constraints new.plan
renewed d new merged e h = subst (λ (x : Planned). IsMerged x.base x.tree x.constraints x.plan) (sym e) h

-- ---- items that loops are at

got : {A : Type 0} (xs : List A) (i : ℕ) (d : A) → i < length xs → slice_get xs i ≡ Some (get_or xs i d)
got [] i d lt = absurd (omega arith)
got (x ∷ xs) zero d lt = refl
got (x ∷ xs) (suc i) d lt = got xs i d (omega arith)

pub there_is : {A : Type 0} (xs slice : List A) (i : ℕ) (x : A) → slice ≡ xs → i < length slice → x ≡ get_or slice i x → slice_get xs i ≡ Some x
there_is xs slice i x same lt e = ap (λ l. slice_get l i) (sym same) ∙ got slice i x lt ∙ ap (λ y. Some y) (sym e)
