-- The count of rows by tables of what each place and each step is.
use Rattle.std.proofs.Common.{◌≡◌, ℕ, zero, suc, ◌+◌, List, [], ◌∷◌, drop, Option, Some, None, Bool, true, false, refl, sym, ap, ◌∙◌, arith}
use Rattle.std.specs.Prelude.{slice_get}
use Rattle.pg_base.specs.Base.{BaseParts}
use Rattle.pg_base.specs.declared.vars.Vars.{Vars}
use Rattle.place_tree.specs.declared.answer.Leaf.{Leaf}
use Rattle.place_tree.specs.declared.answer.Leaf.TheVariants.{Null as null}
use Rattle.place_tree.specs.declared.place.Place.{Place}
use Rattle.place_tree.specs.declared.answer.Answer.{Answer}
use Rattle.place_tree.specs.declared.answer.Answer.TheVariants.{Shows, Fails, One, Many}
use Rattle.place_tree.specs.Fold.{below, same_place, when}
use Rattle.place_tree.specs.Spent.{answer_cost}
use Rattle.place_tree.proofs.Lists.{get_drop, drop_next}
use Rattle.plan_steps.specs.declared.plan.OutPlace.{OutPlace}
use Rattle.plan_steps.specs.declared.plan.Root.{Root}
use Rattle.plan_steps.specs.declared.plan.Step.{Step}
use Rattle.plan_steps.specs.Named.{fetch_in, step_for}
use Rattle.plan_steps.specs.Under.{root_place}
use Rattle.plan_steps.specs.View.{Planned}
use Rattle.stmt_tree.specs.declared.found.Found.{Found}
use Rattle.batch_execute.specs.declared.role.Role.{Role}
use Rattle.batch_execute.specs.declared.role.Role.TheVariants.{Failed, OfList, OfRow, Each, Same, OfLeaf}
use Rattle.batch_execute.specs.declared.way.Way.{Way}
use Rattle.batch_execute.specs.Counted.{counted, rows_shown, rows_in, rows_at, rows_for}
use Rattle.batch_execute.specs.Fetched.{FetchedParts}
use Rattle.batch_execute.specs.Reading.{Setting, setting, Trail, found_by, found_or, found_at, shown_by, shown_in, shown_at}
use Rattle.batch_execute.specs.Roles.{role_of, roles_from, roles_of, steps_from, steps_of}
use Rattle.batch_execute.specs.Visited.{Readings, way_or, role_or, step_or, found_there, shown_of, rows_of, shown_there, rows_there, readings_for, visited_for}
use Rattle.batch_execute.specs.Ways.{way_in, way_of, ways_from, ways_of}

-- ---- counts that agree but for leaves

-- an answer but for its leaf
abbrev pub bare : {S : Type 0} → Answer S → Answer S
bare (Shows l) = Shows null
bare (Fails message) = Fails message
bare (One s) = One s
bare (Many ss) = Many ss

bare_cost : {S : Type 0} (f : S → ℕ) (a : Answer S) → answer_cost (below f (bare a)) ≡ answer_cost (below f a)
bare_cost f (Shows l) = refl
bare_cost f (Fails message) = refl
bare_cost f (One s) = refl
bare_cost f (Many ss) = refl

module _ {S : Type 0} (ask other : ℕ → Place → S → Answer S) (cost price : ℕ → Place → S → ℕ) (all : List Place)
    (asks : (i : ℕ) (p : Place) (s : S) → slice_get all i ≡ Some p → bare (ask i p s) ≡ bare (other i p s))
    (costs : (i : ℕ) (p : Place) (s : S) → slice_get all i ≡ Some p → cost i p s ≡ price i p s) where
  in_when : (b : Bool) (m n k : ℕ) → m ≡ n → when b (λ _. m) k ≡ when b (λ _. n) k
  in_when true m n k e = e
  in_when false m n k e = refl

  pub counted_same : (ps : List Place) (i : ℕ) → drop i all ≡ ps → (parent : Option ℕ) (s : S) → counted ask cost ps i parent s ≡ counted other price ps i parent s
  counted_same [] i at parent s = refl
  counted_same (p ∷ ps) i at parent s =
      let place = get_drop all ps i p at in
      let next = drop_next all ps i p at in
      let under : counted ask cost ps (i + 1) (Some i) ≡ counted other price ps (i + 1) (Some i) = λ j t. counted_same ps (i + 1) next (Some i) t j in
      let rest : counted ask cost ps (i + 1) parent s ≡ counted other price ps (i + 1) parent s = counted_same ps (i + 1) next parent s in
      let answer : answer_cost (below (counted ask cost ps (i + 1) (Some i)) (ask i p s)) ≡ answer_cost (below (counted other price ps (i + 1) (Some i)) (other i p s)) =
      ap (λ f. answer_cost (below f (ask i p s))) under
      ∙ sym (bare_cost (counted other price ps (i + 1) (Some i)) (ask i p s))
      ∙ ap (λ a. answer_cost (below (counted other price ps (i + 1) (Some i)) a)) (asks i p s place)
      ∙ bare_cost (counted other price ps (i + 1) (Some i)) (other i p s) in
      let here : cost i p s + answer_cost (below (counted ask cost ps (i + 1) (Some i)) (ask i p s)) + counted ask cost ps (i + 1) parent s
      ≡ price i p s + answer_cost (below (counted other price ps (i + 1) (Some i)) (other i p s)) + counted other price ps (i + 1) parent s =
      (let c = costs i p s place in omega (arith, c, answer, rest)) in
      ap (λ n. when (same_place p.parent parent) (λ _. cost i p s + answer_cost (below (counted ask cost ps (i + 1) (Some i)) (ask i p s)) + counted ask cost ps (i + 1) parent s) n) rest
      ∙ in_when (same_place p.parent parent) _ _ (counted other price ps (i + 1) parent s) here

-- ---- what stands in the tables

pub role_from : (base : BaseParts) (vars : Vars) (all places : List Place) (n i : ℕ) (p : Place) → slice_get places i ≡ Some p → slice_get (roles_from base vars all n places) i ≡ Some (role_of base vars all (n + i) p)
role_from base vars all [] n i p e = cc
role_from base vars all (q ∷ places) n zero p e =
    let same : q ≡ p = cc in
    let z : n ≡ n + 0 = omega arith in
    ap (λ x. Some (role_of base vars all n x)) same ∙ ap (λ j. Some (role_of base vars all j p)) z
role_from base vars all (q ∷ places) n (suc i) p e =
    let z : n + 1 + i ≡ n + suc i = omega arith in
    role_from base vars all places (n + 1) i p e ∙ ap (λ j. Some (role_of base vars all j p)) z

role_there : (base : BaseParts) (vars : Vars) (places : List Place) (i : ℕ) (p : Place) → slice_get places i ≡ Some p → role_or (slice_get (roles_of base vars places) i) ≡ role_of base vars places i p
role_there base vars places i p e = let z : 0 + i ≡ i = omega arith in ap role_or (role_from base vars places places 0 i p e) ∙ ap (λ j. role_of base vars places j p) z

step_from : (out : List OutPlace) (places : List Place) (n i : ℕ) (p : Place) → slice_get places i ≡ Some p → slice_get (steps_from out n places) i ≡ Some (step_for out (n + i))
step_from out [] n i p e = cc
step_from out (q ∷ places) n zero p e = let z : n ≡ n + 0 = omega arith in ap (λ j. Some (step_for out j)) z
step_from out (q ∷ places) n (suc i) p e =
    let z : n + 1 + i ≡ n + suc i = omega arith in
    step_from out places (n + 1) i p e ∙ ap (λ j. Some (step_for out j)) z

step_there : (out : List OutPlace) (places : List Place) (i : ℕ) (p : Place) → slice_get places i ≡ Some p → step_or (slice_get (steps_of out places) i) ≡ step_for out i
step_there out places i p e = let z : 0 + i ≡ i = omega arith in ap step_or (step_from out places 0 i p e) ∙ ap (step_for out) z

way_from : (all steps : List Step) (n i : ℕ) (s : Step) → slice_get steps i ≡ Some s → slice_get (ways_from all n steps) i ≡ Some (way_of all (n + i))
way_from all [] n i s e = cc
way_from all (q ∷ steps) n zero s e = let z : n ≡ n + 0 = omega arith in ap (λ j. Some (way_of all j)) z
way_from all (q ∷ steps) n (suc i) s e =
    let z : n + 1 + i ≡ n + suc i = omega arith in
    way_from all steps (n + 1) i s e ∙ ap (λ j. Some (way_of all j)) z

way_past : (all steps : List Step) (n i : ℕ) → slice_get steps i ≡ None → slice_get (ways_from all n steps) i ≡ None
way_past all [] n i e = refl
way_past all (q ∷ steps) n zero e = cc
way_past all (q ∷ steps) n (suc i) e = way_past all steps (n + 1) i e

way_there : (steps : List Step) (k : ℕ) → way_or (slice_get (ways_of steps) k) ≡ way_of steps k
way_there steps k = by (slice_get steps k) refl where
  by : (o : Option Step) → slice_get steps k ≡ o → way_or (slice_get (ways_of steps) k) ≡ way_of steps k
  by None e = ap way_or (way_past steps steps 0 k e) ∙ sym (ap (λ x. way_in steps (fetch_in x)) e)
  by (Some s) e = let z : 0 + k ≡ k = omega arith in ap way_or (way_from steps steps 0 k s e) ∙ ap (way_of steps) z

-- ---- the law

module _ (p : Planned) (vars : Vars) (r : Root) (fetched : List FetchedParts) where
  abbrev z : Setting
  z = setting p.base vars r

  abbrev x : Readings
  x = readings_for p fetched (roles_of p.base vars p.tree.places)

  there_is : (trail : Trail) (k : ℕ) → found_there x trail k ≡ found_at p.plan.steps fetched trail k
  there_is trail k = ap (λ w. found_or (found_by fetched trail k w)) (way_there p.plan.steps k)

  bare_by : (role : Role) (k : ℕ) (trail : Trail) (f : Found) (leaf : Leaf) → bare (shown_by role k trail f null) ≡ bare (shown_by role k trail f leaf)
  bare_by (Failed message) k trail f leaf = refl
  bare_by (OfList shown) k trail f leaf = refl
  bare_by OfRow k trail f leaf = refl
  bare_by Each k trail f leaf = refl
  bare_by Same k trail f leaf = refl
  bare_by OfLeaf k trail f leaf = refl

  asks_by : (q : Place) (role : Role) (trail : Trail) (o : Option ℕ) → bare (shown_of x role trail o) ≡ bare (shown_in z p.plan.steps fetched q role trail o)
  asks_by q role trail None = refl
  asks_by q role trail (Some k) = ap (λ f. bare (shown_by role k trail f null)) (there_is trail k) ∙ bare_by role k trail (found_at p.plan.steps fetched trail k) _

  asks : (i : ℕ) (q : Place) (trail : Trail) → slice_get p.tree.places i ≡ Some q → bare (shown_there x i q trail) ≡ bare (shown_at z fetched p.plan p.tree i q trail)
  asks i q trail at =
      ap (λ role. bare (shown_of x role trail (step_or (slice_get (steps_of p.plan.out p.tree.places) i)))) (role_there p.base vars p.tree.places i q at)
      ∙ ap (λ o. bare (shown_of x (role_of p.base vars p.tree.places i q) trail o)) (step_there p.plan.out p.tree.places i q at)
      ∙ asks_by q (role_of p.base vars p.tree.places i q) trail (step_for p.plan.out i)

  costs_by : (role : Role) (trail : Trail) (o : Option ℕ) → rows_of x role trail o ≡ rows_in role p.plan.steps fetched trail o
  costs_by role trail None = refl
  costs_by role trail (Some k) = ap (rows_shown role) (there_is trail k)

  costs : (i : ℕ) (q : Place) (trail : Trail) → slice_get p.tree.places i ≡ Some q → rows_there x i q trail ≡ rows_at z fetched p.plan p.tree i q trail
  costs i q trail at =
      ap (λ role. rows_of x role trail (step_or (slice_get (steps_of p.plan.out p.tree.places) i))) (role_there p.base vars p.tree.places i q at)
      ∙ ap (λ o. rows_of x (role_of p.base vars p.tree.places i q) trail o) (step_there p.plan.out p.tree.places i q at)
      ∙ costs_by (role_of p.base vars p.tree.places i q) trail (step_for p.plan.out i)

  pub listed_same : visited_for p fetched (roles_of p.base vars p.tree.places) r ≡ rows_for (setting p.base vars r) fetched p.plan p.tree r
  listed_same = counted_same (shown_there x) (shown_at z fetched p.plan p.tree) (rows_there x) (rows_at z fetched p.plan p.tree) p.tree.places asks costs p.tree.places 0 refl (root_place r) []

-- a walk over the places, by what is read
pub walked : (p : Planned) (fetched : List FetchedParts) (roles : List Role) (r : Root) (ways : List Way) (steps : List (Option ℕ)) (places : List Place) (parent : Option ℕ) (trail : Trail) →
    ways ≡ ways_of p.plan.steps → steps ≡ steps_of p.plan.out p.tree.places → places ≡ p.tree.places → parent ≡ root_place r → trail ≡ [] →
    counted (shown_there (record { ways = ways; fetched = fetched; roles = roles; steps = steps })) (rows_there (record { ways = ways; fetched = fetched; roles = roles; steps = steps })) places 0 parent trail
    ≡ visited_for p fetched roles r
walked p fetched roles r ways steps places parent trail ew es ep er et =
    let x : record { ways = ways; fetched = fetched; roles = roles; steps = steps } ≡ readings_for p fetched roles = λ i. record { ways = ew i; fetched = fetched; roles = roles; steps = es i } in
    ap (λ (y : Readings). counted (shown_there y) (rows_there y) places 0 parent trail) x
    ∙ ap (λ l. counted (shown_there (readings_for p fetched roles)) (rows_there (readings_for p fetched roles)) l 0 parent trail) ep
    ∙ ap (λ o. counted (shown_there (readings_for p fetched roles)) (rows_there (readings_for p fetched roles)) p.tree.places 0 o trail) er
    ∙ ap (counted (shown_there (readings_for p fetched roles)) (rows_there (readings_for p fetched roles)) p.tree.places 0 (root_place r)) et
