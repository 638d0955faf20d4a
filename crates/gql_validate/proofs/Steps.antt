-- Steps and clashes, two lists of fields through, are those of the pairs.
use Rattle.std.proofs.Common.{◌≡◌, ℕ, Bool, true, false, ◌||◌, ◌&&◌, if◌then◌else◌, List, [], ◌∷◌, ◌++◌, refl, sym, ap, subst, ◌∙◌, append_assoc}
use Rattle.std.proofs.Math.Bool.{or_assoc, or-false}
use Rattle.std.proofs.lemmas.List.{append-nil}
use Rattle.gql_nodes.specs.Nodes.{At}
use Rattle.gql_nodes.specs.Reached.{IsClosure}
use Rattle.gql_validate.specs.declared.pairs.Pair.{Pair}
use Rattle.gql_validate.specs.declared.tables.Tables.{Tables}
use Rattle.gql_validate.specs.FieldSelectionMerging.{fields_of, sets_of, meet, differ}
use Rattle.gql_validate.specs.SetPairs.{when, in_order, pairs_with, pairs_of, any_differ, clashes, with_second, with_first, below_each_in, steps_in, steps, starts, starts_from_in}
use Rattle.gql_validate.specs.Merged.{list_at, AreTables, clash_when, clash_in_order, clash_with, clash_of, clashes_by, below_pair_by, below_when, below_in_order, below_with, below_of, listed_steps, starts_by}

module _ (nodes : List At) where
  -- ---- clashes

  differ_append : (ps qs : List Pair) → any_differ nodes (ps ++ qs) ≡ (any_differ nodes ps || any_differ nodes qs)
  differ_append [] qs = refl
  differ_append (p ∷ ps) qs = ap (λ b. differ nodes p.first p.second || b) (differ_append ps qs) ∙ sym (or_assoc (differ nodes p.first p.second) (any_differ nodes ps) (any_differ nodes qs))

  when_clash : (b : Bool) (f g : ℕ) → (b && differ nodes f g) ≡ any_differ nodes (when b f g)
  when_clash true f g = sym (or-false (differ nodes f g))
  when_clash false f g = refl

  clash_ordered : (f g : ℕ) → clash_in_order nodes f g ≡ any_differ nodes (in_order nodes f g)
  clash_ordered f g =
      ap (λ b. b || clash_when nodes g f) (when_clash (meet nodes f g) f g)
      ∙ ap (λ b. any_differ nodes (when (meet nodes f g) f g) || b) (when_clash (meet nodes g f) g f)
      ∙ sym (differ_append (when (meet nodes f g) f g) (when (meet nodes g f) g f))

  clash_one : (f : ℕ) (gs : List ℕ) → clash_with nodes f gs ≡ any_differ nodes (pairs_with nodes f gs)
  clash_one f [] = refl
  clash_one f (g ∷ gs) = ap (λ b. b || clash_with nodes f gs) (clash_ordered f g) ∙ ap (λ b. any_differ nodes (in_order nodes f g) || b) (clash_one f gs) ∙ sym (differ_append (in_order nodes f g) (pairs_with nodes f gs))

  clash_all : (fs gs : List ℕ) → clash_of nodes fs gs ≡ any_differ nodes (pairs_of nodes fs gs)
  clash_all [] gs = refl
  clash_all (f ∷ fs) gs = ap (λ b. b || clash_of nodes fs gs) (clash_one f gs) ∙ ap (λ b. any_differ nodes (pairs_with nodes f gs) || b) (clash_all fs gs) ∙ sym (differ_append (pairs_with nodes f gs) (pairs_of nodes fs gs))

  pub clashes_are : (t : Tables) → AreTables nodes t → (p : Pair) → clashes_by nodes t p ≡ clashes nodes p
  clashes_are t h p =
      clash_all (list_at t.fields p.first) (list_at t.fields p.second)
      ∙ ap (λ l. any_differ nodes (pairs_of nodes l (list_at t.fields p.second))) (h.fields p.first)
      ∙ ap (λ l. any_differ nodes (pairs_of nodes (fields_of nodes p.first) l)) (h.fields p.second)

  -- ---- steps

  module _ (t : Tables) where
    below_append : (ps qs : List Pair) → below_each_in (list_at t.fields) (list_at t.sets) (ps ++ qs) ≡ below_each_in (list_at t.fields) (list_at t.sets) ps ++ below_each_in (list_at t.fields) (list_at t.sets) qs
    below_append [] qs = refl
    below_append (p ∷ ps) qs = ap (λ l. below_pair_by t p ++ l) (below_append ps qs) ∙ sym (append_assoc (below_pair_by t p) (below_each_in (list_at t.fields) (list_at t.sets) ps) (below_each_in (list_at t.fields) (list_at t.sets) qs))

    when_below : (b : Bool) (f g : ℕ) → (if b then below_pair_by t (record { first = f; second = g }) else []) ≡ below_each_in (list_at t.fields) (list_at t.sets) (when b f g)
    when_below true f g = sym (append-nil (below_pair_by t (record { first = f; second = g })))
    when_below false f g = refl

    below_ordered : (f g : ℕ) → below_in_order nodes t f g ≡ below_each_in (list_at t.fields) (list_at t.sets) (in_order nodes f g)
    below_ordered f g =
        ap (λ l. l ++ below_when nodes t g f) (when_below (meet nodes f g) f g)
        ∙ ap (λ l. below_each_in (list_at t.fields) (list_at t.sets) (when (meet nodes f g) f g) ++ l) (when_below (meet nodes g f) g f)
        ∙ sym (below_append (when (meet nodes f g) f g) (when (meet nodes g f) g f))

    below_one : (f : ℕ) (gs : List ℕ) → below_with nodes t f gs ≡ below_each_in (list_at t.fields) (list_at t.sets) (pairs_with nodes f gs)
    below_one f [] = refl
    below_one f (g ∷ gs) =
        ap (λ l. l ++ below_with nodes t f gs) (below_ordered f g)
        ∙ ap (λ l. below_each_in (list_at t.fields) (list_at t.sets) (in_order nodes f g) ++ l) (below_one f gs)
        ∙ sym (below_append (in_order nodes f g) (pairs_with nodes f gs))

    below_all : (fs gs : List ℕ) → below_of nodes t fs gs ≡ below_each_in (list_at t.fields) (list_at t.sets) (pairs_of nodes fs gs)
    below_all [] gs = refl
    below_all (f ∷ fs) gs =
        ap (λ l. l ++ below_of nodes t fs gs) (below_one f gs)
        ∙ ap (λ l. below_each_in (list_at t.fields) (list_at t.sets) (pairs_with nodes f gs) ++ l) (below_all fs gs)
        ∙ sym (below_append (pairs_with nodes f gs) (pairs_of nodes fs gs))

    pub fields_are : AreTables nodes t → list_at t.fields ≡ fields_of nodes
    fields_are h i set = h.fields set i

    pub sets_are : AreTables nodes t → list_at t.sets ≡ sets_of nodes
    sets_are h i set = h.sets set i

    pub steps_are : AreTables nodes t → (p : Pair) → listed_steps nodes t p ≡ steps nodes p
    steps_are h p =
        ap (λ l. with_second (list_at t.sets p.first) p.second ++ (with_first p.first (list_at t.sets p.second) ++ l)) (below_all (list_at t.fields p.first) (list_at t.fields p.second))
        ∙ ap (λ f. steps_in nodes f (list_at t.sets) p) (fields_are h)
        ∙ ap (λ s. steps_in nodes (fields_of nodes) s p) (sets_are h)

    steps_same : AreTables nodes t → (λ p. listed_steps nodes t p) ≡ steps nodes
    steps_same h i p = steps_are h p i

    starts_are : AreTables nodes t → starts_by t 0 nodes ≡ starts nodes
    starts_are h = ap (λ f. starts_from_in f (list_at t.sets) 0 nodes) (fields_are h) ∙ ap (λ s. starts_from_in (fields_of nodes) s 0 nodes) (sets_are h)

    pub closure_is : AreTables nodes t → (found list : List Pair) → list ≡ found → IsClosure (starts_by t 0 nodes) (λ p. listed_steps nodes t p) found → IsClosure (starts nodes) (steps nodes) list
    closure_is h found list same c =
        subst (IsClosure (starts nodes) (steps nodes)) (sym same)
        (subst (λ s. IsClosure (starts nodes) s found) (steps_same h) (subst (λ l. IsClosure l (λ p. listed_steps nodes t p) found) (starts_are h) c))
