-- The errors of what places show.
use Rattle.std.proofs.Common.{◌≡◌, ℕ, zero, suc, ◌+◌, ◌<◌, List, [], ◌∷◌, ◌++◌, map, drop, length, get_or, Option, Some, None, Bool, true, false, refl, sym, ap, ◌∙◌}
use Rattle.std.specs.Prelude.{◌||◌, slice_get, ⊤}
use Rattle.std.specs.List.{list_any}
use Rattle.pg_base.proofs.ListSteps.{drop-item}
use Rattle.place_tree.specs.declared.place.Place.{Place}
use Rattle.place_tree.specs.declared.answer.Answer.{Answer}
use Rattle.place_tree.specs.declared.answer.Answer.TheVariants.{Shows, Fails, One, Many}
use Rattle.place_tree.specs.Fold.{below, same_place}
use Rattle.place_tree.specs.Response.{objects, value_of, PathPart, key, index, errors_in, element_errors, member_errors}
use Rattle.stmt_tree.specs.declared.found.Found.{Found}
use Rattle.stmt_tree.specs.declared.found.RowTree.{RowTree}
use Rattle.place_tree.specs.declared.answer.Leaf.{Leaf}
use Rattle.batch_execute.specs.declared.role.Role.{Role}
use Rattle.batch_execute.specs.declared.role.Role.TheVariants.{Failed, OfList, OfRow, Each, Same, OfLeaf}
use Rattle.batch_execute.specs.Nexts.{next_from}
use Rattle.batch_execute.specs.Reading.{Trail, one_tree, shown_by}
use Rattle.output_plan.specs.Failures.{object_errors, objects_errors, answer_errors, is_failed}
use Rattle.output_plan.specs.Laid.{Laid, role_or, show_or, type_or, shown_of, shown_on}
use Rattle.output_plan.specs.Printed.{members_at}
use Rattle.output_plan.proofs.Members.{when_true, when_false, skipped}

module _ (x : Laid) (after : List Place) (i : ℕ) where
  elements_same : (n : ℕ) (ss : List Trail) (path : List PathPart) → element_errors (objects (map (members_at x after (i + 1) (Some i)) ss)) n path ≡ objects_errors x after i n ss path
  elements_same n [] path = refl
  elements_same n (s ∷ ss) path = ap (λ l. object_errors x after i s (path ++ index n ∷ []) ++ l) (elements_same (n + 1) ss path)

  pub value_errors : (p : Place) (a : Answer Trail) (path : List PathPart) → errors_in (value_of p (below (members_at x after (i + 1) (Some i)) a)) path ≡ answer_errors x after i p.pos a path
  value_errors p (Shows l) path = refl
  value_errors p (Fails m) path = refl
  value_errors p (One s) path = refl
  value_errors p (Many ss) path = elements_same 0 ss path

  pub objects_on : (onto : RowTree → Trail) (trees : List RowTree) (k n : ℕ) (tree : RowTree) (lt : k < length trees) (is : tree ≡ get_or trees k tree) (path : List PathPart) →
      objects_errors x after i n (map onto (drop k trees)) path ≡ object_errors x after i (onto tree) (path ++ index n ∷ []) ++ objects_errors x after i (n + 1) (map onto (drop (k + 1) trees)) path
  objects_on onto trees k n tree lt is path = ap (λ l. objects_errors x after i n (map onto l) path) (drop-item trees k tree lt is)

module _ (x : Laid) (places : List Place) (i : ℕ) (p : Place) (lt : i < length places) (is : p ≡ get_or places i p) (parent : Option ℕ) (s : Trail) (path : List PathPart) where
  pub errors_elsewhere : same_place p.parent parent ≡ false → member_errors (members_at x (drop (i + 1) places) (i + 1) parent s) path ≡ member_errors (members_at x (drop i places) i parent s) path
  errors_elsewhere h =
      ap (λ ms. member_errors ms path) (sym (ap (λ l. members_at x l i parent s) (drop-item places i p lt is) ∙ when_false (same_place p.parent parent) _ _ h))

  pub errors_here : same_place p.parent parent ≡ true → (n : ℕ) → n ≡ next_from parent (i + 1) (drop (i + 1) places) →
      answer_errors x (drop (i + 1) places) i p.pos (shown_on x i s) (path ++ key p.key ∷ []) ++ member_errors (members_at x (drop n places) n parent s) path ≡ member_errors (members_at x (drop i places) i parent s) path
  errors_here h n next =
      ap (λ l. answer_errors x (drop (i + 1) places) i p.pos (shown_on x i s) (path ++ key p.key ∷ []) ++ member_errors (members_at x (drop l places) l parent s) path) next
      ∙ ap (λ ms. answer_errors x (drop (i + 1) places) i p.pos (shown_on x i s) (path ++ key p.key ∷ []) ++ member_errors ms path) (sym (skipped x places parent s (drop (i + 1) places) (i + 1) refl))
      ∙ ap (λ l. l ++ member_errors (members_at x (drop (i + 1) places) (i + 1) parent s) path) (sym (value_errors x (drop (i + 1) places) i p (shown_on x i s) (path ++ key p.key ∷ [])))
      ∙ ap (λ ms. member_errors ms path) (sym (ap (λ l. members_at x l i parent s) (drop-item places i p lt is) ∙ when_true (same_place p.parent parent) _ _ h))

-- ---- where no role fails there is none

abbrev IsFine : Answer Trail → Type 0
IsFine (Fails message) = ⊥
IsFine (Shows l) = ⊤
IsFine (One s) = ⊤
IsFine (Many ss) = ⊤

fine_tree : (k : ℕ) (trail : Trail) (o : Option RowTree) → IsFine (one_tree k trail o)
fine_tree k trail None = tt
fine_tree k trail (Some t) = tt

fine_role : (role : Role) (k : ℕ) (trail : Trail) (found : Found) (leaf : Leaf) → is_failed role ≡ false → IsFine (shown_by role k trail found leaf)
fine_role (Failed m) k trail found leaf h = cc
fine_role (OfList b) k trail found leaf h = tt
fine_role OfRow k trail found leaf h = fine_tree k trail _
fine_role Each k trail found leaf h = tt
fine_role Same k trail found leaf h = tt
fine_role OfLeaf k trail found leaf h = tt

none_at : (roles : List Role) → list_any is_failed roles ≡ false → (i : ℕ) → is_failed (role_or (slice_get roles i)) ≡ false
none_at [] h i = refl
none_at (r ∷ roles) h zero = by (is_failed r) h where
  by : (b : Bool) → (b || list_any is_failed roles) ≡ false → b ≡ false
  by true h = cc
  by false h = refl
none_at (r ∷ roles) h (suc i) = none_at roles (by (is_failed r) h) i where
  by : (b : Bool) → (b || list_any is_failed roles) ≡ false → list_any is_failed roles ≡ false
  by true h = cc
  by false h = h

module _ (x : Laid) (none : list_any is_failed x.roles ≡ false) where
  fine_at : (i : ℕ) (trail : Trail) → IsFine (shown_on x i trail)
  fine_at i trail = by (show_or (slice_get x.shows i)) where
    by : (o : Option ℕ) → IsFine (shown_of x (role_or (slice_get x.roles i)) trail (type_or (slice_get x.types i)) o)
    by None = tt
    by (Some k) = fine_role (role_or (slice_get x.roles i)) k trail _ _ (none_at x.roles none i)

  module _ (ps : List Place) (i : ℕ) (later : (parent : Option ℕ) (s : Trail) (path : List PathPart) → member_errors (members_at x ps (i + 1) parent s) path ≡ []) where
    clear_objects : (n : ℕ) (ss : List Trail) (path : List PathPart) → objects_errors x ps i n ss path ≡ []
    clear_objects n [] path = refl
    clear_objects n (s ∷ ss) path = ap (λ l. l ++ objects_errors x ps i (n + 1) ss path) (later (Some i) s (path ++ index n ∷ [])) ∙ clear_objects (n + 1) ss path

    clear_answer : (p : Place) (a : Answer Trail) → IsFine a → (path : List PathPart) → answer_errors x ps i p.pos a path ≡ []
    clear_answer p (Shows l) f path = refl
    clear_answer p (Fails m) f path = absurd f
    clear_answer p (One s) f path = later (Some i) s path
    clear_answer p (Many ss) f path = clear_objects 0 ss path

  pub clear : (ps : List Place) (i : ℕ) (parent : Option ℕ) (s : Trail) (path : List PathPart) → member_errors (members_at x ps i parent s) path ≡ []
  clear [] i parent s path = refl
  clear (p ∷ ps) i parent s path = by (same_place p.parent parent) refl (clear ps (i + 1)) where
    by : (b : Bool) → same_place p.parent parent ≡ b → ((q : Option ℕ) (t : Trail) (route : List PathPart) → member_errors (members_at x ps (i + 1) q t) route ≡ [])
        → member_errors (members_at x (p ∷ ps) i parent s) path ≡ []
    by true h later =
        ap (λ ms. member_errors ms path) (when_true (same_place p.parent parent) _ _ h)
        ∙ ap (λ l. l ++ member_errors (members_at x ps (i + 1) parent s) path) (value_errors x ps i p (shown_on x i s) (path ++ key p.key ∷ []) ∙ clear_answer ps i later p (shown_on x i s) (fine_at i s) (path ++ key p.key ∷ []))
        ∙ later parent s path
    by false h later = ap (λ ms. member_errors ms path) (when_false (same_place p.parent parent) _ _ h) ∙ later parent s path
