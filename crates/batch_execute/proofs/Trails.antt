-- Trails of rows that stand in what was found, and the paths of these rows.
use Rattle.std.proofs.Common.{◌≡◌, ℕ, List, [], ◌∷◌, map, Option, Some, None, Bool, true, false, cond, inl, inr, refl, ap, ◌∙◌, subst, eqb-true}
use Rattle.std.specs.Prelude.{◌==◌, option_map, ⊤}
use Rattle.std.proofs.lemmas.List.{map-append}
use Rattle.std.specs.declared.cmp.Ordering.{Ordering}
use Rattle.std.specs.declared.cmp.Ordering.TheVariants.{Less, Equal, Greater}
use Rattle.std.specs.Ordering.{is_eq, ordering_reverse}
use Rattle.pg_base.specs.declared.cell.Cell.{Cell}
use Rattle.pg_base.specs.Lists.{Each}
use Rattle.rel_model.specs.declared.window.By.{By}
use Rattle.rel_model.specs.Ordered.{cells_by, cells_order}
use Rattle.rel_model.proofs.Orders.{cells_order_total}
use Rattle.plan_steps.specs.declared.plan.Step.{Step}
use Rattle.plan_steps.specs.Denoted as denoted
use Rattle.plan_steps.specs.Values.{Path, row_of, later, row_on}
use Rattle.stmt_tree.specs.declared.found.Found.{Found}
use Rattle.stmt_tree.specs.declared.found.Key.{Key}
use Rattle.stmt_tree.specs.declared.found.RowTree.{RowTree}
use Rattle.batch_execute.specs.Fetched.{FetchedParts, AreAscending}
use Rattle.batch_execute.specs.Held.{held}
use Rattle.batch_execute.specs.Keys.{key_of}
use Rattle.batch_execute.specs.Reading.{Trail, tree_on, onto, looked_up}
use Rattle.batch_execute.proofs.Items.{IsIn}

abbrev pub path_of : Trail → Path
path_of trail = map (λ s. record { step = s.step; row = row_of s.tree }) trail

-- each row stands in what was found for its step
abbrev pub AreHeld : List Step → List FetchedParts → Trail → Type 0
AreHeld steps fetched [] = ⊤
AreHeld steps fetched (s ∷ trail) = IsIn s.tree (held steps fetched s.step) × AreHeld steps fetched trail

pub tree_row : (trail : Trail) (g : ℕ) → row_on (path_of trail) g ≡ option_map row_of (tree_on trail g)
tree_row [] g = refl
tree_row (s ∷ trail) g =
    ap (λ o. later o (cond (s.step == g) (Some (row_of s.tree)) None)) (tree_row trail g) ∙ by_test (tree_on trail g) (s.step == g) where
      by_test : (o : Option RowTree) (b : Bool) → later (option_map row_of o) (cond b (Some (row_of s.tree)) None) ≡ option_map row_of (later o (cond b (Some s.tree) None))
      by_test (Some t) b = refl
      by_test None true = refl
      by_test None false = refl

pub path_onto : (k : ℕ) (trail : Trail) (tree : RowTree) → path_of (onto k trail tree) ≡ denoted.onto k (path_of trail) (row_of tree)
path_onto k trail tree = map-append _ trail (record { step = k; tree = tree } ∷ [])

module _ (steps : List Step) (fetched : List FetchedParts) where
  pub held_on : (trail : Trail) → AreHeld steps fetched trail → (g : ℕ) (t : RowTree) → tree_on trail g ≡ Some t → IsIn t (held steps fetched g)
  held_on [] h g t e = cc
  held_on (s ∷ trail) h g t e = by_later (tree_on trail g) (λ u q. held_on trail h.1 g t q) (s.step == g) refl refl e where
    by_later : (o : Option RowTree) → ((u : RowTree) → tree_on trail g ≡ Some t → IsIn t (held steps fetched g)) → (b : Bool) → (s.step == g) ≡ b → tree_on trail g ≡ o → later o (cond b (Some s.tree) None) ≡ Some t → IsIn t (held steps fetched g)
    by_later (Some u) rest b eb eo e = rest u (eo ∙ e)
    by_later None rest true eb eo e =
        let same : s.tree ≡ t = cc in
        subst (λ x. IsIn x (held steps fetched g)) same (subst (λ j. IsIn s.tree (held steps fetched j)) (eqb-true s.step g eb) h.0)
    by_later None rest false eb eo e = cc

  pub held_onto : (trail : Trail) → AreHeld steps fetched trail → (k : ℕ) (tree : RowTree) → IsIn tree (held steps fetched k) → AreHeld steps fetched (onto k trail tree)
  held_onto [] h k tree i = (i, tt)
  held_onto (s ∷ trail) h k tree i = (h.0, held_onto trail h.1 k tree i)

-- ---- what is looked up

module _ (order : List By) (cells : List Cell) where
  abbrev own : List Cell
  own = cells_by order cells

  level : is_eq (cells_order order own own) ≡ true
  level = by (cells_order order own own) ((cells_order_total order).antisymm own own) where
    by : (r : Ordering) → r ≡ ordering_reverse r → is_eq r ≡ true
    by Less e = cc
    by Equal e = refl
    by Greater e = cc

  apart : (key : Key) → cells_order order key.cells own ≡ Less → is_eq (cells_order order own key.cells) ≡ false
  apart key less = ap is_eq ((cells_order_total order).antisymm own key.cells ∙ ap ordering_reverse less)

  each_at : (keys : List Key) (P : Key → Type 0) → Each P keys → (key : Key) → IsIn key keys → P key
  each_at [] P h key among = absurd among
  each_at (k ∷ keys) P h key (inl e) = subst P e h.0
  each_at (k ∷ keys) P h key (inr among) = each_at keys P h.1 key among

  -- what was found for the key of a row is found
  pub looked_found : (f : Key → Found) (keys : List Key) → AreAscending order keys → IsIn (key_of (cells_by order cells)) keys → looked_up order cells keys (map f keys) ≡ Some (f (key_of (cells_by order cells)))
  looked_found f [] up among = absurd among
  looked_found f (k ∷ keys) up (inl e) =
      ap (λ b. cond b (Some (f k)) (looked_up order cells keys (map f keys))) (ap (λ (j : Key). is_eq (cells_order order own j.cells)) e ∙ level)
      ∙ ap (λ j. Some (f j)) e
  looked_found f (k ∷ keys) up (inr among) =
      ap (λ b. cond b (Some (f k)) (looked_up order cells keys (map f keys))) (apart k (each_at keys (λ (j : Key). cells_order order k.cells j.cells ≡ Less) up.0 (key_of own) among))
      ∙ looked_found f keys up.1 among

  pub looked_in : (keys : List Key) (found : List Found) (x : Found) → looked_up order cells keys found ≡ Some x → IsIn x found
  looked_in [] found x e = cc
  looked_in (k ∷ keys) [] x e = cc
  looked_in (k ∷ keys) (f ∷ found) x e = by (is_eq (cells_order order own k.cells)) e (looked_in keys found x) where
    by : (b : Bool) → cond b (Some f) (looked_up order cells keys found) ≡ Some x → (looked_up order cells keys found ≡ Some x → IsIn x found) → IsIn x (f ∷ found)
    by true e later = inl cc
    by false e later = inr (later e)
