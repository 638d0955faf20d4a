-- Where the noted constraints hold, the needed statements are the same.
use Rattle.std.proofs.Common.{◌≡◌, ℕ, List, [], ◌∷◌, ◌++◌, map, Bool, true, false, ◌&&◌, ◌||◌, refl, ap, ◌∙◌}
use Rattle.std.specs.Prelude.{flat_map, ◌==◌, length, if◌then◌else◌}
use Rattle.pg_base.specs.declared.vars.Vars.{Vars}
use Rattle.pg_base.specs.Base.{BaseParts}
use Rattle.plan_constraints.specs.declared.constraint.Constraint.{Constraint}
use Rattle.plan_constraints.specs.Constraints.{Meets, Hold}
use Rattle.place_tree.specs.declared.place.Place.{Place}
use Rattle.place_tree.specs.declared.place.Tree.{Tree}
use Rattle.place_tree.specs.Fields.{does_of, is_list, is_row_field}
use Rattle.place_tree.specs.Arguments as a
use Rattle.place_tree.specs.Arguments.{argument, written, is_given, is_windowed}
use Rattle.place_tree.specs.Needs.{Signature, is_backward, needs_own, needing, signatures, distinct, same_signature, needed_statements}
use Rattle.plan_constraints.specs.Noted.{noted_window, noted_order, noted_condition, noted_arguments, noted_where, noted_at, noted_all, whole_of}
use Rattle.plan_constraints.proofs.Steady.{Each-left, Each-right, window_steady}

pub windowed_steady : (vars other : Vars) (p : Place) → Hold (noted_arguments vars p) other → is_windowed other p ≡ is_windowed vars p
windowed_steady vars other p h =
    let w : ℕ → List Constraint = λ n. noted_window vars (written p.args n) in
    let rest : List Constraint = noted_order vars (written p.args a.order_by) ++ noted_condition vars (written p.args a.condition) in
    let M = Meets other in
    let h1 = Each-right M (w a.first) (w a.last ++ (w a.offset ++ (w a.before ++ (w a.after ++ rest)))) h in
    let h2 = Each-right M (w a.last) (w a.offset ++ (w a.before ++ (w a.after ++ rest))) h1 in
    let h3 = Each-right M (w a.offset) (w a.before ++ (w a.after ++ rest)) h2 in
    let h4 = Each-right M (w a.before) (w a.after ++ rest) h3 in
    let e0 = window_steady vars other (written p.args a.first) (Each-left M (w a.first) (w a.last ++ (w a.offset ++ (w a.before ++ (w a.after ++ rest)))) h) in
    let e1 = window_steady vars other (written p.args a.last) (Each-left M (w a.last) (w a.offset ++ (w a.before ++ (w a.after ++ rest))) h1) in
    let e2 = window_steady vars other (written p.args a.offset) (Each-left M (w a.offset) (w a.before ++ (w a.after ++ rest)) h2) in
    let e3 = window_steady vars other (written p.args a.before) (Each-left M (w a.before) (w a.after ++ rest) h3) in
    let e4 = window_steady vars other (written p.args a.after) (Each-left M (w a.after) rest h4) in
    λ i. e0 i || e1 i || e2 i || e3 i || e4 i

own_steady : (base : BaseParts) (vars other : Vars) (p : Place) (s : Signature) → Hold (noted_at base vars p) other → needs_own base other p s ≡ needs_own base vars p s
own_steady base vars other p s h = ap (λ b. is_row_field (does_of base.schema p) && ((length s.path == 1) || (is_backward (does_of base.schema p) && b))) (by (is_list base p) h)
  where
    by : (b : Bool) → Hold (noted_where b vars p) other → (b && is_windowed other p) ≡ (b && is_windowed vars p)
    by true k = windowed_steady vars other p k
    by false k = refl

needing_steady : (base : BaseParts) (vars other : Vars) (places : List Place) (ss : List Signature) → Hold (flat_map (noted_at base vars) places) other → needing base other places ss ≡ needing base vars places ss
needing_steady base vars other [] ss h = refl
needing_steady base vars other (p ∷ places) [] h = refl
needing_steady base vars other (p ∷ places) (s ∷ ss) h =
    let rest = needing_steady base vars other places ss (Each-right (Meets other) (noted_at base vars p) (flat_map (noted_at base vars) places) h) in
    ap (λ b. if b then s ∷ needing base other places ss else needing base other places ss) (own_steady base vars other p s (Each-left (Meets other) (noted_at base vars p) (flat_map (noted_at base vars) places) h))
    ∙ ap (λ l. if needs_own base vars p s then s ∷ l else l) rest

pub needed_steady : (base : BaseParts) (vars other : Vars) (tree : Tree) → Hold (noted_all base vars tree) other → needed_statements base other tree ≡ needed_statements base vars tree
needed_steady base vars other tree h =
    ap (distinct same_signature) (needing_steady base vars other tree.places (signatures base.schema tree.places) (Each-right (Meets other) (map (whole_of vars) tree.asked) (flat_map (noted_at base vars) tree.places) h))
