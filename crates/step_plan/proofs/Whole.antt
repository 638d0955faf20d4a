-- The plan of a tree is well formed.
use Rattle.std.proofs.Common.{◌≡◌, ℕ, zero, suc, ◌+◌, ◌<◌, List, [], ◌∷◌, ◌++◌, length, length-append, drop, Option, Some, None, true, refl, sym, ap, subst, arith, inl, inr, ◌⊎◌}
use Rattle.std.specs.Prelude.{slice_get, unwrap_or}
use Rattle.pg_base.specs.Base.{BaseParts}
use Rattle.pg_base.specs.declared.vars.Vars.{Vars}
use Rattle.place_tree.specs.Exec.{needs_rows}
use Rattle.place_tree.specs.declared.place.Place.{Place}
use Rattle.place_tree.specs.declared.place.Tree.{Tree}
use Rattle.plan_constraints.specs.Constraints.{Hold}
use Rattle.plan_constraints.specs.Noted.{noted_all}
use Rattle.plan_constraints.specs.declared.constraint.Constraint.{Constraint}
use Rattle.plan_steps.specs.Check.{given_fits, is_checked}
use Rattle.plan_steps.specs.Under.{parent_in}
use Rattle.plan_steps.specs.declared.plan.Layer.{Layer}
use Rattle.step_plan.specs.Drafted.{Making, at_root, below_of, into, layer_over, steps_added, layers_with, layer_with, out_of, grown, with_place, with_places, nothing_made, made, drafted}
use Rattle.step_plan.specs.declared.making.Added.{Added}
use Rattle.step_plan.specs.declared.making.Added.TheVariants as added
use Rattle.step_plan.specs.declared.making.Below.{Below}
use Rattle.step_plan.proofs.Addable.{place_ok}
use Rattle.step_plan.proofs.Checked.{LayersGoOn, AreLaid, goes_through, with_laid, with_goes, Lies, AreGood, good_next, good_nothing}
use Rattle.step_plan.proofs.Grown.{GoesOn, goes_all, added_at, get_drop, drop_next, Fits, stands, placed, shown_taken, fits_next, fits_nothing}
use Rattle.step_plan.proofs.Layers.{length_into}
use Rattle.step_plan.proofs.Places.{inside}
use Rattle.step_plan.proofs.Plannable.{IsPlanned}
use Rattle.step_plan.proofs.Tested.{given_test, good_checked}

-- ---- layers go on

pub record Laid (m : Making) : Type 0 where
  pub laid : AreLaid (length m.steps) m.layers
  pub belows : (j : ℕ) (b : Below) → slice_get m.belows j ≡ Some b → b.layer < length m.layers
  pub some : 0 < length m.layers

new_layer : (layers : List Layer) (layer at : ℕ) (a : Added) → layer < length layers → layer_with layer (length layers) a < length (layers_with layers layer at a)
new_layer layers layer at (added.Leaf s) lt = let e = length_into layers layer at in omega (arith, lt, e)
new_layer layers layer at (added.List f) lt = let e = length_into layers layer at in omega (arith, lt, e)
new_layer layers layer at (added.Row f) lt = let e = length_into layers layer at in let l = length-append (into layers layer at) (layer_over at (at + 1) ∷ []) in omega (arith, lt, e, l)
new_layer layers layer at (added.Item edge fetch) lt = let l = length-append layers (layer_over fetch at ∷ []) in omega (arith, lt, l)
new_layer layers layer at (added.Shows k g) lt = lt
new_layer layers layer at added.Given lt = let e = length_into layers layer at in omega (arith, lt, e)

last_or : {X : Type 0} (xs : List X) (y : X) (j : ℕ) (x : X) → slice_get (xs ++ y ∷ []) j ≡ Some x → (slice_get xs j ≡ Some x) ⊎ (y ≡ x)
last_or [] y zero x e = inr (inside y x e)
last_or [] y (suc j) x e = cc
last_or (a ∷ xs) y zero x e = inl e
last_or (a ∷ xs) y (suc j) x e = last_or xs y j x e

pub laid_next : (m : Making) (i layer : ℕ) (a : Added) → Laid m → layer < length m.layers → Laid (grown m i layer a)
laid_next m i layer a h lt =
    let on = with_goes m.layers layer (length m.steps) a h.laid in
    let longer = on.longer in
    record {
      laid = subst (λ n. AreLaid n (layers_with m.layers layer (length m.steps) a)) (sym (length-append m.steps (steps_added (length m.steps) a))) (with_laid m.layers layer (length m.steps) a lt h.laid);
      belows = λ j b e. elim (last_or m.belows _ j b e) [
        | inl q ↦ let old = h.belows j b q in omega (arith, old, longer)
        | inr q ↦ subst (λ (x : Below). x.layer < length (layers_with m.layers layer (length m.steps) a)) q (new_layer m.layers layer (length m.steps) a lt)
      ];
      some = let s = h.some in omega (arith, s, longer);
    }

pub layer_above : (m : Making) → Laid m → (parent : Option ℕ) → (below_of m.belows parent).layer < length m.layers
layer_above m h None = h.some
layer_above m h (Some a) = by (slice_get m.belows a) refl
  where
    by : (o : Option Below) → slice_get m.belows a ≡ o → (unwrap_or o at_root).layer < length m.layers
    by None e = h.some
    by (Some b) e = h.belows a b e

pub layers_all : (base : BaseParts) (vars : Vars) (tree : Tree) (m : Making) (i : ℕ) (ps : List Place) → Laid m → LayersGoOn m.layers (with_places base vars tree m i ps).layers
layers_all base vars tree m i [] h = record { layer = λ k l e. e; over = λ l lt. refl; longer = omega arith }
layers_all base vars tree m i (p ∷ ps) h =
    let b = below_of m.belows p.parent in
    let a = added_at base vars tree i p b.footing in
    let n = with_place base vars tree m i p in
    goes_through m.layers n.layers (with_places base vars tree n (i + 1) ps).layers (with_goes m.layers b.layer (length m.steps) a h.laid)
    (layers_all base vars tree n (i + 1) ps (laid_next m i b.layer a h (layer_above m h p.parent)))

-- ---- all places

module _ (base : BaseParts) (tree : Tree) (vars : Vars) (planned : IsPlanned base tree vars) (constraints : List Constraint) (noted : (other : Vars) → Hold constraints other → Hold (noted_all base vars tree) other) (whole : Making) where
  pub laid_good : (m : Making) (n : ℕ) → AreGood base tree whole m n → Laid m
  laid_good m n g = record { laid = g.laid; belows = λ j b e. (g.belows j b e).0; some = g.some }

  pub lies_above : (m : Making) (n : ℕ) → AreGood base tree whole m n → (parent : Option ℕ) → Lies base tree whole (length m.steps) (below_of m.belows parent).layer (below_of m.belows parent).footing
  lies_above m n g None = tt
  lies_above m n g (Some a) = by (slice_get m.belows a) refl
    where
      by : (o : Option Below) → slice_get m.belows a ≡ o → Lies base tree whole (length m.steps) (unwrap_or o at_root).layer (unwrap_or o at_root).footing
      by None e = tt
      by (Some b) e = (g.belows a b e).1

  all_good : (ps : List Place) (n : ℕ) (m : Making) → drop n tree.places ≡ ps → Fits base tree vars planned constraints noted whole m n → AreGood base tree whole m n → with_places base vars tree m n ps ≡ whole → n + length ps ≡ length tree.places → AreGood base tree whole whole (length tree.places)
  all_good [] n m e fits g is len =
      let z : n ≡ length tree.places = omega (arith, len) in
      subst (λ k. AreGood base tree whole whole k) z (subst (λ w. AreGood base tree whole w n) is g)
  all_good (q ∷ ps) n m e fits g is len =
      let at = get_drop tree.places ps n q e in
      let b = below_of m.belows q.parent in
      let a = added_at base vars tree n q b.footing in
      let m' = grown m n b.layer a in
      let on = subst (GoesOn m') is (goes_all base vars tree m' (n + 1) ps) in
      let lt = layer_above m (laid_good m n g) q.parent in
      let lgoes = subst (λ w. LayersGoOn m'.layers w.layers) is (layers_all base vars tree m' (n + 1) ps (laid_next m n b.layer a (laid_good m n g) lt)) in
      let st = stands base tree vars planned constraints noted whole m n fits q at in
      let ok = place_ok base tree vars whole (length m.steps) b.layer q (needs_rows base.schema tree.places n) planned (planned.kinds q.ty) st.table b.footing (λ f is. (planned.kinds f.ty.name, planned.leads q.ty q.field f is)) st.fits (lies_above m n g q.parent) in
      let pl = placed base tree vars planned constraints noted whole m n fits q at on in
      let given : given_fits base tree.places whole.steps (out_of n b.layer (length m.steps) a) ≡ true =
      given_test base tree.places whole.steps st.table n q.parent (ap parent_in at) st.is_table (out_of n b.layer (length m.steps) a) refl (shown_taken base tree vars planned constraints noted whole m n fits q at on) in
      all_good ps (n + 1) m' (drop_next tree.places ps n q e) (fits_next base tree vars planned constraints noted whole m n fits q at on)
      (good_next base tree whole m n b.layer a g lt ok pl lgoes given) is (omega (arith, len))

module _ (base : BaseParts) (tree : Tree) (vars : Vars) (planned : IsPlanned base tree vars) (constraints : List Constraint) (noted : (other : Vars) → Hold constraints other → Hold (noted_all base vars tree) other) where
  pub drafted_good : AreGood base tree (made base tree vars) (made base tree vars) (length tree.places)
  drafted_good =
      all_good base tree vars planned constraints noted (made base tree vars) tree.places 0 nothing_made refl (fits_nothing base tree vars planned constraints noted (made base tree vars)) (good_nothing base tree (made base tree vars)) refl (omega arith)

  -- the law: what is drafted is well formed
  pub drafted_checked : is_checked base tree (drafted base tree vars) ≡ true
  drafted_checked = good_checked base tree (made base tree vars) drafted_good
