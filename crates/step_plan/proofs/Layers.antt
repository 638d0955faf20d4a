-- Layers that grow by steps and by layers.
use Rattle.std.proofs.Common.{◌≡◌, ◌≢◌, ℕ, zero, suc, ◌+◌, ◌<◌, List, [], ◌∷◌, ◌++◌, length, Option, Some, None, Bool, true, false, cond, refl, sym, ap, ◌∙◌, arith, eq-eqb, ne_eqb}
use Rattle.std.specs.Prelude.{slice_get, ◌==◌, ◌||◌}
use Rattle.std.specs.List.{position_from}
use Rattle.pg_base.specs.Lists.{Each, AreDistinct, AreBelow}
use Rattle.plan_steps.specs.Chains.{is_in}
use Rattle.plan_steps.specs.Named.{over_in}
use Rattle.plan_steps.specs.declared.plan.Layer.{Layer}
use Rattle.step_plan.specs.Drafted.{into, layer_over}

-- the steps of all layers
abbrev pub steps_in : List Layer → List ℕ
steps_in [] = []
steps_in (l ∷ layers) = l.steps ++ steps_in layers

abbrev pub layer_from : ℕ → List Layer → ℕ → Option ℕ
layer_from n layers k = position_from (λ l. is_in l.steps k) n layers

-- ---- a number put into a list

pub data Inserted (k : ℕ) : List ℕ → List ℕ → Type 0 where
  now : {ys : List ℕ} → Inserted k ys (k ∷ ys)
  later : {y : ℕ} {ys zs : List ℕ} → Inserted k ys zs → Inserted k (y ∷ ys) (y ∷ zs)

pub each_in : (P : ℕ → Type 0) (k : ℕ) {ys zs : List ℕ} → Inserted k ys zs → P k → Each P ys → Each P zs
each_in P k now p h = (p, h)
each_in P k (later i) p h = (h.0, each_in P k i p h.1)

pub distinct_in : (k : ℕ) {ys zs : List ℕ} → Inserted k ys zs → AreDistinct ys → Each (λ y. k ≢ y) ys → AreDistinct zs
distinct_in k now d e = (e, d)
distinct_in k (later {y} i) d e = (each_in (λ x. y ≢ x) k i (λ q. e.0 (sym q)) d.0, distinct_in k i d.1 e.1)

true_or : (a b c : Bool) → (b ≡ true → c ≡ true) → (a || b) ≡ true → (a || c) ≡ true
true_or true b c f h = refl
true_or false b c f h = f h

or_true : (a b : Bool) → b ≡ true → (a || b) ≡ true
or_true true b h = refl
or_true false b h = h

itself_in : (k : ℕ) (ys : List ℕ) → is_in (k ∷ ys) k ≡ true
itself_in k ys = ap (λ b. b || is_in ys k) (eq-eqb k k refl)

pub new_in : (k : ℕ) {ys zs : List ℕ} → Inserted k ys zs → is_in zs k ≡ true
new_in k (now {ys}) = itself_in k ys
new_in k (later {y} {ys} {zs} i) = or_true (y == k) (is_in zs k) (new_in k i)

pub old_in : (k j : ℕ) {ys zs : List ℕ} → Inserted k ys zs → is_in ys j ≡ true → is_in zs j ≡ true
old_in k j (now {ys}) h = or_true (k == j) (is_in ys j) h
old_in k j (later {y} {ys} {zs} i) h = true_or (y == j) (is_in ys j) (is_in zs j) (old_in k j i) h

in_middle : (k : ℕ) (xs ys : List ℕ) → Inserted k (xs ++ ys) ((xs ++ k ∷ []) ++ ys)
in_middle k [] ys = now
in_middle k (x ∷ xs) ys = later (in_middle k xs ys)

in_behind : (k : ℕ) (xs : List ℕ) {ys zs : List ℕ} → Inserted k ys zs → Inserted k (xs ++ ys) (xs ++ zs)
in_behind k [] i = i
in_behind k (x ∷ xs) i = later (in_behind k xs i)

pub in_layer : (layers : List Layer) (l k : ℕ) → l < length layers → Inserted k (steps_in layers) (steps_in (into layers l k))
in_layer [] l k h = absurd (omega arith)
in_layer (x ∷ layers) zero k h = in_middle k x.steps (steps_in layers)
in_layer (x ∷ layers) (suc l) k h = in_behind k x.steps (in_layer layers l k (omega arith))

pub in_new : (layers : List Layer) (f k : ℕ) → Inserted k (steps_in layers) (steps_in (layers ++ layer_over f k ∷ []))
in_new [] f k = now
in_new (x ∷ layers) f k = in_behind k x.steps (in_new layers f k)

pub not_in : (n : ℕ) (ks : List ℕ) → AreBelow n ks → is_in ks n ≡ false
not_in n [] h = refl
not_in n (k ∷ ks) h = ap (λ b. b || is_in ks n) (ne_eqb k n (λ e. let lt = h.0 in omega (arith, e, lt))) ∙ not_in n ks h.1

-- ---- the layer of a step

both_false : (a b : Bool) → (a || b) ≡ false → (a ≡ false) × (b ≡ false)
both_false true b h = cc
both_false false b h = (refl, h)

or_false : (a b c : Bool) → (a || b) ≡ false → c ≡ b → (a || c) ≡ false
or_false true b c h e = cc
or_false false b c h e = e ∙ h

out_of : (xs ys : List ℕ) (k : ℕ) → is_in (xs ++ ys) k ≡ false → (is_in xs k ≡ false) × (is_in ys k ≡ false)
out_of [] ys k h = (refl, h)
out_of (x ∷ xs) ys k h =
    let b = both_false (x == k) (is_in (xs ++ ys) k) h in
    let r = out_of xs ys k b.1 in
    (ap (λ c. c || is_in xs k) b.0 ∙ r.0, r.1)

in_either : (xs ys : List ℕ) (k : ℕ) → is_in xs k ≡ false → is_in (xs ++ ys) k ≡ is_in ys k
in_either [] ys k h = refl
in_either (x ∷ xs) ys k h = let b = both_false (x == k) (is_in xs k) h in ap (λ c. c || is_in (xs ++ ys) k) b.0 ∙ in_either xs ys k b.1

in_first : (xs ys : List ℕ) (k : ℕ) → is_in xs k ≡ true → is_in (xs ++ ys) k ≡ true
in_first [] ys k h = cc
in_first (x ∷ xs) ys k h = true_or (x == k) (is_in xs k) (is_in (xs ++ ys) k) (in_first xs ys k) h

same_in : (xs : List ℕ) (k j : ℕ) → k ≢ j → is_in (xs ++ k ∷ []) j ≡ is_in xs j
same_in [] k j h = ap (λ b. b || false) (ne_eqb k j h)
same_in (x ∷ xs) k j h = ap (λ b. (x == j) || b) (same_in xs k j h)

last_in : (xs : List ℕ) (k : ℕ) → is_in (xs ++ k ∷ []) k ≡ true
last_in [] k = itself_in k []
last_in (x ∷ xs) k = or_true (x == k) (is_in (xs ++ k ∷ []) k) (last_in xs k)

pub layer_none : (n : ℕ) (layers : List Layer) (k : ℕ) → is_in (steps_in layers) k ≡ false → layer_from n layers k ≡ None
layer_none n [] k h = refl
layer_none n (x ∷ layers) k h =
    let r = out_of x.steps (steps_in layers) k h in
    ap (λ b. cond b (Some n) (layer_from (n + 1) layers k)) r.0 ∙ layer_none (n + 1) layers k r.1

-- the layer is one of the list
abbrev pub IsLayerAt : ℕ → List Layer → ℕ → Type 0
IsLayerAt n layers l = (j : ℕ) × (l ≡ n + j) × (j < length layers)

one_further : (n : ℕ) (x : Layer) (layers : List Layer) (k l : ℕ) (b : Bool) → cond b (Some n) (layer_from (n + 1) layers k) ≡ Some l → (layer_from (n + 1) layers k ≡ Some l → IsLayerAt (n + 1) layers l) → IsLayerAt n (x ∷ layers) l
one_further n x layers k l true h next = let same : n ≡ l = cc in (0, omega (arith, same), omega arith)
one_further n x layers k l false h next = let r = next h in (suc r.0, omega (arith, r.1), omega (arith, r.2))

pub layer_at : (n : ℕ) (layers : List Layer) (k l : ℕ) → layer_from n layers k ≡ Some l → IsLayerAt n layers l
layer_at n [] k l h = cc
layer_at n (x ∷ layers) k l h = one_further n x layers k l (is_in x.steps k) h (layer_at (n + 1) layers k l)

has_layer : (n : ℕ) (x : Layer) (layers : List Layer) (k : ℕ) (b : Bool) → is_in x.steps k ≡ b → (b ≡ false → (l : ℕ) × (layer_from (n + 1) layers k ≡ Some l)) → (l : ℕ) × (layer_from n (x ∷ layers) k ≡ Some l)
has_layer n x layers k true e f = (n, ap (λ b. cond b (Some n) (layer_from (n + 1) layers k)) e)
has_layer n x layers k false e f = let r = f refl in (r.0, ap (λ b. cond b (Some n) (layer_from (n + 1) layers k)) e ∙ r.1)

pub layer_some : (n : ℕ) (layers : List Layer) (k : ℕ) → is_in (steps_in layers) k ≡ true → (l : ℕ) × (layer_from n layers k ≡ Some l)
layer_some n [] k h = cc
layer_some n (x ∷ layers) k h = by (is_in x.steps k) refl (λ e. layer_some (n + 1) layers k (sym (in_either x.steps (steps_in layers) k e) ∙ h))
  where
    by : (b : Bool) → is_in x.steps k ≡ b → (is_in x.steps k ≡ false → (l : ℕ) × (layer_from (n + 1) layers k ≡ Some l)) → (l : ℕ) × (layer_from n (x ∷ layers) k ≡ Some l)
    by b e f = has_layer n x layers k b e (λ q. f (e ∙ q))

kept : (b : Bool) (n l : ℕ) (o p : Option ℕ) → cond b (Some n) o ≡ Some l → (o ≡ Some l → p ≡ Some l) → cond b (Some n) p ≡ Some l
kept true n l o p h f = h
kept false n l o p h f = f h

-- a step more leaves the layers of the others
pub layer_into : (n : ℕ) (layers : List Layer) (i k j l : ℕ) → k ≢ j → layer_from n layers j ≡ Some l → layer_from n (into layers i k) j ≡ Some l
layer_into n [] i k j l d h = cc
layer_into n (x ∷ layers) zero k j l d h = ap (λ b. cond b (Some n) (layer_from (n + 1) layers j)) (same_in x.steps k j d) ∙ h
layer_into n (x ∷ layers) (suc i) k j l d h = kept (is_in x.steps j) n l (layer_from (n + 1) layers j) (layer_from (n + 1) (into layers i k) j) h (layer_into (n + 1) layers i k j l d)

pub layer_into_new : (n : ℕ) (layers : List Layer) (i k : ℕ) → is_in (steps_in layers) k ≡ false → i < length layers → layer_from n (into layers i k) k ≡ Some (n + i)
layer_into_new n [] i k h lt = absurd (omega arith)
layer_into_new n (x ∷ layers) zero k h lt = let z : n ≡ n + 0 = omega arith in ap (λ b. cond b (Some n) (layer_from (n + 1) layers k)) (last_in x.steps k) ∙ ap Some z
layer_into_new n (x ∷ layers) (suc i) k h lt =
    let r = out_of x.steps (steps_in layers) k h in
    let z : (n + 1) + i ≡ n + suc i = omega arith in
    ap (λ b. cond b (Some n) (layer_from (n + 1) (into layers i k) k)) r.0 ∙ layer_into_new (n + 1) layers i k r.1 (omega arith) ∙ ap Some z

-- a layer more leaves them too
pub layer_push : (n : ℕ) (layers more : List Layer) (j l : ℕ) → layer_from n layers j ≡ Some l → layer_from n (layers ++ more) j ≡ Some l
layer_push n [] more j l h = cc
layer_push n (x ∷ layers) more j l h = kept (is_in x.steps j) n l (layer_from (n + 1) layers j) (layer_from (n + 1) (layers ++ more) j) h (layer_push (n + 1) layers more j l)

pub layer_push_new : (n : ℕ) (layers : List Layer) (f k : ℕ) → is_in (steps_in layers) k ≡ false → layer_from n (layers ++ layer_over f k ∷ []) k ≡ Some (n + length layers)
layer_push_new n [] f k h = let z : n ≡ n + 0 = omega arith in ap (λ b. cond b (Some n) None) (itself_in k []) ∙ ap Some z
layer_push_new n (x ∷ layers) f k h =
    let r = out_of x.steps (steps_in layers) k h in
    let z : (n + 1) + length layers ≡ n + suc (length layers) = omega arith in
    ap (λ b. cond b (Some n) (layer_from (n + 1) (layers ++ layer_over f k ∷ []) k)) r.0 ∙ layer_push_new (n + 1) layers f k r.1 ∙ ap Some z

-- ---- what layers stand over

pub over_into : (layers : List Layer) (i k l : ℕ) → over_in (slice_get (into layers i k) l) ≡ over_in (slice_get layers l)
over_into [] i k l = refl
over_into (x ∷ layers) zero k zero = refl
over_into (x ∷ layers) zero k (suc l) = refl
over_into (x ∷ layers) (suc i) k zero = refl
over_into (x ∷ layers) (suc i) k (suc l) = over_into layers i k l

pub over_push : (layers more : List Layer) (l : ℕ) → l < length layers → over_in (slice_get (layers ++ more) l) ≡ over_in (slice_get layers l)
over_push [] more l h = absurd (omega arith)
over_push (x ∷ layers) more zero h = refl
over_push (x ∷ layers) more (suc l) h = over_push layers more l (omega arith)

pub over_last : (layers : List Layer) (f k : ℕ) → over_in (slice_get (layers ++ layer_over f k ∷ []) (length layers)) ≡ Some f
over_last [] f k = refl
over_last (x ∷ layers) f k = over_last layers f k

pub length_into : (layers : List Layer) (i k : ℕ) → length (into layers i k) ≡ length layers
length_into [] i k = refl
length_into (x ∷ layers) zero k = refl
length_into (x ∷ layers) (suc i) k = ap suc (length_into layers i k)
