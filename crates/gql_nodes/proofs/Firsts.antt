-- The first node of a list that a test picks is the first one that breaks the rule.
use Rattle.std.proofs.Common.{◌≡◌, ℕ, zero, suc, Bool, true, false, cond, List, [], ◌∷◌, Option, Some, None, refl, sym, ap, subst, ◌∙◌, arith}
use Rattle.std.specs.Prelude.{find, option_map, slice_get}
use Rattle.pg_base.specs.declared.pos.Pos.{Pos}
use Rattle.gql_nodes.specs.Nodes.{At, pos_of}
use Rattle.gql_nodes.specs.Rules.{Holds, HoldsBefore, IsFirst, IsFound}

some_same : {A : Type 0} (x y : A) → Some x ≡ Some y → x ≡ y
some_same x y e = cc

-- where a node stands
abbrev pub stands_at : At → Pos
stands_at x = pos_of x.node

pub record Picked (Breaks : At → Type 0) (nodes : List At) (x : At) : Type 0 where
  pub place : ℕ
  pub first : IsFirst (λ i y. Breaks y) nodes place x

module _ (test : At → Bool) (Breaks : At → Type 0) (tells : (x : At) → test x ≡ true → Breaks x) (told : (x : At) → Breaks x → test x ≡ true) where
  misses : (y : At) → test y ≡ false → Breaks y → ⊥
  misses y e p = let hit : test y ≡ true = told y p in absurd (let both : true ≡ false = sym hit ∙ e in cc)

  before_later : (y : At) (ys : List At) (place : ℕ) → (Breaks y → ⊥) → HoldsBefore place (λ i z. Breaks z) ys → HoldsBefore (suc place) (λ i z. Breaks z) (y ∷ ys)
  before_later y ys place miss before zero z lt at p = miss (subst Breaks (sym (some_same y z at)) p)
  before_later y ys place miss before (suc i) z lt at p = before i z (omega arith) at p

  found_by : (y : At) (ys : List At) (x : At) (b : Bool) → test y ≡ b → (find test ys ≡ Some x → Picked Breaks ys x) → cond b (Some y) (find test ys) ≡ Some x → Picked Breaks (y ∷ ys) x
  found_by y ys x true e go is = let same : y ≡ x = some_same y x is in record { place = 0; first = record { stands = ap Some same; before = λ i z lt at p. absurd (omega arith); broken = subst Breaks same (tells y e) } }
  found_by y ys x false e go is = let f = go is in record { place = suc f.place; first = record { stands = f.first.stands; before = before_later y ys f.place (misses y e) f.first.before; broken = f.first.broken } }

  found_first : (xs : List At) (x : At) → find test xs ≡ Some x → Picked Breaks xs x
  found_first [] x is = absurd (cc)
  found_first (y ∷ ys) x is = found_by y ys x (test y) refl (found_first ys x) is

  none_later : (y : At) (ys : List At) → (Breaks y → ⊥) → Holds (λ i z. Breaks z) ys → Holds (λ i z. Breaks z) (y ∷ ys)
  none_later y ys miss held zero z at p = miss (subst Breaks (sym (some_same y z at)) p)
  none_later y ys miss held (suc i) z at p = held i z at p

  none_by : (y : At) (ys : List At) (b : Bool) → test y ≡ b → (find test ys ≡ None → Holds (λ i z. Breaks z) ys) → cond b (Some y) (find test ys) ≡ None → Holds (λ i z. Breaks z) (y ∷ ys)
  none_by y ys true e go is = absurd (cc)
  none_by y ys false e go is = none_later y ys (misses y e) (go is)

  none_at : (i : ℕ) (x : At) → slice_get [] i ≡ Some x → Breaks x → ⊥
  none_at i x at p = absurd (cc)

  found_none : (xs : List At) → find test xs ≡ None → Holds (λ i z. Breaks z) xs
  found_none [] is = none_at
  found_none (y ∷ ys) is = none_by y ys (test y) refl (found_none ys) is

  found_at : (xs : List At) (f : Option At) → find test xs ≡ f → IsFound (λ i z. Breaks z) xs (option_map stands_at f)
  found_at xs None e = found_none xs e
  found_at xs (Some x) e = let p = found_first xs x e in record { place = p.place; node = x; first = p.first; stands = refl }

  -- the search for a rule that is a test
  pub found : (xs : List At) (r : Option Pos) → r ≡ option_map stands_at (find test xs) → IsFound (λ i z. Breaks z) xs r
  found xs r e = subst (IsFound (λ i z. Breaks z) xs) (sym e) (found_at xs (find test xs) refl)
