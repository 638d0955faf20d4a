-- What it says that there is no fault.
use Rattle.std.proofs.Common.{◌≡◌, ℕ, List, [], ◌∷◌, Bool, true, false, cond, not, ◌&&◌, ◌||◌, Option, None, Some, refl}
use Rattle.std.specs.Prelude.{find}
use Rattle.std.specs.Option.{option_or, option_map}
use Rattle.pg_base.specs.Lists.{Each}
use Rattle.pg_base.specs.declared.pos.Pos.{Pos}
use Rattle.rows_reader.specs.declared.fault.RowsFault.{RowsFault}
use Rattle.rows_reader.specs.Faults.{when, else_next}

pub neither : {A : Type 0} (a b : Option A) → option_or a b ≡ None → (a ≡ None) × (b ≡ None)
neither None b e = (refl, e)
neither (Some x) b e = absurd (cc)

pub none_next : (place : Pos) (which : ℕ) (found : Option (List ℕ)) (next : Option RowsFault) → else_next place which found next ≡ None → (found ≡ None) × (next ≡ None)
none_next place which None next e = (refl, e)
none_next place which (Some name) next e = absurd (cc)

pub when_none : (b : Bool) (name : List ℕ) → when b name ≡ None → b ≡ false
when_none true name e = absurd (cc)
when_none false name e = refl

pub not_false : (b : Bool) → not b ≡ false → b ≡ true
not_false true e = refl
not_false false e = absurd (cc)

pub both_false : (a b : Bool) → (a && b) ≡ false → a ≡ true → b ≡ false
both_false true b e t = e
both_false false b e t = absurd (cc)

pub either_false : (a b : Bool) → (a || b) ≡ false → (a ≡ false) × (b ≡ false)
either_false true b e = absurd (cc)
either_false false b e = (refl, e)

pub none_found : {A B : Type 0} (p : A → Bool) (f : A → B) (xs : List A) → option_map f (find p xs) ≡ None → Each (λ x. p x ≡ false) xs
none_found p f [] e = tt
none_found p f (x ∷ xs) e = by (p x) refl (none_found p f xs) e
  where
    by : (b : Bool) → p x ≡ b → (option_map f (find p xs) ≡ None → Each (λ x. p x ≡ false) xs) → option_map f (cond b (Some x) (find p xs)) ≡ None → Each (λ x. p x ≡ false) (x ∷ xs)
    by true t rest h = absurd (cc)
    by false t rest h = (t, rest h)
