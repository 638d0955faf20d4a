-- Two pieces that are given to a sink, one after the other.
use Rattle.std.proofs.Common.{◌≡◌, ℕ, ◌+◌, List, ◌++◌, length, take, Option, Some, None, Result, Ok, Err, sym, ap, subst, ◌∙◌, append_assoc, length-append, arith}
use Rattle.std.proofs.lemmas.List.{take-append-le}
use Rattle.std.proofs.Math.Seq.{take-append-add}
use Rattle.pg_io.specs.Streams.{HasCause, Delivers}
use Rattle.pg_io.specs.declared.streams.Failed.{Failed}

abbrev Outcome : Type 0
Outcome = Result (Unit {0}) Failed

pub delivered_then : (before mid now : Option (List ℕ)) (xs ys : List ℕ) (r : Outcome) → Delivers {A = Unit {0}} before mid (Ok tt) xs → Delivers mid now r ys → Delivers before now r (xs ++ ys)
delivered_then None mid now xs ys (Ok u) first second = subst (λ (m : Option (List ℕ)). Delivers {A = Unit {0}} m now (Ok u) ys) first second
delivered_then None mid now xs ys (Err e) first second = subst (λ (m : Option (List ℕ)). Delivers {A = Unit {0}} m now (Err e) ys) first second
delivered_then (Some taken) mid now xs ys (Ok u) first second =
    subst (λ (m : Option (List ℕ)). Delivers {A = Unit {0}} m now (Ok u) ys) first second ∙ ap (λ (l : List ℕ). Some l) (append_assoc taken xs ys)
delivered_then (Some taken) mid now xs ys (Err e) first second =
    let d = subst (λ (m : Option (List ℕ)). Delivers {A = Unit {0}} m now (Err e) ys) first second in
    (length xs + d.0, omega (arith, d.1, length-append xs ys), d.2 ∙ ap (λ (l : List ℕ). Some l) (append_assoc taken xs (take d.0 ys) ∙ ap (λ (l : List ℕ). taken ++ l) (sym (take-append-add xs ys d.0))))

pub delivered_front : (before now : Option (List ℕ)) (xs ys : List ℕ) (e : Failed) → Delivers {A = Unit {0}} before now (Err e) xs → Delivers {A = Unit {0}} before now (Err e) (xs ++ ys)
delivered_front None now xs ys e d = d
delivered_front (Some taken) now xs ys e d = (d.0, omega (arith, d.1, length-append xs ys), d.2 ∙ ap (λ (l : List ℕ). Some (taken ++ l)) (sym (take-append-le d.0 xs ys d.1)))

-- the count of the second piece, from where the first began
pub cause_then : (before mid now : ℕ) (r : Outcome) → mid ≡ before → HasCause mid now r → HasCause before now r
cause_then before mid now r same c = subst (λ (n : ℕ). HasCause n now r) same c
