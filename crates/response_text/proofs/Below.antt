-- Places in lists that lie below a number.
use Rattle.std.proofs.Common.{◌≤◌, ℕ, List, ◌++◌, slice_index_or, length-append, Result, Ok, Err, OnOk, subst, arith}
use Rattle.std.proofs.Math.ListN.{get_or-append}
use Rattle.response_text.specs.declared.path.Part.{Part}
use Rattle.response_text.specs.declared.path.Part.TheVariants as part
use Rattle.response_text.specs.Paths.{IsBelow, AreBelow}

pub below_front : (n : ℕ) (xs ys : List Part) → AreBelow n (xs ++ ys) → AreBelow n xs
below_front n xs ys b = λ k d less. subst (IsBelow n) (get_or-append xs ys d k less) (b k d (omega (arith, less, length-append xs ys)))

part_less : (m n : ℕ) (p : Part) → m ≤ n → IsBelow m p → IsBelow n p
part_less m n part.Member le b = tt
part_less m n (part.Key name) le b = tt
part_less m n (part.Index place) le b = omega (arith, le, b)

pub below_less : (m n : ℕ) (xs : List Part) → m ≤ n → AreBelow m xs → AreBelow n xs
below_less m n xs le b = λ k d less. part_less m n (slice_index_or xs k d) le (b k d less)

-- what follows where a call succeeds
pub on_ok : {A E : Type 0} (r : Result A E) (P Q : Type 0) → (P → Q) → OnOk r P → OnOk r Q
on_ok (Ok x) P Q f p = f p
on_ok (Err e) P Q f p = tt
