-- What is said of a refusal, where there was memory for it.
use Rattle.std.proofs.Common.{Result, Ok, Err, IfOk}

pub if_ok : {A E : Type 0} (r : Result A E) (P Q : A → Type 0) → ((x : A) → P x → Q x) → IfOk r P → IfOk r Q
if_ok (Ok x) P Q f p = f x p
if_ok (Err e) P Q f p = tt
