-- What is said of a result, where more is known.
use Rattle.std.proofs.Common.{◌∙◌, ℕ, List, Result, Ok, Err, IfOk, IfErr, OnOk}
use Rattle.graphile_prog.specs.Told.{CountsStay}
use Rattle.graphile_prog.specs.Parts.{CountsStayBut}
use Rattle.graphile_prog.specs.declared.status.Status.{Status}

pub if_ok : {A E : Type 0} (r : Result A E) (P Q : A → Type 0) → ((x : A) → P x → Q x) → IfOk r P → IfOk r Q
if_ok (Ok x) P Q f p = f x p
if_ok (Err e) P Q f p = tt

pub if_err : {A E : Type 0} (r : Result A E) (P Q : E → Type 0) → ((e : E) → P e → Q e) → IfErr r P → IfErr r Q
if_err (Ok x) P Q f p = tt
if_err (Err e) P Q f p = f e p

pub on_ok : {A E : Type 0} (r : Result A E) (P Q : Type 0) → (P → Q) → OnOk r P → OnOk r Q
on_ok (Ok x) P Q f p = f p
on_ok (Err e) P Q f p = tt

-- counts that stay from the first call on

pub stay_on : (before mid new : List ℕ → ℕ) → CountsStay before mid → CountsStay mid new → CountsStay before new
stay_on before mid new quiet still name = still name ∙ quiet name

pub stay_but : (before mid new : List ℕ → ℕ) → CountsStay before mid → (s : Status) → CountsStayBut mid new s → CountsStayBut before new s
stay_but before mid new quiet s counts ne name = counts ne name ∙ quiet name
