-- What was given to a sink.
use Rattle.std.proofs.Common.{◌≡◌, ℕ, ◌+◌, ◌-◌, ◌<◌, ◌≤◌, Bool, true, false, List, [], ◌∷◌, ◌++◌, length, take, drop, Option, Some, None, Result, Ok, Err, refl, sym, ap, ◌∙◌, subst, append_assoc, length-append, arith}
use Rattle.std.proofs.lemmas.List.{take-append-le}
use Rattle.std.proofs.Math.Seq.{take-append-add}
use Rattle.pg_io.specs.Streams.{Delivers, HasCause, Rose}
use Rattle.pg_io.specs.declared.streams.Failed.{Failed}
use Rattle.http_sessions.specs.SessionRuns.{Passed, IsFrontOf}
use Rattle.http_sessions.specs.ReplyText.{reply_text, refusal_text, refusal_body, status_of}
use Rattle.http_sessions.specs.declared.refusal.Refusal.{Refusal}
use Rattle.http_sessions.specs.Turns.{TookFront}

pub delivers_front : (t now : Option (List ℕ)) (e : Failed) (a b : List ℕ) → Delivers {A = Unit {0}} t now (Err e) a → Delivers {A = Unit {0}} t now (Err e) (a ++ b)
delivers_front None now e a b d = d
delivers_front (Some p) now e a b d = (d.0, omega (arith, d.1, length-append a b), d.2 ∙ ap (λ (l : List ℕ). Some (p ++ l)) (sym (take-append-le d.0 a b d.1)))

more_after : (p a b : List ℕ) (now : Option (List ℕ)) (r : Result (Unit {0}) Failed) → Delivers (Some (p ++ a)) now r b → Delivers (Some p) now r (a ++ b)
more_after p a b now (Ok u) d = d ∙ ap (λ (l : List ℕ). Some l) (append_assoc p a b)
more_after p a b now (Err e) d = (length a + d.0, omega (arith, d.1, length-append a b), d.2 ∙ ap (λ (l : List ℕ). Some l) (append_assoc p a (take d.0 b) ∙ ap (λ (l : List ℕ). p ++ l) (sym (take-append-add a b d.0))))

pub delivers_two : (t mid now : Option (List ℕ)) (u : Unit {0}) (r : Result (Unit {0}) Failed) (a b : List ℕ) → Delivers t mid (Ok u) a → Delivers mid now r b → Delivers t now r (a ++ b)
delivers_two None mid now u (Ok v) a b d e = subst (λ (o : Option (List ℕ)). Delivers {A = Unit {0}} o now (Ok v) b) d e
delivers_two None mid now u (Err f) a b d e = subst (λ (o : Option (List ℕ)). Delivers {A = Unit {0}} o now (Err f) b) d e
delivers_two (Some p) mid now u r a b d e = more_after p a b now r (subst (λ (o : Option (List ℕ)). Delivers o now r b) d e)

pub passed_all : (t now : Option (List ℕ)) (u : Unit {0}) (text : List ℕ) → Delivers t now (Ok u) text → Passed t now text
passed_all None now u text d = d
passed_all (Some p) now u text d = d

pub took_front : (t now : Option (List ℕ)) (e : Failed) (text : List ℕ) → Delivers {A = Unit {0}} t now (Err e) text → TookFront t now text
took_front None now e text d = record { front = []; is_front = record { count = 0; bytes_are = refl }; passed = d }
took_front (Some p) now e text d = record { front = take d.0 text; is_front = record { count = d.0; bytes_are = refl }; passed = d.2 }

pub reply_same : (a b : Bool) (status front : ℕ) (x y : List ℕ) → a ≡ b → x ≡ y → reply_text a status front x ≡ reply_text b status front y
reply_same a b status front x y e f = ap (λ v. reply_text v status front x) e ∙ ap (λ l. reply_text b status front l) f

pub refusal_same : (refusal : Refusal) (front status : ℕ) (x : List ℕ) → status ≡ status_of refusal → x ≡ refusal_body refusal → reply_text true status front x ≡ refusal_text front refusal
refusal_same refusal front status x e f = ap (λ n. reply_text true n front x) e ∙ ap (λ l. reply_text true (status_of refusal) front l) f
