-- A list that grows in a loop, beside the results that are due.
use Rattle.std.proofs.Common.{◌≡◌, List, [], ◌∷◌, ◌++◌, Option, Some, None, Result, Ok, Err, refl, sym, ap, ◌∙◌, append_assoc, append-nil}
use Rattle.gql_input.specs.declared.fault.InputError.{InputError}
use Rattle.gql_input.specs.declared.fault.InputError.TheVariants as input
use Rattle.gql_input.specs.declared.fault.VarError.{VarError}
use Rattle.gql_input.specs.declared.fault.VarError.TheVariants as error
use Rattle.gql_input.specs.declared.fault.VarFault.{VarFault}
use Rattle.gql_input.specs.Coerced.{Answers, AnswersVars}
use Rattle.gql_input.specs.Coercions.{Coercion, map_ok, and_some, and_more}

-- what was found comes first
abbrev pub joined : {V E : Type 0} → List V → Result (List V) E → Result (List V) E
joined done (Err fault) = Err fault
joined done (Ok rest) = Ok (done ++ rest)

pub begins : {V E : Type 0} (due : Result (List V) E) → joined [] due ≡ due
begins (Err fault) = refl
begins (Ok rest) = refl

pub ends : {V E : Type 0} (done : List V) (due : Result (List V) E) → joined done (Ok []) ≡ due → due ≡ Ok done
ends done due e = sym e ∙ ap (λ xs. Ok xs) (append-nil done)

pub goes_on : {V E : Type 0} (done : List V) (x : V) (rest : Result (List V) E) → joined done (and_some (Ok (Some x)) rest) ≡ joined (done ++ x ∷ []) rest
goes_on done x (Err fault) = refl
goes_on done x (Ok rest) = ap (λ xs. Ok xs) (sym (append_assoc done (x ∷ []) rest))

-- ---- one turn

pub some_turn : {V E : Type 0} (done new : List V) (x : V) (first : Result (Option V) E) (rest whole : Result (List V) E)
    → first ≡ Ok (Some x) → new ≡ done ++ x ∷ [] → joined done (and_some first rest) ≡ whole → joined new rest ≡ whole
some_turn done new x first rest whole found grown before =
    ap (λ l. joined l rest) grown ∙ sym (goes_on done x rest) ∙ ap (λ f. joined done (and_some f rest)) (sym found) ∙ before

pub none_turn : {V E : Type 0} (done : List V) (first : Result (Option V) E) (rest whole : Result (List V) E)
    → first ≡ Ok None → joined done (and_some first rest) ≡ whole → joined done rest ≡ whole
none_turn done first rest whole found before = ap (λ f. joined done (and_some f rest)) (sym found) ∙ before

pub item_turn : {V : Type 0} (done new : List V) (x : V) (first : Coercion V) (rest whole : Coercion (List V))
    → first ≡ Ok x → new ≡ done ++ x ∷ [] → joined done (and_more first rest) ≡ whole → joined new rest ≡ whole
item_turn done new x first rest whole found grown before =
    some_turn done new x (map_ok (λ y. Some y) first) rest whole (ap (map_ok (λ y. Some y)) found) grown before

-- ---- a fault

pub fails_under : {V W : Type 0} (f : V → W) (due : Coercion V) (e : InputError) → Answers due (Err e) → Answers (map_ok f due) (Err e)
fails_under f due (input.Fault which) h = ap (map_ok f) h
fails_under f due input.Memory h = tt

pub fault_turn : {V : Type 0} (done : List V) (first : Coercion (Option V)) (rest whole : Coercion (List V)) (e : InputError)
    → joined done (and_some first rest) ≡ whole → Answers first (Err e) → Answers whole (Err e)
fault_turn done first rest whole (input.Fault which) before h = sym before ∙ ap (λ f. joined done (and_some f rest)) h
fault_turn done first rest whole input.Memory before h = tt

pub item_fault : {V : Type 0} (done : List V) (first : Coercion V) (rest whole : Coercion (List V)) (e : InputError)
    → joined done (and_more first rest) ≡ whole → Answers first (Err e) → Answers whole (Err e)
item_fault done first rest whole e before h = fault_turn done (map_ok (λ y. Some y) first) rest whole e before (fails_under (λ y. Some y) first e h)

pub vars_fault : {V : Type 0} (done : List V) (first : Result (Option V) VarFault) (rest whole : Result (List V) VarFault) (e : VarError)
    → joined done (and_some first rest) ≡ whole → AnswersVars first (Err e) → AnswersVars whole (Err e)
vars_fault done first rest whole (error.Fault fault) before h = sym before ∙ ap (λ f. joined done (and_some f rest)) h
vars_fault done first rest whole error.Memory before h = tt
