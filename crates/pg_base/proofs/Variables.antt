-- A variable without a value has no entry.
use Rattle.std.proofs.Common.{◌≡◌, ◌≢◌, ◌≤◌, ℕ, Bool, true, false, List, [], ◌∷◌, length, All, Option, Some, None, refl, sym, ap, ◌∙◌, drop, if◌then◌else◌}
use Rattle.std.specs.Str.{bytes_eq}
use Rattle.std.proofs.lemmas.Slice.Eq.{bytes_eq-Decides}
use Rattle.std.proofs.lemmas.List.Elements.{All-nil, All-cons}
use Rattle.pg_base.specs.declared.value.Value.{Value}
use Rattle.pg_base.specs.declared.vars.Variable.{Variable}
use Rattle.pg_base.specs.declared.vars.Vars.{Vars}
use Rattle.pg_base.specs.Vars.{value_in, variable}
use Rattle.pg_base.proofs.ListSteps.{drop-past}

differs : (name other : List ℕ) → bytes_eq other name ≡ false → other ≢ name
differs name other h e = let t : bytes_eq other name ≡ true = (bytes_eq-Decides other name).1 e in cc

one_more : (e : Variable) (entries : List Variable) (name : List ℕ) (test : Bool) → bytes_eq e.name name ≡ test
    → (None ≡ value_in entries name → All (λ v. v.name ≢ name) entries)
    → None ≡ (if test then Some e.value else value_in entries name) → All (λ v. v.name ≢ name) (e ∷ entries)
one_more e entries name true t rest h = absurd cc
one_more e entries name false t rest h = All-cons (λ v. v.name ≢ name) e entries (differs name e.name t) (rest h)

absent : (entries : List Variable) (name : List ℕ) → None ≡ value_in entries name → All (λ v. v.name ≢ name) entries
absent [] name h = All-nil (λ v. v.name ≢ name)
absent (e ∷ entries) name h = one_more e entries name (bytes_eq e.name name) refl (absent entries name) h

-- nothing is left to look at
pub all_seen : (vars : Vars) (name : List ℕ) (i : ℕ) → length vars.entries ≤ i → value_in (drop i vars.entries) name ≡ variable vars name
    → All (λ v. v.name ≢ name) vars.entries
all_seen vars name i past h = absent vars.entries name (sym (ap (λ es. value_in es name) (drop-past vars.entries i past)) ∙ h)
