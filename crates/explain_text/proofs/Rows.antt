-- The JSON of lists and objects that are made from lists.
use Rattle.std.proofs.Common.{◌≡◌, ◌∙◌, ℕ, Bool, true, false, List, [], ◌∷◌, ◌++◌, refl, sym, ap}
use Rattle.pg_base.specs.declared.value.Value.{Value}
use Rattle.pg_base.specs.declared.value.Value.TheVariants as made
use Rattle.pg_base.specs.declared.value.Value.TheBlock.{hidden-the_row-Value-0, hidden-the_row-Member-1}
use Rattle.pg_base.specs.declared.value.Member.{Member}
use Rattle.explain_text.specs.Values.{before, items_json, members_json, member_json, separated, value_json}

items_row : (due : Bool) (xs : List Value) → items_json due (hidden-the_row-Value-0 xs) ≡ separated 44 value_json due xs
unfolding hidden-the_row-Value-0 denote.Hole.Carrier.hidden
items_row due [] = refl
items_row due (x ∷ xs) = ap (λ t. before 44 due ++ (value_json x ++ t)) (items_row true xs)

members_row : (due : Bool) (xs : List Member) → members_json due (hidden-the_row-Member-1 xs) ≡ separated 44 member_json due xs
unfolding hidden-the_row-Member-1 denote.Hole.Carrier.hidden
members_row due [] = refl
members_row due (x ∷ xs) = ap (λ t. before 44 due ++ (member_json x ++ t)) (members_row true xs)

pub list_written : (after before_it : List ℕ) (v : Value) (xs shown : List Value) → v ≡ made.List xs → shown ≡ xs
    → after ≡ before_it ++ 91 ∷ (separated 44 value_json false shown ++ 93 ∷ []) → after ≡ before_it ++ value_json v
list_written after before_it v xs shown is same e =
    e ∙ ap (λ ys. before_it ++ 91 ∷ (separated 44 value_json false ys ++ 93 ∷ [])) same
    ∙ ap (λ t. before_it ++ 91 ∷ (t ++ 93 ∷ [])) (sym (items_row false xs)) ∙ ap (λ u. before_it ++ value_json u) (sym is)

pub object_written : (after before_it : List ℕ) (v : Value) (xs shown : List Member) → v ≡ made.Object xs → shown ≡ xs
    → after ≡ before_it ++ 123 ∷ (separated 44 member_json false shown ++ 125 ∷ []) → after ≡ before_it ++ value_json v
object_written after before_it v xs shown is same e =
    e ∙ ap (λ ys. before_it ++ 123 ∷ (separated 44 member_json false ys ++ 125 ∷ [])) same
    ∙ ap (λ t. before_it ++ 123 ∷ (t ++ 125 ∷ [])) (sym (members_row false xs)) ∙ ap (λ u. before_it ++ value_json u) (sym is)
