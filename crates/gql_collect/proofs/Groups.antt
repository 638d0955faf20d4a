-- The fields of each response key, as a map of them grows.
use Rattle.std.proofs.Common.{◌≡◌, ◌<◌, ℕ, ◌+◌, List, [], ◌∷◌, ◌++◌, length, get_or, drop, Bool, true, false, cond, refl, sym, ap, ◌∙◌, append_assoc, append-nil}
use Rattle.std.specs.Prelude.{Option, Some, unwrap_or}
use Rattle.std.specs.Option.{option_copied}
use Rattle.std.specs.HashMap.{HashMap, get}
use Rattle.std.specs.Borrow.{Bor}
use Rattle.std.specs.Str.{bytes_eq}
use Rattle.pg_base.proofs.ListSteps.{drop-item}
use Rattle.gql_reader.specs.declared.tree.Field.{Field}
use Rattle.gql_collect.specs.Growing.{fields_with, response_key}
use Rattle.gql_collect.specs.Kept.{fields_of, group_in}

first_or : (b : Bool) (f : Field) (rest : List Field) → cond b (f ∷ rest) rest ≡ cond b (f ∷ []) [] ++ rest
first_or true f rest = refl
first_or false f rest = refl

fields_first : (key : List ℕ) (f : Field) (rest : List Field) → fields_with key (f ∷ rest) ≡ fields_with key (f ∷ []) ++ fields_with key rest
fields_first key f rest = first_or (bytes_eq key (response_key f)) f (fields_with key rest)

module _ (fields : List (Bor Field)) (i : ℕ) (before : List ℕ → List Field)
    (so_far : (key : List ℕ) → before key ++ fields_with key (fields_of (drop i fields)) ≡ fields_with key (fields_of fields)) where
  pub groups_go : (b : Bor Field) → i < length fields → b ≡ get_or fields i b → (after : List ℕ → List Field)
      → ((key : List ℕ) → after key ≡ before key ++ fields_with key (b.now ∷ []))
      → (key : List ℕ) → after key ++ fields_with key (fields_of (drop (i + 1) fields)) ≡ fields_with key (fields_of fields)
  groups_go b lt is after grown key =
      let rest : List Field = fields_of (drop (i + 1) fields) in
      ap (λ l. l ++ fields_with key rest) (grown key)
      ∙ append_assoc (before key) (fields_with key (b.now ∷ [])) (fields_with key rest)
      ∙ ap (λ l. before key ++ l) (sym (fields_first key b.now rest))
      ∙ ap (λ l. before key ++ fields_with key (fields_of l)) (sym (drop-item fields i b lt is))
      ∙ so_far key

  pub groups_end : drop i fields ≡ [] → (key : List ℕ) → before key ≡ fields_with key (fields_of fields)
  groups_end past key =
      sym (append-nil (before key)) ∙ ap (λ l. before key ++ fields_with key (fields_of l)) (sym past) ∙ so_far key

-- ---- a group that is found

pub group_found : {S : Type 0} (groups : HashMap (List ℕ) (List (Bor Field)) S) (key : List ℕ) (o : Option (Bor (List (Bor Field)))) (b : Bor (List (Bor Field))) (slice : List (Bor Field)) (due : List Field)
    → option_copied o ≡ get bytes_eq groups key → o ≡ Some b → slice ≡ b.now → group_in groups key ≡ due → fields_of slice ≡ due
group_found groups key o b slice due value is same h =
    ap fields_of same
    ∙ sym (ap (λ x. fields_of (unwrap_or (option_copied x) [])) is)
    ∙ ap (λ x. fields_of (unwrap_or x [])) value
    ∙ h
