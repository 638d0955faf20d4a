-- The step of the loop over a label's characters.
use Rattle.std.proofs.Common.{◌≡◌, ℕ, ◌+◌, ◌<◌, ◌≤◌, Bool, true, false, cond, List, [], ◌∷◌, ◌++◌, length, get_or, drop, map, refl, sym, ap, ◌∙◌, append_assoc, append-nil}
use Rattle.std.proofs.lemmas.List.{drop_more, drop_all, length_push}
use Rattle.std.specs.Char.{to_ascii_uppercase}
use Rattle.name_rules.specs.Names.{name_character, breaks, separated_after, separated}

-- the part of the case that the rest of a label gives
abbrev pub due : ℕ → List ℕ → List ℕ
due before rest = map to_ascii_uppercase (separated_after before (map name_character rest))

one_more : (b : Bool) (c : ℕ) (xs : List ℕ) → map to_ascii_uppercase (cond b (95 ∷ c ∷ xs) (c ∷ xs)) ≡ map to_ascii_uppercase (cond b (95 ∷ c ∷ []) (c ∷ [])) ++ map to_ascii_uppercase xs
one_more true c xs = refl
one_more false c xs = refl

pub due_more : (cs yielded : List ℕ) (c next before : ℕ) (old new whole : List ℕ) → (length yielded < length cs) × (c ≡ get_or cs (length yielded) c) → next ≡ name_character c
    → old ++ due before (drop (length yielded) cs) ≡ whole → new ≡ old ++ map to_ascii_uppercase (separated_after before (next ∷ [])) → new ++ due next (drop (length (yielded ++ c ∷ [])) cs) ≡ whole
due_more cs yielded c next before old new whole at is was now =
    let rest = drop (length yielded + 1) cs in
    let front : drop (length yielded) cs ≡ c ∷ rest = drop_more cs (length yielded) c at.0 ∙ ap (λ x. x ∷ rest) (sym at.1) in
    let named = name_character c in
    let place : drop (length (yielded ++ c ∷ [])) cs ≡ rest = ap (λ n. drop n cs) (length_push yielded c) in
    let here = map to_ascii_uppercase (separated_after before (named ∷ [])) in
    ap (λ l. l ++ due next (drop (length (yielded ++ c ∷ [])) cs)) now
    ∙ ap (λ l. (old ++ map to_ascii_uppercase (separated_after before (next ∷ []))) ++ due next l) place
    ∙ ap (λ n. (old ++ map to_ascii_uppercase (separated_after before (n ∷ []))) ++ due n rest) is
    ∙ append_assoc old here (due named rest)
    ∙ ap (λ l. old ++ l) (sym (one_more (breaks before named) named (separated_after named (map name_character rest))))
    ∙ ap (λ l. old ++ due before l) (sym front)
    ∙ was

separated_first : (cs : List ℕ) → separated_after 95 cs ≡ separated cs
separated_first [] = refl
separated_first (c ∷ cs) = refl

pub due_all : (cs yielded : List ℕ) (before : ℕ) (items : List ℕ) → length cs ≤ length yielded → items ++ due before (drop (length yielded) cs) ≡ due 95 cs
    → items ≡ map to_ascii_uppercase (separated (map name_character cs))
due_all cs yielded before items all was =
    sym (append-nil items) ∙ ap (λ l. items ++ due before l) (sym (drop_all (length yielded) cs all)) ∙ was ∙ ap (map to_ascii_uppercase) (separated_first (map name_character cs))
