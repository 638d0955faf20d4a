-- The oldest that answers, found one by one.
use Rattle.std.proofs.Common.{◌≡◌, List, [], ◌∷◌, ◌++◌, map, Option, Some, None, option_map, refl, sym, ap, subst, ◌∙◌}
use Rattle.std.proofs.lemmas.List.{map-append}
use Rattle.pg_base.specs.Lists.{Each}
use Rattle.plan_cache.specs.Shelf.{Key, Asked, Answers, NoneAnswers, IsOldest}

module _ {E : Type 0} (key : E → Key) (asked : Asked) where
  -- an older one that doesn't answer changes nothing
  pub older_passed : (e : E) (entries : List E) (found : Option E) → (Answers asked (key e) → ⊥)
      → IsOldest key asked entries found → IsOldest key asked (e ∷ entries) found
  older_passed e entries None n h = (n, h)
  older_passed e entries (Some f) n (older, younger, same, none, answers) =
      (e ∷ older, younger, ap (λ es. e ∷ es) same, (n, none), answers)

  pub first_answers : (e : E) (entries : List E) → Answers asked (key e) → IsOldest key asked (e ∷ entries) (Some e)
  first_answers e entries answers = ([], entries, refl, tt, answers)

module _ {K : Type 0} where
  pub each_second : (A B : K → Type 0) (ks : List K) → Each (λ k. A k × B k) ks → Each B ks
  each_second A B [] fit = tt
  each_second A B (k ∷ ks) fit = (fit.0.1, each_second A B ks fit.1)

  pub each_at : (Fits : K → Type 0) (older : List K) (k : K) (younger : List K)
      → Each Fits (older ++ k ∷ younger) → Fits k
  each_at Fits [] k younger fit = fit.0
  each_at Fits (o ∷ older) k younger fit = each_at Fits older k younger fit.1

-- the same of other values with the same keys
module _ {K E : Type 0} (key : K → Key) (of : E → Key) (f : K → E) (asked : Asked) where
  none_mapped : (ks : List K) → Each (λ k. key k ≡ of (f k)) ks → NoneAnswers key asked ks
      → NoneAnswers of asked (map f ks)
  none_mapped [] same none = tt
  none_mapped (k ∷ ks) same none =
      (λ answers. none.0 (subst (Answers asked) (sym same.0) answers), none_mapped ks same.1 none.1)

  older_same : (older : List K) (k : K) (younger : List K) → Each (λ k. key k ≡ of (f k)) (older ++ k ∷ younger)
      → Each (λ k. key k ≡ of (f k)) older × (key k ≡ of (f k))
  older_same [] k younger same = (tt, same.0)
  older_same (o ∷ older) k younger same =
      let rest = older_same older k younger same.1 in ((same.0, rest.0), rest.1)

  pub oldest_mapped : (ks : List K) (found : Option K) → Each (λ k. key k ≡ of (f k)) ks
      → IsOldest key asked ks found → IsOldest of asked (map f ks) (option_map f found)
  oldest_mapped ks None same none = none_mapped ks same none
  oldest_mapped ks (Some k) same (older, younger, stands, none, answers) =
      let kept = older_same older k younger (subst (Each (λ k. key k ≡ of (f k))) stands same) in (
        map f older,
        map f younger,
        ap (map f) stands ∙ map-append f older (k ∷ younger),
        none_mapped older kept.0 none,
        subst (Answers asked) kept.1 answers,
      )

  pub looked : (A : K → Type 0) (ks : List K) (found : Option K) (es : List E) → map f ks ≡ es
      → Each (λ k. A k × (key k ≡ of (f k))) ks → IsOldest key asked ks found
      → IsOldest of asked es (option_map f found)
  looked A ks found es shown fit oldest =
      subst (λ entries. IsOldest of asked entries (option_map f found)) shown
      (oldest_mapped ks found (each_second A (λ k. key k ≡ of (f k)) ks fit) oldest)

  pub looked_at : (A : K → Type 0) (ks : List K) (k : K) (e : E) (es : List E) → map f ks ≡ es
      → Each (λ k. A k × (key k ≡ of (f k))) ks → IsOldest key asked ks (Some k) → e ≡ f k
      → IsOldest of asked es (Some e)
  looked_at A ks k e es shown fit oldest same =
      subst (λ one. IsOldest of asked es (Some one)) (sym same) (looked A ks (Some k) es shown fit oldest)

  -- what is kept of the oldest one
  pub kept_of : (A : K → Type 0) (ks : List K) (k : K) → Each (λ k. A k × (key k ≡ of (f k))) ks
      → IsOldest key asked ks (Some k) → A k
  kept_of A ks k fit (older, younger, stands, none, answers) =
      (each_at (λ k. A k × (key k ≡ of (f k))) older k younger
      (subst (Each (λ k. A k × (key k ≡ of (f k)))) stands fit)).0
