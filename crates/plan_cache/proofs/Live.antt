-- The entries that serve after one more.
use Rattle.std.proofs.Common.{◌≡◌, ℕ, ◌+◌, ◌-◌, List, [], ◌∷◌, ◌++◌, length, drop, sym, ap, ◌∙◌, length-append, length-drop, drop-drop, arith}
use Rattle.std.proofs.lemmas.List.{drop-append-le}
use Rattle.plan_cache.specs.Shelf.{live, most_live}

-- as many are dropped in two steps as in one
dropped : (n : ℕ) → (n - most_live) + ((n - (n - most_live)) + 1 - most_live) ≡ n + 1 - most_live
dropped n = omega arith

-- how many serve with one more, before the oldest goes
one_more : {E : Type 0} (history : List E) (e : E)
    → length (live history ++ e ∷ []) ≡ (length history - (length history - most_live)) + 1
one_more history e =
    length-append (live history) (e ∷ []) ∙ ap (λ n. n + 1) (length-drop (length history - most_live) history)

pub live_snoc : {E : Type 0} (history : List E) (e : E)
    → live (live history ++ e ∷ []) ≡ live (history ++ e ∷ [])
live_snoc {E} history e =
    let n = length history in
    let a = length history - most_live in
    let joined : live history ++ e ∷ [] ≡ drop a (history ++ e ∷ []) =
    sym (drop-append-le a history (e ∷ []) (omega arith)) in
    ap (λ k. drop (k - most_live) (live history ++ e ∷ [])) (one_more history e)
    ∙ ap (drop ((n - a) + 1 - most_live)) joined
    ∙ drop-drop ((n - a) + 1 - most_live) a (history ++ e ∷ [])
    ∙ ap (λ k. drop k (history ++ e ∷ [])) (dropped n ∙ ap (λ k. k - most_live) (sym (length-append history (e ∷ []))))
