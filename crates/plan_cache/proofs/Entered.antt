-- What a shelf has after one more.
use Rattle.std.proofs.Common.{◌≡◌, ℕ, zero, suc, ◌-◌, List, Option, [], ◌∷◌, ◌++◌, length, drop, map, sym, ap, subst, ◌∙◌}
use Rattle.std.proofs.lemmas.List.{map-append, drop-map, length-map}
use Rattle.pg_base.specs.Lists.{Each}
use Rattle.circular_buffer.specs.Buffer.{Buffer, buffer, keep_last}
use Rattle.plan_constraints.specs.declared.constraint.Constraint.{Constraint}
use Rattle.plan_cache.specs.Shelf.{live, most_live, key_of}
use Rattle.plan_cache.proofs.Live.{live_snoc}

module _ {K : Type 0} (Fits : K → Type 0) where
  each_dropped : (n : ℕ) (ks : List K) → Each Fits ks → Each Fits (drop n ks)
  each_dropped zero ks fit = fit
  each_dropped (suc n) [] fit = fit
  each_dropped (suc n) (k ∷ ks) fit = each_dropped n ks fit.1

  each_with : (ks : List K) (k : K) → Each Fits ks → Fits k → Each Fits (ks ++ k ∷ [])
  each_with [] k fit one = (one, fit)
  each_with (first ∷ ks) k fit one = (fit.0, each_with ks k fit.1 one)

  -- what is kept fits, after one more that fits
  pub kept_after : (items : List K) (k : K) (n : ℕ) (b : Buffer K) → b ≡ buffer (keep_last n (items ++ k ∷ [])) n
      → n ≡ most_live → Each Fits items → Fits k → (b.capacity ≡ most_live) × Each Fits b.items
  kept_after items k n b is most fit one = (
    ap (λ c. c.capacity) is ∙ most,
    subst (Each Fits) (sym (ap (λ c. c.items) is)) (each_dropped (length (items ++ k ∷ []) - n) (items ++ k ∷ []) (each_with items k fit one)),
  )

module _ {K E : Type 0} (of : K → E) where
  -- the entries that serve, of those with one more
  live_mapped : (ks : List K) → map of (live ks) ≡ live (map of ks)
  live_mapped ks =
      sym (drop-map of (length ks - most_live) ks)
      ∙ ap (λ n. drop (n - most_live) (map of ks)) (sym (length-map ks of))

  pub entries_after : (items : List K) (k : K) (n : ℕ) (b : Buffer K) (history : List E)
      → b ≡ buffer (keep_last n (items ++ k ∷ [])) n → n ≡ most_live → map of items ≡ live history
      → map of b.items ≡ live (history ++ of k ∷ [])
  entries_after items k n b history is most shown =
      ap (λ c. map of c.items) is
      ∙ ap (λ m. map of (keep_last m (items ++ k ∷ []))) most
      ∙ live_mapped (items ++ k ∷ [])
      ∙ ap live (map-append of items (k ∷ []))
      ∙ ap (λ es. live (es ++ of k ∷ [])) shown
      ∙ live_snoc history (of k)

pub same_key : (text text' : List ℕ) (name name' : Option (List ℕ)) (cs cs' : List Constraint) → text' ≡ text
    → name' ≡ name → cs' ≡ cs → key_of text name cs ≡ key_of text' name' cs'
same_key text text' name name' cs cs' t n c =
    ap (λ x. key_of x name cs) (sym t) ∙ ap (λ x. key_of text' x cs) (sym n) ∙ ap (λ x. key_of text' name' x) (sym c)
