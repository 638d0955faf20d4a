-- Names that differ, and their places.
use Rattle.std.proofs.Common.{◌≡◌, ◌≢◌, ℕ, Bool, true, false, cond, List, [], ◌∷◌, ◌++◌, None, Some, refl, sym, ap, subst, ◌∙◌, append-nil}
use Rattle.std.specs.Str.{bytes_eq}
use Rattle.std.proofs.lemmas.Slice.Eq.{bytes_eq-Decides}
use Rattle.std.proofs.lemmas.List.{append_assoc}
use Rattle.pg_base.specs.Lists.{Each, AreDistinct}
use Rattle.pg_catalog.proofs.EachFacts.{Each-append, Each-pushed}
use Rattle.pg_catalog.proofs.Passed.{or_false}
use Rattle.pg_catalog.specs.Names.{stands, first_double, first_double_after}

apart : (x y : List ℕ) → bytes_eq x y ≡ false → x ≢ y
apart x y miss same = let hit : bytes_eq x y ≡ true = (bytes_eq-Decides x y).1 same in absurd (let both : true ≡ false = sym hit ∙ miss in cc)

-- a name that isn't among these differs from each
pub fresh : (names : List (List ℕ)) (name : List ℕ) → stands names name ≡ false → Each (λ y. y ≢ name) names
fresh [] name e = tt
fresh (x ∷ xs) name e =
    let z = or_false (bytes_eq name x) (stands xs name) e in
    (λ s. apart name x z.0 (sym s), fresh xs name z.1)

module _ {A : Type 0} where
  pub AreDistinct-pushed : (xs : List A) (x : A) → AreDistinct xs → Each (λ y. y ≢ x) xs → AreDistinct (xs ++ x ∷ [])
  AreDistinct-pushed [] x d e = (tt, tt)
  AreDistinct-pushed (y ∷ ys) x d e = (Each-pushed (λ z. y ≢ z) ys x d.0 e.0, AreDistinct-pushed ys x d.1 e.1)

  Each-parts : (P : A → Type 0) (xs ys : List A) → Each P (xs ++ ys) → Each P xs × Each P ys
  Each-parts P [] ys h = (tt, h)
  Each-parts P (x ∷ xs) ys h = let r = Each-parts P xs ys h.1 in ((h.0, r.0), r.1)

  -- one more item amid two lists
  pub AreDistinct-amid : (xs ys : List A) (x : A) → AreDistinct (xs ++ ys) → Each (λ y. y ≢ x) (xs ++ ys) → AreDistinct ((xs ++ x ∷ []) ++ ys)
  AreDistinct-amid [] ys x d e = (flip ys e, d)
    where
      flip : (zs : List A) → Each (λ y. y ≢ x) zs → Each (λ y. x ≢ y) zs
      flip [] h = tt
      flip (z ∷ zs) h = (λ s. h.0 (sym s), flip zs h.1)
  AreDistinct-amid (y ∷ xs) ys x d e =
      let parts = Each-parts (λ z. y ≢ z) xs ys d.0 in
      (Each-append (λ z. y ≢ z) (xs ++ x ∷ []) ys (Each-pushed (λ z. y ≢ z) xs x parts.0 e.0) parts.1, AreDistinct-amid xs ys x d.1 e.1)

-- a list that has no name twice
distinct_after : (seen names : List (List ℕ)) → AreDistinct seen → first_double_after seen names ≡ None → AreDistinct (seen ++ names)
distinct_after seen [] d e = subst (λ l. AreDistinct l) (sym (append-nil seen)) d
distinct_after seen (name ∷ names) d e = go (λ (h : AreDistinct (seen ++ name ∷ [])) (f : first_double_after (seen ++ name ∷ []) names ≡ None). distinct_after (seen ++ name ∷ []) names h f) (stands seen name) refl
  where
    go : (AreDistinct (seen ++ name ∷ []) → first_double_after (seen ++ name ∷ []) names ≡ None → AreDistinct ((seen ++ name ∷ []) ++ names)) → (v : Bool) → stands seen name ≡ v → AreDistinct (seen ++ (name ∷ names))
    go later true hit = absurd (let bad : Some name ≡ None = sym (ap (λ b. cond b (Some name) (first_double_after (seen ++ name ∷ []) names)) hit) ∙ e in cc)
    go later false miss =
        subst (λ (l : List (List ℕ)). AreDistinct l) (append_assoc seen (name ∷ []) names)
        (later (AreDistinct-pushed seen name d (fresh seen name miss)) (sym (ap (λ b. cond b (Some name) (first_double_after (seen ++ name ∷ []) names)) miss) ∙ e))

pub distinct : (names : List (List ℕ)) → first_double names ≡ None → AreDistinct names
distinct names e = distinct_after [] names tt e
