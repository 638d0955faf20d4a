-- A reader is exact for a spelling: it gives a value, and the bytes after it, exactly where these bytes begin with the
-- value's spelling. What may follow is asked of where a spelling alone doesn't tell its end.
use Rattle.std.proofs.Common.{◌≡◌, ◌⊎◌, inl, inr, ℕ, Bool, true, false, ◌&&◌, ◌==◌, if◌then◌else◌, List, [], ◌∷◌, ◌++◌, Option, Some, None, refl, ap, ◌∙◌, arith}
use Rattle.std.proofs.lemmas.Bool.Decides.{nat_tests}
use Rattle.cursor_text.specs.Reader.{Reader, and_then, given, any_byte, byte, by_byte, after_byte}

pub record IsExact {A : Type 0} (V : A → Type 0) (spelling : A → List ℕ) (F : List ℕ → Type 0) (P : Reader A) : Type 0 where
  pub reads : (a : A) (rest : List ℕ) → V a → F rest → P (spelling a ++ rest) ≡ Some (a, rest)
  pub spelled : (bytes rest : List ℕ) (a : A) → P bytes ≡ Some (a, rest) → V a × (bytes ≡ spelling a ++ rest)

abbrev pub Gave : {A : Type 0} → Option (A × List ℕ) → A → List ℕ → Type 0
Gave o a rest = o ≡ Some (a, rest)

some_same : {A : Type 0} (x y : A) → Some x ≡ Some y → x ≡ y
some_same x y e = cc

-- ---- what was given, taken apart

pub same_pair : {A : Type 0} (a b : A) (r s : List ℕ) → Gave (Some (a, r)) b s → (a ≡ b) × (r ≡ s)
same_pair {A} a b r s e =
    let same = some_same (a, r) (b, s) e in
    (ap (λ (p : A × List ℕ). p.0) same, ap (λ (p : A × List ℕ). p.1) same)

pub same_value : {A : Type 0} (a b : A) → Some a ≡ Some b → a ≡ b
same_value a b e = some_same a b e

pub then_of : {A B : Type 0} (o : Option (A × List ℕ)) (f : A → Reader B) (b : B) (rest : List ℕ) → Gave (and_then o f) b rest
    → (a : A) × (mid : List ℕ) × Gave o a mid × Gave (f a mid) b rest
then_of None f b rest e = absurd cc
then_of (Some p) f b rest e = (p.0, p.1, refl, e)

pub given_of : {A : Type 0} (o : Option A) (bytes rest : List ℕ) (a : A) → Gave (given o bytes) a rest → (o ≡ Some a) × (bytes ≡ rest)
given_of None bytes rest a e = absurd cc
given_of (Some b) bytes rest a e =
    let same = same_pair b a bytes rest e in
    (ap (λ (v : _). Some v) same.0, same.1)

pub if_of : {A : Type 0} (v : Bool) (a b : A) → (if v then Some a else None) ≡ Some b → (v ≡ true) × (a ≡ b)
if_of true a b e = (refl, some_same a b e)
if_of false a b e = absurd cc

pub and_of : (v w : Bool) → (v && w) ≡ true → (v ≡ true) × (w ≡ true)
and_of true w e = (refl, e)
and_of false w e = absurd cc

pub any_of : (bytes rest : List ℕ) (b : ℕ) → Gave (any_byte bytes) b rest → bytes ≡ b ∷ rest
any_of [] rest b e = absurd cc
any_of (c ∷ bytes) rest b e =
    let same = same_pair c b bytes rest e in
    ap (λ (d : ℕ). d ∷ bytes) same.0 ∙ ap (λ (z : List ℕ). b ∷ z) same.1

byte_by : (wanted b : ℕ) (bytes rest : List ℕ) (v : Bool) → (b == wanted) ≡ v → (if v then Some (tt, bytes) else None) ≡ (let x : Option (Unit {0} × List ℕ) = Some (tt, rest) in x) → (b ∷ bytes) ≡ wanted ∷ rest
byte_by wanted b bytes rest true k e =
    let same : b ≡ wanted = grind (arith, nat_tests) in
    let after = same_pair tt tt bytes rest e in
    ap (λ (d : ℕ). d ∷ bytes) same ∙ ap (λ (z : List ℕ). wanted ∷ z) after.1
byte_by wanted b bytes rest false k e = absurd cc

pub byte_of : (wanted : ℕ) (bytes rest : List ℕ) → Gave (byte wanted bytes) tt rest → bytes ≡ wanted ∷ rest
byte_of wanted [] rest e = absurd cc
byte_of wanted (b ∷ bytes) rest e = byte_by wanted b bytes rest (b == wanted) refl e

pub after_of : {A : Type 0} (wanted : ℕ) (p q : Reader A) (bytes rest : List ℕ) (a : A) → Gave (after_byte wanted p q bytes) a rest
    → ((z : List ℕ) × (bytes ≡ wanted ∷ z) × Gave (p z) a rest) ⊎ Gave (q bytes) a rest
after_of {A} wanted p q bytes rest a e = by (byte wanted bytes) refl e
  where
    by : (o : Option (Unit {0} × List ℕ)) → byte wanted bytes ≡ o → Gave (by_byte o p q bytes) a rest → ((z : List ℕ) × (bytes ≡ wanted ∷ z) × Gave (p z) a rest) ⊎ Gave (q bytes) a rest
    by None is h = inr h
    by (Some x) is h = inl (x.1, byte_of wanted bytes x.1 is, h)

-- ---- what is read

is_by : (bytes : List ℕ) (v : Bool) → v ≡ true → Gave {A = Unit {0}} (if v then Some (tt, bytes) else None) tt bytes
is_by bytes true e = refl
is_by bytes false e = absurd cc

pub byte_is : (wanted : ℕ) (bytes : List ℕ) → Gave (byte wanted (wanted ∷ bytes)) tt bytes
byte_is wanted bytes = is_by bytes (wanted == wanted) (grind (arith, nat_tests))

not_by : (bytes : List ℕ) (v : Bool) → v ≡ false → (if v then Some (tt, bytes) else None) ≡ (let x : Option (Unit {0} × List ℕ) = None in x)
not_by bytes false e = refl
not_by bytes true e = absurd cc

pub byte_not : (wanted b : ℕ) (bytes : List ℕ) → (b == wanted) ≡ false → byte wanted (b ∷ bytes) ≡ None
byte_not wanted b bytes e = not_by bytes (b == wanted) e

pub if_true : {A : Type 0} (v : Bool) (a : A) → v ≡ true → (if v then Some a else None) ≡ Some a
if_true true a e = refl
if_true false a e = absurd cc

pub after_it : {A : Type 0} (wanted : ℕ) (p q : Reader A) (bytes z : List ℕ) → Gave (byte wanted bytes) tt z → after_byte wanted p q bytes ≡ p z
after_it wanted p q bytes z e = ap (λ (o : Option (Unit {0} × List ℕ)). by_byte o p q bytes) e

pub after_not : {A : Type 0} (wanted : ℕ) (p q : Reader A) (bytes : List ℕ) → byte wanted bytes ≡ None → after_byte wanted p q bytes ≡ q bytes
after_not wanted p q bytes e = ap (λ (o : Option (Unit {0} × List ℕ)). by_byte o p q bytes) e

pub then_gives : {A B : Type 0} (o : Option (A × List ℕ)) (f : A → Reader B) (a : A) (mid : List ℕ) → Gave o a mid → and_then o f ≡ f a mid
then_gives {A} o f a mid e = ap (λ (p : Option (A × List ℕ)). and_then p f) e
