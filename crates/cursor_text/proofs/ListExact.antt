-- The readers of lists and texts are exact.
use Rattle.std.proofs.Common.{◌≡◌, ◌⊎◌, inl, inr, ℕ, zero, suc, ◌<◌, Bool, true, false, ◌==◌, nat_lt, if◌then◌else◌, List, [], ◌∷◌, ◌++◌, length, Option, Some, None, flat_map, refl, sym, ap, subst, ◌∙◌, append_assoc, length-append, arith, IsUtf8}
use Rattle.pg_base.specs.Lists.{Each}
use Rattle.json_out.specs.JsonText.{escaped_byte, escaped, json_text}
use Rattle.cursor_text.specs.CursorText.{later_json, list_json}
use Rattle.cursor_text.specs.Reader.{Reader, and_then, ◌>>=◌, pure, given, byte, after_byte, items_until, until}
use Rattle.cursor_text.specs.Reading.{utf8_of, text_byte, text_rest, text, later, some_items, list}
use Rattle.cursor_text.proofs.Exact.{IsExact, Gave, same_pair, then_of, given_of, byte_of, after_of, byte_is, byte_not, after_it, after_not, then_gives}
use Rattle.cursor_text.proofs.TextExact.{Any, AnyByte, byte_exact}
use Rattle.cursor_text.proofs.Utf8.{utf8_some, utf8_is}

-- ---- items up to the byte that closes them

-- what an item needs for that: it begins otherwise, it has a byte, and what may come after it may follow
pub record IsItem {A : Type 0} (close : ℕ) (V : A → Type 0) (spelling : A → List ℕ) (F : List ℕ → Type 0) : Type 0 where
  pub begins : (x : A) (z : List ℕ) → V x → byte close (spelling x ++ z) ≡ None
  pub some : (x : A) → V x → 0 < length (spelling x)
  pub follows : (xs : List A) (z : List ℕ) → F (flat_map spelling xs ++ close ∷ z)

module _ {A : Type 0} (close : ℕ) (V : A → Type 0) (spelling : A → List ℕ) (F : List ℕ → Type 0) (item : Reader A)
    (x : IsExact V spelling F item) (i : IsItem close V spelling F) where
  abbrev spelled_all : List A → List ℕ
  spelled_all xs = flat_map spelling xs

  long : (xs : List A) (rest : List ℕ) → Each V xs → length xs < length (spelled_all xs ++ close ∷ rest)
  long [] rest all = omega arith
  long (y ∷ xs) rest all =
      let lt = long xs rest all.1 in
      let one = i.some y all.0 in
      let split : (spelled_all (y ∷ xs) ++ close ∷ rest) ≡ spelling y ++ (spelled_all xs ++ close ∷ rest) = append_assoc (spelling y) (spelled_all xs) (close ∷ rest) in
      subst (λ (l : List ℕ). suc (length xs) < length l) (sym split) (omega (arith, length-append (spelling y) (spelled_all xs ++ close ∷ rest), lt, one))

  abbrev goes_on : ℕ → Reader (List A)
  goes_on n = item >>= λ y. items_until close item n >>= λ ys. pure (y ∷ ys)

  items_read : (n : ℕ) (xs : List A) (rest : List ℕ) → Each V xs → length xs < n → items_until close item n (spelled_all xs ++ close ∷ rest) ≡ Some (xs, rest)
  unfolding items_until
  items_read zero xs rest all lt = absurd (omega arith)
  items_read (suc n) [] rest all lt = after_it close (pure []) (goes_on n) (close ∷ rest) rest (byte_is close rest)
  items_read (suc n) (y ∷ xs) rest all lt =
      let z : List ℕ = spelled_all xs ++ close ∷ rest in
      ap (λ (l : List ℕ). after_byte close (pure []) (goes_on n) l) (append_assoc (spelling y) (spelled_all xs) (close ∷ rest))
      ∙ after_not close (pure []) (goes_on n) (spelling y ++ z) (i.begins y z all.0)
      ∙ then_gives (item (spelling y ++ z)) (λ w. items_until close item n >>= λ ys. pure (w ∷ ys)) y z (x.reads y z all.0 (i.follows xs rest))
      ∙ then_gives (items_until close item n z) (λ ys. pure (y ∷ ys)) xs rest (items_read n xs rest all.1 (omega arith))

  abbrev AreSpelled : List ℕ → List A → List ℕ → Type 0
  AreSpelled bytes xs rest = Each V xs × (bytes ≡ spelled_all xs ++ close ∷ rest)

  more_spelled : (bytes mid rest : List ℕ) (y : A) (ys xs : List A) → V y → bytes ≡ spelling y ++ mid → AreSpelled mid ys rest → (y ∷ ys) ≡ xs → AreSpelled bytes xs rest
  more_spelled bytes mid rest y ys xs v first others same =
      subst (λ (l : List A). AreSpelled bytes l rest) same
      ((v, others.0), first ∙ ap (λ (l : List ℕ). spelling y ++ l) others.1 ∙ sym (append_assoc (spelling y) (spelled_all ys) (close ∷ rest)))

  none_spelled : (bytes z rest : List ℕ) (xs : List A) → bytes ≡ close ∷ z → Gave (Some ([], z)) xs rest → AreSpelled bytes xs rest
  none_spelled bytes z rest xs is e =
      let same = same_pair [] xs z rest e in
      subst (λ (l : List A). AreSpelled bytes l rest) same.0 (tt, is ∙ ap (λ (l : List ℕ). close ∷ l) same.1)

  items_by : (n : ℕ) (bytes rest : List ℕ) (xs : List A) → ((b r : List ℕ) (ys : List A) → items_until close item n b ≡ Some (ys, r) → AreSpelled b ys r)
      → ((z : List ℕ) × (bytes ≡ close ∷ z) × Gave (pure {A = List A} [] z) xs rest) ⊎ Gave (goes_on n bytes) xs rest → AreSpelled bytes xs rest
  items_by n bytes rest xs again (inl p) = none_spelled bytes p.0 rest xs p.1 p.2
  items_by n bytes rest xs again (inr h) =
      let p = then_of (item bytes) (λ y. items_until close item n >>= λ ys. pure (y ∷ ys)) xs rest h in
      let q = then_of (items_until close item n p.1) (λ ys. pure (p.0 ∷ ys)) xs rest p.3 in
      let same = same_pair (p.0 ∷ q.0) xs q.1 rest q.3 in
      let first = x.spelled bytes p.1 p.0 p.2 in
      let others : AreSpelled p.1 q.0 rest = subst (λ (l : List ℕ). AreSpelled p.1 q.0 l) same.1 (again p.1 q.1 q.0 q.2) in
      more_spelled bytes p.1 rest p.0 q.0 xs first.0 first.1 others same.0

  items_spelled : (n : ℕ) (bytes rest : List ℕ) (xs : List A) → items_until close item n bytes ≡ Some (xs, rest) → AreSpelled bytes xs rest
  unfolding items_until
  items_spelled zero bytes rest xs e = absurd cc
  items_spelled (suc n) bytes rest xs e =
      items_by n bytes rest xs (λ b r ys h. items_spelled n b r ys h) (after_of close (pure []) (goes_on n) bytes rest xs e)

  abbrev closed_spelling : List A → List ℕ
  closed_spelling xs = spelled_all xs ++ close ∷ []

  seam : (xs : List A) (rest : List ℕ) → (closed_spelling xs ++ rest) ≡ spelled_all xs ++ close ∷ rest
  seam xs rest = append_assoc (spelled_all xs) (close ∷ []) rest

  pub until_exact : IsExact (Each V) closed_spelling Any (until close item)
  unfolding until
  until_exact = record {
    reads = λ xs rest all any.
        ap (λ (l : List ℕ). items_until close item (length l) l) (seam xs rest)
        ∙ items_read (length (spelled_all xs ++ close ∷ rest)) xs rest all (long xs rest all);
    spelled = λ bytes rest xs e.
        let s = items_spelled (length bytes) bytes rest xs e in (s.0, s.1 ∙ sym (seam xs rest));
  }

-- ---- texts

chain : (Q : List ℕ → Type 0) (v : Bool) (x others : List ℕ) → Q x → (v ≡ false → Q others) → Q (if v then x else others)
chain Q true x others first later = first
chain Q false x others first later = later refl

-- by its escape, or as it stands
by_escape : (Q : List ℕ → Type 0) (b : ℕ) → ((c : ℕ) (l : List ℕ) → Q (92 ∷ c ∷ l)) → ((b == 34) ≡ false → Q (b ∷ [])) → Q (escaped_byte b)
unfolding escaped_byte
by_escape Q b escape raw =
    chain Q (b == 34) _ _ (escape _ _) (λ quote.
    chain Q (b == 92) _ _ (escape _ _) (λ _.
    chain Q (b == 8) _ _ (escape _ _) (λ _.
    chain Q (b == 9) _ _ (escape _ _) (λ _.
    chain Q (b == 10) _ _ (escape _ _) (λ _.
    chain Q (b == 12) _ _ (escape _ _) (λ _.
    chain Q (b == 13) _ _ (escape _ _) (λ _.
    chain Q (nat_lt b 32) _ _ (escape _ _) (λ _. raw quote))))))))

text_item : IsItem 34 AnyByte escaped_byte Any
text_item = record {
  begins = λ b z any. by_escape (λ (l : List ℕ). byte 34 (l ++ z) ≡ None) b (λ c l. refl) (λ quote. byte_not 34 b z quote);
  some = λ b any. by_escape (λ (l : List ℕ). 0 < length l) b (λ c l. omega arith) (λ quote. omega arith);
  follows = λ xs z. tt;
}

text_bytes_exact : IsExact (Each AnyByte) (λ bytes. escaped bytes ++ 34 ∷ []) Any (until 34 text_byte)
text_bytes_exact = until_exact 34 AnyByte escaped_byte Any text_byte byte_exact text_item

each_any : (bytes : List ℕ) → Each AnyByte bytes
each_any [] = tt
each_any (b ∷ bytes) = (tt, each_any bytes)

abbrev pub text_end : List ℕ → List ℕ
text_end t = escaped t ++ 34 ∷ []

pub text_rest_exact : IsExact IsUtf8 text_end Any text_rest
unfolding text_rest
text_rest_exact = record {
  reads = λ t rest u any.
      then_gives (until 34 text_byte (text_end t ++ rest)) (λ bytes. given (utf8_of bytes)) t rest (text_bytes_exact.reads t rest (each_any t) tt)
      ∙ ap (λ (o : Option (List ℕ)). given o rest) (utf8_some t u);
  spelled = λ bytes rest t e.
      let p = then_of (until 34 text_byte bytes) (λ found. given (utf8_of found)) t rest e in
      let g = given_of (utf8_of p.0) p.1 rest t p.3 in
      let u = utf8_is p.0 t g.0 in
      let s = (text_bytes_exact.spelled bytes p.1 p.0 p.2).1 in
      (u.0, subst (λ (l : List ℕ). bytes ≡ text_end l ++ rest) u.1 (subst (λ (r : List ℕ). bytes ≡ text_end p.0 ++ r) g.1 s));
}

pub text_exact : IsExact IsUtf8 json_text Any text
unfolding text
text_exact = record {
  reads = λ t rest u any. text_rest_exact.reads t rest u any;
  spelled = λ bytes rest t e.
      let p = then_of (byte 34 bytes) (λ quote. text_rest) t rest e in
      let s = text_rest_exact.spelled p.1 rest t p.3 in
      (s.0, byte_of 34 bytes p.1 p.2 ∙ ap (λ (l : List ℕ). 34 ∷ l) s.1);
}

-- ---- lists

module _ {A : Type 0} (V : A → Type 0) (json : A → List ℕ) (F : List ℕ → Type 0) (item : Reader A)
    (x : IsExact V json F item) (begins : (a : A) (z : List ℕ) → V a → byte 93 (json a ++ z) ≡ None)
    (comma : (z : List ℕ) → F (44 ∷ z)) (bracket : (z : List ℕ) → F (93 ∷ z)) where
  abbrev later_spelling : A → List ℕ
  later_spelling a = 44 ∷ json a

  later_exact : IsExact V later_spelling F (later item)
  unfolding later
  later_exact = record {
    reads = λ a rest v f. x.reads a rest v f;
    spelled = λ bytes rest a e.
        let p = then_of (byte 44 bytes) (λ c. item) a rest e in
        let s = x.spelled p.1 rest a p.3 in
        (s.0, byte_of 44 bytes p.1 p.2 ∙ ap (λ (l : List ℕ). 44 ∷ l) s.1);
  }

  later_item : IsItem 93 V later_spelling F
  later_item = record {
    begins = λ a z v. refl;
    some = λ a v. omega arith;
    follows = λ xs z. by xs z;
  }
    where
      by : (xs : List A) (z : List ℕ) → F (flat_map later_spelling xs ++ 93 ∷ z)
      by [] z = bracket z
      by (a ∷ xs) z = comma ((json a ++ flat_map later_spelling xs) ++ 93 ∷ z)

  others_exact : IsExact (Each V) (later_json json) Any (until 93 (later item))
  others_exact = until_exact 93 V later_spelling F (later item) later_exact later_item

  after_first : (xs : List A) (rest : List ℕ) → F (later_json json xs ++ rest)
  after_first [] rest = bracket rest
  after_first (a ∷ xs) rest = comma (((json a ++ flat_map later_spelling xs) ++ 93 ∷ []) ++ rest)

  abbrev AreListed : List ℕ → List A → List ℕ → Type 0
  AreListed bytes xs rest = Each V xs × (bytes ≡ list_json json xs ++ rest)

  some_read : (a : A) (xs : List A) (rest : List ℕ) → Each V (a ∷ xs) → some_items item ((json a ++ later_json json xs) ++ rest) ≡ Some (a ∷ xs, rest)
  unfolding some_items
  some_read a xs rest all =
      let z : List ℕ = later_json json xs ++ rest in
      ap (λ (l : List ℕ). and_then (item l) (λ y. until 93 (later item) >>= λ ys. pure (y ∷ ys))) (append_assoc (json a) (later_json json xs) rest)
      ∙ then_gives (item (json a ++ z)) (λ y. until 93 (later item) >>= λ ys. pure (y ∷ ys)) a z (x.reads a z all.0 (after_first xs rest))
      ∙ then_gives (until 93 (later item) z) (λ ys. pure (a ∷ ys)) xs rest (others_exact.reads xs rest all.1 tt)

  list_reads : (xs : List A) (rest : List ℕ) → Each V xs → list item (list_json json xs ++ rest) ≡ Some (xs, rest)
  unfolding list
  list_reads [] rest all = refl
  list_reads (a ∷ xs) rest all =
      let same = append_assoc (json a) (later_json json xs) rest in
      after_not 93 (pure []) (some_items item) ((json a ++ later_json json xs) ++ rest)
      (subst (λ (l : List ℕ). byte 93 l ≡ None) (sym same) (begins a (later_json json xs ++ rest) all.0))
      ∙ some_read a xs rest all

  some_spelled : (bytes rest : List ℕ) (xs : List A) → some_items item bytes ≡ Some (xs, rest) → AreListed (91 ∷ bytes) xs rest
  unfolding some_items
  some_spelled bytes rest xs e =
      let p = then_of (item bytes) (λ y. until 93 (later item) >>= λ ys. pure (y ∷ ys)) xs rest e in
      let q = then_of (until 93 (later item) p.1) (λ ys. pure (p.0 ∷ ys)) xs rest p.3 in
      let same = same_pair (p.0 ∷ q.0) xs q.1 rest q.3 in
      let first = x.spelled bytes p.1 p.0 p.2 in
      let others = others_exact.spelled p.1 q.1 q.0 q.2 in
      joined bytes p.1 q.1 rest p.0 q.0 xs first.0 first.1 others.0 others.1 same.0 same.1
    where
      joined : (bytes mid after rest : List ℕ) (a : A) (ys xs : List A) → V a → bytes ≡ json a ++ mid → Each V ys → mid ≡ later_json json ys ++ after → (a ∷ ys) ≡ xs → after ≡ rest → AreListed (91 ∷ bytes) xs rest
      joined bytes mid after rest a ys xs v first all others same is =
          subst (λ (l : List A). AreListed (91 ∷ bytes) l rest) same (
            (v, all),
            ap (λ (l : List ℕ). 91 ∷ l)
                (first ∙ ap (λ (l : List ℕ). json a ++ l) others ∙ ap (λ (l : List ℕ). json a ++ (later_json json ys ++ l)) is
                ∙ sym (append_assoc (json a) (later_json json ys) rest)),
          )

  list_spelled : (bytes rest : List ℕ) (xs : List A) → list item bytes ≡ Some (xs, rest) → AreListed bytes xs rest
  unfolding list
  list_spelled bytes rest xs e =
      let p = then_of (byte 91 bytes) (λ open_bracket. after_byte 93 (pure []) (some_items item)) xs rest e in
      subst (λ (l : List ℕ). AreListed l xs rest) (sym (byte_of 91 bytes p.1 p.2)) (by p.1 (after_of 93 (pure []) (some_items item) p.1 rest xs p.3))
    where
      by : (z : List ℕ) → ((y : List ℕ) × (z ≡ 93 ∷ y) × Gave (pure {A = List A} [] y) xs rest) ⊎ Gave (some_items item z) xs rest → AreListed (91 ∷ z) xs rest
      by z (inl h) =
          let same = same_pair [] xs h.0 rest h.2 in
          subst (λ (l : List A). AreListed (91 ∷ z) l rest) same.0
          (tt, ap (λ (l : List ℕ). 91 ∷ l) (h.1 ∙ ap (λ (l : List ℕ). 93 ∷ l) same.1))
      by z (inr h) = some_spelled z rest xs h

  pub list_exact : IsExact (Each V) (list_json json) Any (list item)
  list_exact = record { reads = λ xs rest all any. list_reads xs rest all; spelled = list_spelled }
