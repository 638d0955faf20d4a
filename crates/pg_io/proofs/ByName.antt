-- Files and counts that are found by their name.
use Rattle.std.proofs.Common.{◌≡◌, ℕ, ◌+◌, ◌-◌, ◌^◌, ◌<◌, min, true, false, cond, List, [], ◌∷◌, ◌++◌, length, get_or, drop, take, refl, ap, sym, subst, ◌∙◌, add-one, append-nil, arith}
use Rattle.std.proofs.lemmas.List.{take-append-drop}
use Rattle.std.proofs.lemmas.Slice.Eq.{bytes_eq-Decides}
use Rattle.std.specs.Prelude.{slice_set}
use Rattle.std.specs.Str.{bytes_eq}
use Rattle.pg_base.specs.Lists.{Each}
use Rattle.pg_base.proofs.ListSteps.{drop-item, set_seam}
use Rattle.pg_io.specs.declared.mem_files.MemFile.{MemFile}
use Rattle.pg_io.specs.Files.{Absent, Holds}
use Rattle.pg_io.specs.MemFiles.{file_of}
use Rattle.pg_io.specs.declared.counts.NameCount.{NameCount}
use Rattle.pg_io.specs.Streams.{Rose}
use Rattle.pg_io.specs.Counts.{count_of, one_more, Raises}

pub file_of-hit : (files : List MemFile) (i : ℕ) (f : MemFile) (name : List ℕ) → i < length files → f ≡ get_or files i f → bytes_eq f.name name ≡ true → file_of (drop i files) name ≡ Holds f.bytes
unfolding file_of
file_of-hit files i f name lt is hit = rw (drop-item files i f lt is, hit) refl

pub file_of-miss : (files : List MemFile) (i : ℕ) (f : MemFile) (name : List ℕ) → i < length files → f ≡ get_or files i f → bytes_eq f.name name ≡ false → file_of (drop i files) name ≡ file_of (drop (i + 1) files) name
unfolding file_of
file_of-miss files i f name lt is miss = rw (drop-item files i f lt is, miss) refl

pub file_of-none : (files : List MemFile) (name : List ℕ) → files ≡ [] → file_of files name ≡ Absent
unfolding file_of
file_of-none files name e = rw e refl

pub count_of-none : (name : List ℕ) → count_of [] name ≡ 0
unfolding count_of
count_of-none name = refl

-- ---- counting one more fault

-- none of the counts is the name's
abbrev pub NoneNamed : List NameCount → List ℕ → Type 0
NoneNamed counts name = Each (λ c. bytes_eq c.name name ≡ false) counts

pub NoneNamed-append : (counts : List NameCount) (c : NameCount) (name : List ℕ) → NoneNamed counts name → bytes_eq c.name name ≡ false → NoneNamed (counts ++ c ∷ []) name
NoneNamed-append [] c name h miss = (miss, tt)
NoneNamed-append (d ∷ counts) c name h miss = (h.0, NoneNamed-append counts c name h.1 miss)

count_of-front : (front more : List NameCount) (name : List ℕ) → NoneNamed front name → count_of (front ++ more) name ≡ count_of more name
unfolding count_of
count_of-front [] more name h = refl
count_of-front (c ∷ front) more name h = rw h.0 (count_of-front front more name h.1)

-- what stands behind decides, where it counts alike
count_of-behind : (front a b : List NameCount) (name : List ℕ) → count_of a name ≡ count_of b name → count_of (front ++ a) name ≡ count_of (front ++ b) name
unfolding count_of
count_of-behind [] a b name e = e
count_of-behind (c ∷ front) a b name e = ap (λ n. cond (bytes_eq c.name name) c.faults n) (count_of-behind front a b name e)

count_of-first : (c : NameCount) (rest : List NameCount) (name : List ℕ) → bytes_eq c.name name ≡ true → count_of (c ∷ rest) name ≡ c.faults
unfolding count_of
count_of-first c rest name hit = rw hit refl

count_of-other : (c : NameCount) (rest : List NameCount) (name : List ℕ) → bytes_eq c.name name ≡ false → count_of (c ∷ rest) name ≡ count_of rest name
unfolding count_of
count_of-other c rest name miss = rw miss refl

same : (a b : List ℕ) → bytes_eq a b ≡ true → a ≡ b
same a b e = (bytes_eq-Decides a b).0 e

differs : (a b : List ℕ) → (a ≡ b → ⊥) → bytes_eq a b ≡ false
differs a b ne = elim (bytes_eq a b) as (λ v. bytes_eq a b ≡ v → bytes_eq a b ≡ false) [ true ↦ (λ e. absurd (ne (same a b e))) | false ↦ (λ e. e) ] refl

itself : (a : List ℕ) → bytes_eq a a ≡ true
itself a = (bytes_eq-Decides a a).1 refl

rises : (n : ℕ) → n < 2 ^ 64 → Rose n (min (n + 1) (2 ^ 64 - 1))
rises n small = (omega arith, omega arith)

pub raises_first : (front rest : List NameCount) (c : NameCount) (name : List ℕ) → NoneNamed front name → bytes_eq c.name name ≡ true → c.faults < 2 ^ 64 → Raises (front ++ c ∷ rest) (front ++ one_more c ∷ rest) name
raises_first front rest c name none hit small = record {
  rose =
      let before = count_of-front front (c ∷ rest) name none ∙ count_of-first c rest name hit in
      let now = count_of-front front (one_more c ∷ rest) name none ∙ count_of-first (one_more c) rest name hit in
      rw (before, now) (rises c.faults small);
  others = λ other ne.
      let miss = differs c.name other (λ e. ne (sym e ∙ same c.name name hit)) in
      count_of-behind front (one_more c ∷ rest) (c ∷ rest) other (count_of-other (one_more c) rest other miss ∙ sym (count_of-other c rest other miss));
}

pub raises_new : (counts : List NameCount) (name : List ℕ) → NoneNamed counts name → Raises counts (counts ++ record { name = name; faults = 1 } ∷ []) name
raises_new counts name none = record {
  rose =
      let before : count_of counts name ≡ 0 = ap (λ (l : List NameCount). count_of l name) (sym (append-nil counts)) ∙ count_of-front counts [] name none ∙ count_of-none name in
      let now = count_of-front counts (record { name = name; faults = 1 } ∷ []) name none ∙ count_of-first (record { name = name; faults = 1 }) [] name (itself name) in
      rw (before, now) (omega arith, omega arith);
  others = λ other ne.
      count_of-behind counts (record { name = name; faults = 1 } ∷ []) [] other (count_of-other (record { name = name; faults = 1 }) [] other (differs name other (λ e. ne (sym e)))) ∙ ap (λ (l : List NameCount). count_of l other) (append-nil counts);
}

item_is : (xs : List NameCount) (i : ℕ) (c d : NameCount) → i < length xs → c ≡ get_or xs i c → d ≡ get_or xs i d → c ≡ d
item_is xs i c d lt is got = let a = drop-item xs i c lt is in let b = drop-item xs i d lt got in cc

-- the count at a place, with none of the name's before it
pub raises_at : (counts : List NameCount) (i : ℕ) (c d : NameCount) (name : List ℕ) → i < length counts → c ≡ get_or counts i c → NoneNamed (take i counts) name → bytes_eq c.name name ≡ true → d ≡ get_or counts i d → d.faults < 2 ^ 64
    → Raises counts (slice_set counts i (one_more d)) name
raises_at counts i c d name lt is none hit got small =
    let same_item : c ≡ d = item_is counts i c d lt is got in
    let hits : bytes_eq d.name name ≡ true = subst (λ (x : NameCount). bytes_eq x.name name ≡ true) same_item hit in
    let whole : counts ≡ take i counts ++ d ∷ drop (i + 1) counts = sym (take-append-drop i counts) ∙ ap (λ (l : List NameCount). take i counts ++ l) (drop-item counts i c lt is ∙ ap (λ (x : NameCount). x ∷ drop (i + 1) counts) same_item) in
    let replaced : slice_set counts i (one_more d) ≡ take i counts ++ one_more d ∷ drop (i + 1) counts = set_seam counts i (one_more d) lt ∙ ap (λ (n : ℕ). take i counts ++ one_more d ∷ drop n counts) (sym (add-one i)) in
    subst (λ (l : List NameCount). Raises l (slice_set counts i (one_more d)) name) (sym whole) (subst (λ (l : List NameCount). Raises (take i counts ++ d ∷ drop (i + 1) counts) l name) (sym replaced) (raises_first (take i counts) (drop (i + 1) counts) d name none hits small))
