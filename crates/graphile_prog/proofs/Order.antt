-- Stages, one list after another.
use Rattle.std.proofs.Common.{inl, inr, List, [], ◌∷◌, ◌++◌}
use Rattle.std.specs.Prelude.{⊤}
use Rattle.graphile_prog.specs.Stages.{Stage, Ends, AreRefused, ArePassed}
use Rattle.graphile_prog.specs.declared.status.Status.{Status}

pub refused_first : (xs ys : List Stage) (s : Status) → AreRefused xs s → AreRefused (xs ++ ys) s
refused_first [] ys s r = absurd r
refused_first (x ∷ xs) ys s (inl r) = inl r
refused_first (x ∷ xs) ys s (inr r) = inr (r.0, refused_first xs ys s r.1)

pub refused_later : (xs ys : List Stage) (s : Status) → ArePassed xs → AreRefused ys s → AreRefused (xs ++ ys) s
refused_later [] ys s p r = r
refused_later (x ∷ xs) ys s p r = inr (p.0, refused_later xs ys s p.1 r)

pub passed_both : (xs ys : List Stage) → ArePassed xs → ArePassed ys → ArePassed (xs ++ ys)
passed_both [] ys p q = q
passed_both (x ∷ xs) ys p q = (p.0, passed_both xs ys p.1 q)

pub passed_split : (xs ys : List Stage) → ArePassed (xs ++ ys) → ArePassed xs × ArePassed ys
passed_split [] ys p = (tt, p)
passed_split (x ∷ xs) ys p = let q = passed_split xs ys p.1 in ((p.0, q.0), q.1)

pub ends_refused : (xs : List Stage) (Last : Status → Type 0) (s : Status) → AreRefused xs s → Ends xs Last s
ends_refused [] Last s r = absurd r
ends_refused (x ∷ xs) Last s (inl r) = inl r
ends_refused (x ∷ xs) Last s (inr r) = inr (r.0, ends_refused xs Last s r.1)

pub ends_passed : (xs : List Stage) (Last : Status → Type 0) (s : Status) → ArePassed xs → Last s → Ends xs Last s
ends_passed [] Last s p l = l
ends_passed (x ∷ xs) Last s p l = inr (p.0, ends_passed xs Last s p.1 l)

-- no stage refuses
abbrev pub RefuseNone : List Stage → Type 0
RefuseNone [] = ⊤
RefuseNone (x ∷ xs) = ((s : Status) → x.refuses s → ⊥) × RefuseNone xs

pub none_both : (xs ys : List Stage) → RefuseNone xs → RefuseNone ys → RefuseNone (xs ++ ys)
none_both [] ys p q = q
none_both (x ∷ xs) ys p q = (p.0, none_both xs ys p.1 q)

pub past : (xs : List Stage) (Last : Status → Type 0) (s : Status) → RefuseNone xs → Ends xs Last s → Last s
past [] Last s n e = e
past (x ∷ xs) Last s n (inl r) = absurd (n.0 s r)
past (x ∷ xs) Last s n (inr e) = past xs Last s n.1 e.1
