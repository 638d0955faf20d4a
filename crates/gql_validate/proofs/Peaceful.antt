-- Where sets are related so that steps lead to related ones, and no fields differ that meet in related sets, nothing
-- breaks the rule.
use Rattle.std.proofs.Common.{◌≡◌, ◌⊎◌, inl, inr, ℕ, true, List, subst}
use Rattle.std.specs.Prelude.{nat_lt, IsTrue}
use Rattle.std.proofs.lemmas.Bool.{and_parts}
use Rattle.gql_nodes.specs.Nodes.{At}
use Rattle.gql_nodes.specs.Reached.{IsIn, starts as begin, goes_on, ReachedBy}
use Rattle.gql_validate.specs.declared.pairs.Pair.{Pair}
use Rattle.gql_validate.specs.FieldSelectionMerging.{fields_of, sets_of, both, share_key, field_at, meet, differ, Breaks}
use Rattle.gql_validate.specs.SetPairs.{field_pairs, steps, starts, IsSpoiled, clash, further}
use Rattle.gql_validate.proofs.PairLists.{pair, met, differing, Below, both_sets, first_set, second_set, Step, enter_first, enter_second, go_below, step_of}
use Rattle.gql_validate.proofs.CannotMerge.{Start, from_starts, BadBelow, breaks_in}

pub record IsPeaceful (nodes : List At) (Related : ℕ → ℕ → Type 0) : Type 0 where
  pub self : (s : ℕ) → Related s s
  pub turned : (s t : ℕ) → Related s t → Related t s
  pub entered : (s t set : ℕ) → Related s t → IsIn (sets_of nodes s) set → Related set t
  pub below : (s t f g : ℕ) → Related s t → IsIn (fields_of nodes s) f → IsIn (fields_of nodes t) g
      → both share_key (field_at nodes f) (field_at nodes g) ≡ true → Related f g
  pub alike : (s t f g : ℕ) → Related s t → IsIn (fields_of nodes s) f → IsIn (fields_of nodes t) g
      → both share_key (field_at nodes f) (field_at nodes g) ≡ true → differ nodes f g ≡ true → ⊥

module _ (nodes : List At) (Related : ℕ → ℕ → Type 0) (q : IsPeaceful nodes Related) where
  shares : (f g : ℕ) → IsTrue (meet nodes f g) → both share_key (field_at nodes f) (field_at nodes g) ≡ true
  shares f g m = (and_parts (nat_lt f g) (both share_key (field_at nodes f) (field_at nodes g)) m).1

  abbrev Stand : Pair → Pair → Type 0
  Stand p m = (IsIn (fields_of nodes p.first) m.first × IsIn (fields_of nodes p.second) m.second) ⊎ (IsIn (fields_of nodes p.second) m.first × IsIn (fields_of nodes p.first) m.second)

  related_by : (p m : Pair) → Related p.first p.second → IsTrue (meet nodes m.first m.second) → Stand p m → Related m.first m.second
  related_by p m r t (inl h) = q.below p.first p.second m.first m.second r h.0 h.1 (shares m.first m.second t)
  related_by p m r t (inr h) = q.below p.second p.first m.first m.second (q.turned p.first p.second r) h.0 h.1 (shares m.first m.second t)

  met_related : (p m : Pair) → Related p.first p.second → IsIn (field_pairs nodes p) m → Related m.first m.second
  met_related p m r h = let w = met nodes (fields_of nodes p.first) (fields_of nodes p.second) m h in related_by p m r w.meet w.stand

  differ_by : (p m : Pair) → Related p.first p.second → IsTrue (meet nodes m.first m.second) → Stand p m → differ nodes m.first m.second ≡ true → ⊥
  differ_by p m r t (inl h) d = q.alike p.first p.second m.first m.second r h.0 h.1 (shares m.first m.second t) d
  differ_by p m r t (inr h) d = q.alike p.second p.first m.first m.second (q.turned p.first p.second r) h.0 h.1 (shares m.first m.second t) d

  never_differ : (p m : Pair) → Related p.first p.second → IsIn (field_pairs nodes p) m → differ nodes m.first m.second ≡ true → ⊥
  never_differ p m r h d = let w = met nodes (fields_of nodes p.first) (fields_of nodes p.second) m h in differ_by p m r w.meet w.stand d

  below_related : (m x : Pair) → Related m.first m.second → Below nodes m x → Related x.first x.second
  below_related m _ r (both_sets d e) = r
  below_related m _ r (first_set d) = q.self m.first
  below_related m _ r (second_set d) = q.self m.second

  step_related : (p x : Pair) → Related p.first p.second → Step nodes p x → Related x.first x.second
  step_related p _ r (enter_first set h) = q.entered p.first p.second set r h
  step_related p _ r (enter_second set h) = q.turned set p.first (q.entered p.second p.first set (q.turned p.first p.second r) h)
  step_related p x r (go_below m h b) = below_related m x (met_related p m r h) b

  start_related : (bound : ℕ) (p : Pair) → Start nodes bound p → Related p.first p.second
  start_related bound p s = subst (λ (x : Pair). Related x.first x.second) s.is (q.self s.set)

  closed_related : (p : Pair) → ReachedBy (starts nodes) (steps nodes) p → Related p.first p.second
  closed_related p (begin h) = start_related _ p (from_starts nodes 0 nodes p h)
  closed_related p (goes_on {m = m} r h) = step_related m p (closed_related m r) (step_of nodes m p h)

  never_spoiled : (p : Pair) → IsSpoiled nodes p → Related p.first p.second → ⊥
  never_spoiled p (clash e) r = let d = differing nodes (field_pairs nodes p) e in never_differ p d.pair r d.stands d.differ
  never_spoiled p (further x h s) r = never_spoiled x s (step_related p x r (step_of nodes p x h))

  quiet_by : (sets : Pair) (first place : ℕ) → Related sets.first sets.second → IsIn (field_pairs nodes sets) (pair first place) → IsTrue (differ nodes first place) ⊎ BadBelow nodes first place → ⊥
  quiet_by sets first place r h (inl d) = never_differ sets (pair first place) r h d
  quiet_by sets first place r h (inr b) = never_spoiled b.sets b.spoiled (below_related (pair first place) b.sets (met_related sets (pair first place) r h) b.below)

  pub quiet : (place : ℕ) → Breaks nodes place → ⊥
  quiet place b = let i = breaks_in nodes place b in quiet_by i.sets i.first place (closed_related i.sets i.closed) i.stands i.bad
