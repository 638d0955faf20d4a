-- Turns and joins from their parts, as contracts tell them.
use Rattle.std.proofs.Common.{◌≡◌, ℕ, ◌+◌, ◌<◌, ◌≤◌, Bool, true, false, List, [], ◌∷◌, ◌++◌, length, get_or, sym, refl, ap, ◌∙◌, subst, arith, Option, Some, None, MatchBool, length-append, All, le_refl, ⊎_elim}
use Rattle.std.proofs.lemmas.List.{map-append, append-nil, length-map}
use Rattle.std.proofs.lemmas.List.Elements.{All-append}
use Rattle.std.proofs.Math.ListN.{get_or-append}
use Rattle.std.proofs.Math.Seq.{get_or-append_seam}
use Rattle.std.specs.List.Sorted.{IsNonDecreasing}
use mathlib.Core.Logic.{dite}
use native.Mathlib.Decide.{ℕ_discrete}
use mathlib.Core.Option.{some, some-injective}
use lib.ListN.{get_elem?}
use mathlib.Core.List.{IsPrefix}
use Rattle.atomic_table.specs.Table.{Me}
use Rattle.atomic_table.specs.Seated.{TableId}
use Rattle.turn_cell.specs.declared.view.Entry.{Entry}
use Rattle.turn_cell.specs.declared.view.View.{View}
use Rattle.turn_cell.specs.declared.view.Stage.TheVariants.{Idle, Holding}
use Rattle.turn_cell.specs.Histories.{entry, plain, marked, made_by}
use Rattle.turn_cell.specs.Seats.{SeatFacts, IsSeat, IsFresh, Turned, Joined, joined_of, AreNumbered, HaveOwnNumbers}
use Rattle.turn_cell.specs.Rule.{facts_of, IsAtRest, first_view}
use Rattle.turn_cell.specs.Moves.{raised, passed, rested, begun_with, left_of, right_of, both_of, cover_of, longer, Known}
use Rattle.turn_cell.proofs.Views.{all_one, prefix_trans, prefix_length, prefix_longer, prefix_longer_too, longer_either, made_by-within, made_by-snoc, made_by-marked, snoc_at, at_after}

module _ {E : Type 0} where
  pub plain_more : (h : List (Entry E)) (k : ℕ) (e : E) → plain (h ++ entry k e ∷ []) ≡ plain h ++ e ∷ []
  plain_more h k e = map-append (λ (x : Entry E). x.what) h (entry k e ∷ [])

module _ {B : Type 0} where
  abbrev body_or : B → Option B → B
  body_or d (Some b) = b
  body_or d None = d

  abbrev body_in : B → List (ℕ × Option B) → B
  body_in d [] = d
  body_in d (x ∷ xs) = body_or d x.1

  pub same_body : (m : List (ℕ × Option B)) (a b : B) → m ≡ (0, Some a) ∷ [] → m ≡ (0, Some b) ∷ [] → a ≡ b
  same_body m a b p q = ap (body_in a) (sym p ∙ q)

  pub full : (l : List (Option B)) (b : B) (x : Option B) → get_elem? l 0 ≡ some (Some b) → get_elem? l 0 ≡ some x → x ≡ Some b
  full l b x p q = some-injective x (Some b) (sym q ∙ p)

  pub not_none : (b : B) (x : Option B) → x ≡ Some b → x ≡ None → ⊥
  not_none b x p q = cc

  pub same_in : (b c : B) (x : Option B) → x ≡ Some b → x ≡ Some c → b ≡ c
  same_in b c x p q = cc

-- numbers that don't fall, and one more that is no smaller
pub rising_more : (ns : List ℕ) (n m : ℕ) → IsNonDecreasing ns → All (λ k. k ≤ m) ns → m ≤ n → IsNonDecreasing (ns ++ n ∷ [])
rising_more ns n m up below le i j d i≤j j< =
    let len = length-append ns (n ∷ []) in dite (ℕ_discrete j (length ns))
    (λ e. let at_j : get_or (ns ++ n ∷ []) j d ≡ n = ap (λ k. get_or (ns ++ n ∷ []) k d) e ∙ get_or-append_seam ns n [] d in
    dite (ℕ_discrete i (length ns))
    (λ e'. let same : i ≡ j = e' ∙ sym e in let t : get_or (ns ++ n ∷ []) i d ≡ get_or (ns ++ n ∷ []) j d = ap (λ k. get_or (ns ++ n ∷ []) k d) same in omega arith)
    (λ ne. let at_i = get_or-append ns (n ∷ []) d i (omega arith) in let b = below i d (omega arith) in omega arith))
    (λ ne. let at_j = get_or-append ns (n ∷ []) d j (omega arith) in let at_i = get_or-append ns (n ∷ []) d i (omega arith) in let b = up i j d i≤j (omega arith) in omega arith)

module _ {E F : Type 0} where
  -- all that a seat had seen is in the history after its turn, and its own entries are those of its number
  after_event : (does : List E → List E → Type 0) (b : Bool) (s t : SeatFacts E F) (before : List (Entry E)) → made_by s.number before ≡ s.own
      → MatchBool b ((e : E) × (t.seen ≡ before ++ entry s.number e ∷ []) × (t.own ≡ s.own ++ e ∷ []) × does (plain before) (plain before ++ e ∷ [])) ((t.seen ≡ before) × (t.own ≡ s.own) × does (plain before) (plain before))
      → IsPrefix before t.seen × (made_by s.number t.seen ≡ t.own)
  after_event does true s t before own e = (
    (entry s.number e.0 ∷ [], sym e.1),
    ap (made_by s.number) e.1 ∙ (made_by-snoc s.number before s.number e.0 refl ∙ (ap (λ (l : List E). l ++ e.0 ∷ []) own ∙ sym e.2)),
  )
  after_event does false s t before own e = (([], append-nil before ∙ sym e.0), ap (made_by s.number) e.0 ∙ (own ∙ sym e.1))

  pub seat_after : (does : List E → List E → Type 0) (b : Bool) (s t : SeatFacts E F) → IsSeat s → Turned does b s t → IsSeat t
  seat_after does b s t k d =
      let a = after_event does b s t d.before d.own d.event in
      let grown : IsPrefix s.seen t.seen = prefix_trans s.seen d.before t.seen d.seen a.0 in
      let num : t.number ≡ s.number = ap (λ (x : SeatFacts E F). x.number) d.same in
      let op : t.opening ≡ s.opening = ap (λ (x : SeatFacts E F). x.opening) d.same in
      let lo = prefix_length s.seen t.seen grown in
      let first = prefix_length (marked 0 s.opening) s.seen k.begins in let len : length (marked 0 s.opening) ≡ length s.opening = length-map s.opening (entry 0) in
      let at : length t.opening ≡ length s.opening = ap length op in
      let numbered = k.numbered in record {
        numbered = omega arith;
        begins = subst (λ (l : List E). IsPrefix (marked 0 l) t.seen) (sym op) (prefix_trans (marked 0 s.opening) s.seen t.seen k.begins grown);
        own = ap (λ n. made_by n t.seen) num ∙ a.1;
        rising = subst IsNonDecreasing (sym d.turns) (rising_more s.turns (length t.seen) (length s.seen) k.rising (λ i x l. (k.within i x l).1) lo);
        within = subst (All (λ n. (length t.opening ≤ n) × (n ≤ length t.seen))) (sym d.turns)
            (All-append (λ n. (length t.opening ≤ n) × (n ≤ length t.seen)) s.turns (length t.seen ∷ [])
            (λ i x l. let w = k.within i x l in let w0 = w.0 in let w1 = w.1 in (omega arith, omega arith))
            (all_one (λ n. (length t.opening ≤ n) × (n ≤ length t.seen)) (length t.seen) (omega arith, le_refl (length t.seen))));
      }

  -- a seat that has taken no turn, over this opening list
  pub record FreshOver (l : List E) (f : F) (s : SeatFacts E F) : Type 0 where
    pub opening_is : s.opening ≡ l
    pub fixed : s.fixed ≡ Some f
    pub seen : s.seen ≡ marked 0 l
    pub own : s.own ≡ []
    pub turns : s.turns ≡ []
    pub joined : s.joined ≡ []

  pub fresh_over : (l : List E) (f : F) (s : SeatFacts E F) → FreshOver l f s → (s.fixed ≡ Some f) × (s.joined ≡ []) × IsFresh s
  fresh_over l f s k = (k.fixed, k.joined, record { seen = k.seen ∙ ap (marked 0) (sym k.opening_is); own = k.own; turns = k.turns })

  -- a seat that has taken no turn
  pub fresh_is : (l : List E) (f : F) (s : SeatFacts E F) → 0 < s.number → FreshOver l f s → IsSeat s
  fresh_is l f s num k = record {
    numbered = num;
    begins = ([], append-nil (marked 0 s.opening) ∙ (ap (marked 0) k.opening_is ∙ sym k.seen));
    own = ap (made_by s.number) k.seen ∙ (made_by-marked s.number l num ∙ sym k.own);
    rising = subst IsNonDecreasing (sym k.turns) (λ i j d a b. absurd (omega arith));
    within = subst (All (λ n. (length s.opening ≤ n) × (n ≤ length s.seen))) (sym k.turns) (λ i d l. absurd (omega arith));
  }

  pub joined_keeps : (s o t : SeatFacts E F) → Joined s o t → (t.cell ≡ s.cell) × (t.fixed ≡ s.fixed) × (length t.joined ≡ length s.joined + length o.joined + 1)
  joined_keeps s o t j =
      let len : length t.joined ≡ length (s.joined ++ joined_of o ∷ o.joined) = ap length j.joined in let more = length-append s.joined (joined_of o ∷ o.joined) in
      (ap (λ (x : SeatFacts E F). x.cell) j.same, ap (λ (x : SeatFacts E F). x.fixed) j.same, omega arith)

  pub numbers_differ : (seats : List (SeatFacts E F)) → AreNumbered seats → HaveOwnNumbers seats
  numbers_differ seats h j k s t a b e = let x = h j s a in let y = h k t b in omega arith

  pub numbered_more : (seats : List (SeatFacts E F)) (s : SeatFacts E F) → AreNumbered seats → s.number ≡ length seats + 1 → AreNumbered (seats ++ s ∷ [])
  numbered_more seats s h is k t at = ⊎_elim (λ e. h k t e)
      (λ (e : (k ≡ length seats) × (s ≡ t)). let n : t.number ≡ s.number = ap (λ (x : SeatFacts E F). x.number) (sym e.1) in let p = e.0 in omega arith)
      (snoc_at seats s t k at)

module _ {E B F : Type 0} (fixed_of : B → F) (cell : TableId) where
  abbrev pub held_by : View E B → ℕ → List (Entry E) → View E B
  held_by v t h = record v { stage = Holding t; held = h }

  pub adds_turned : (does : List E → List E → Type 0) (b : Bool) → b ≡ true → (v m w : View E B) (t : ℕ) (e : E) → IsPrefix v.seen m.held → made_by v.number m.held ≡ v.own → does (plain m.held) (plain m.held ++ e ∷ [])
      → m ≡ held_by v t m.held → w ≡ rested (raised m e) → Turned does b (facts_of fixed_of cell v) (facts_of fixed_of cell w)
  adds_turned does b said v m w t e pre own holds was is = let to : w ≡ rested (raised (held_by v t m.held) e) = is ∙ ap (λ (x : View E B). rested (raised x e)) was in
      subst (λ (x : Bool). Turned does x (facts_of fixed_of cell v) (facts_of fixed_of cell w)) (sym said) (subst (λ (x : View E B). Turned does true (facts_of fixed_of cell v) (facts_of fixed_of cell x)) (sym to) record {
        before = m.held;
        seen = pre;
        own = own;
        event = (e, refl, refl, holds);
        turns = refl;
        same = refl;
      })

  pub keeps_turned : (does : List E → List E → Type 0) (b : Bool) → b ≡ false → (v m w : View E B) (t : ℕ) → IsPrefix v.seen m.held → made_by v.number m.held ≡ v.own → does (plain m.held) (plain m.held)
      → m ≡ held_by v t m.held → w ≡ rested (passed m) → Turned does b (facts_of fixed_of cell v) (facts_of fixed_of cell w)
  keeps_turned does b said v m w t pre own holds was is = let to : w ≡ rested (passed (held_by v t m.held)) = is ∙ ap (λ (x : View E B). rested (passed x)) was in
      subst (λ (x : Bool). Turned does x (facts_of fixed_of cell v) (facts_of fixed_of cell w)) (sym said) (subst (λ (x : View E B). Turned does false (facts_of fixed_of cell v) (facts_of fixed_of cell x)) (sym to) record {
        before = m.held;
        seen = pre;
        own = own;
        event = (refl, refl, holds);
        turns = refl;
        same = refl;
      })

  -- two seats in one; the other's cell may be told by another name
  pub both_joined : (other : TableId) (v w : View E B) → Known (both_of v w) → Joined (facts_of fixed_of cell v) (facts_of fixed_of other w) (facts_of fixed_of cell (both_of v w))
  both_joined other v w k =
      let c = at_after v.joined (cover_of w ∷ w.joined) (cover_of w) 0 refl in let theirs = k.joined c.0 (cover_of w) c.1 in record {
        mine = prefix_longer v.seen w.seen k.log k.held theirs;
        theirs = prefix_longer_too v.seen w.seen k.log k.held theirs;
        longer = longer_either v.seen w.seen;
        joined = refl;
        same = refl;
      }

  pub both_is : (v w : View E B) → Known (both_of v w) → IsSeat (facts_of fixed_of cell v) → IsSeat (facts_of fixed_of cell (both_of v w))
  both_is v w k s =
      let j = both_joined cell v w k in let lo = prefix_length v.seen (longer v.seen w.seen) j.mine in record {
        numbered = s.numbered;
        begins = prefix_trans (marked 0 v.opening) v.seen (longer v.seen w.seen) s.begins j.mine;
        own = made_by-within v.number v.seen (longer v.seen w.seen) k.log j.mine k.seen (k.own ∙ sym s.own) ∙ s.own;
        rising = s.rising;
        within = λ i d l. let t = s.within i d l in let t1 = t.1 in (t.0, omega arith);
      }

  -- the seat after a turn that added an entry is between two turns
  pub rest_adds : (to : TableId) (front front' : ℕ) (v m w : Me (Option B) (View E B)) (t : ℕ) (e : E) → IsAtRest fixed_of front cell v → IsPrefix v.0.seen m.0.held → made_by v.0.number m.0.held ≡ v.0.own
      → m ≡ (held_by v.0 t m.0.held, (0, None) ∷ []) → w ≡ (rested (raised m.0 e), []) → front' ≡ length w.0.seen → to ≡ cell → IsAtRest fixed_of front' to w
  rest_adds to front front' v m w t e k pre own was is count same =
      let was' : m.0 ≡ held_by v.0 t m.0.held = ap (λ (x : Me (Option B) (View E B)). x.0) was in let is' : w.0 ≡ rested (raised m.0 e) = ap (λ (x : Me (Option B) (View E B)). x.0) is in
      let turned = adds_turned (λ _ _. Unit {0}) true refl v.0 m.0 w.0 t e pre own tt was' is' in
      let p : w.0.parts ≡ v.0.parts = ap (λ (x : View E B). x.parts) is' ∙ ap (λ (x : View E B). x.parts) was' in
      let j : length w.0.joined ≡ length v.0.joined = ap (λ (x : View E B). length x.joined) is' ∙ ap (λ (x : View E B). length x.joined) was' in
      let old = k.parts in record {
        front_is = count;
        idle = ap (λ (x : View E B). x.stage) is';
        bare = ap (λ (x : Me (Option B) (View E B)). x.1) is;
        parts = omega arith;
        seat = subst (λ (x : TableId). IsSeat (facts_of fixed_of x w.0)) (sym same) (seat_after (λ _ _. Unit {0}) true (facts_of fixed_of cell v.0) (facts_of fixed_of cell w.0) k.seat turned);
      }

  -- and so is the seat after one that added none
  pub rest_passes : (to : TableId) (front front' : ℕ) (v m w : Me (Option B) (View E B)) (t : ℕ) → IsAtRest fixed_of front cell v → IsPrefix v.0.seen m.0.held → made_by v.0.number m.0.held ≡ v.0.own
      → m ≡ (held_by v.0 t m.0.held, (0, None) ∷ []) → w ≡ (rested (passed m.0), []) → front' ≡ length w.0.seen → to ≡ cell → IsAtRest fixed_of front' to w
  rest_passes to front front' v m w t k pre own was is count same =
      let was' : m.0 ≡ held_by v.0 t m.0.held = ap (λ (x : Me (Option B) (View E B)). x.0) was in let is' : w.0 ≡ rested (passed m.0) = ap (λ (x : Me (Option B) (View E B)). x.0) is in
      let turned = keeps_turned (λ _ _. Unit {0}) false refl v.0 m.0 w.0 t pre own tt was' is' in
      let p : w.0.parts ≡ v.0.parts = ap (λ (x : View E B). x.parts) is' ∙ ap (λ (x : View E B). x.parts) was' in
      let j : length w.0.joined ≡ length v.0.joined = ap (λ (x : View E B). length x.joined) is' ∙ ap (λ (x : View E B). length x.joined) was' in
      let old = k.parts in record {
        front_is = count;
        idle = ap (λ (x : View E B). x.stage) is';
        bare = ap (λ (x : Me (Option B) (View E B)). x.1) is;
        parts = omega arith;
        seat = subst (λ (x : TableId). IsSeat (facts_of fixed_of x w.0)) (sym same) (seat_after (λ _ _. Unit {0}) false (facts_of fixed_of cell v.0) (facts_of fixed_of cell w.0) k.seat turned);
      }

  -- and the seat after a join
  pub rest_joined : (to other : TableId) (front front' back : ℕ) (v w u : Me (Option B) (View E B)) → IsAtRest fixed_of front cell v → IsAtRest fixed_of back other w → Known (both_of v.0 w.0) → u ≡ (both_of v.0 w.0, v.1)
      → front' ≡ length (longer v.0.seen w.0.seen) → to ≡ cell → IsAtRest fixed_of front' to u
  rest_joined to other front front' back v w u k l known is count same =
      let is' : u.0 ≡ both_of v.0 w.0 = ap (λ (x : Me (Option B) (View E B)). x.0) is in
      let p : u.0.parts ≡ v.0.parts + w.0.parts = ap (λ (x : View E B). x.parts) is' in
      let j : length u.0.joined ≡ length (v.0.joined ++ cover_of w.0 ∷ w.0.joined) = ap (λ (x : View E B). length x.joined) is' in
      let len = length-append v.0.joined (cover_of w.0 ∷ w.0.joined) in let a = k.parts in let b = l.parts in record {
        front_is = count ∙ ap (λ (x : View E B). length x.seen) (sym is');
        idle = ap (λ (x : View E B). x.stage) is' ∙ k.idle;
        bare = ap (λ (x : Me (Option B) (View E B)). x.1) is ∙ k.bare;
        parts = omega arith;
        seat = subst (λ (x : TableId × View E B). IsSeat (facts_of fixed_of x.0 x.1)) (λ i. (sym same i, sym is' i)) (both_is v.0 w.0 known k.seat);
      }

  -- a turn, and a join, as told of seats that are known by equations
  pub turned_as : (to : TableId) (does : List E → List E → Type 0) (b : Bool) (v w : View E B) (s : SeatFacts E F) → Turned does b (facts_of fixed_of cell v) (facts_of fixed_of cell w) → facts_of fixed_of cell v ≡ s → to ≡ cell
      → Turned does b s (facts_of fixed_of to w)
  turned_as to does b v w s t is same = subst (λ (x : SeatFacts E F × TableId). Turned does b x.0 (facts_of fixed_of x.1 w)) (λ i. (is i, sym same i)) t

  pub joined_as : (to other : TableId) (v w u : View E B) (s o : SeatFacts E F) → Known (both_of v w) → u ≡ both_of v w → facts_of fixed_of cell v ≡ s → facts_of fixed_of other w ≡ o → to ≡ cell
      → Joined s o (facts_of fixed_of to u)
  joined_as to other v w u s o k is is_s is_o same =
      subst (λ (x : (SeatFacts E F × SeatFacts E F) × (TableId × View E B)). Joined x.0.0 x.0.1 (facts_of fixed_of x.1.0 x.1.1)) (λ i. ((is_s i, is_o i), (sym same i, sym is i))) (both_joined other v w k)

module _ {E B F : Type 0} (fixed_of : B → F) where
  -- The newest seat of a cell of which n were made
  pub record Giving (l : List E) (f : F) (seats n : ℕ) (m : View E B) : Type 0 where
    pub fresh : (cell : TableId) → FreshOver l f (facts_of fixed_of cell m)
    pub idle : m.stage ≡ Idle
    pub made : m.made ≡ n
    pub number : m.number ≡ n
    pub parts : m.parts + n ≡ seats + 1

  pub given_first : (body : B) (seats : ℕ) (l : List E) (m : View E B) → m ≡ begun_with (first_view body seats) l → Giving l (fixed_of body) seats 1 m
  given_first body seats l m is = subst (Giving l (fixed_of body) seats 1) (sym is) record {
    fresh = λ _. record { opening_is = refl; fixed = refl; seen = refl; own = refl; turns = refl; joined = refl };
    idle = refl;
    made = refl;
    number = refl;
    parts = refl;
  }

  pub given_right : (l : List E) (f : F) (seats n : ℕ) (v w : View E B) → Giving l f seats n v → n < seats → w ≡ right_of v → Giving l f seats (n + 1) w
  given_right l f seats n v w k many is = let p = k.parts in let a = k.made in subst (Giving l f seats (n + 1)) (sym is) record {
    fresh = λ c. let h = k.fresh c in record { opening_is = h.opening_is; fixed = h.fixed; seen = h.seen; own = refl; turns = refl; joined = refl };
    idle = refl;
    made = omega arith;
    number = omega arith;
    parts = omega arith;
  }

  -- a seat that is handed out: it is between two turns, numbered, and fresh
  abbrev pub HandedOut : TableId → ℕ → List E → F → ℕ → Me (Option B) (View E B) → Type 0
  HandedOut cell front l f n m = IsAtRest fixed_of front cell m × (m.0.number ≡ n) × FreshOver l f (facts_of fixed_of cell m.0)

  fresh_rests : (cell : TableId) (front : ℕ) (l : List E) (f : F) (n : ℕ) (m : Me (Option B) (View E B)) → m.0.stage ≡ Idle → m.0.parts ≡ 1 → m.0.number ≡ n → 0 < n → m.1 ≡ [] → front ≡ length l
      → FreshOver l f (facts_of fixed_of cell m.0) → HandedOut cell front l f n m
  fresh_rests cell front l f n m idle part num some_number bare count k =
      let seen : length m.0.seen ≡ length l = ap length k.seen ∙ length-map l (entry 0) in let none : length m.0.joined ≡ 0 = ap length k.joined in (
        record { front_is = count ∙ sym seen; idle = idle; bare = bare; parts = omega arith; seat = fresh_is l f (facts_of fixed_of cell m.0) (omega arith) k },
        num,
        k,
      )

  pub left_rests : (cell : TableId) (front : ℕ) (l : List E) (f : F) (seats n : ℕ) (m w : Me (Option B) (View E B)) → Giving l f seats n m.0 → 0 < n → m.1 ≡ [] → w ≡ (left_of m.0, m.1) → front ≡ length l → HandedOut cell front l f n w
  left_rests cell front l f seats n m w k some_number bare is count = let h = k.fresh cell in subst (HandedOut cell front l f n) (sym is)
      (fresh_rests cell front l f n (left_of m.0, m.1) k.idle refl k.number some_number bare count record { opening_is = h.opening_is; fixed = h.fixed; seen = h.seen; own = h.own; turns = h.turns; joined = h.joined })

  pub last_rests : (cell : TableId) (front : ℕ) (l : List E) (f : F) (seats n : ℕ) (m : Me (Option B) (View E B)) → Giving l f seats n m.0 → 0 < n → n ≡ seats → m.1 ≡ [] → front ≡ length l → HandedOut cell front l f n m
  last_rests cell front l f seats n m k some_number all bare count = let p = k.parts in fresh_rests cell front l f n m k.idle (omega arith) k.number some_number bare count (k.fresh cell)

module _ {E B : Type 0} (stands : B → List E → Type 0) where
  -- the opening list that the first seat reads is the one for which the body stands
  pub begun_is : (m w : Me (Option B) (View E B)) (b0 body b : B) (n seats : ℕ) (l0 l1 l : List E) → m ≡ (first_view b0 n, []) → b0 ≡ body → n ≡ seats → m.0.opened ≡ Some b → stands b l1
      → ((k : List E) → stands body k → k ≡ l0) → stands body l → w ≡ (begun_with m.0 l1, m.1) → w ≡ (begun_with (first_view body seats) l, [])
  begun_is m w b0 body b n seats l0 l1 l was same count told fits one mine is =
      let at : Some b ≡ Some b0 = sym told ∙ ap (λ (x : Me (Option B) (View E B)). x.0.opened) was in
      let b_is : b ≡ body = some_same b b0 at ∙ same in
      let l_is : l1 ≡ l = one l1 (subst (λ (x : B). stands x l1) b_is fits) ∙ sym (one l mine) in
      is ∙ (ap (λ (x : Me (Option B) (View E B)). (begun_with x.0 l1, x.1)) was ∙ λ i. (begun_with (first_view (same i) (count i)) (l_is i), []))
    where
      some_same : (x y : B) → Some x ≡ Some y → x ≡ y
      some_same x y e = cc
