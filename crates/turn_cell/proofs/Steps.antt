-- Each step of a seat keeps the rule.
use Rattle.std.proofs.Common.{◌≡◌, ◌≢◌, ℕ, suc, ◌+◌, ◌-◌, ◌%◌, ◌<◌, ◌≤◌, List, [], ◌∷◌, ◌++◌, length, get_or, set, sym, refl, ap, ◌∙◌, subst, inl, inr, ⊎_elim, arith, Option, Some, None, eq-eqb, ne_eqb, length-set, MatchBool, length-append, option_map}
use Rattle.std.proofs.lemmas.List.{append-nil, length-map}
use Rattle.std.proofs.Math.Nat.{mod-add-mod, mod-eq_of_lt}
use mathlib.Core.Option.{some, none, some-injective, some-ne-none}
use mathlib.Core.Logic.{dite}
use mathlib.Core.List.{IsPrefix}
use native.Mathlib.Decide.{ℕ_discrete}
use lib.ListN.{get_elem?}
use lib.Seq.{set-get_or}
use Rattle.atomic_table.specs.Table.{State, Me, step, keeps, takes as takes_slot, gives, stepped, opening as at_first, Allows, Splits, Joins, Final, Seen}
use Rattle.atomic_table.proofs.Lists.{set_here, set_else, set_again, one_turn, at_longer, at_last}
use Rattle.turn_cell.specs.declared.view.Entry.{Entry}
use Rattle.turn_cell.specs.declared.view.View.{View}
use Rattle.turn_cell.specs.declared.view.JoinedSeat.{JoinedSeat}
use Rattle.turn_cell.specs.declared.view.Stage.{Stage}
use Rattle.turn_cell.specs.declared.view.Stage.TheVariants.{Idle, Waiting, Holding, Fresh}
use Rattle.turn_cell.specs.Histories.{entry, plain, made_by, marked}
use Rattle.turn_cell.specs.Rule.{wide, waits_at, Has, IsOut, HasBegun, AtStage, Knows, Place, total, waits, parts, Gone, TellsOf, Rest, Kept, first_view, fixed_in, facts_of}
use Rattle.turn_cell.specs.Seats.{Closing}
use Rattle.atomic_table.specs.Seated.{TableId}
use Rattle.turn_cell.specs.Moves.{Called, calls_at, calls, counts, takes_ticket, raised, raises, passes, releases, begins, begun_with, tells, left_of, right_of, both_of, cover_of, spent}
use Rattle.turn_cell.proofs.Views.{at_below, each_stays, apart_stays, total_set, total_le, total_snoc, total_two, apart_snoc, snoc_at, between, at_after, only, gone_stays, gone_longer, gone_spent, covered_stays, rest_more, rest_wider, made_by-marked, plain-marked, made_by-snoc, made_by-other, prefix_more, prefix_longer, longer_within, made_by-within, tells_number, at_each}

module _ {B E F : Type 0} (stands : B → List E → Type 0) (fixed_of : B → F) (body : B) (all_seats : ℕ) where
  abbrev St : Type 0
  St = State (Option B) (View E B)

  abbrev Rule : St → Type 0
  Rule = Kept stands fixed_of body all_seats

  abbrev M : Type 0
  M = Me (Option B) (View E B)

  abbrev Home : Type 0
  Home = mathlib.Core.Option.Option (Option B)

  -- what the stage of another seat says stays so
  other_stage : (s s' : St) (op : List E) (log log' : List (Entry E)) (tk sv tk' sv' me j : ℕ) (v0 v : View E B) (st : Stage) → j ≢ me → get_elem? s.views me ≡ some v0
      → AtStage s op log tk sv j v st
      → ((t : ℕ) → st ≡ Waiting t → sv ≤ t → t < tk → (sv' ≤ t) × (t < tk'))
      → ((t : ℕ) → st ≡ Holding t → t ≡ sv → t < tk → v.held ≡ log → (t ≡ sv') × (t < tk') × (v.held ≡ log'))
      → AtStage s' op log' tk' sv' j v st
  other_stage s s' op log log' tk sv tk' sv' me j v0 v Idle ne at k w h = tt
  other_stage s s' op log log' tk sv tk' sv' me j v0 v (Waiting t) ne at k w h = w t refl k.0 k.1
  other_stage s s' op log log' tk sv tk' sv' me j v0 v (Holding t) ne at k w h = h t refl k.0 k.1 k.2
  other_stage s s' op log log' tk sv tk' sv' me j v0 v Fresh ne at k w h = let a = at_below s.views me v0 at in let b = k.1 in let c = k.0 in absurd (ne (omega arith))

  restage : (s s' : St) (op : List E) (log : List (Entry E)) (tk sv tk' sv' j : ℕ) (v : View E B) → length s'.views ≡ length s.views → ((n : ℕ) → Gone s.views n → Gone s'.views n)
      → Knows body s op log tk sv j v → AtStage s' op log tk' sv' j v v.stage → Knows body s' op log tk' sv' j v
  restage s s' op log tk sv tk' sv' j v len gone k st = record {
    stage = st;
    share = k.share;
    number = k.number;
    opened = k.opened;
    begun = k.begun;
    seen = k.seen;
    held = k.held;
    newest = λ a b. let t = k.newest a b in (t.0 ∙ sym len, t.1);
    joined = λ i c e. let t = k.joined i c e in (t.0, t.1, gone c.number t.2);
    own = k.own;
  }

  -- the slot is with another seat still
  place_stays : (s s' : St) (log : List (Entry E)) (me : ℕ) (v w : View E B) (holder : Option ℕ) → get_elem? s.views me ≡ some v → (IsOut v.stage → ⊥)
      → s'.homes ≡ s.homes → s'.views ≡ set s.views me w → Place stands fixed_of body all_seats s log holder → Place stands fixed_of body all_seats s' log holder
  place_stays s s' log me v w None at not same views p = (p.0, same ∙ p.1, p.2, p.3)
  place_stays s s' log me v w (Some j) at not same views p = (
    p.0,
    ap (λ l. get_elem? l j) views ∙ (set_else s.views me j w (λ e. not (subst (λ (x : View E B). IsOut x.stage) (some-injective p.0 v (sym p.1 ∙ (ap (get_elem? s.views) e ∙ at))) p.2)) ∙ p.1),
    p.2,
  )

  has_between : (s : St) (op : List E) (log : List (Entry E)) (tk sv t j : ℕ) (v : View E B) (st : Stage) → AtStage s op log tk sv j v st → Has t st → (sv ≤ t) × (t < tk)
  has_between s op log tk sv t j v Idle k h = elim h [ ]
  has_between s op log tk sv t j v Fresh k h = elim h [ ]
  has_between s op log tk sv t j v (Waiting u) k h = let a = k.0 in let b = k.1 in let e : t ≡ u = h in (omega arith, omega arith)
  has_between s op log tk sv t j v (Holding u) k h = let a = k.0 in let b = k.1 in let e : t ≡ u = h in (omega arith, omega arith)

  out_has : (s : St) (op : List E) (log : List (Entry E)) (tk sv j : ℕ) (v : View E B) (st : Stage) → AtStage s op log tk sv j v st → IsOut st → Has sv st
  out_has s op log tk sv j v Idle k o = elim o [ ]
  out_has s op log tk sv j v (Waiting _) k o = elim o [ ]
  out_has s op log tk sv j v (Holding u) k o = sym k.0
  out_has s op log tk sv j v Fresh k o = elim o [ ]

  -- A step that leaves the history, and changes no more of the seat than where it is in its turn and what it has seen
  moved : (s : St) (r : Rule s) (id : ℕ) (v w : View E B) (ws : List ℕ) (hs : List Home) (tk sv : ℕ) (holder : Option ℕ) → let s' : St = record { words = ws; homes = hs; views = set s.views id w } in
      get_elem? s.views id ≡ some v → 0 < v.parts
      → (w.parts ≡ v.parts) × (w.number ≡ v.number) × (w.joined ≡ v.joined) × (w.made ≡ v.made) × (w.opened ≡ v.opened) × (w.own ≡ v.own)
      → ws ≡ length r.log ∷ tk % wide ∷ sv % wide ∷ []
      → Place stands fixed_of body all_seats s' r.log holder
      → AtStage s' r.opening r.log tk sv id w w.stage
      → waits w ≤ 1
      → (HasBegun w.stage → w.opening ≡ r.opening)
      → IsPrefix w.seen r.log × IsPrefix w.held r.log × (made_by w.number w.seen ≡ w.own)
      → ((j : ℕ) (u : View E B) → j ≢ id → get_elem? s.views j ≡ some u → AtStage s r.opening r.log r.ticket r.serving j u u.stage → AtStage s' r.opening r.log tk sv j u u.stage)
      → ((t j : ℕ) (u : View E B) → j ≢ id → get_elem? s.views j ≡ some u → Has t u.stage → Has t w.stage → ⊥)
      → sv + total waits (set s.views id w) ≡ tk
      → Rule s'
  moved s r id v w ws hs tk sv holder at part same words place stage one begun hist others apart queue =
      let s' : St = record { words = ws; homes = hs; views = set s.views id w } in
      let mine = r.each id v at in
      let all_parts = total_set parts s.views id v w at in let sh = r.shared in let p_same = same.0 in
      let gone = λ (n : ℕ) (x : Gone s.views n). gone_stays s.views id n v w at part x in
      let long = length-set s.views id w in
      let own_log : made_by w.number r.log ≡ w.own = ap (λ k. made_by k r.log) same.1 ∙ ((mine.own part).0 ∙ sym same.5) in record {
        log = r.log;
        opening = r.opening;
        opens = r.opens;
        ticket = tk;
        serving = sv;
        holder = holder;
        words = words;
        small = r.small;
        place = place;
        each = each_stays (Knows body s' r.opening r.log tk sv) s.views id w
            record {
              stage = stage;
              share = omega arith;
              number = λ _. same.1 ∙ mine.number part;
              opened = λ _. same.4 ∙ mine.opened part;
              begun = λ _ b. begun b;
              seen = hist.0;
              held = hist.1;
              newest = λ _ b. let t = mine.newest part (subst (λ (n : ℕ). 0 < n) same.3 b) in (same.3 ∙ (t.0 ∙ sym long), same.1 ∙ (t.1 ∙ sym same.3));
              joined = λ i c e. let t = mine.joined i c (ap (λ l. get_elem? l i) (sym same.2) ∙ e) in (t.0, t.1, gone c.number t.2);
              own = λ _. (own_log, hist.2);
            }
            (λ j u ne atj. let k = r.each j u atj in restage s s' r.opening r.log r.ticket r.serving tk sv j u long gone k (others j u ne atj k.stage));
        apart = apart_stays s.views id w r.apart apart;
        queue = queue;
        shared = omega arith;
        few = r.few;
        makers = λ k l. r.makers k (subst (λ (n : ℕ). n < k) long l);
        rest = subst (λ (n : ℕ). Rest r.opening n r.log) (sym long) r.rest;
        covered = covered_stays s.views id v w at (omega arith) same.1 same.2 r.covered;
      }

  pub takes_one : (slots id : ℕ) (m : M) → m.0.stage ≡ Idle → 0 < m.0.parts → Allows Rule slots id m 1 (λ n. (n + 1) % wide) (takes_ticket (step slots 1 1 0 none) m)
  takes_one slots id m idle part s r long at small =
      let v : View E B = m.0 in let w : View E B = record v { stage = Waiting r.ticket } in
      let found : get_or s.words 1 0 ≡ r.ticket % wide = ap (λ (l : List ℕ). get_or l 1 0) r.words in
      let here = total_set waits s.views id v w at in
      let none_before : waits v ≡ 0 = ap waits_at idle in let q = r.queue in
      let s' : St = stepped s 1 ((get_or s.words 1 0 + 1) % wide) id m.1 w keeps in
      let mine = r.each id v at in (
        w,
        keeps,
        tt,
        moved s r id v w s'.words s'.homes (r.ticket + 1) r.serving r.holder at part (refl, refl, refl, refl, refl, refl)
            (ap (λ (l : List ℕ). set l 1 ((get_or l 1 0 + 1) % wide)) r.words ∙ ap (λ (n : ℕ). length r.log ∷ n ∷ r.serving % wide ∷ []) (mod-add-mod r.ticket wide 1))
            (place_stays s s' r.log id v w r.holder at (λ out. subst IsOut idle out) refl refl r.place)
            (omega arith, omega arith)
            (omega arith)
            (λ _. mine.begun part (subst HasBegun (sym idle) tt))
            (mine.seen, mine.held, (mine.own part).1)
            (λ j u ne atj k. other_stage s s' r.opening r.log r.log r.ticket r.serving (r.ticket + 1) r.serving id j v u u.stage ne at k (λ t _ a b. (a, omega arith)) (λ t _ a b c. (a, omega arith, c)))
            (λ t j u ne atj a b. let k = has_between s r.opening r.log r.ticket r.serving t j u u.stage (r.each j u atj).stage a in let b' : t ≡ r.ticket = b in let c = k.1 in omega arith)
            (omega arith),
        (r.ticket, found, refl),
      )

  -- a step that changes nothing
  unmoved : (s : St) (i id : ℕ) (cs : List (ℕ × Option B)) (v : View E B) → get_elem? s.views id ≡ some v → Rule s → Rule (stepped s i (get_or s.words i 0) id cs v keeps)
  unmoved s i id cs v at r = subst (λ (x : List ℕ × List (View E B)). Rule record { words = x.0; homes = s.homes; views = x.1 }) (λ j. (sym (set-get_or s.words i 0) j, sym (set_again s.views id v at) j)) r

  pub counts_one : (slots id : ℕ) (m : M) (t : ℕ) → m.0.stage ≡ Holding t → Allows Rule slots id m 0 (λ n. n) (counts (step slots 0 0 0 none) m)
  counts_one slots id m t is s r long at small =
      let k = subst (AtStage s r.opening r.log r.ticket r.serving id m.0) is (r.each id m.0 at).stage in
      let found : get_or s.words 0 0 ≡ length r.log = ap (λ (l : List ℕ). get_or l 0 0) r.words in
      (m.0, keeps, tt, unmoved s 0 id m.1 m.0 at r, (found ∙ ap length (sym k.2), small, refl))

  pub tells_one : (slots id : ℕ) (m : M) → 0 < m.0.parts → Allows Rule slots id m 0 (λ n. n) (tells (step slots 0 0 0 none) m)
  tells_one slots id m part s r long at small =
      let k = r.each id m.0 at in
      (m.0, keeps, tt, unmoved s 0 id m.1 m.0 at r, (refl, record { log = r.log; seen = k.seen; held = k.held; own = (k.own part).0; joined = λ i c e. (k.joined i c e).1 }))

  -- where a seat's ticket is the one that is served, the slot is at home
  at_home : (s : St) (r : Rule s) (id t : ℕ) (v : View E B) → get_elem? s.views id ≡ some v → v.stage ≡ Waiting t → t ≡ r.serving → (holder : Option ℕ)
      → Place stands fixed_of body all_seats s r.log holder → Place stands fixed_of body all_seats s r.log None
  at_home s r id t v at is e None p = p
  at_home s r id t v at is e (Some j) p =
      let h : Has r.serving p.0.stage = out_has s r.opening r.log r.ticket r.serving j p.0 p.0.stage (r.each j p.0 p.1).stage p.2 in
      let h' : Has r.serving v.stage = subst (Has r.serving) (sym is) (sym e) in
      let same : j ≡ id = r.apart r.serving j id p.0 v p.1 at h h' in
      let one : p.0 ≡ v = some-injective p.0 v (sym p.1 ∙ (ap (get_elem? s.views) same ∙ at)) in
      absurd (subst IsOut (ap (λ (x : View E B). x.stage) one ∙ is) p.2)

  below_wide : (s : St) (r : Rule s) → total waits s.views < wide
  below_wide s r = let a = total_le waits parts s.views (λ j v e. (r.each j v e).share) in let p = r.shared in let f = r.few in omega arith

  -- a seat with a ticket isn't spent
  has_part : (s : St) (r : Rule s) (id : ℕ) (v : View E B) → get_elem? s.views id ≡ some v → waits v ≡ 1 → 0 < v.parts
  has_part s r id v at one = let share = (r.each id v at).share in omega arith

  pub calls_one : (slots id : ℕ) (m : M) (t : ℕ) → m.0.stage ≡ Waiting t → m.1 ≡ [] → Allows Rule slots id m 2 (λ n. n) (calls stands fixed_of (step slots 2 0 0 none) m)
  calls_one slots id m t is bare s r long at small =
      let v : View E B = m.0 in let n : ℕ = get_or s.words 2 0 in
      let mine = r.each id v at in
      let k = subst (AtStage s r.opening r.log r.ticket r.serving id v) is mine.stage in let lo = k.0 in let hi = k.1 in
      let found : n ≡ r.serving % wide = ap (λ (l : List ℕ). get_or l 2 0) r.words in
      let one : waits v ≡ 1 = ap waits_at is in let part = has_part s r id v at one in
      dite (ℕ_discrete n (t % wide))
      (λ hit.
      let q = r.queue in let few = below_wide s r in
      let now : r.serving ≡ t = one_turn r.serving t wide lo (omega arith) (sym found ∙ hit) in
      let p = at_home s r id t v at is (sym now) r.holder r.place in
      let b : B = p.0 in
      let w : View E B = record v { stage = Holding t; held = r.log } in
      let s' : St = stepped s 2 n id m.1 w (takes_slot 0 (Some b)) in
      let here = total_set waits s.views id v w at in (
        w,
        takes_slot 0 (Some b),
        ap (λ (l : List Home). get_elem? l 0) p.1,
        moved s r id v w s'.words s'.homes r.ticket r.serving (Some id) at part (refl, refl, refl, refl, refl, refl)
            (ap (λ (l : List ℕ). set l 2 (get_or l 2 0)) r.words)
            (w, set_here s.views id w (at_below s.views id v at), tt)
            (sym now, hi, refl)
            (omega arith)
            (λ _. mine.begun part (subst HasBegun (sym is) tt))
            (mine.seen, ([], append-nil r.log), (mine.own part).1)
            (λ j u ne atj k. other_stage s s' r.opening r.log r.log r.ticket r.serving r.ticket r.serving id j v u u.stage ne at k (λ t _ a b. (a, b)) (λ t _ a b c. (a, b, c)))
            (λ x j u ne atj a c. ne (r.apart x j id u v atj at a (subst (Has x) (sym is) c)))
            (omega arith),
        subst (calls_at stands fixed_of m n (w, (0, Some b) ∷ m.1)) (sym is)
            (subst (λ z. MatchBool z (Called stands fixed_of m t (w, (0, Some b) ∷ m.1)) ((w, (0, Some b) ∷ m.1) ≡ m)) (sym (eq-eqb n (t % wide) hit))
            (b, r.log, ap (λ (l : List (ℕ × Option B)). (w, (0, Some b) ∷ l)) bare, p.2, ap (option_map fixed_of) (mine.opened part) ∙ ap Some (sym p.3), mine.seen, (mine.own part).0)),
      ))
      (λ miss. (
        v,
        keeps,
        tt,
        unmoved s 2 id m.1 v at r,
        subst (calls_at stands fixed_of m n m) (sym is) (subst (λ z. MatchBool z (Called stands fixed_of m t m) (m ≡ m)) (sym (ne_eqb n (t % wide) miss)) refl),
      ))

  -- another seat has no ticket that is the holder's
  alone : (s : St) (r : Rule s) (id t j : ℕ) (v u : View E B) → get_elem? s.views id ≡ some v → v.stage ≡ Holding t → t ≡ r.serving → j ≢ id → get_elem? s.views j ≡ some u → Has r.serving u.stage → ⊥
  alone s r id t j v u at is now ne atj has = ne (r.apart r.serving j id u v atj at has (subst (Has r.serving) (sym is) (sym now)))

  one_long : (l : List Home) (x : Home) → length l ≡ 1 → set l 0 x ≡ x ∷ []
  one_long [] x e = absurd (omega arith)
  one_long (y ∷ []) x e = refl
  one_long (y ∷ z ∷ zs) x e = absurd (omega arith)

  -- a seat that isn't spent has another number than one that is gone
  gone_apart : (vs : List (View E B)) (id n : ℕ) (v : View E B) → get_elem? vs id ≡ some v → 0 < v.parts → v.number ≡ id + 1 → Gone vs n → v.number ≢ n
  gone_apart vs id n v at part num g e = let none_left = g.4 in let at_n = g.2 in let here : g.0 ≡ id = omega arith in
      let same : g.1 ≡ v = some-injective g.1 v (sym g.3 ∙ (ap (get_elem? vs) here ∙ at)) in let same' : g.1.parts ≡ v.parts = ap (λ (x : View E B). x.parts) same in omega arith

  -- what another seat knows stays so where an entry is added
  other_knows : (s s' : St) (op : List E) (log : List (Entry E)) (e : E) (n tk sv id j : ℕ) (v u : View E B) → length s'.views ≡ length s.views → ((n : ℕ) → Gone s.views n → Gone s'.views n)
      → get_elem? s.views id ≡ some v → 0 < v.parts → v.number ≡ id + 1 → n ≡ v.number → Knows body s op log tk sv j u → j ≢ id
      → AtStage s' op (log ++ entry n e ∷ []) tk sv j u u.stage → Knows body s' op (log ++ entry n e ∷ []) tk sv j u
  other_knows s s' op log e n tk sv id j v u len gone at part num is k ne st = record {
    stage = st;
    share = k.share;
    number = k.number;
    opened = k.opened;
    begun = k.begun;
    seen = prefix_more u.seen log (entry n e) k.seen;
    held = prefix_more u.held log (entry n e) k.held;
    newest = λ a b. let t = k.newest a b in (t.0 ∙ sym len, t.1);
    joined = λ i c x. let t = k.joined i c x in let apart = gone_apart s.views id c.number v at part num t.2 in (made_by-other c.number log n e (λ h. apart (sym is ∙ h)) ∙ t.0, prefix_more c.seen log (entry n e) t.1, gone c.number t.2);
    own = λ h. let o = k.own h in let at_u = k.number h in (made_by-other u.number log n e (λ same. ne (omega arith)) ∙ o.0, o.1);
  }

  pub raises_one : (slots id : ℕ) (m : M) (t : ℕ) (b : B) (e : E) → m.0.stage ≡ Holding t → m.1 ≡ (0, Some b) ∷ [] → stands b (plain m.0.held ++ e ∷ []) → length m.0.held + 1 < wide
      → Allows Rule slots id m 0 (λ n. (n + 1) % wide) (raises stands (step slots 0 1 0 none) m)
  raises_one slots id m t b e is out ok fits s r long at small =
      let v : View E B = m.0 in let mine = r.each id v at in
      let k = subst (AtStage s r.opening r.log r.ticket r.serving id v) is mine.stage in let now = k.0 in let hi = k.1 in let same = k.2 in
      let w : View E B = raised v e in let new : Entry E = entry v.number e in
      let log : List (Entry E) = r.log ++ new ∷ [] in
      let s' : St = stepped s 0 ((get_or s.words 0 0 + 1) % wide) id m.1 w keeps in
      let one : waits v ≡ 1 = ap waits_at is in let one' : waits w ≡ 1 = ap waits_at is in
      let here = total_set waits s.views id v w at in let here' = total_set parts s.views id v w at in let sh = r.shared in let q = r.queue in
      let part = has_part s r id v at one in let gone = λ (n : ℕ) (x : Gone s.views n). gone_stays s.views id n v w at part x in let num : v.number ≡ id + 1 = mine.number part in
      let len : length v.held ≡ length r.log = ap length same in let more : length log ≡ length r.log + 1 = length-append r.log (new ∷ []) in
      let grown : v.held ++ new ∷ [] ≡ log = ap (λ (l : List (Entry E)). l ++ new ∷ []) same in
      let all : IsPrefix (v.held ++ new ∷ []) log = ([], append-nil (v.held ++ new ∷ []) ∙ grown) in
      let made : made_by v.number log ≡ v.own ++ e ∷ [] = made_by-snoc v.number r.log v.number e refl ∙ ap (λ (l : List E). l ++ e ∷ []) ((mine.own part).0) in (
        w,
        keeps,
        tt,
        record {
          log = log;
          opening = r.opening;
          opens = r.opens;
          ticket = r.ticket;
          serving = r.serving;
          holder = Some id;
          words = ap (λ (l : List ℕ). set l 0 ((get_or l 0 0 + 1) % wide)) r.words ∙ ap (λ (n : ℕ). n ∷ r.ticket % wide ∷ r.serving % wide ∷ []) (mod-eq_of_lt (omega arith) ∙ sym more);
          small = omega arith;
          place = (w, set_here s.views id w (at_below s.views id v at), subst IsOut (sym is) tt);
          each = each_stays (Knows body s' r.opening log r.ticket r.serving) s.views id w
              record {
                stage = subst (AtStage s' r.opening log r.ticket r.serving id w) (sym is) (now, hi, grown);
                share = mine.share;
                number = mine.number;
                opened = mine.opened;
                begun = mine.begun;
                seen = all;
                held = all;
                newest = λ a b. let t = mine.newest a b in (t.0 ∙ sym (length-set s.views id w), t.1);
                joined = λ i c x. let t = mine.joined i c x in (made_by-other c.number r.log v.number e (gone_apart s.views id c.number v at part num t.2) ∙ t.0, prefix_more c.seen r.log new t.1, gone c.number t.2);
                own = λ h. (made, ap (made_by v.number) grown ∙ made);
              }
              (λ j u ne atj. let ku = r.each j u atj in other_knows s s' r.opening r.log e v.number r.ticket r.serving id j v u (length-set s.views id w) gone at part num refl ku ne
              (other_stage s s' r.opening r.log log r.ticket r.serving r.ticket r.serving id j v u u.stage ne at ku.stage (λ t _ a b. (a, b))
              (λ x st a _ _. absurd (alone s r id t j v u at is now ne atj (subst (Has r.serving) (sym st) (sym a))))));
          apart = apart_stays s.views id w r.apart (λ x j u ne atj a c. ne (r.apart x j id u v atj at a c));
          queue = omega arith;
          shared = omega arith;
          few = r.few;
          makers = λ k l. let below = at_below s.views id v at in let l' : length s.views < k = subst (λ (n : ℕ). n < k) (length-set s.views id w) l in
              made_by-other k r.log v.number e (λ h. omega arith) ∙ r.makers k l';
          rest = let below = at_below s.views id v at in subst (λ (n : ℕ). Rest r.opening n log) (sym (length-set s.views id w)) (rest_more r.opening (length s.views) r.log v.number e (omega arith) (omega arith) r.rest);
          covered = covered_stays s.views id v w at part refl refl r.covered;
        },
        (e, b, out, ok, refl),
      )

  pub passes_one : (slots id : ℕ) (m : M) (t : ℕ) → m.0.stage ≡ Holding t → Allows Rule slots id m 0 (λ n. (n + 0) % wide) (passes (step slots 0 0 0 none) m)
  passes_one slots id m t is s r long at small =
      let v : View E B = m.0 in let mine = r.each id v at in
      let k = subst (AtStage s r.opening r.log r.ticket r.serving id v) is mine.stage in let now = k.0 in let hi = k.1 in let same = k.2 in
      let w : View E B = record v { seen = v.held; turns = v.turns ++ length v.held ∷ [] } in
      let s' : St = stepped s 0 ((get_or s.words 0 0 + 0) % wide) id m.1 w keeps in
      let one : waits v ≡ 1 = ap waits_at is in let one' : waits w ≡ 1 = ap waits_at is in
      let here = total_set waits s.views id v w at in let q = r.queue in
      let part = has_part s r id v at one in let fits = r.small in
      let found : get_or s.words 0 0 ≡ length r.log = ap (λ (l : List ℕ). get_or l 0 0) r.words in (
        w,
        keeps,
        tt,
        moved s r id v w s'.words s'.homes r.ticket r.serving (Some id) at part (refl, refl, refl, refl, refl, refl)
            (ap (λ (l : List ℕ). set l 0 ((get_or l 0 0 + 0) % wide)) r.words ∙ ap (λ (n : ℕ). n ∷ r.ticket % wide ∷ r.serving % wide ∷ []) (mod-eq_of_lt (omega arith) ∙ (omega arith)))
            (w, set_here s.views id w (at_below s.views id v at), subst IsOut (sym is) tt)
            (subst (AtStage s' r.opening r.log r.ticket r.serving id w) (sym is) (now, hi, same))
            (omega arith)
            (λ b. mine.begun part b)
            (([], append-nil v.held ∙ same), mine.held, ap (made_by v.number) same ∙ (mine.own part).0)
            (λ j u ne atj k. other_stage s s' r.opening r.log r.log r.ticket r.serving r.ticket r.serving id j v u u.stage ne at k (λ t _ a b. (a, b)) (λ t _ a b c. (a, b, c)))
            (λ x j u ne atj a c. ne (r.apart x j id u v atj at a c))
            (omega arith),
        (found ∙ sym (ap length same), refl),
      )

  pub releases_at : (slots id : ℕ) (v : View E B) (t : ℕ) (b : B) → slots ≡ 1 → v.stage ≡ Holding t → stands b (plain v.held) → fixed_in fixed_of v ≡ Some (fixed_of b)
      → Allows Rule slots id (v, (0, Some b) ∷ []) 2 (λ n. (n + 1) % wide) (releases (step slots 2 1 0 none) (v, (0, Some b) ∷ []))
  releases_at slots id v t b alone_slot is ok kept s r long at small =
      let mine = r.each id v at in
      let k = subst (AtStage s r.opening r.log r.ticket r.serving id v) is mine.stage in let now = k.0 in let hi = k.1 in let same = k.2 in
      let w : View E B = record v { stage = Idle } in
      let s' : St = stepped s 2 ((get_or s.words 2 0 + 1) % wide) id ((0, Some b) ∷ []) w gives in
      let one : waits v ≡ 1 = ap waits_at is in
      let here = total_set waits s.views id v w at in let q = r.queue in
      let part = has_part s r id v at one in
      let told : fixed_in fixed_of v ≡ Some (fixed_of body) = ap (option_map fixed_of) (mine.opened part) in (
        w,
        gives,
        tt,
        moved s r id v w s'.words s'.homes r.ticket (r.serving + 1) None at part (refl, refl, refl, refl, refl, refl)
            (ap (λ (l : List ℕ). set l 2 ((get_or l 2 0 + 1) % wide)) r.words ∙ ap (λ (n : ℕ). length r.log ∷ r.ticket % wide ∷ n ∷ []) (mod-add-mod r.serving wide 1))
            (b, one_long s.homes (some (Some b)) (long ∙ alone_slot), subst (λ (l : List (Entry E)). stands b (plain l)) same ok, cc)
            tt
            (omega arith)
            (λ _. mine.begun part (subst HasBegun (sym is) tt))
            (mine.seen, mine.held, (mine.own part).1)
            (λ j u ne atj k. other_stage s s' r.opening r.log r.log r.ticket r.serving r.ticket (r.serving + 1) id j v u u.stage ne at k
            (λ x st a c. (dite (ℕ_discrete x r.serving) (λ hit. absurd (alone s r id t j v u at is now ne atj (subst (Has r.serving) (sym st) (sym hit)))) (λ miss. omega arith), c))
            (λ x st a _ _. absurd (alone s r id t j v u at is now ne atj (subst (Has r.serving) (sym st) (sym a)))))
            (λ x j u ne atj a c. c)
            (omega arith),
        refl,
      )

  pub releases_one : (slots id : ℕ) (m : M) (t : ℕ) (b : B) → slots ≡ 1 → m.0.stage ≡ Holding t → m.1 ≡ (0, Some b) ∷ [] → stands b (plain m.0.held) → fixed_in fixed_of m.0 ≡ Some (fixed_of b)
      → Allows Rule slots id m 2 (λ n. (n + 1) % wide) (releases (step slots 2 1 0 none) m)
  releases_one slots id m t b one is out ok kept = subst (λ (l : List (ℕ × Option B)). Allows Rule slots id (m.0, l) 2 (λ n. (n + 1) % wide) (releases (step slots 2 1 0 none) (m.0, l))) (sym out)
      (releases_at slots id m.0 t b one is ok kept)

  pub called : (m w : M) (n t ticket : ℕ) → m.0.stage ≡ Waiting t → calls_at stands fixed_of m n w m.0.stage → n ≡ ticket → ticket ≡ t % wide → Called stands fixed_of m t w
  called m w n t ticket is told same mine = subst (λ z. MatchBool z (Called stands fixed_of m t w) (w ≡ m)) (eq-eqb n (t % wide) (same ∙ mine)) (subst (calls_at stands fixed_of m n w) is told)

  pub missed : (m w : M) (n t ticket : ℕ) → m.0.stage ≡ Waiting t → calls_at stands fixed_of m n w m.0.stage → n ≢ ticket → ticket ≡ t % wide → w ≡ m
  missed m w n t ticket is told other mine = subst (λ z. MatchBool z (Called stands fixed_of m t w) (w ≡ m)) (ne_eqb n (t % wide) (λ e. other (e ∙ sym mine))) (subst (calls_at stands fixed_of m n w) is told)

  place_longer : (s s' : St) (log : List (Entry E)) (w : View E B) (holder : Option ℕ) → s'.homes ≡ s.homes → s'.views ≡ s.views ++ w ∷ []
      → Place stands fixed_of body all_seats s log holder → Place stands fixed_of body all_seats s' log holder
  place_longer s s' log w None same views p = (p.0, same ∙ p.1, p.2, p.3)
  place_longer s s' log w (Some j) same views p = (p.0, ap (λ l. get_elem? l j) views ∙ at_longer s.views (w ∷ []) j p.0 p.1, p.2)

  pub splits_one : (id : ℕ) (v : View E B) → v.stage ≡ Idle → 0 < v.made → 1 < v.parts → Splits Rule id v (left_of v) (right_of v)
  splits_one id v idle newest many s r at =
      let mine = r.each id v at in let part : 0 < v.parts = omega arith in let num : v.number ≡ id + 1 = mine.number part in
      let count : v.made ≡ length s.views = (mine.newest part newest).0 in let last : v.number ≡ v.made = (mine.newest part newest).1 in let below = at_below s.views id v at in
      let l : View E B = left_of v in let n : View E B = right_of v in
      let vs : List (View E B) = set s.views id l in
      let mid : St = record { words = s.words; homes = s.homes; views = vs } in
      let s' : St = record { words = s.words; homes = s.homes; views = vs ++ n ∷ [] } in
      let long : length vs ≡ length s.views = length-set s.views id l in
      let longer_by : length (vs ++ n ∷ []) ≡ length s.views + 1 = length-append vs (n ∷ []) ∙ ap (λ (k : ℕ). k + 1) long in
      let gone = λ (k : ℕ) (x : Gone s.views k). gone_longer vs k n (gone_stays s.views id k v l at part x) in
      let out : IsOut v.stage → ⊥ = λ o. subst IsOut idle o in
      let w0 : waits v ≡ 0 = ap waits_at idle in let wl : waits l ≡ 0 = ap waits_at idle in
      let a = total_set waits s.views id v l at in let b = total_snoc waits vs n in let c = total_set parts s.views id v l at in let d = total_snoc parts vs n in
      let q = r.queue in let sh = r.shared in
      let own = mine.own part in let begun = mine.begun part (subst HasBegun (sym idle) tt) in record {
        log = r.log;
        opening = r.opening;
        opens = r.opens;
        ticket = r.ticket;
        serving = r.serving;
        holder = r.holder;
        words = r.words;
        small = r.small;
        place = place_longer mid s' r.log n r.holder refl refl (place_stays s mid r.log id v l r.holder at out refl refl r.place);
        each = λ j u atj. ⊎_elim
            (λ (old : get_elem? vs j ≡ some u). each_stays (Knows body s' r.opening r.log r.ticket r.serving) s.views id l
            record {
              stage = subst (AtStage s' r.opening r.log r.ticket r.serving id l) (sym idle) tt;
              share = omega arith;
              number = λ _. num;
              opened = λ _. mine.opened part;
              begun = λ _ _. begun;
              seen = mine.seen;
              held = mine.held;
              newest = λ _ z. absurd (omega arith);
              joined = λ i c e. let t = mine.joined i c e in (t.0, t.1, gone c.number t.2);
              own = λ _. own;
            }
            (λ j u ne atj. let k = r.each j u atj in record {
              stage = other_stage s s' r.opening r.log r.log r.ticket r.serving r.ticket r.serving id j v u u.stage ne at k.stage (λ t _ a b. (a, b)) (λ t _ a b c. (a, b, c));
              share = k.share;
              number = k.number;
              opened = k.opened;
              begun = k.begun;
              seen = k.seen;
              held = k.held;
              newest = λ p z. let t = k.newest p z in let t0 = t.0 in let t1 = t.1 in let m = k.number p in absurd (ne (omega arith));
              joined = λ i c e. let t = k.joined i c e in (t.0, t.1, gone c.number t.2);
              own = k.own;
            }) j u old)
            (λ (new : (j ≡ length vs) × (n ≡ u)). subst (λ (x : ℕ × View E B). Knows body s' r.opening r.log r.ticket r.serving x.0 x.1) (λ i. (sym (new.0 ∙ (long ∙ sym count)) i, new.1 i))
            record {
              stage = tt;
              share = omega arith;
              number = λ _. refl;
              opened = λ _. mine.opened part;
              begun = λ _ _. begun;
              seen = mine.seen;
              held = (r.log, refl);
              newest = λ _ _. (ap (λ (k : ℕ). k + 1) count ∙ sym longer_by, refl);
              joined = λ i c e. absurd (some-ne-none c (sym e));
              own = λ _. let fresh : made_by (v.made + 1) r.log ≡ [] = r.makers (v.made + 1) (omega arith) in (fresh, made_by-within (v.made + 1) [] v.seen r.log (v.seen, refl) mine.seen fresh);
            })
            (snoc_at vs n u j atj);
        apart = apart_snoc vs n (apart_stays s.views id l r.apart (λ t j u ne atj x y. subst (Has t) idle y)) (λ t h. h);
        queue = omega arith;
        shared = omega arith;
        few = r.few;
        makers = λ k x. r.makers k (omega arith);
        rest = subst (λ (k : ℕ). Rest r.opening k r.log) (sym longer_by) (rest_wider r.opening (length s.views) r.log r.rest);
        covered = λ k x. dite (ℕ_discrete k (length s.views))
            (λ e. (length vs, n, at_last vs n (length vs) refl, omega arith, inl (omega arith)))
            (λ ne. let t = covered_stays s.views id v l at (omega arith) refl refl r.covered k (omega arith) in (t.0, t.1, at_longer vs (n ∷ []) t.0 t.1 t.2, t.3, t.4));
      }

  tells_both : (v w : View E B) (n : ℕ) → TellsOf v n → TellsOf (both_of v w) n
  tells_both v w n t = ⊎_elim (λ e. inl e) (λ (x : (i : ℕ) × (c : JoinedSeat E) × (get_elem? v.joined i ≡ some c) × (n ≡ c.number)). inr (x.0, x.1, at_longer v.joined (cover_of w ∷ w.joined) x.0 x.1 x.2, x.3)) t

  tells_too : (v w : View E B) (n : ℕ) → TellsOf w n → TellsOf (both_of v w) n
  tells_too v w n t = ⊎_elim
      (λ e. let a = at_after v.joined (cover_of w ∷ w.joined) (cover_of w) 0 refl in inr (a.0, cover_of w, a.1, e))
      (λ (x : (i : ℕ) × (c : JoinedSeat E) × (get_elem? w.joined i ≡ some c) × (n ≡ c.number)). let a = at_after v.joined (cover_of w ∷ w.joined) x.1 (suc x.0) x.2 in inr (a.0, x.1, a.1, x.3)) t

  pub joins_one : (id other : ℕ) (v w : View E B) → v.stage ≡ Idle → w.stage ≡ Idle → 0 < v.parts → 0 < w.parts → Joins Rule id v other w (both_of v w) spent
  joins_one id other v w idle idle' part part' s r at apart there =
      let b : View E B = both_of v w in
      let vs : List (View E B) = set s.views id b in let vs' : List (View E B) = set vs other spent in
      let at' : get_elem? s.views other ≡ some w = sym (set_else s.views id other b apart) ∙ there in
      let mid : St = record { words = s.words; homes = s.homes; views = vs } in
      let s' : St = record { words = s.words; homes = s.homes; views = vs' } in
      let mine = r.each id v at in let theirs = r.each other w at' in
      let num : v.number ≡ id + 1 = mine.number part in let num' : w.number ≡ other + 1 = theirs.number part' in
      let long : length vs' ≡ length s.views = length-set vs other spent ∙ length-set s.views id b in
      let gone = λ (k : ℕ) (x : Gone s.views k). gone_spent vs other k w spent there refl (gone_stays s.views id k v b at part x) in
      let now_gone : Gone vs' w.number = (other, spent, num', set_here vs other spent (at_below vs other w there), refl) in
      let w0 : waits v ≡ 0 = ap waits_at idle in let wb : waits b ≡ 0 = ap waits_at idle in let w0' : waits w ≡ 0 = ap waits_at idle' in
      let a1 = total_set waits s.views id v b at in let a2 = total_set waits vs other w spent there in
      let b1 = total_set parts s.views id v b at in let b2 = total_set parts vs other w spent there in
      let q = r.queue in let sh = r.shared in
      let own = mine.own part in let own' = theirs.own part' in
      let all : IsPrefix b.seen r.log = longer_within v.seen w.seen r.log mine.seen theirs.seen in
      let seen_own : made_by v.number b.seen ≡ v.own = made_by-within v.number v.seen b.seen r.log (prefix_longer v.seen w.seen r.log mine.seen theirs.seen) all (own.0 ∙ sym own.1) ∙ own.1 in record {
        log = r.log;
        opening = r.opening;
        opens = r.opens;
        ticket = r.ticket;
        serving = r.serving;
        holder = r.holder;
        words = r.words;
        small = r.small;
        place = place_stays mid s' r.log other w spent r.holder there (λ o. subst IsOut idle' o) refl refl (place_stays s mid r.log id v b r.holder at (λ o. subst IsOut idle o) refl refl r.place);
        each = each_stays (Knows body s' r.opening r.log r.ticket r.serving) vs other spent
            record {
              stage = tt;
              share = omega arith;
              number = λ h. absurd (omega arith);
              opened = λ h. absurd (omega arith);
              begun = λ h _. absurd (omega arith);
              seen = (r.log, refl);
              held = (r.log, refl);
              newest = λ h. absurd (omega arith);
              joined = λ i c e. absurd (some-ne-none c (sym e));
              own = λ h. absurd (omega arith);
            }
            (λ j u ne atj. each_stays (λ j u. j ≢ other → Knows body s' r.opening r.log r.ticket r.serving j u) s.views id b
            (λ _. record {
              stage = subst (AtStage s' r.opening r.log r.ticket r.serving id b) (sym idle) tt;
              share = omega arith;
              number = λ _. num;
              opened = λ _. mine.opened part;
              begun = λ _ g. mine.begun part g;
              seen = all;
              held = mine.seen;
              newest = λ _ z. let t = mine.newest part z in (t.0 ∙ sym long, t.1);
              joined = λ i c e. ⊎_elim (λ (x : get_elem? v.joined i ≡ some c). let t = mine.joined i c x in (t.0, t.1, gone c.number t.2))
                  (⊎_elim (λ (x : cover_of w ≡ c). subst (λ (y : JoinedSeat E). (made_by y.number r.log ≡ y.own) × IsPrefix y.seen r.log × Gone vs' y.number) x (own'.0, theirs.seen, now_gone))
                  (λ (x : (k : ℕ) × (get_elem? w.joined k ≡ some c)). let t = theirs.joined x.0 c x.1 in (t.0, t.1, gone c.number t.2)))
                  (between v.joined w.joined (cover_of w) c i e);
              own = λ _. (own.0, seen_own);
            })
            (λ j u ne atj not. let k = r.each j u atj in restage s s' r.opening r.log r.ticket r.serving r.ticket r.serving j u long gone k
            (other_stage s s' r.opening r.log r.log r.ticket r.serving r.ticket r.serving id j v u u.stage ne at k.stage (λ t _ a b. (a, b)) (λ t _ a b c. (a, b, c)))) j u atj ne);
        apart = apart_stays vs other spent (apart_stays s.views id b r.apart (λ t j u ne atj x y. subst (Has t) idle y)) (λ t j u ne atj x y. y);
        queue = omega arith;
        shared = omega arith;
        few = r.few;
        makers = λ k x. r.makers k (subst (λ (n : ℕ). n < k) long x);
        rest = subst (λ (n : ℕ). Rest r.opening n r.log) (sym long) r.rest;
        covered = λ k x. let t = r.covered k (subst (λ (n : ℕ). k < n) long x) in
            let here : get_elem? vs' id ≡ some b = set_else vs other id spent (λ e. apart (sym e)) ∙ set_here s.views id b (at_below s.views id v at) in
            dite (ℕ_discrete t.0 id)
            (λ e. let same : t.1 ≡ v = some-injective t.1 v (sym t.2 ∙ (ap (get_elem? s.views) e ∙ at)) in (id, b, here, omega arith, tells_both v w (k + 1) (subst (λ (y : View E B). TellsOf y (k + 1)) same t.4)))
            (λ ne. dite (ℕ_discrete t.0 other)
            (λ e. let same : t.1 ≡ w = some-injective t.1 w (sym t.2 ∙ (ap (get_elem? s.views) e ∙ at')) in (id, b, here, omega arith, tells_too v w (k + 1) (subst (λ (y : View E B). TellsOf y (k + 1)) same t.4)))
            (λ ne'. (t.0, t.1, set_else vs other t.0 spent ne' ∙ (set_else s.views id t.0 b ne ∙ t.2), t.3, t.4)));
      }

  -- a new table, with the body at home
  pub opened : (n : ℕ) (l : List E) → stands body l → n ≡ length l → n < wide → 0 < all_seats → all_seats < wide
      → Rule (at_first (n ∷ 0 ∷ 0 ∷ []) (Some body ∷ []) (first_view body all_seats))
  opened n l fits is small some_seat few =
      let v : View E B = first_view body all_seats in let log : List (Entry E) = marked 0 l in
      let s : St = at_first (n ∷ 0 ∷ 0 ∷ []) (Some body ∷ []) v in
      let len : length log ≡ length l = length-map l (entry 0) in
      let none_made : made_by 1 log ≡ [] = made_by-marked 1 l (omega arith) in record {
        log = log;
        opening = l;
        opens = fits;
        ticket = 0;
        serving = 0;
        holder = None;
        words = ap (λ (k : ℕ). k ∷ 0 ∷ 0 ∷ []) (is ∙ sym len);
        small = omega arith;
        place = (body, refl, subst (stands body) (sym (plain-marked 0 l)) fits, refl);
        each = λ j u at. only (Knows body s l log 0 0) v j u at record {
          stage = (refl, refl, refl);
          share = omega arith;
          number = λ _. refl;
          opened = λ _. refl;
          begun = λ _ g. absurd g;
          seen = (log, refl);
          held = (log, refl);
          newest = λ _ _. (refl, refl);
          joined = λ i c e. absurd (some-ne-none c (sym e));
          own = λ _. (none_made, refl);
        };
        apart = λ t j k u w atj atk hj hk. only (λ j u. Has t u.stage → j ≡ k) v j u atj (λ h. absurd h) hj;
        queue = refl;
        shared = omega arith;
        few = few;
        makers = λ k h. made_by-marked k l (omega arith);
        rest = record { more = []; is = sym (append-nil log); makers = λ k d l. absurd (omega arith) };
        covered = λ k h. let z : k ≡ 0 = omega arith in (0, v, refl, some_seat, inl (ap (λ (n : ℕ). n + 1) z));
      }

  -- the same of a body and slots that are known by equations
  pub opened_as : (b : B) (n : ℕ) (l : List E) (xs : List (Option B)) → body ≡ b → xs ≡ Some b ∷ [] → stands b l → n ≡ length l → n < wide → 0 < all_seats → all_seats < wide
      → Rule (at_first (n ∷ 0 ∷ 0 ∷ []) xs (first_view body all_seats))
  opened_as b n l xs same slots fits is small some_seat few =
      subst (λ (ys : List (Option B)). Rule (at_first (n ∷ 0 ∷ 0 ∷ []) ys (first_view body all_seats))) (ap (λ (x : B). Some x ∷ []) same ∙ sym slots)
      (opened n l (subst (λ (x : B). stands x l) (sym same) fits) is small some_seat few)

  begins_at : (slots : ℕ) → 0 < all_seats → let m : M = (first_view body all_seats, []) in Allows Rule slots 0 m 0 (λ n. n) (begins stands (step slots 0 0 0 none) m)
  begins_at slots part s r long at small =
      let v : View E B = first_view body all_seats in let w : View E B = begun_with v r.opening in
      let mine = r.each 0 v at in let k = mine.stage in let log_is = k.2 in
      let s' : St = stepped s 0 (get_or s.words 0 0) 0 [] w keeps in
      let here = total_set waits s.views 0 v w at in let q = r.queue in (
        w,
        keeps,
        tt,
        moved s r 0 v w s'.words s'.homes r.ticket r.serving r.holder at part (refl, refl, refl, refl, refl, refl)
            (ap (λ (l : List ℕ). set l 0 (get_or l 0 0)) r.words)
            (place_stays s s' r.log 0 v w r.holder at (λ out. out) refl refl r.place)
            tt
            (omega arith)
            (λ _. refl)
            (([], append-nil (marked 0 r.opening) ∙ sym log_is), mine.held, ap (made_by 1) (sym log_is) ∙ (mine.own part).0)
            (λ j u ne atj k. other_stage s s' r.opening r.log r.log r.ticket r.serving r.ticket r.serving 0 j v u u.stage ne at k (λ t _ a b. (a, b)) (λ t _ a b c. (a, b, c)))
            (λ x j u ne atj a c. c)
            (omega arith),
        (body, r.opening, refl, r.opens, refl),
      )

  pub begins_one : (slots id : ℕ) (m : M) (b : B) (n : ℕ) → id ≡ 0 → body ≡ b → all_seats ≡ n → 0 < n → m ≡ (first_view b n, []) → Allows Rule slots id m 0 (λ n. n) (begins stands (step slots 0 0 0 none) m)
  begins_one slots id m b n zero_id same count part is =
      let is' : m ≡ (first_view body all_seats, []) = is ∙ λ i. (first_view (sym same i) (sym count i), []) in
      subst (λ (x : ℕ × M). Allows Rule slots x.0 x.1 0 (λ n. n) (begins stands (step slots 0 0 0 none) x.1)) (λ i. (sym zero_id i, sym is' i)) (begins_at slots (subst (λ (k : ℕ). 0 < k) (sym count) part))

  other_out : (s : St) (r : Rule s) (id j : ℕ) (v u : View E B) → get_elem? s.views id ≡ some v → v.parts ≡ all_seats → j ≢ id → get_elem? s.views j ≡ some u → (st : Stage) → u.stage ≡ st → IsOut st → ⊥
  other_out s r id j v u at all ne atj Idle e o = elim o [ ]
  other_out s r id j v u at all ne atj (Waiting t) e o = elim o [ ]
  other_out s r id j v u at all ne atj (Holding t) e o =
      let two = total_two parts s.views id j v u (λ e. ne (sym e)) at atj in let sh = r.shared in let share = (r.each j u atj).share in let w1 : waits u ≡ 1 = ap waits_at e in omega arith
  other_out s r id j v u at all ne atj Fresh e o = elim o [ ]

  home_at_end : (s : St) (r : Rule s) (id : ℕ) (v : View E B) → get_elem? s.views id ≡ some v → v.stage ≡ Idle → v.parts ≡ all_seats → (holder : Option ℕ)
      → Place stands fixed_of body all_seats s r.log holder → Place stands fixed_of body all_seats s r.log None
  home_at_end s r id v at idle all None p = p
  home_at_end s r id v at idle all (Some j) p = dite (ℕ_discrete j id)
      (λ e. let same : p.0 ≡ v = some-injective p.0 v (sym p.1 ∙ (ap (get_elem? s.views) e ∙ at)) in absurd (subst IsOut (ap (λ (x : View E B). x.stage) same ∙ idle) p.2))
      (λ ne. absurd (other_out s r id j v p.0 at all ne p.1 p.0.stage refl p.2))

  -- where one seat has all parts, the slot is at home at the end, with a body that stands for the last history
  pub closes_with : (id : ℕ) (cell : TableId) (v : View E B) (ws : List ℕ) (xs : List (Option B)) → v.stage ≡ Idle → v.parts ≡ all_seats → 0 < v.parts → Final (Seen Rule id v) ws xs
      → (b : B) × (get_elem? xs 0 ≡ some (Some b)) × (fixed_of b ≡ fixed_of body) × Closing stands (facts_of fixed_of cell v) b
  closes_with id cell v ws xs idle all part f =
      let s : St = f.0 in let r = f.1.0 in let at = f.1.1 in
      let p = home_at_end s r id v at idle all r.holder r.place in let mine = r.each id v at in
      let there : get_elem? s.homes 0 ≡ some (some (Some p.0)) = ap (λ (l : List Home). get_elem? l 0) p.1 in
      let begun : v.opening ≡ r.opening = mine.begun part (subst HasBegun (sym idle) tt) in (
        p.0,
        f.4 0 (Some p.0) there,
        p.3,
        record {
          log = r.log;
          stands_for = p.2;
          seen = mine.seen;
          own = (mine.own part).0;
          joined = at_each v.joined (λ (c : JoinedSeat E). IsPrefix c.seen r.log × (made_by c.number r.log ≡ c.own)) (λ i c e. let t = mine.joined i c e in (t.1, t.0));
          added = r.rest.more;
          begins = r.rest.is ∙ ap (λ (l : List E). marked 0 l ++ r.rest.more) (sym begun);
          makers = λ k d l. let h = r.rest.makers k d l in let e : Entry E = get_or r.rest.more k d in let n : ℕ = e.maker in
              let lo : 0 < n = h.0 in let hi : n ≤ length s.views = h.1 in
              let t = r.covered (n - 1) (omega arith) in let back : (n - 1) + 1 ≡ n = omega arith in
              let same : t.1 ≡ v = dite (ℕ_discrete t.0 id)
              (λ e. some-injective t.1 v (sym t.2 ∙ (ap (get_elem? s.views) e ∙ at)))
              (λ ne. let two = total_two parts s.views id t.0 v t.1 (λ e. ne (sym e)) at t.2 in let sh = r.shared in let some_part = t.3 in absurd (omega arith)) in
              tells_number v n (subst (λ (x : ℕ × View E B). TellsOf x.1 x.0) (λ i. (back i, same i)) t.4);
        },
      )
