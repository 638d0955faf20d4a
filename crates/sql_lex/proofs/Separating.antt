-- What the lexer passes over is separators by the grammar, and where it stops there is none.
use Rattle.std.proofs.Common.{◌≡◌, ◌≢◌, ◌⊎◌, inl, inr, ⊎_elim, ℕ, zero, suc, ◌-◌, ◌≤◌, Bool, true, false, ◌&&◌, ◌==◌, List, [], ◌∷◌, ◌++◌, length, refl, sym, ap, subst, ◌∙◌, arith, Result, Ok, Err, eq-eqb}
use borrow.Author.Tests.{eqb-true, eqb-false}
use Rattle.std.proofs.lemmas.Bool.{false≢true, and_parts}
use Rattle.pg_base.specs.Lists.{Each}
use Rattle.sql_lex.specs.Bytes.{is_blank, is_line_end}
use Rattle.sql_lex.specs.Faults.{unterminated_comment}
use Rattle.sql_lex.specs.Separators.{Stop, unterminated, stray, after_separators, after_line, after_comment}
use Rattle.sql_lex.specs.Grammar.{IsBlank, Begins, IsAtLineEnd, IsOfLine, IsNoMark, ClosesComment, closes, nests, passes, StaysOpen, opened, holds, deepens, lasts, IsSeparator, blank, line_comment, comment, AreSeparators, are_none, are_more, BeginsSeparator, HasNoToken, open_comment, zero_in_line, zero_in_comment}
use Rattle.sql_lex.proofs.Classes.{blank_decides, line_end_decides}
use Rattle.sql_lex.proofs.Shapes.{cond_is, err_ok, ok_same}

-- ---- pairs of bytes

both_are : (b c a d : ℕ) → ((b == a) && (c == d)) ≡ true → (b ≡ a) × (c ≡ d)
both_are b c a d e = let p = and_parts (b == a) (c == d) e in (eqb-true b a p.0, eqb-true c d p.1)

pub begins_pair : (a d b c : ℕ) (z : List ℕ) → ((b == a) && (c == d)) ≡ true → b ∷ c ∷ z ≡ a ∷ d ∷ z
begins_pair a d b c z e = let p = both_are b c a d e in ap (λ (x : ℕ). x ∷ c ∷ z) p.0 ∙ ap (λ (x : ℕ). a ∷ x ∷ z) p.1

pub begins_not : (a d b c : ℕ) (z : List ℕ) → ((b == a) && (c == d)) ≡ false → Begins a d (b ∷ c ∷ z) → ⊥
begins_not a d b c z e h =
    let p : b ≡ a = cc h.1 in
    let q : c ≡ d = cc h.1 in
    false≢true (sym e ∙ ap (λ (x : Bool). x && (c == d)) (eq-eqb b a p) ∙ eq-eqb c d q)

pub begins_one : (a d b : ℕ) → Begins a d (b ∷ []) → ⊥
begins_one a d b h = let len : suc 0 ≡ suc (suc (length h.0)) = ap length h.1 in absurd (omega arith)

pub not_zero : (b : ℕ) → (b == 0) ≡ false → b ≢ 0
not_zero b e = eqb-false b 0 e

no_mark : (b c : ℕ) (z : List ℕ) → ((b == 42) && (c == 47)) ≡ false → ((b == 47) && (c == 42)) ≡ false → IsNoMark (b ∷ c ∷ z)
no_mark b c z e f = (begins_not 47 42 b c z f, begins_not 42 47 b c z e)

-- ---- comments that close

-- n more than one `*/` are wanted
Unwinds : ℕ → List ℕ → List ℕ → Type 0
Unwinds zero z y = ClosesComment z y
Unwinds (suc d) z y = (w : List ℕ) × (ClosesComment z w × Unwinds d w y)

unwinds_closes : (d : ℕ) (z y : List ℕ) → Unwinds d z y → Unwinds (suc d) (42 ∷ 47 ∷ z) y
unfolding Unwinds
unwinds_closes d z y u = (z, (closes z, u))

unwinds_opens : (d : ℕ) (z y : List ℕ) → Unwinds (suc d) z y → Unwinds d (47 ∷ 42 ∷ z) y
unfolding Unwinds
unwinds_opens zero z y u = nests z u.0 y u.1.0 u.1.1
unwinds_opens (suc d) z y u = (u.1.1.0, (nests z u.0 u.1.1.0 u.1.0 u.1.1.1.0, u.1.1.1.1))

unwinds_passes : (d b : ℕ) (z y : List ℕ) → b ≢ 0 → IsNoMark (b ∷ z) → Unwinds d z y → Unwinds d (b ∷ z) y
unfolding Unwinds
unwinds_passes zero b z y n m u = passes b z y n m u
unwinds_passes (suc d) b z y n m u = (u.0, (passes b z u.0 n m u.1.0, u.1.1))

-- ---- comments that don't

-- the same of a comment that stays open up to a place, in which the first n at most close
Stays : ℕ → List ℕ → List ℕ → Type 0
Stays zero z r = StaysOpen z r
Stays (suc d) z r = StaysOpen z r ⊎ ((w : List ℕ) × (ClosesComment z w × Stays d w r))

stays_open : (d : ℕ) (z r : List ℕ) → StaysOpen z r → Stays d z r
unfolding Stays
stays_open zero z r s = s
stays_open (suc d) z r s = inl s

stays_closes : (d : ℕ) (z r : List ℕ) → Stays d z r → Stays (suc d) (42 ∷ 47 ∷ z) r
unfolding Stays
stays_closes d z r s = inr (z, (closes z, s))

stays_opens : (d : ℕ) (z r : List ℕ) → Stays (suc d) z r → Stays d (47 ∷ 42 ∷ z) r
unfolding Stays
stays_opens zero z r (inl s) = deepens z r s
stays_opens zero z r (inr s) = holds z s.0 r s.1.0 s.1.1
stays_opens (suc d) z r (inl s) = inl (deepens z r s)
stays_opens (suc d) z r (inr (w, (c, inl s))) = inl (holds z w r c s)
stays_opens (suc d) z r (inr (w, (c, inr s))) = inr (s.0, (nests z w s.0 c s.1.0, s.1.1))

stays_passes : (d b : ℕ) (z r : List ℕ) → b ≢ 0 → IsNoMark (b ∷ z) → Stays d z r → Stays d (b ∷ z) r
unfolding Stays
stays_passes zero b z r n m s = lasts b z r n m s
stays_passes (suc d) b z r n m (inl s) = inl (lasts b z r n m s)
stays_passes (suc d) b z r n m (inr s) = inr (s.0, (passes b z s.0 n m s.1.0, s.1.1))

unwinds_leaves : (d : ℕ) (z y : List ℕ) → d ≢ 0 → Unwinds (d - 1) z y → Unwinds d (42 ∷ 47 ∷ z) y
unwinds_leaves zero z y n u = absurd (n refl)
unwinds_leaves (suc d) z y n u = let k : suc d - 1 ≡ d = omega arith in unwinds_closes d z y (subst (λ (m : ℕ). Unwinds m z y) k u)

unwinds_last : (d : ℕ) (z : List ℕ) → d ≡ 0 → Unwinds d (42 ∷ 47 ∷ z) z
unfolding Unwinds
unwinds_last d z e = subst (λ (m : ℕ). Unwinds m (42 ∷ 47 ∷ z) z) (sym e) (closes z)

stays_leaves : (d : ℕ) (z r : List ℕ) → d ≢ 0 → Stays (d - 1) z r → Stays d (42 ∷ 47 ∷ z) r
stays_leaves zero z r n s = absurd (n refl)
stays_leaves (suc d) z r n s = let k : suc d - 1 ≡ d = omega arith in stays_closes d z r (subst (λ (m : ℕ). Stays m z r) k s)

-- ---- what begins a separator

line_end_blank : (b : ℕ) → is_line_end b ≡ true → IsBlank b
line_end_blank b e = ⊎_elim (λ (lf : b ≡ 10). inr (inr (inl lf))) (λ (h : (b ≡ 13) ⊎ ⊥). ⊎_elim (λ (cr : b ≡ 13). inr (inr (inr (inl cr)))) (λ (x : ⊥). absurd x) h) ((line_end_decides b).0 e)

not_blank : (b : ℕ) → is_blank b ≡ false → IsBlank b → ⊥
not_blank b e h = false≢true (sym e ∙ (blank_decides b).1 h)

none_at_end : BeginsSeparator [] → ⊥
none_at_end (inl h) = h
none_at_end (inr (inl h)) = let len : 0 ≡ suc (suc (length h.0)) = ap length h.1 in absurd (omega arith)
none_at_end (inr (inr h)) = let len : 0 ≡ suc (suc (length h.0)) = ap length h.1 in absurd (omega arith)

none_at_one : (b : ℕ) → is_blank b ≡ false → BeginsSeparator (b ∷ []) → ⊥
none_at_one b e (inl h) = not_blank b e h
none_at_one b e (inr (inl h)) = begins_one 45 45 b h
none_at_one b e (inr (inr h)) = begins_one 47 42 b h

none_at : (b c : ℕ) (z : List ℕ) → is_blank b ≡ false → ((b == 45) && (c == 45)) ≡ false → ((b == 47) && (c == 42)) ≡ false → BeginsSeparator (b ∷ c ∷ z) → ⊥
none_at b c z e f g (inl h) = not_blank b e h
none_at b c z e f g (inr (inl h)) = begins_not 45 45 b c z f h
none_at b c z e f g (inr (inr h)) = begins_not 47 42 b c z g h

of_line : (b : ℕ) → is_line_end b ≡ false → b ≢ 0 → IsOfLine b
of_line b e n = (n, λ h. false≢true (sym e ∙ (line_end_decides b).1 h))

-- ---- what is passed over

pub record IsPassed (z rest : List ℕ) : Type 0 where
  pub separators : AreSeparators z rest
  pub over : BeginsSeparator rest → ⊥

record IsLinePassed (z rest : List ℕ) : Type 0 where
  line : List ℕ
  next : List ℕ
  split : z ≡ line ++ next
  plain : Each IsOfLine line
  ended : IsAtLineEnd next
  passed : IsPassed next rest

record IsCommentPassed (depth : ℕ) (z rest : List ℕ) : Type 0 where
  next : List ℕ
  closed : Unwinds depth z next
  passed : IsPassed next rest

passed_more : (z y rest : List ℕ) → IsSeparator z y → IsPassed y rest → IsPassed z rest
passed_more z y rest s p = record { separators = are_more z y rest s p.separators; over = p.over }

passed_none : (z rest : List ℕ) → z ≡ rest → (BeginsSeparator z → ⊥) → IsPassed z rest
passed_none z rest e over = subst (λ (w : List ℕ). IsPassed z w) e (record { separators = are_none z; over = over })

line_passed : (z rest : List ℕ) → IsLinePassed z rest → IsPassed (45 ∷ 45 ∷ z) rest
line_passed z rest l = subst (λ (w : List ℕ). IsPassed (45 ∷ 45 ∷ w) rest) (sym l.split) (passed_more _ l.next rest (line_comment l.line l.next l.plain l.ended) l.passed)

comment_passed : (z rest : List ℕ) → IsCommentPassed 0 z rest → IsPassed (47 ∷ 42 ∷ z) rest
unfolding Unwinds
comment_passed z rest c = passed_more _ c.next rest (comment z c.next c.closed) c.passed

along : (a d b c : ℕ) (z rest : List ℕ) → ((b == a) && (c == d)) ≡ true → IsPassed (a ∷ d ∷ z) rest → IsPassed (b ∷ c ∷ z) rest
along a d b c z rest e p = subst (λ (w : List ℕ). IsPassed w rest) (sym (begins_pair a d b c z e)) p

mutual
  unfolding after_separators

  pub separators_passed : (z rest : List ℕ) → after_separators z ≡ Ok rest → IsPassed z rest
  separators_passed [] rest e = passed_none [] rest (ok_same _ _ e) none_at_end
  separators_passed (b ∷ []) rest e = elim (cond_is (is_blank b) _ _ _ e) [
    | inl h ↦ passed_more _ [] rest (blank b [] ((blank_decides b).0 h.0)) (passed_none [] rest (ok_same _ _ h.1) none_at_end)
    | inr h ↦ passed_none _ rest (ok_same _ _ h.1) (none_at_one b h.0)
  ]
  separators_passed (b ∷ c ∷ z) rest e = elim (cond_is (is_blank b) _ _ _ e) [
    | inl h ↦ passed_more _ (c ∷ z) rest (blank b (c ∷ z) ((blank_decides b).0 h.0)) (separators_passed (c ∷ z) rest h.1)
    | inr seen ↦ elim (cond_is ((b == 45) && (c == 45)) _ _ _ seen.1) [
      | inl h ↦ along 45 45 b c z rest h.0 (line_passed z rest (rest_of_line z rest h.1))
      | inr other ↦ elim (cond_is ((b == 47) && (c == 42)) _ _ _ other.1) [
        | inl h ↦ along 47 42 b c z rest h.0 (comment_passed z rest (rest_of_comment z (b ∷ c ∷ z) 0 rest h.1))
        | inr h ↦ passed_none _ rest (ok_same _ _ h.1) (none_at b c z seen.0 other.0 h.0)
      ]
    ]
  ]

  rest_of_line : (z rest : List ℕ) → after_line z ≡ Ok rest → IsLinePassed z rest
  rest_of_line [] rest e = record { line = []; next = []; split = refl; plain = tt; ended = tt; passed = passed_none [] rest (ok_same _ _ e) none_at_end }
  rest_of_line (b ∷ z) rest e = elim (cond_is (is_line_end b) _ _ _ e) [
    | inl h ↦
        record { line = []; next = b ∷ z; split = refl; plain = tt; ended = (line_end_decides b).0 h.0; passed = passed_more _ z rest (blank b z (line_end_blank b h.0)) (separators_passed z rest h.1) }
    | inr seen ↦ elim (cond_is (b == 0) _ _ _ seen.1) [
      | inl h ↦ absurd (err_ok _ _ h.1)
      | inr h ↦
          let r = rest_of_line z rest h.1 in
          record { line = b ∷ r.line; next = r.next; split = ap (λ (w : List ℕ). b ∷ w) r.split; plain = (of_line b seen.0 (not_zero b h.0), r.plain); ended = r.ended; passed = r.passed }
    ]
  ]

  rest_of_comment : (z whole : List ℕ) (depth : ℕ) (rest : List ℕ) → after_comment whole depth z ≡ Ok rest → IsCommentPassed depth z rest
  rest_of_comment [] whole depth rest e = absurd (err_ok _ _ e)
  rest_of_comment (b ∷ []) whole depth rest e = elim (cond_is (b == 0) _ _ _ e) [
    | inl h ↦ absurd (err_ok _ _ h.1)
    | inr h ↦ absurd (err_ok _ _ h.1)
  ]
  rest_of_comment (b ∷ c ∷ z) whole depth rest e = elim (cond_is (b == 0) _ _ _ e) [
    | inl h ↦ absurd (err_ok _ _ h.1)
    | inr seen ↦ elim (cond_is ((b == 42) && (c == 47)) _ _ _ seen.1) [
      | inl close ↦ elim (cond_is (depth == 0) _ _ _ close.1) [
        | inl h ↦
            record { next = z; closed = subst (λ (w : List ℕ). Unwinds depth w z) (sym (begins_pair 42 47 b c z close.0)) (unwinds_last depth z (eqb-true depth 0 h.0)); passed = separators_passed z rest h.1 }
        | inr h ↦
            let r = rest_of_comment z whole (depth - 1) rest h.1 in
            record { next = r.next; closed = subst (λ (w : List ℕ). Unwinds depth w r.next) (sym (begins_pair 42 47 b c z close.0)) (unwinds_leaves depth z r.next (eqb-false depth 0 h.0) r.closed); passed = r.passed }
      ]
      | inr other ↦ elim (cond_is ((b == 47) && (c == 42)) _ _ _ other.1) [
        | inl h ↦
            let r = rest_of_comment z whole (suc depth) rest h.1 in
            record { next = r.next; closed = subst (λ (w : List ℕ). Unwinds depth w r.next) (sym (begins_pair 47 42 b c z h.0)) (unwinds_opens depth z r.next r.closed); passed = r.passed }
        | inr h ↦
            let r = rest_of_comment (c ∷ z) whole depth rest h.1 in
            record { next = r.next; closed = unwinds_passes depth b (c ∷ z) r.next (not_zero b seen.0) (no_mark b c z other.0 h.0) r.closed; passed = r.passed }
      ]
    ]
  ]

-- ---- where it stops

-- the fault of a text behind separators
pub record IsStop (stop : Stop) (z : List ℕ) : Type 0 where
  pub reason : HasNoToken stop.which z stop.stands
  pub short : length stop.unread ≤ length stop.stands

pub stop_at : (s t : Stop) (z : List ℕ) → t ≡ s → HasNoToken t.which z t.stands → length t.unread ≤ length t.stands → IsStop s z
stop_at s t z e reason short = subst (λ (x : Stop). IsStop x z) e (record { reason = reason; short = short })

-- separators, and then a fault
pub record IsStopped (stop : Stop) (z : List ℕ) : Type 0 where
  pub next : List ℕ
  pub separators : AreSeparators z next
  pub here : IsStop stop next

record IsLineStopped (stop : Stop) (z : List ℕ) : Type 0 where
  line : List ℕ
  next : List ℕ
  split : z ≡ line ++ next
  plain : Each IsOfLine line
  stopped : ((v : List ℕ) × ((next ≡ 0 ∷ v) × (stray 0 v ≡ stop))) ⊎ (IsAtLineEnd next × IsStopped stop next)

data IsCommentStopped (whole : List ℕ) (stop : Stop) : ℕ → List ℕ → Type 0 where
  at_end : (depth : ℕ) (z : List ℕ) → Stays depth z [] → unterminated unterminated_comment whole ≡ stop → IsCommentStopped whole stop depth z
  at_zero : (depth : ℕ) (z v : List ℕ) → Stays depth z (0 ∷ v) → stray 0 v ≡ stop → IsCommentStopped whole stop depth z
  after_it : (depth : ℕ) (z y : List ℕ) → Unwinds depth z y → IsStopped stop y → IsCommentStopped whole stop depth z

stopped_more : (s : Stop) (z y : List ℕ) → IsSeparator z y → IsStopped s y → IsStopped s z
stopped_more s z y h r = record { next = r.next; separators = are_more z y r.next h r.separators; here = r.here }

stopped_here : (s : Stop) (z : List ℕ) → IsStop s z → IsStopped s z
stopped_here s z h = record { next = z; separators = are_none z; here = h }

line_stopped : (s : Stop) (z : List ℕ) → IsLineStopped s z → IsStopped s (45 ∷ 45 ∷ z)
line_stopped s z l = subst (λ (w : List ℕ). IsStopped s (45 ∷ 45 ∷ w)) (sym l.split) (chosen l.next l.stopped)
  where
    chosen : (next : List ℕ) → ((v : List ℕ) × ((next ≡ 0 ∷ v) × (stray 0 v ≡ s))) ⊎ (IsAtLineEnd next × IsStopped s next) → IsStopped s (45 ∷ 45 ∷ (l.line ++ next))
    chosen next (inl h) =
        subst (λ (w : List ℕ). IsStopped s (45 ∷ 45 ∷ (l.line ++ w))) (sym h.1.0) (stopped_here s _ (stop_at s (stray 0 h.0) _ h.1.1 (zero_in_line l.line h.0 l.plain) (omega arith)))
    chosen next (inr h) = stopped_more s _ next (line_comment l.line next l.plain h.0) h.1

comment_stopped : (s : Stop) (z whole : List ℕ) → whole ≡ 47 ∷ 42 ∷ z → IsCommentStopped whole s 0 z → IsStopped s (47 ∷ 42 ∷ z)
unfolding Unwinds Stays
comment_stopped s z whole e (at_end _ _ h f) =
    stopped_here s _ (stop_at s (unterminated unterminated_comment (47 ∷ 42 ∷ z)) _ (ap (unterminated unterminated_comment) (sym e) ∙ f) (open_comment z h) (omega arith))
comment_stopped s z whole e (at_zero _ _ v h f) = stopped_here s _ (stop_at s (stray 0 v) _ f (zero_in_comment z v h) (omega arith))
comment_stopped s z whole e (after_it _ _ y h r) = stopped_more s _ y (comment z y h) r

stopped_along : (a d b c : ℕ) (z : List ℕ) (s : Stop) → ((b == a) && (c == d)) ≡ true → IsStopped s (a ∷ d ∷ z) → IsStopped s (b ∷ c ∷ z)
stopped_along a d b c z s e p = subst (λ (w : List ℕ). IsStopped s w) (sym (begins_pair a d b c z e)) p

pub zero_here : (b : ℕ) (z : List ℕ) (s : Stop) → (b == 0) ≡ true → Err (stray b z) ≡ (let r : Result (List ℕ) Stop = Err s in r) → (b ≡ 0) × (stray 0 z ≡ s)
zero_here b z s e h = let k = eqb-true b 0 e in (k, ap (λ (x : ℕ). stray x z) (sym k) ∙ cc)

pub ok_err : {A B : Type 0} (a : A) (s : B) → Ok a ≡ Err s → ⊥
ok_err a s e = cc

pub err_same : (s t : Stop) → (let r : Result (List ℕ) Stop = Err s in r) ≡ Err t → s ≡ t
err_same s t e = cc

-- the zero byte in a comment
comment_zero : (b : ℕ) (z whole : List ℕ) (depth : ℕ) (s : Stop) → (b == 0) ≡ true → Err (stray b z) ≡ (let r : Result (List ℕ) Stop = Err s in r) → IsCommentStopped whole s depth (b ∷ z)
comment_zero b z whole depth s e h =
    let p = zero_here b z s e h in
    at_zero depth (b ∷ z) z (subst (λ (x : ℕ). Stays depth (b ∷ z) (x ∷ z)) p.0 (stays_open depth (b ∷ z) (b ∷ z) (opened (b ∷ z)))) p.1

module _ (whole : List ℕ) (s : Stop) (depth : ℕ) where
  stopped_closes : (z : List ℕ) → depth ≢ 0 → IsCommentStopped whole s (depth - 1) z → IsCommentStopped whole s depth (42 ∷ 47 ∷ z)
  stopped_closes z n (at_end _ _ h e) = at_end depth _ (stays_leaves depth z [] n h) e
  stopped_closes z n (at_zero _ _ v h e) = at_zero depth _ v (stays_leaves depth z (0 ∷ v) n h) e
  stopped_closes z n (after_it _ _ y h r) = after_it depth _ y (unwinds_leaves depth z y n h) r

  stopped_opens : (z : List ℕ) → IsCommentStopped whole s (suc depth) z → IsCommentStopped whole s depth (47 ∷ 42 ∷ z)
  stopped_opens z (at_end _ _ h e) = at_end depth _ (stays_opens depth z [] h) e
  stopped_opens z (at_zero _ _ v h e) = at_zero depth _ v (stays_opens depth z (0 ∷ v) h) e
  stopped_opens z (after_it _ _ y h r) = after_it depth _ y (unwinds_opens depth z y h) r

  stopped_passes : (b : ℕ) (z : List ℕ) → b ≢ 0 → IsNoMark (b ∷ z) → IsCommentStopped whole s depth z → IsCommentStopped whole s depth (b ∷ z)
  stopped_passes b z n m (at_end _ _ h e) = at_end depth _ (stays_passes depth b z [] n m h) e
  stopped_passes b z n m (at_zero _ _ v h e) = at_zero depth _ v (stays_passes depth b z (0 ∷ v) n m h) e
  stopped_passes b z n m (after_it _ _ y h r) = after_it depth _ y (unwinds_passes depth b z y n m h) r

  stopped_end : after_comment whole depth [] ≡ Err s → IsCommentStopped whole s depth []
  unfolding after_separators
  stopped_end e = at_end depth [] (stays_open depth [] [] (opened [])) (err_same _ _ e)

  pair_along : (a d b c : ℕ) (z : List ℕ) → ((b == a) && (c == d)) ≡ true → IsCommentStopped whole s depth (a ∷ d ∷ z) → IsCommentStopped whole s depth (b ∷ c ∷ z)
  pair_along a d b c z e p = subst (λ (w : List ℕ). IsCommentStopped whole s depth w) (sym (begins_pair a d b c z e)) p

one_no_mark : (b : ℕ) → IsNoMark (b ∷ [])
one_no_mark b = (begins_one 47 42 b, begins_one 42 47 b)

mutual
  unfolding after_separators

  pub separators_stopped : (z : List ℕ) (s : Stop) → after_separators z ≡ Err s → IsStopped s z
  separators_stopped [] s e = absurd (ok_err _ _ e)
  separators_stopped (b ∷ []) s e = elim (cond_is (is_blank b) _ _ _ e) [
    | inl h ↦ absurd (ok_err _ _ h.1)
    | inr h ↦ absurd (ok_err _ _ h.1)
  ]
  separators_stopped (b ∷ c ∷ z) s e = elim (cond_is (is_blank b) _ _ _ e) [
    | inl h ↦ stopped_more s _ (c ∷ z) (blank b (c ∷ z) ((blank_decides b).0 h.0)) (separators_stopped (c ∷ z) s h.1)
    | inr seen ↦ elim (cond_is ((b == 45) && (c == 45)) _ _ _ seen.1) [
      | inl h ↦ stopped_along 45 45 b c z s h.0 (line_stopped s z (stop_of_line z s h.1))
      | inr other ↦ elim (cond_is ((b == 47) && (c == 42)) _ _ _ other.1) [
        | inl h ↦ stopped_along 47 42 b c z s h.0 (comment_stopped s z (b ∷ c ∷ z) (begins_pair 47 42 b c z h.0) (stop_of_comment z (b ∷ c ∷ z) 0 s h.1))
        | inr h ↦ absurd (ok_err _ _ h.1)
      ]
    ]
  ]

  stop_of_line : (z : List ℕ) (s : Stop) → after_line z ≡ Err s → IsLineStopped s z
  stop_of_line [] s e = absurd (ok_err _ _ e)
  stop_of_line (b ∷ z) s e = elim (cond_is (is_line_end b) _ _ _ e) [
    | inl h ↦
        record { line = []; next = b ∷ z; split = refl; plain = tt; stopped = inr ((line_end_decides b).0 h.0, stopped_more s _ z (blank b z (line_end_blank b h.0)) (separators_stopped z s h.1)) }
    | inr seen ↦ elim (cond_is (b == 0) _ _ _ seen.1) [
      | inl h ↦
          let p = zero_here b z s h.0 h.1 in
          record { line = []; next = b ∷ z; split = refl; plain = tt; stopped = inl (z, (ap (λ (x : ℕ). x ∷ z) p.0, p.1)) }
      | inr h ↦
          let r = stop_of_line z s h.1 in
          record { line = b ∷ r.line; next = r.next; split = ap (λ (w : List ℕ). b ∷ w) r.split; plain = (of_line b seen.0 (not_zero b h.0), r.plain); stopped = r.stopped }
    ]
  ]

  stop_of_comment : (z whole : List ℕ) (depth : ℕ) (s : Stop) → after_comment whole depth z ≡ Err s → IsCommentStopped whole s depth z
  stop_of_comment [] whole depth s e = stopped_end whole s depth e
  stop_of_comment (b ∷ []) whole depth s e = elim (cond_is (b == 0) _ _ _ e) [
    | inl h ↦ comment_zero b [] whole depth s h.0 h.1
    | inr h ↦ stopped_passes whole s depth b [] (not_zero b h.0) (one_no_mark b) (stopped_end whole s depth h.1)
  ]
  stop_of_comment (b ∷ c ∷ z) whole depth s e = elim (cond_is (b == 0) _ _ _ e) [
    | inl h ↦ comment_zero b (c ∷ z) whole depth s h.0 h.1
    | inr seen ↦ elim (cond_is ((b == 42) && (c == 47)) _ _ _ seen.1) [
      | inl close ↦ elim (cond_is (depth == 0) _ _ _ close.1) [
        | inl h ↦
            pair_along whole s depth 42 47 b c z close.0 (after_it depth _ z (unwinds_last depth z (eqb-true depth 0 h.0)) (separators_stopped z s h.1))
        | inr h ↦ pair_along whole s depth 42 47 b c z close.0 (stopped_closes whole s depth z (eqb-false depth 0 h.0) (stop_of_comment z whole (depth - 1) s h.1))
      ]
      | inr other ↦ elim (cond_is ((b == 47) && (c == 42)) _ _ _ other.1) [
        | inl h ↦ pair_along whole s depth 47 42 b c z h.0 (stopped_opens whole s depth z (stop_of_comment z whole (suc depth) s h.1))
        | inr h ↦ stopped_passes whole s depth b (c ∷ z) (not_zero b seen.0) (no_mark b c z other.0 h.0) (stop_of_comment (c ∷ z) whole depth s h.1)
      ]
    ]
  ]

-- ---- what is passed over is a front of the text

append_front : (a z front rest : List ℕ) → z ≡ front ++ rest → a ++ z ≡ (a ++ front) ++ rest
append_front [] z front rest e = e
append_front (x ∷ a) z front rest e = ap (λ (w : List ℕ). x ∷ w) (append_front a z front rest e)

abbrev pub HasFront : List ℕ → List ℕ → Type 0
HasFront z rest = (front : List ℕ) × (z ≡ front ++ rest)

pub front_join : (z y rest : List ℕ) → HasFront z y → HasFront y rest → HasFront z rest
front_join z y rest p q = (p.0 ++ q.0, p.1 ∙ append_front p.0 y q.0 rest q.1)

pub front_more : (b : ℕ) (z rest : List ℕ) → HasFront z rest → HasFront (b ∷ z) rest
front_more b z rest p = (b ∷ p.0, ap (λ (w : List ℕ). b ∷ w) p.1)

closes_front : (z rest : List ℕ) → ClosesComment z rest → HasFront z rest
closes_front _ _ (closes rest) = (42 ∷ 47 ∷ [], refl)
closes_front _ _ (nests text after rest c d) = front_more 47 _ _ (front_more 42 _ _ (front_join text after rest (closes_front text after c) (closes_front after rest d)))
closes_front _ _ (passes b text rest n m c) = front_more b text rest (closes_front text rest c)

pub stays_front : (z rest : List ℕ) → StaysOpen z rest → HasFront z rest
stays_front _ _ (opened rest) = ([], refl)
stays_front _ _ (holds text after rest c d) = front_more 47 _ _ (front_more 42 _ _ (front_join text after rest (closes_front text after c) (stays_front after rest d)))
stays_front _ _ (deepens text rest c) = front_more 47 _ _ (front_more 42 _ _ (stays_front text rest c))
stays_front _ _ (lasts b text rest n m c) = front_more b text rest (stays_front text rest c)

separator_front : (z rest : List ℕ) → IsSeparator z rest → HasFront z rest
separator_front _ _ (blank b rest h) = (b ∷ [], refl)
separator_front _ _ (line_comment line rest h e) = (45 ∷ 45 ∷ line, refl)
separator_front _ _ (comment text rest c) = front_more 47 _ _ (front_more 42 _ _ (closes_front text rest c))

pub separators_front : (z rest : List ℕ) → AreSeparators z rest → HasFront z rest
separators_front _ _ (are_none rest) = ([], refl)
separators_front _ _ (are_more text after rest s more) = front_join text after rest (separator_front text after s) (separators_front after rest more)
