-- Tokens that are passed over, and a token that is only looked at, are exact.
use Rattle.std.proofs.Common.{◌≡◌, ℕ, inl, inr, Bool, true, false, cond, List, [], ◌∷◌, ◌++◌, Ok, Err, refl, sym, ap, subst, ◌∙◌}
use Rattle.parse_rules.specs.Tokens.{Brackets, sees, after_all}
use Rattle.parse_rules.specs.Rules.{AllPass, skip_rule, before_rule}
use Rattle.parse_rules.specs.Parser.{skip_while, before}
use Rattle.parse_rules.specs.Exact.{Follow, Takes, Stops, IsExact, Lowers, IsBalanced}
use Rattle.parse_rules.proofs.Counts.{balanced_nil, balanced_append, balanced_one}
use Rattle.parse_rules.proofs.Outcomes.{done, done_is, done_not, stopped_is, sees-same}

-- ---- tokens that are passed over

after_all-used : {T : Type 0} (p : T → Bool) (used rest : List T) → AllPass p used → sees p rest ≡ false → after_all p (used ++ rest) ≡ rest
after_all-used p [] [] all e = refl
after_all-used p [] (t ∷ ts) all e = ap (λ (c : Bool). cond c (after_all p ts) (t ∷ ts)) e
after_all-used p (t ∷ used) rest all e = ap (λ (c : Bool). cond c (after_all p (used ++ rest)) (t ∷ (used ++ rest))) all.0 ∙ after_all-used p used rest all.1 e

-- the tokens that are passed over
record Front {T : Type 0} (p : T → Bool) (ts : List T) : Type 0 where
  used : List T
  whole : ts ≡ used ++ after_all p ts
  all : AllPass p used
  ends : sees p (after_all p ts) ≡ false

front_of : {T : Type 0} (p : T → Bool) (ts : List T) → Front p ts
front_of p [] = record { used = []; whole = refl; all = tt; ends = refl }
front_of {T} p (t ∷ ts) =
    let go : (c : Bool) → p t ≡ c → Front p (t ∷ ts) =
    elim [
      | true ↦ λ e. (
          let on : after_all p (t ∷ ts) ≡ after_all p ts = ap (λ (c : Bool). cond c (after_all p ts) (t ∷ ts)) e in
          let x = front_of p ts in
          record {
            used = t ∷ x.used;
            whole = ap (λ (w : List T). t ∷ w) x.whole ∙ ap (λ (w : List T). t ∷ (x.used ++ w)) (sym on);
            all = (e, x.all);
            ends = ap (λ (w : List T). sees p w) on ∙ x.ends;
          }
          )
      | false ↦ λ e. (
          let on : after_all p (t ∷ ts) ≡ t ∷ ts = ap (λ (c : Bool). cond c (after_all p ts) (t ∷ ts)) e in
          record { used = []; whole = sym on; all = tt; ends = ap (λ (w : List T). sees p w) on ∙ e }
          )
    ] in
    go (p t) refl

balanced_all : {T : Type 0} (b : Brackets T) (n : ℕ) (p : T → Bool) (used : List T) → Lowers b 0 p → AllPass p used → IsBalanced b n 0 used
balanced_all b n p [] lowers all = balanced_nil b n
balanced_all b n p (t ∷ used) lowers all = balanced_append b n 0 (t ∷ []) used (balanced_one b n 0 p t lowers all.0) (balanced_all b n p used lowers all.1)

module _ {T A : Type 0} (b : Brackets T) (n : ℕ) (F : Follow T) (p : T → Bool) (a : A) (lowers : Lowers b 0 p) (unseen : (k : List T) → F k → sees p k ≡ false) where
  skip_takes : (ts : List T) → Front p ts → Takes b n 0 F (skip_rule p a) (skip_while p a) ts (after_all p ts) a
  skip_takes ts x = record {
    used = x.used;
    whole = x.whole;
    balanced = balanced_all b n p x.used lowers x.all;
    spelled = (x.used, x.whole, x.all, x.ends, refl);
    same = λ other may. ap (λ (w : List T). done a w) (after_all-used p x.used other x.all (elim may [ inl h ↦ sym (sees-same p (after_all p ts) other h) ∙ x.ends | inr f ↦ unseen other f ]));
  }

  pub skip_exact : IsExact b n 0 F (skip_rule p a) (skip_while p a)
  skip_exact = record {
    ok = λ ts rest c e.
        let x = done_is a c (after_all p ts) rest e in
        subst (λ (c : A). Takes b n 0 F (skip_rule p a) (skip_while p a) ts rest c) x.0
        (subst (λ (w : List T). Takes b n 0 F (skip_rule p a) (skip_while p a) ts w a) x.1 (skip_takes ts (front_of p ts)));
    err = λ ts rest e. absurd (done_not a (after_all p ts) rest e);
    complete = λ ts rest c r. inl (ap (λ (w : List T). done a (after_all p w)) r.1 ∙ ap (λ (w : List T). done a w) (after_all-used p r.0 rest r.2 r.3) ∙ ap (λ (c : A). done c rest) r.4);
  }

-- ---- a token that is only looked at

module _ {T A : Type 0} (b : Brackets T) (n : ℕ) (F : Follow T) (p : T → Bool) (a : A) (sees_it : (k : List T) → F k → sees p k ≡ true) where
  before-seen : (ts : List T) → sees p ts ≡ true → before p a ts ≡ done a ts
  before-seen ts s = ap (λ (c : Bool). cond c (done a ts) (Err ts)) s

  before-unseen : (ts : List T) → sees p ts ≡ false → before p a ts ≡ Err ts
  before-unseen ts s = ap (λ (c : Bool). cond c (done a ts) (Err ts)) s

  before_ok : (s : Bool) (ts rest : List T) (c : A) → sees p ts ≡ s → before p a ts ≡ Ok (c, rest) → Takes b n 0 F (before_rule p a) (before p a) ts rest c
  before_ok true ts rest c s e =
      let x = done_is a c ts rest (sym (before-seen ts s) ∙ e) in
      record {
        used = [];
        whole = x.1;
        balanced = balanced_nil b n;
        spelled = (s, x.1, x.0);
        same = λ other may. before-seen other (elim may [ inl h ↦ sym (sees-same p rest other h) ∙ ap (λ (w : List T). sees p w) (sym x.1) ∙ s | inr f ↦ sees_it other f ]) ∙ ap (λ (c : A). done c other) x.0;
      }
  before_ok false ts rest c s e = absurd (done_not c rest ts (sym e ∙ before-unseen ts s))

  before_err : (s : Bool) (ts rest : List T) → sees p ts ≡ s → before p a ts ≡ Err rest → Stops b n F (before_rule p a) (before p a) ts rest
  before_err true ts rest s e = absurd (done_not a ts rest (sym (before-seen ts s) ∙ e))
  before_err false ts rest s e =
      let is : ts ≡ rest = stopped_is {A = A} ts rest (sym (before-unseen ts s) ∙ e) in
      record {
        used = [];
        whole = is;
        within = λ d limit h. tt;
        same = λ other h. before-unseen other (sym (sees-same p rest other h) ∙ ap (λ (w : List T). sees p w) (sym is) ∙ s);
        more = [];
        made = a;
        goes_on = λ k f. (sees_it k f, refl, refl);
      }

  pub before_exact : IsExact b n 0 F (before_rule p a) (before p a)
  before_exact = record {
    ok = λ ts rest c e. before_ok (sees p ts) ts rest c refl e;
    err = λ ts rest e. before_err (sees p ts) ts rest refl e;
    complete = λ ts rest c r. inl (before-seen ts r.0 ∙ ap (λ (w : List T). done a w) r.1 ∙ ap (λ (c : A). done c rest) r.2);
  }
