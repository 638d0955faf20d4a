-- Items with a token between each two, and items behind those that are there, are exact, where each item is.
use Rattle.std.proofs.Common.{◌≡◌, ℕ, ◌<◌, Bool, true, false, List, [], ◌∷◌, ◌++◌, length, refl, sym, ap, ◌∙◌, append-nil, arith}
use Rattle.parse_rules.specs.Tokens.{Brackets, sees}
use Rattle.parse_rules.specs.Rules.{Rule, map_rule, behind_rule, while_rule, separated_rule, while_onto_rule}
use Rattle.parse_rules.specs.Parser.{Outcome, Parser, and_then, ◌>>=◌, pure, expect, while, while_from, separated, while_onto}
use Rattle.parse_rules.specs.Exact.{Follow, Anything, IsExact, Spelling, Lowers, TakesToken, TakesAny, Shortens, NeverLengthens}
use Rattle.parse_rules.proofs.Outcomes.{done_is, done_not, and_then-ok, and_then-same, expect-seen, expect-unseen}
use Rattle.parse_rules.proofs.Exact.{map_exact, map-takes_any, bind_exact, bind-takes_first, as_parser, exact-takes_any}
use Rattle.parse_rules.proofs.Choice.{behind_exact, behind-takes}
use Rattle.parse_rules.proofs.While.{while_from-append, while_is, while_exact, while-takes_any}

-- ---- parsers that shorten what is left

pub exact-shortens : {T A : Type 0} (b : Brackets T) (n closed : ℕ) (F : Follow T) (R : Rule T A) (p : Parser T A) → IsExact b n closed F R p → TakesToken R → Shortens p
exact-shortens b n closed F R p x takes ts rest a e = takes ts rest a (x.ok ts rest a e).spelled

pub exact-never_lengthens : {T A : Type 0} (b : Brackets T) (n closed : ℕ) (F : Follow T) (R : Rule T A) (p : Parser T A) → IsExact b n closed F R p → NeverLengthens p
exact-never_lengthens b n closed F R p x ts rest a e = exact-takes_any b n closed F R p x ts rest a (x.ok ts rest a e).spelled

pub expect-shortens : {T : Type 0} (p : T → Bool) → Shortens (expect p)
unfolding expect
expect-shortens p [] rest t e = absurd cc
expect-shortens p (u ∷ us) rest t e =
    let go : (c : Bool) → p u ≡ c → length rest < length (u ∷ us) =
    elim [
      | true ↦ λ h. (let x = done_is u t us rest (sym (expect-seen p u us h) ∙ e) in omega (arith, ap length x.1))
      | false ↦ λ h. absurd (done_not t rest (u ∷ us) (sym e ∙ expect-unseen p (u ∷ us) h))
    ] in
    go (p u) refl

-- a token, and the item behind it
abbrev pub next : {T A : Type 0} → (T → Bool) → Parser T A → Parser T A
next p item = expect p >>= λ t. item

pub next-shortens : {T A : Type 0} (p : T → Bool) (item : Parser T A) → NeverLengthens item → Shortens (next p item)
next-shortens p item never ts rest a e =
    let x = and_then-ok (expect p ts) (λ t. item) a rest e in
    let h = expect-shortens p ts x.1 x.0 x.2 in
    let k = never x.1 rest a x.3 in
    omega (arith, h, k)

-- ---- items with a token between each two

module _ {T A : Type 0} (p : T → Bool) (item : Parser T A) where
  pub separated_is : NeverLengthens item → (ts : List T) → separated p item ts ≡ and_then (item ts) (λ x. while p (next p item) >>= λ xs. pure (x ∷ xs))
  unfolding separated
  separated_is never ts =
      and_then-same (item ts) (λ x. λ us. while_from p (next p item) (length us) (x ∷ []) us) (λ x. while p (next p item) >>= λ xs. pure (x ∷ xs))
      (λ a rest e. while_from-append p (next p item) (length rest) (a ∷ []) [] rest ∙ ap (λ (r : Outcome T (List A)). and_then r (λ xs. pure (a ∷ xs))) (sym (while_is p (next p item) rest)))

-- What may follow the whole may follow an item, and doesn't pass the test.
module _ {T A : Type 0} (b : Brackets T) (n : ℕ) (E F : Follow T) (p : T → Bool) (R : Rule T A) (item : Parser T A) (first : IsExact b n 0 E R item) (way : Spelling E Anything R)
    (lowers : Lowers b 0 p) (some : T) (hit : p some ≡ true) (keeps : (k : List T) → F k → E k) (unseen : (k : List T) → F k → sees p k ≡ false) where
  abbrev others_rule : Rule T (List A)
  others_rule = while_rule p (behind_rule p (λ t. R))

  any : TakesAny R
  any = exact-takes_any b n 0 E R item first

  next_takes : TakesToken (behind_rule p (λ t. R))
  next_takes = behind-takes p (λ t. R) (λ t. any)

  next_begins : (ts rest : List T) (a : A) → behind_rule p (λ t. R) ts rest a → sees p ts ≡ true
  next_begins ts rest a r = ap (λ (w : List T). sees p w) r.2.0 ∙ r.2.1

  others_exact : IsExact b n 0 F others_rule (while p (next p item))
  others_exact = while_exact b n E F p (behind_rule p (λ t. R)) (next p item)
      (behind_exact b n 0 E p (λ t. R) (λ t. item) lowers some hit (λ t. first) (λ t. way)) next_takes next_begins keeps unseen

  others_spelling : (x : A) → Spelling F E (map_rule (λ xs. x ∷ xs) others_rule)
  others_spelling x = record { text = []; made = x ∷ []; spelled = λ k f. ([], (unseen k f, refl), refl); fits = keeps }

  pub separated_exact : IsExact b n 0 F (separated_rule p R) (separated p item)
  separated_exact = as_parser b n 0 F (separated_rule p R) (item >>= λ x. while p (next p item) >>= λ xs. pure (x ∷ xs)) (separated p item)
      (separated_is p item (exact-never_lengthens b n 0 E R item first))
      (bind_exact b n 0 E F R item (λ x. map_rule (λ xs. x ∷ xs) others_rule) (λ x. while p (next p item) >>= λ xs. pure (x ∷ xs)) (λ a mid y k r f. keeps k f) first
      (λ x. map_exact b n 0 F others_rule (while p (next p item)) (λ xs. x ∷ xs) others_exact) others_spelling)

pub separated_spelling : {T A : Type 0} (F G E : Follow T) (p : T → Bool) (R : Rule T A) → ((k : List T) → F k → sees p k ≡ false) → ((k : List T) → F k → G k) → (x : Spelling G E R) → Spelling F E (separated_rule p R)
separated_spelling F G E p R unseen keeps x = record {
  text = x.text;
  made = x.made ∷ [];
  spelled = λ k f. (k, x.made, x.spelled k (keeps k f), ([], (unseen k f, refl), refl));
  fits = λ k f. x.fits k (keeps k f);
}

pub separated-takes : {T A : Type 0} (p : T → Bool) (R : Rule T A) → TakesToken R → TakesToken (separated_rule p R)
separated-takes p R takes = bind-takes_first R (λ x. map_rule (λ xs. x ∷ xs) (while_rule p (behind_rule p (λ t. R)))) takes
    (λ x. map-takes_any (while_rule p (behind_rule p (λ t. R))) (λ xs. x ∷ xs) (while-takes_any p (behind_rule p (λ t. R)) (λ ts rest a r. let h = takes r.0 rest a r.3 in omega (arith, h, ap length r.2.0))))

-- ---- items behind those that are there

pub while_onto_exact : {T A : Type 0} (b : Brackets T) (n : ℕ) (F : Follow T) (p : T → Bool) (R : Rule T A) (item : Parser T A) (found : List A) → IsExact b n 0 F (while_rule p R) (while p item) → IsExact b n 0 F (while_onto_rule p R found) (while_onto p item found)
unfolding while_onto
while_onto_exact {T} {A} b n F p R item found x =
    as_parser b n 0 F (while_onto_rule p R found) (while p item >>= λ xs. pure (found ++ xs)) (λ ts. while_from p item (length ts) found ts)
    (λ ts. ap (λ (w : List A). while_from p item (length ts) w ts) (sym (append-nil found)) ∙ while_from-append p item (length ts) found [] ts ∙ ap (λ (r : Outcome T (List A)). and_then r (λ xs. pure (found ++ xs))) (sym (while_is p item ts)))
    (map_exact b n 0 F (while_rule p R) (while p item) (λ xs. found ++ xs) x)
