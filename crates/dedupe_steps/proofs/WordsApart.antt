-- Keys of the same words are equal.
use Rattle.std.proofs.Common.{◌≡◌, ◌≢◌, ℕ, List, [], ◌∷◌, ◌++◌, Option, Some, None, Bool, true, false, refl, sym, ap, ◌∙◌, arith}
use Rattle.std.specs.Prelude.{ℤ, ◌&&◌, ⊤}
use Rattle.std.specs.Cmp.{signed_Decides}
use Rattle.std.specs.Bool.{beq}
use Rattle.std.specs.Str.{bytes_eq}
use Rattle.std.proofs.lemmas.Slice.Eq.{bytes_eq-Decides}
use Rattle.gql_input.specs.declared.argument.ArgValue as arg
use Rattle.gql_input.specs.declared.argument.ArgValue.{ArgValue, Row_of-ArgValue, end_of-ArgValue, more_of-ArgValue, Row_of-ArgMember, end_of-ArgMember, more_of-ArgMember}
use Rattle.pg_base.specs.SameValue.{same_value, same_value_items, same_value_members}
use Rattle.pg_base.proofs.SameValue.{same_value_true}
use Rattle.pg_base.specs.declared.cell.Cell.{Cell}
use Rattle.pg_base.specs.declared.cell.Cell.TheVariants as cell
use Rattle.pg_base.specs.declared.value.Value.{Value, Row_of-Value, end_of-Value, more_of-Value, Row_of-Member, end_of-Member, more_of-Member}
use Rattle.pg_base.specs.declared.value.Value as value
use Rattle.place_tree.specs.Same.{same_arg, same_items, same_members}
use Rattle.place_tree.proofs.Same.{same_arg_true}
use Rattle.plan_constraints.specs.declared.part.Part.{Part}
use Rattle.plan_constraints.specs.declared.part.Part.TheVariants as part
use Rattle.rel_model.specs.declared.window.By.{By}
use Rattle.plan_steps.specs.declared.plan.FetchStep.{FetchStep, FetchStep-F, out-FetchStep, roll-FetchStep, roll-out-FetchStep}
use Rattle.plan_steps.specs.declared.plan.Slot.{Slot}
use Rattle.plan_steps.specs.declared.plan.Slot.TheVariants.{Const, Var}
use Rattle.plan_steps.specs.declared.plan.SlotEqual.{SlotEqual}
use Rattle.plan_steps.specs.declared.plan.SlotWindow.{SlotWindow}
use Rattle.plan_steps.specs.declared.plan.Step.{Step}
use Rattle.plan_steps.specs.declared.plan.Step.TheVariants as step
use Rattle.plan_steps.specs.Fetches.{bare}
use Rattle.dedupe_steps.specs.declared.words.Word.{Word}
use Rattle.dedupe_steps.specs.declared.words.Word.TheVariants as word
use Rattle.dedupe_steps.specs.ArgWords.{truth, arg_words, item_words as arg_item_words, member_words as arg_member_words}
use Rattle.dedupe_steps.specs.Keys.{content, Hook, Loose, OnGivenRow, OnRowOf, Ground, OverNothing, Numbered, Later, Reach, Anywhere, Under, Alone, Key}
use Rattle.dedupe_steps.specs.Orders.{OrderTold, Told, Written}
use Rattle.dedupe_steps.specs.Words.{value_words, item_words, member_words, each, optional, number, cell_words, part_words, slot_words, equal_words, by_words, window_words, fetch_words, step_words, hook_words, ground_words, reach_words, order_words, key_words}
use Rattle.dedupe_steps.proofs.Merging.{out_bare}
use Rattle.dedupe_steps.proofs.Same.{both_so}

-- ---- words

abbrev head_or : List Word → Word → Word
head_or [] d = d
head_or (w ∷ ws) d = w

abbrev tail_of : List Word → List Word
tail_of [] = []
tail_of (w ∷ ws) = ws

abbrev number_in : Word → ℕ → ℕ
number_in (word.Number n) d = n
number_in (word.Whole z) d = d
number_in (word.Letters t) d = d

abbrev whole_in : Word → ℤ → ℤ
whole_in (word.Number n) d = d
whole_in (word.Whole z) d = z
whole_in (word.Letters t) d = d

abbrev letters_in : Word → List ℕ → List ℕ
letters_in (word.Number n) d = d
letters_in (word.Whole z) d = d
letters_in (word.Letters t) d = t

pub tails : (a b : Word) (x y : List Word) → a ∷ x ≡ b ∷ y → x ≡ y
tails a b x y e = ap tail_of e

heads : (a b : Word) (x y : List Word) → a ∷ x ≡ b ∷ y → a ≡ b
heads a b x y e = ap (λ l. head_or l a) e

pub numbers : (m n : ℕ) (x y : List Word) → word.Number m ∷ x ≡ word.Number n ∷ y → m ≡ n
numbers m n x y e = ap (λ w. number_in w m) (heads (word.Number m) (word.Number n) x y e)

wholes : (m n : ℤ) (x y : List Word) → word.Whole m ∷ x ≡ word.Whole n ∷ y → m ≡ n
wholes m n x y e = ap (λ w. whole_in w m) (heads (word.Whole m) (word.Whole n) x y e)

letters : (m n : List ℕ) (x y : List Word) → word.Letters m ∷ x ≡ word.Letters n ∷ y → m ≡ n
letters m n x y e = ap (λ w. letters_in w m) (heads (word.Letters m) (word.Letters n) x y e)

truths : (a b : Bool) (x y : List Word) → truth a ∷ x ≡ truth b ∷ y → a ≡ b
truths true true x y e = refl
truths true false x y e = let z = numbers 1 0 x y e in absurd (omega (arith, z))
truths false true x y e = let z = numbers 0 1 x y e in absurd (omega (arith, z))
truths false false x y e = refl

-- other sorts begin with other numbers
other : {P : Type 0} (m n : ℕ) (x y : List Word) → m ≢ n → word.Number m ∷ x ≡ word.Number n ∷ y → P
other m n x y apart e = absurd (apart (numbers m n x y e))

-- ---- writings that end by themselves

-- what is written comes back, whatever follows
abbrev pub IsExact : {A : Type 0} → (A → List Word) → Type 0
IsExact {A} words = (a b : A) (x y : List Word) → words a ++ x ≡ words b ++ y → (a ≡ b) × (x ≡ y)

regroup : (p q r : List Word) → (p ++ q) ++ r ≡ p ++ (q ++ r)
regroup [] q r = refl
regroup (w ∷ p) q r = ap (λ l. w ∷ l) (regroup p q r)

grouped : (p q r s t u : List Word) → (p ++ q) ++ r ≡ (s ++ t) ++ u → p ++ (q ++ r) ≡ s ++ (t ++ u)
grouped p q r s t u e = sym (regroup p q r) ∙ e ∙ regroup s t u

-- the first of several parts
first_part : {A : Type 0} (words : A → List Word) → IsExact words → (a b : A) (p q x y : List Word) → (words a ++ p) ++ x ≡ (words b ++ q) ++ y → (a ≡ b) × (p ++ x ≡ q ++ y)
first_part words exact a b p q x y e = exact a b (p ++ x) (q ++ y) (grouped (words a) p x (words b) q y e)

pub each_exact : {A : Type 0} (words : A → List Word) → IsExact words → IsExact (each words)
each_exact words exact [] [] x y e = (refl, tails _ _ x y e)
each_exact words exact [] (b ∷ bs) x y e = other 0 1 _ _ (λ z. absurd (omega (arith, z))) e
each_exact words exact (a ∷ as_) [] x y e = other 1 0 _ _ (λ z. absurd (omega (arith, z))) e
each_exact words exact (a ∷ as_) (b ∷ bs) x y e =
    let one = first_part words exact a b (each words as_) (each words bs) x y (tails _ _ _ _ e) in
    let rest = each_exact words exact as_ bs x y one.1 in
    (ap (λ z. z ∷ as_) one.0 ∙ ap (λ zs. b ∷ zs) rest.0, rest.1)

pub optional_exact : {A : Type 0} (words : A → List Word) → IsExact words → IsExact (optional words)
optional_exact words exact None None x y e = (refl, tails _ _ x y e)
optional_exact words exact None (Some b) x y e = other 0 1 _ _ (λ z. absurd (omega (arith, z))) e
optional_exact words exact (Some a) None x y e = other 1 0 _ _ (λ z. absurd (omega (arith, z))) e
optional_exact words exact (Some a) (Some b) x y e =
    let one = exact a b x y (tails _ _ _ _ e) in
    (ap (λ z. Some z) one.0, one.1)

pub number_exact : IsExact number
number_exact m n x y e = (numbers m n x y e, tails _ _ x y e)

whole_exact : IsExact (λ (n : ℤ). word.Whole n ∷ [])
whole_exact m n x y e = (wholes m n x y e, tails _ _ x y e)

truth_exact : IsExact (λ b. truth b ∷ [])
truth_exact a b x y e = (truths a b x y e, tails _ _ x y e)

-- ---- values

truth_same : (a b : Bool) → a ≡ b → beq a b ≡ true
truth_same true true h = refl
truth_same true false h = cc
truth_same false true h = cc
truth_same false false h = refl

mutual
  value_apart : (a b : Value) (x y : List Word) → value_words a ++ x ≡ value_words b ++ y → (same_value a b ≡ true) × (x ≡ y)
  value_apart value.Null value.Null x y e = (refl, tails _ _ x y e)
  value_apart (value.Int m) (value.Int n) x y e = let rest = tails _ _ _ _ e in ((signed_Decides m n).1 (wholes m n x y rest), tails _ _ x y rest)
  value_apart (value.Bool a) (value.Bool b) x y e = let rest = tails _ _ _ _ e in (truth_same a b (truths a b x y rest), tails _ _ x y rest)
  value_apart (value.Text s) (value.Text t) x y e = let rest = tails _ _ _ _ e in ((bytes_eq-Decides s t).1 (letters s t x y rest), tails _ _ x y rest)
  value_apart (value.Case s) (value.Case t) x y e = let rest = tails _ _ _ _ e in ((bytes_eq-Decides s t).1 (letters s t x y rest), tails _ _ x y rest)
  value_apart (value.List' _ xs) (value.List' _ ys) x y e = items_apart xs ys x y (tails _ _ _ _ e)
  value_apart (value.Object' _ xs) (value.Object' _ ys) x y e = members_apart xs ys x y (tails _ _ _ _ e)
  value_apart _ _ x y e = cc

  items_apart : {m : _} {n : _} (xs : Row_of-Value m) (ys : Row_of-Value n) (x y : List Word) → item_words xs ++ x ≡ item_words ys ++ y → (same_value_items xs ys ≡ true) × (x ≡ y)
  items_apart end_of-Value end_of-Value x y e = (refl, tails _ _ x y e)
  items_apart (more_of-Value a xs) (more_of-Value b ys) x y e =
      let one = value_apart a b (item_words xs ++ x) (item_words ys ++ y) (grouped (value_words a) (item_words xs) x (value_words b) (item_words ys) y (tails _ _ _ _ e)) in
      let rest = items_apart xs ys x y one.1 in
      (both_so _ _ one.0 rest.0, rest.1)
  items_apart end_of-Value (more_of-Value b ys) x y e = other 0 1 _ _ (λ z. absurd (omega (arith, z))) e
  items_apart (more_of-Value a xs) end_of-Value x y e = other 1 0 _ _ (λ z. absurd (omega (arith, z))) e

  members_apart : {m : _} {n : _} (xs : Row_of-Member m) (ys : Row_of-Member n) (x y : List Word) → member_words xs ++ x ≡ member_words ys ++ y → (same_value_members xs ys ≡ true) × (x ≡ y)
  members_apart end_of-Member end_of-Member x y e = (refl, tails _ _ x y e)
  members_apart (more_of-Member s a xs) (more_of-Member t b ys) x y e =
      let named = tails _ _ _ _ e in
      let one = value_apart a b (member_words xs ++ x) (member_words ys ++ y) (grouped (value_words a) (member_words xs) x (value_words b) (member_words ys) y (tails _ _ _ _ named)) in
      let rest = members_apart xs ys x y one.1 in
      (both_so _ _ ((bytes_eq-Decides s t).1 (letters s t _ _ named)) (both_so _ _ one.0 rest.0), rest.1)
  members_apart end_of-Member (more_of-Member t b ys) x y e = other 0 1 _ _ (λ z. absurd (omega (arith, z))) e
  members_apart (more_of-Member s a xs) end_of-Member x y e = other 1 0 _ _ (λ z. absurd (omega (arith, z))) e

pub value_exact : IsExact value_words
value_exact a b x y e = let z = value_apart a b x y e in (same_value_true a b z.0, z.1)

mutual
  arg_apart : (a b : ArgValue) (x y : List Word) → arg_words a ++ x ≡ arg_words b ++ y → (same_arg a b ≡ true) × (x ≡ y)
  arg_apart arg.Null arg.Null x y e = (refl, tails _ _ x y e)
  arg_apart (arg.Int m) (arg.Int n) x y e = let rest = tails _ _ _ _ e in ((signed_Decides m n).1 (wholes m n x y rest), tails _ _ x y rest)
  arg_apart (arg.Bool a) (arg.Bool b) x y e = let rest = tails _ _ _ _ e in (truth_same a b (truths a b x y rest), tails _ _ x y rest)
  arg_apart (arg.Text s) (arg.Text t) x y e = let rest = tails _ _ _ _ e in ((bytes_eq-Decides s t).1 (letters s t x y rest), tails _ _ x y rest)
  arg_apart (arg.Case s) (arg.Case t) x y e = let rest = tails _ _ _ _ e in ((bytes_eq-Decides s t).1 (letters s t x y rest), tails _ _ x y rest)
  arg_apart (arg.Variable s) (arg.Variable t) x y e = let rest = tails _ _ _ _ e in ((bytes_eq-Decides s t).1 (letters s t x y rest), tails _ _ x y rest)
  arg_apart (arg.List' _ xs) (arg.List' _ ys) x y e = args_apart xs ys x y (tails _ _ _ _ e)
  arg_apart (arg.Object' _ xs) (arg.Object' _ ys) x y e = fields_apart xs ys x y (tails _ _ _ _ e)
  arg_apart _ _ x y e = cc

  args_apart : {m : _} {n : _} (xs : Row_of-ArgValue m) (ys : Row_of-ArgValue n) (x y : List Word) → arg_item_words xs ++ x ≡ arg_item_words ys ++ y → (same_items xs ys ≡ true) × (x ≡ y)
  args_apart end_of-ArgValue end_of-ArgValue x y e = (refl, tails _ _ x y e)
  args_apart (more_of-ArgValue a xs) (more_of-ArgValue b ys) x y e =
      let one = arg_apart a b (arg_item_words xs ++ x) (arg_item_words ys ++ y) (grouped (arg_words a) (arg_item_words xs) x (arg_words b) (arg_item_words ys) y (tails _ _ _ _ e)) in
      let rest = args_apart xs ys x y one.1 in
      (both_so _ _ one.0 rest.0, rest.1)
  args_apart end_of-ArgValue (more_of-ArgValue b ys) x y e = other 0 1 _ _ (λ z. absurd (omega (arith, z))) e
  args_apart (more_of-ArgValue a xs) end_of-ArgValue x y e = other 1 0 _ _ (λ z. absurd (omega (arith, z))) e

  fields_apart : {m : _} {n : _} (xs : Row_of-ArgMember m) (ys : Row_of-ArgMember n) (x y : List Word) → arg_member_words xs ++ x ≡ arg_member_words ys ++ y → (same_members xs ys ≡ true) × (x ≡ y)
  fields_apart end_of-ArgMember end_of-ArgMember x y e = (refl, tails _ _ x y e)
  fields_apart (more_of-ArgMember s a xs) (more_of-ArgMember t b ys) x y e =
      let named = tails _ _ _ _ e in
      let one = arg_apart a b (arg_member_words xs ++ x) (arg_member_words ys ++ y) (grouped (arg_words a) (arg_member_words xs) x (arg_words b) (arg_member_words ys) y (tails _ _ _ _ named)) in
      let rest = fields_apart xs ys x y one.1 in
      (both_so _ _ ((bytes_eq-Decides s t).1 (letters s t _ _ named)) (both_so _ _ one.0 rest.0), rest.1)
  fields_apart end_of-ArgMember (more_of-ArgMember t b ys) x y e = other 0 1 _ _ (λ z. absurd (omega (arith, z))) e
  fields_apart (more_of-ArgMember s a xs) end_of-ArgMember x y e = other 1 0 _ _ (λ z. absurd (omega (arith, z))) e

pub arg_exact : IsExact arg_words
arg_exact a b x y e = let z = arg_apart a b x y e in (same_arg_true a b z.0, z.1)

-- ---- slots

cell_exact : IsExact cell_words
cell_exact cell.Null cell.Null x y e = (refl, tails _ _ x y e)
cell_exact (cell.Int m) (cell.Int n) x y e = let rest = tails _ _ _ _ e in (ap (λ z. cell.Int z) (wholes m n x y rest), tails _ _ x y rest)
cell_exact (cell.Bool a) (cell.Bool b) x y e = let rest = tails _ _ _ _ e in (ap (λ z. cell.Bool z) (truths a b x y rest), tails _ _ x y rest)
cell_exact (cell.Text s) (cell.Text t) x y e = let rest = tails _ _ _ _ e in (ap (λ z. cell.Text z) (letters s t x y rest), tails _ _ x y rest)
cell_exact (cell.EnumCase k) (cell.EnumCase l) x y e = let rest = tails _ _ _ _ e in (ap (λ z. cell.EnumCase z) (numbers k l x y rest), tails _ _ x y rest)
cell_exact _ _ x y e = cc

part_exact : IsExact part_words
part_exact (part.Name s) (part.Name t) x y e = let rest = tails _ _ _ _ e in (ap (λ z. part.Name z) (letters s t x y rest), tails _ _ x y rest)
part_exact (part.Index i) (part.Index j) x y e = let rest = tails _ _ _ _ e in (ap (λ z. part.Index z) (numbers i j x y rest), tails _ _ x y rest)
part_exact (part.Name s) (part.Index j) x y e = other 0 1 _ _ (λ z. absurd (omega (arith, z))) e
part_exact (part.Index i) (part.Name t) x y e = other 1 0 _ _ (λ z. absurd (omega (arith, z))) e

slot_exact : IsExact slot_words
slot_exact (Const c) (Const d) x y e = let z = cell_exact c d x y (tails _ _ _ _ e) in (ap (λ k. Const k) z.0, z.1)
slot_exact (Var p) (Var q) x y e = let z = each_exact part_words part_exact p q x y (tails _ _ _ _ e) in (ap (λ k. Var k) z.0, z.1)
slot_exact (Const c) (Var q) x y e = other 0 1 _ _ (λ z. absurd (omega (arith, z))) e
slot_exact (Var p) (Const d) x y e = other 1 0 _ _ (λ z. absurd (omega (arith, z))) e

equal_exact : IsExact equal_words
equal_exact a b x y e =
    let column = numbers a.column b.column _ _ e in
    let z = slot_exact a.slot b.slot x y (tails _ _ _ _ e) in
    (λ i. record { column = column i; slot = z.0 i }, z.1)

by_exact : IsExact by_words
by_exact a b x y e =
    let column = numbers a.column b.column _ _ e in
    let rest = tails _ _ _ _ e in
    let down = truths a.descending b.descending x y rest in
    (λ i. record { column = column i; descending = down i }, tails _ _ x y rest)

abbrev opt : Option Slot → List Word
opt = optional slot_words

opt_exact : IsExact opt
opt_exact = optional_exact slot_words slot_exact

window_exact : IsExact window_words
window_exact a b x y e =
    let first = first_part opt opt_exact a.first b.first _ _ x y e in
    let last = first_part opt opt_exact a.last b.last _ _ x y first.1 in
    let offset = first_part opt opt_exact a.offset b.offset _ _ x y last.1 in
    let before = first_part opt opt_exact a.before b.before _ _ x y offset.1 in
    let after = opt_exact a.after b.after x y before.1 in
    (λ i. record { first = first.0 i; last = last.0 i; offset = offset.0 i; before = before.0 i; after = after.0 i }, after.1)

-- ---- fetches

-- a fetch that hangs on nothing, asks for rows and has nothing below it
pub record IsBare (f : FetchStep) : Type 0 where
  pub parent : (out-FetchStep f).parent ≡ None
  pub rows : (out-FetchStep f).rows ≡ true
  pub children : (out-FetchStep f).children ≡ []

fetch_same : (f g : FetchStep) → IsBare f → IsBare g → (x y : List Word) → fetch_words f ++ x ≡ fetch_words g ++ y → (f ≡ g) × (x ≡ y)
fetch_same f g p q x y e =
    let a = out-FetchStep f in
    let b = out-FetchStep g in
    let table = numbers a.table b.table _ _ e in
    let by = first_part (each number) (each_exact number number_exact) a.by b.by _ _ x y (tails _ _ _ _ e) in
    let columns = first_part (each number) (each_exact number number_exact) a.parent_columns b.parent_columns _ _ x y by.1 in
    let condition = first_part (each equal_words) (each_exact equal_words equal_exact) a.condition b.condition _ _ x y columns.1 in
    let key = first_part (each slot_words) (each_exact slot_words slot_exact) a.key b.key _ _ x y condition.1 in
    let order = first_part (each by_words) (each_exact by_words by_exact) a.order b.order _ _ x y key.1 in
    let window = window_exact a.window b.window x y order.1 in
    let parent = p.parent ∙ sym q.parent in
    let rows = p.rows ∙ sym q.rows in
    let children = p.children ∙ sym q.children in
    let same : a ≡ b = λ i. record {
      table = table i;
      by = by.0 i;
      parent = parent i;
      parent_columns = columns.0 i;
      condition = condition.0 i;
      key = key.0 i;
      order = order.0 i;
      window = window.0 i;
      rows = rows i;
      children = children i;
    } in
    (sym (roll-out-FetchStep f) ∙ ap roll-FetchStep same ∙ roll-out-FetchStep g, window.1)

-- ---- keys

abbrev pub IsBareStep : Step → Type 0
IsBareStep (step.Fetch f) = IsBare f
IsBareStep (step.Const v) = ⊤
IsBareStep (step.Var path) = ⊤
IsBareStep step.Given = ⊤
IsBareStep (step.Item s) = ⊤
IsBareStep (step.Column i c) = ⊤
IsBareStep (step.Count s) = ⊤
IsBareStep (step.Page s p) = ⊤
IsBareStep (step.CursorOf i) = ⊤

step_same : (s t : Step) → IsBareStep s → IsBareStep t → (x y : List Word) → step_words s ++ x ≡ step_words t ++ y → (s ≡ t) × (x ≡ y)
step_same (step.Const v) (step.Const w) p q x y e = let z = value_exact v w x y (tails _ _ _ _ e) in (ap (λ k. step.Const k) z.0, z.1)
step_same (step.Var a) (step.Var b) p q x y e = let z = each_exact part_words part_exact a b x y (tails _ _ _ _ e) in (ap (λ k. step.Var k) z.0, z.1)
step_same step.Given step.Given p q x y e = (refl, tails _ _ x y e)
step_same (step.Fetch f) (step.Fetch g) p q x y e = let z = fetch_same f g p q x y (tails _ _ _ _ e) in (ap (λ k. step.Fetch k) z.0, z.1)
step_same (step.Item s) (step.Item t) p q x y e = let rest = tails _ _ _ _ e in (ap (λ k. step.Item k) (numbers s t x y rest), tails _ _ x y rest)
step_same (step.Column i c) (step.Column j d) p q x y e =
    let rest = tails _ _ _ _ e in
    let last = tails _ _ _ _ rest in
    (ap (λ k. step.Column k c) (numbers i j _ _ rest) ∙ ap (λ k. step.Column j k) (numbers c d x y last), tails _ _ x y last)
step_same (step.Count s) (step.Count t) p q x y e = let rest = tails _ _ _ _ e in (ap (λ k. step.Count k) (numbers s t x y rest), tails _ _ x y rest)
step_same (step.Page s a) (step.Page t b) p q x y e =
    let rest = tails _ _ _ _ e in
    let last = tails _ _ _ _ rest in
    (ap (λ k. step.Page k a) (numbers s t _ _ rest) ∙ ap (λ k. step.Page t k) (numbers a b x y last), tails _ _ x y last)
step_same (step.CursorOf i) (step.CursorOf j) p q x y e = let rest = tails _ _ _ _ e in (ap (λ k. step.CursorOf k) (numbers i j x y rest), tails _ _ x y rest)
step_same _ _ p q x y e = cc

hook_exact : IsExact hook_words
hook_exact Loose Loose x y e = (refl, tails _ _ x y e)
hook_exact OnGivenRow OnGivenRow x y e = (refl, tails _ _ x y e)
hook_exact (OnRowOf p) (OnRowOf q) x y e = let rest = tails _ _ _ _ e in (ap (λ k. OnRowOf k) (numbers p q x y rest), tails _ _ x y rest)
hook_exact _ _ x y e = cc

ground_exact : IsExact ground_words
ground_exact OverNothing OverNothing x y e = (refl, tails _ _ x y e)
ground_exact (Numbered p) (Numbered q) x y e = let rest = tails _ _ _ _ e in (ap (λ k. Numbered k) (numbers p q x y rest), tails _ _ x y rest)
ground_exact (Later p) (Later q) x y e = let rest = tails _ _ _ _ e in (ap (λ k. Later k) (numbers p q x y rest), tails _ _ x y rest)
ground_exact _ _ x y e = cc

reach_exact : IsExact reach_words
reach_exact Anywhere Anywhere x y e = (refl, tails _ _ x y e)
reach_exact (Under p) (Under q) x y e = let z = optional_exact number number_exact p q x y (tails _ _ _ _ e) in (ap (λ k. Under k) z.0, z.1)
reach_exact (Alone p) (Alone q) x y e = let rest = tails _ _ _ _ e in (ap (λ k. Alone k) (numbers p q x y rest), tails _ _ x y rest)
reach_exact _ _ x y e = cc

order_exact : IsExact order_words
order_exact (Told a) (Told b) x y e = let rest = tails _ _ _ _ e in (ap (λ k. Told k) (truths a b x y rest), tails _ _ x y rest)
order_exact (Written a) (Written b) x y e = let z = arg_exact a b x y (tails _ _ _ _ e) in (ap (λ k. Written k) z.0, z.1)
order_exact (Told a) (Written b) x y e = other 0 1 _ _ (λ z. absurd (omega (arith, z))) e
order_exact (Written a) (Told b) x y e = other 1 0 _ _ (λ z. absurd (omega (arith, z))) e

-- keys of the same words are equal, where nothing is below their fetches
pub keys_apart : (k l : Key) → IsBareStep k.content → IsBareStep l.content → key_words k ≡ key_words l → k ≡ l
keys_apart k l p q e =
    let content_ = step_same k.content l.content p q _ _ e in
    let hook_ = hook_exact k.hook l.hook _ _ content_.1 in
    let stand_ = ground_exact k.stand l.stand _ _ hook_.1 in
    let reach_ = reach_exact k.reach l.reach _ _ stand_.1 in
    let order_ = order_exact k.order l.order [] [] (ap (λ w. w ++ []) reach_.1) in
    λ i. record { content = content_.0 i; hook = hook_.0 i; stand = stand_.0 i; reach = reach_.0 i; order = order_.0 i }

-- the content of a step, where nothing is below its rows
pub content_bare : (to : List ℕ) (s : Step) → ((f : FetchStep) → s ≡ step.Fetch f → (out-FetchStep f).children ≡ []) → IsBareStep (content to s)
content_bare to (step.Fetch f) flat =
    let o = out_bare f in
    record { parent = ap (λ z. z.parent) o; rows = ap (λ z. z.rows) o; children = ap (λ z. z.children) o ∙ flat f refl }
content_bare to (step.Const v) flat = tt
content_bare to (step.Var path) flat = tt
content_bare to step.Given flat = tt
content_bare to (step.Item s) flat = tt
content_bare to (step.Column i c) flat = tt
content_bare to (step.Count s) flat = tt
content_bare to (step.Page s p) flat = tt
content_bare to (step.CursorOf i) flat = tt
