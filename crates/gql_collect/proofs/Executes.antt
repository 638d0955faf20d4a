-- Execution by places is execution by selection sets.
use Rattle.std.proofs.Common.{◌≡◌, ◌≤◌, ◌<◌, ℕ, zero, suc, ◌+◌, List, [], ◌∷◌, ◌++◌, map, length, length-append, append_assoc, append-nil, Option, Some, None, Bool, true, false, refl, sym, ap, ◌∙◌, subst, arith, ◌⊎◌, inl, inr}
use Rattle.std.specs.Prelude.{⊤}
use Rattle.pg_base.specs.Lists.{Each}
use Rattle.gql_reader.specs.declared.tree.Selection.{Selection}
use Rattle.gql_reader.specs.declared.tree.Field.{Field}
use Rattle.pg_base.specs.declared.schema.FieldDef.{FieldDef}
use Rattle.pg_base.specs.Schema.{SchemaParts}
use Rattle.pg_base.specs.Schema.{field_at}
use Rattle.place_tree.specs.declared.place.Place.{Place}
use Rattle.place_tree.specs.declared.place.Tree.{Tree}
use Rattle.place_tree.specs.declared.answer.Answer.{Answer}
use Rattle.place_tree.specs.declared.answer.Answer.TheVariants.{Shows, Fails, One, Many}
use Rattle.place_tree.specs.Fold.{below, same_place}
use Rattle.place_tree.specs.Response.{Members, no_members, member, value_of, members_of}
use Rattle.place_tree.proofs.Folds.{same_place_true}
use Rattle.gql_collect.specs.Collected.{Request, Met, collected}
use Rattle.gql_collect.specs.Growing.{merged, keys_of, fields_with, number_of, place_of, with_place, below_place, by_number, with_group, with_keys, with_asked, with_set}
use Rattle.gql_collect.specs.CollectLaws.{below_members, number_members, group_members, key_members, set_members, bare}
use Rattle.gql_collect.proofs.Collects.{when_true, when_false}
use Rattle.gql_collect.proofs.Same.{same_number}
use Rattle.gql_collect.proofs.AskedApart.{same_fields}

-- ---- members behind members

abbrev put : Members → Members → Members
put no_members ns = ns
put (member name v ms) ns = member name v (put ms ns)

put_none : (ms : Members) → put ms no_members ≡ ms
put_none no_members = refl
put_none (member name v ms) = ap (member name v) (put_none ms)

put_assoc : (a b c : Members) → put (put a b) c ≡ put a (put b c)
put_assoc no_members b c = refl
put_assoc (member name v a) b c = ap (member name v) (put_assoc a b c)

-- ---- parents

same_itself : (o : Option ℕ) → same_place o o ≡ true
same_itself None = refl
same_itself (Some x) = same_number x

apart : (a b : Option ℕ) → (a ≡ b → ⊥) → same_place a b ≡ false
apart a b never = by (same_place a b) refl
  where
    by : (t : Bool) → same_place a b ≡ t → t ≡ false
    by true e = absurd (never (same_place_true a b e))
    by false e = refl

-- no place of these has its parent from one number up to another
abbrev Clear : ℕ → ℕ → List Place → Type 0
Clear low high places = Each (λ p. (j : ℕ) → low ≤ j → j < high → p.parent ≡ Some j → ⊥) places

-- each has this parent, or one from one number up to another
abbrev Inside : Option ℕ → ℕ → ℕ → List Place → Type 0
Inside parent low high places = Each (λ p. (p.parent ≡ parent) ⊎ ((j : ℕ) × (p.parent ≡ Some j) × (low ≤ j) × (j < high))) places

-- a parent that stands before a number
abbrev Before : Option ℕ → ℕ → Type 0
Before None low = ⊤
Before (Some a) low = a < low

number_in : (a j : ℕ) → Some a ≡ Some j → a ≡ j
number_in a j e = cc

Each-map : {A : Type 0} (P Q : A → Type 0) (xs : List A) → ((x : A) → P x → Q x) → Each P xs → Each Q xs
Each-map P Q [] f h = tt
Each-map P Q (x ∷ xs) f h = (f x h.0, Each-map P Q xs f h.1)

Each-both : {A : Type 0} (P : A → Type 0) (xs ys : List A) → Each P xs → Each P ys → Each P (xs ++ ys)
Each-both P [] ys h k = k
Each-both P (x ∷ xs) ys h k = (h.0, Each-both P xs ys h.1 k)

before_apart : (parent : Option ℕ) (low j : ℕ) → Before parent low → low ≤ j → parent ≡ Some j → ⊥
before_apart None low j h le e = absurd (cc)
before_apart (Some a) low j h le e = let same = number_in a j e in absurd (omega arith)

module _ {S : Type 0} (give : Place → S → Answer S) where
  abbrev given : List Place → ℕ → Option ℕ → S → Members
  given places i parent s = members_of (λ i p s. give (bare p) s) places i parent s

  pass_over : (xs tail : List Place) (i : ℕ) (parent : Option ℕ) (s : S) → Each (λ p. same_place p.parent parent ≡ false) xs → given (xs ++ tail) i parent s ≡ given tail (i + length xs) parent s
  pass_over [] tail i parent s h = let e : i ≡ i + 0 = omega arith in ap (λ k. given tail k parent s) e
  pass_over (x ∷ xs) tail i parent s h =
      let e : i + 1 + length xs ≡ i + length (x ∷ xs) = omega arith in
      when_false (same_place x.parent parent) _ _ h.0
      ∙ pass_over xs tail (i + 1) parent s h.1
      ∙ ap (λ k. given tail k parent s) e

  none_below : (tail : List Place) (i : ℕ) (parent : Option ℕ) (s : S) → Each (λ p. same_place p.parent parent ≡ false) tail → given tail i parent s ≡ no_members
  none_below [] i parent s h = refl
  none_below (x ∷ xs) i parent s h = when_false (same_place x.parent parent) _ _ h.0 ∙ none_below xs (i + 1) parent s h.1

  below_each : (f g : S → Members) → ((s : S) → f s ≡ g s) → (ss : List S) → map f ss ≡ map g ss
  below_each f g same [] = refl
  below_each f g same (s ∷ ss) = ap (λ m. m ∷ map f ss) (same s) ∙ ap (λ (l : List Members). g s ∷ l) (below_each f g same ss)

  below_same : (f g : S → Members) → ((s : S) → f s ≡ g s) → (a : Answer S) → below f a ≡ below g a
  below_same f g same (Shows l) = refl
  below_same f g same (Fails m) = refl
  below_same f g same (One s) = ap (λ m. let x : Answer Members = One m in x) (same s)
  below_same f g same (Many ss) = ap (λ l. let x : Answer Members = Many l in x) (below_each f g same ss)

  value_bare : (p : Place) (a : Answer Members) → value_of p a ≡ value_of (bare p) a
  value_bare p (Shows l) = refl
  value_bare p (Fails m) = refl
  value_bare p (One m) = refl
  value_bare p (Many ms) = refl

  -- ---- places of one parent that stand together, from a number on, and what they give

  record Block (parent : Option ℕ) (low : ℕ) (more : List Place) (gives : S → Members) : Type 0 where
    inside : Inside parent low (low + length more) more
    here : (tail : List Place) (s : S) → Clear low (low + length more) tail → given (more ++ tail) low parent s ≡ put (gives s) (given tail (low + length more) parent s)

  no_block : (parent : Option ℕ) (low : ℕ) → Block parent low [] (λ s. no_members)
  no_block parent low = record { inside = tt; here = λ tail s clear. let e : low ≡ low + 0 = omega arith in ap (λ k. given tail k parent s) e }

  inside_wider : (parent : Option ℕ) (low high a b : ℕ) (xs : List Place) → a ≤ low → high ≤ b → Inside parent low high xs → Inside parent a b xs
  inside_wider parent low high a b xs le me h =
      Each-map _ _ xs (λ p k. elim k [ inl e ↦ inl e | inr m ↦ (let least = m.2 in let less = m.3 in inr (m.0, m.1, omega arith, omega arith)) ]) h

  -- what is inside is clear of what stands before
  inside_clear : (parent : Option ℕ) (low high a b : ℕ) (xs : List Place) → Before parent a → b ≤ low → Inside parent low high xs → Clear a b xs
  inside_clear parent low high a b xs before le h =
      Each-map _ _ xs (λ p k j least less e. elim k [
        | inl at ↦ before_apart parent a j before least (sym at ∙ e)
        | inr m ↦ (let same = number_in m.0 j (sym m.1 ∙ e) in let low_is = m.2 in absurd (omega arith))
      ]) h

  two_blocks : (parent : Option ℕ) (low : ℕ) (xs ys : List Place) (f g : S → Members) → Before parent low → Block parent low xs f → Block parent (low + length xs) ys g → Block parent low (xs ++ ys) (λ s. put (f s) (g s))
  two_blocks parent low xs ys f g before x y =
      let len : length (xs ++ ys) ≡ length xs + length ys = length-append xs ys in
      let end : low + length xs + length ys ≡ low + length (xs ++ ys) = omega (arith, len) in
      record {
        inside = Each-both _ xs ys
            (inside_wider parent low (low + length xs) low (low + length (xs ++ ys)) xs (omega arith) (omega (arith, len)) x.inside)
            (inside_wider parent (low + length xs) (low + length xs + length ys) low (low + length (xs ++ ys)) ys (omega arith) (omega (arith, len)) y.inside);
        here = λ tail s clear.
            let clear_x : Clear low (low + length xs) tail = Each-map _ _ tail (λ p k j least less e. k j least (omega (arith, len)) e) clear in
            let clear_y : Clear (low + length xs) (low + length xs + length ys) tail = Each-map _ _ tail (λ p k j least less e. k j (omega arith) (omega (arith, len)) e) clear in
            ap (λ (l : List Place). given l low parent s) (append_assoc xs ys tail)
            ∙ x.here (ys ++ tail) s (Each-both _ ys tail (inside_clear parent (low + length xs) (low + length xs + length ys) low (low + length xs) ys before (omega arith) y.inside) clear_x)
            ∙ ap (put (f s)) (y.here tail s clear_y)
            ∙ ap (λ k. put (f s) (put (g s) (given tail k parent s))) end
            ∙ sym (put_assoc (f s) (g s) (given tail (low + length (xs ++ ys)) parent s));
      }

  -- a place with what stands below it
  one_block : (p : Place) (low : ℕ) (sub : List Place) (f : S → Members) → Before p.parent low → Block (Some low) (low + 1) sub f
      → Block p.parent low (p ∷ sub) (λ s. member p.key (value_of (bare p) (below f (give (bare p) s))) no_members)
  one_block p low sub f before block =
      let end : low + 1 + length sub ≡ low + length (p ∷ sub) = omega arith in
      record {
        inside = (
          inl refl,
          Each-map _ _ sub (λ q k. elim k [
            | inl e ↦ inr (low, e, omega arith, omega arith)
            | inr m ↦ (let least = m.2 in let less = m.3 in inr (m.0, m.1, omega arith, omega arith))
          ]) block.inside,
        );
        here = λ tail s clear.
            let clear_sub : Clear (low + 1) (low + 1 + length sub) tail = Each-map _ _ tail (λ q k j least less e. k j (omega arith) (omega arith) e) clear in
            let no_tail : Each (λ q. same_place q.parent (Some low) ≡ false) tail = Each-map _ _ tail (λ q k. apart q.parent (Some low) (λ e. k low (omega arith) (omega arith) e)) clear in
            let no_sub : Each (λ q. same_place q.parent p.parent ≡ false) sub = Each-map _ _ sub (λ q k. apart q.parent p.parent (λ e. elim k [
              | inl at ↦ before_apart p.parent low low before (omega arith) (sym e ∙ at)
              | inr m ↦ (let least = m.2 in before_apart p.parent low m.0 before (omega arith) (sym e ∙ m.1))
            ])) block.inside in
            let at_sub : (t : S) → given (sub ++ tail) (low + 1) (Some low) t ≡ f t = λ t.
            block.here tail t clear_sub ∙ ap (put (f t)) (none_below tail (low + 1 + length sub) (Some low) t no_tail) ∙ put_none (f t) in
            when_true (same_place p.parent p.parent) (λ _. member p.key (value_of p (below (given (sub ++ tail) (low + 1) (Some low)) (give (bare p) s))) (given (sub ++ tail) (low + 1) p.parent s)) (given (sub ++ tail) (low + 1) p.parent s) (same_itself p.parent)
            ∙ ap (λ (v : Answer Members). member p.key (value_of p v) (given (sub ++ tail) (low + 1) p.parent s)) (below_same (given (sub ++ tail) (low + 1) (Some low)) f at_sub (give (bare p) s))
            ∙ ap (λ v. member p.key v (given (sub ++ tail) (low + 1) p.parent s)) (value_bare p (below f (give (bare p) s)))
            ∙ ap (λ (ms : Members). member p.key (value_of (bare p) (below f (give (bare p) s))) ms) (pass_over sub tail (low + 1) p.parent s no_sub ∙ ap (λ k. given tail k p.parent s) end);
      }

  block_same : (parent : Option ℕ) (low : ℕ) (more : List Place) (f g : S → Members) → ((s : S) → f s ≡ g s) → Block parent low more f → Block parent low more g
  block_same parent low more f g same block =
      record { inside = block.inside; here = λ tail s clear. block.here tail s clear ∙ ap (λ (m : Members). put m (given tail (low + length more) parent s)) (same s) }

  -- ---- what a step adds, and what it gives

  record Adds (parent : Option ℕ) (before after : Tree) (gives : S → Members) : Type 0 where
    more : List Place
    is : after.places ≡ before.places ++ more
    block : Block parent (length before.places) more gives

  adds_nothing : (parent : Option ℕ) (tree : Tree) → Adds parent tree tree (λ s. no_members)
  adds_nothing parent tree = record { more = []; is = sym (append-nil tree.places); block = no_block parent (length tree.places) }

  before_more : (parent : Option ℕ) (low high : ℕ) → low ≤ high → Before parent low → Before parent high
  before_more None low high le h = tt
  before_more (Some a) low high le h = omega (arith, le, h)

  module _ (schema : SchemaParts) where
    number_rest : (next : ℕ → List Selection → S → Members) (ty : ℕ) (key : List ℕ) (f : Field) (selections : List Selection) (number : Option ℕ) (rest : Members) (s : S)
        → put (number_members give schema next ty key f selections number no_members s) rest ≡ number_members give schema next ty key f selections number rest s
    number_rest next ty key f selections None rest s = refl
    number_rest next ty key f selections (Some n) rest s = refl

    group_rest : (next : ℕ → List Selection → S → Members) (ty : ℕ) (key : List ℕ) (fields : List Field) (rest : Members) (s : S)
        → put (group_members give schema next ty key fields no_members s) rest ≡ group_members give schema next ty key fields rest s
    group_rest next ty key [] rest s = refl
    group_rest next ty key (f ∷ fields) rest s = number_rest next ty key f (merged (f ∷ fields)) (number_of schema ty f.name) rest s

    abbrev Steps : (Option ℕ → ℕ → List Selection → Tree → Tree) → (ℕ → List Selection → S → Members) → Type 0
    Steps next gives = (parent : Option ℕ) (ty : ℕ) (selections : List Selection) (tree : Tree) → Before parent (length tree.places) → Adds parent tree (next parent ty selections tree) (gives ty selections)

    module _ (next : Option ℕ → ℕ → List Selection → Tree → Tree) (gives : ℕ → List Selection → S → Members) (steps : Steps next gives) (parent : Option ℕ) (ty : ℕ) where
      below_adds : (d : Option FieldDef) (low : ℕ) (selections : List Selection) (tree : Tree) → low < length tree.places → Adds (Some low) tree (below_place next d low selections tree) (below_members give schema gives d selections)
      below_adds None low selections tree lt = adds_nothing (Some low) tree
      below_adds (Some d) low selections tree lt = steps (Some low) d.ty.name selections tree lt

      number_adds : (key : List ℕ) (f : Field) (selections : List Selection) (number : Option ℕ) (tree : Tree) → Before parent (length tree.places)
          → Adds parent tree (by_number next schema parent ty key f selections number tree) (λ s. number_members give schema gives ty key f selections number no_members s)
      number_adds key f selections None tree before = adds_nothing parent tree
      number_adds key f selections (Some n) tree before =
          let p : Place = place_of schema parent ty key f n in
          let low : ℕ = length tree.places in
          let placed : Tree = with_place p tree in
          let d : Option FieldDef = field_at schema ty n in
          let len : length placed.places ≡ low + 1 = length-append tree.places (p ∷ []) in
          let sub : Adds (Some low) placed (below_place next d low selections placed) (below_members give schema gives d selections) = below_adds d low selections placed (omega (arith, len)) in
          record {
            more = p ∷ sub.more;
            is = sub.is ∙ append_assoc tree.places (p ∷ []) sub.more;
            block = one_block p low sub.more (below_members give schema gives d selections) before (subst (λ k. Block (Some low) k sub.more (below_members give schema gives d selections)) len sub.block);
          }

      group_adds : (key : List ℕ) (fields : List Field) (tree : Tree) → Before parent (length tree.places)
          → Adds parent tree (with_group next schema parent ty key fields tree) (λ s. group_members give schema gives ty key fields no_members s)
      group_adds key [] tree before = adds_nothing parent tree
      group_adds key (f ∷ fields) tree before = number_adds key f (merged (f ∷ fields)) (number_of schema ty f.name) tree before

      keys_add : (fields : List Field) (keys : List (List ℕ)) (tree : Tree) → Before parent (length tree.places)
          → Adds parent tree (with_keys next schema parent ty fields keys tree) (key_members give schema gives ty fields keys)
      keys_add fields [] tree before = adds_nothing parent tree
      keys_add fields (key ∷ keys) tree before =
          let group : Tree = with_group next schema parent ty key (fields_with key fields) tree in
          let f : S → Members = λ s. group_members give schema gives ty key (fields_with key fields) no_members s in
          let g : S → Members = key_members give schema gives ty fields keys in
          let here : Adds parent tree group f = group_adds key (fields_with key fields) tree before in
          let len : length group.places ≡ length tree.places + length here.more = ap length here.is ∙ length-append tree.places here.more in
          let later : Adds parent group (with_keys next schema parent ty fields keys group) g = keys_add fields keys group (before_more parent (length tree.places) (length group.places) (omega (arith, len)) before) in
          record {
            more = here.more ++ later.more;
            is = later.is ∙ ap (λ (l : List Place). l ++ later.more) here.is ∙ append_assoc tree.places here.more later.more;
            block = block_same parent (length tree.places) (here.more ++ later.more) (λ s. put (f s) (g s)) (key_members give schema gives ty fields (key ∷ keys))
                (λ s. group_rest gives ty key (fields_with key fields) (g s) s)
                (two_blocks parent (length tree.places) here.more later.more f g before here.block (subst (λ k. Block parent k later.more g) len later.block));
          }

  set_adds : (r : Request) (n : ℕ) → Steps r.schema (with_set n r) (set_members give r.schema n r)
  unfolding with_set set_members
  set_adds r zero parent ty selections tree before = adds_nothing parent tree
  set_adds r (suc n) parent ty selections tree before =
      let met : Met = collected r ty selections tree.asked in
      let gives : ℕ → List Selection → S → Members = set_members give r.schema n r in
      let h = keys_add r.schema (with_set n r) gives (set_adds r n) parent ty met.fields (keys_of met.fields) (with_asked met.asked tree) before in
      record {
        more = h.more;
        is = h.is;
        block = block_same parent (length tree.places) h.more (key_members give r.schema gives ty met.fields (keys_of met.fields)) _
            (λ s. ap (λ (l : List Field). key_members give r.schema gives ty l (keys_of l) s) (same_fields r ty selections tree.asked)) h.block;
      }

  pub set_executes : (r : Request) (n ty : ℕ) (selections : List Selection) (asked : List (List ℕ)) (s : S)
      → given (with_set n r None ty selections (record { places = []; asked = asked })).places 0 None s ≡ set_members give r.schema n r ty selections s
  set_executes r n ty selections asked s =
      let nothing : Tree = record { places = []; asked = asked } in
      let h = set_adds r n None ty selections nothing tt in
      ap (λ (l : List Place). given l 0 None s) (h.is ∙ sym (append-nil h.more))
      ∙ h.block.here [] s tt
      ∙ put_none (set_members give r.schema n r ty selections s)
