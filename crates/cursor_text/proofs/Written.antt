-- Lists, written item by item.
use Rattle.std.proofs.Common.{◌≡◌, ℕ, suc, ◌+◌, ◌<◌, ◌≤◌, ◌^◌, List, [], ◌∷◌, ◌++◌, length, get_or, drop, flat_map, refl, sym, ap, subst, ◌∙◌, append_assoc, append-nil, IsUtf8}
use Rattle.pg_base.specs.Lists.{Each}
use Rattle.pg_base.proofs.ListSteps.{drop-item, drop-past}
use Rattle.pg_base.specs.declared.cell.Cell.{Cell}
use Rattle.base64.specs.Engines.{standard}
use Rattle.base64.specs.GeneralPurpose.{encode_of}
use Rattle.pg_base.specs.declared.cell.Mark.{Mark}
use Rattle.cursor_text.specs.CursorText.{later_json, cursor_json, IsMarkValue, IsCursor}
use Rattle.cursor_text.specs.Marked.{value_of, values_of, labels_after, cursor_of}

-- what is written, and then what is left, is what is due; what is left is valid only with the whole
pub record IsOn {A : Type 0} (V : A → Type 0) (json : A → List ℕ) (before all : List A) (out due : List ℕ) : Type 0 where
  pub same : (out ++ flat_map (λ x. 44 ∷ json x) before) ≡ due
  pub valid : Each V before → Each V all

module _ {A : Type 0} (V : A → Type 0) (json : A → List ℕ) (all : List A) (out due : List ℕ) where
  pub turn : (x : A) (before after : List A) (new : List ℕ) → IsOn V json before all out due → before ≡ x ∷ after
      → new ≡ out ++ 44 ∷ json x → V x → IsOn V json after all new due
  turn x before after new on is wrote v = record {
    same =
        ap (λ (l : List ℕ). l ++ flat_map (λ y. 44 ∷ json y) after) wrote
        ∙ append_assoc out (44 ∷ json x) (flat_map (λ y. 44 ∷ json y) after)
        ∙ ap (λ (l : List A). out ++ flat_map (λ y. 44 ∷ json y) l) (sym is)
        ∙ on.same;
    valid = λ others. on.valid (subst (Each V) (sym is) (v, others));
  }

pub start : {A : Type 0} (V : A → Type 0) (json : A → List ℕ) (all : List A) (out : List ℕ) → IsOn V json all all out (out ++ flat_map (λ x. 44 ∷ json x) all)
start V json all out = record { same = refl; valid = λ h. h }

module _ {A : Type 0} (V : A → Type 0) (json : A → List ℕ) (all before : List A) (out old : List ℕ)
    (on : IsOn V json before all out (old ++ flat_map (λ x. 44 ∷ json x) all)) (none : before ≡ []) where
  pub closed : (new : List ℕ) → new ≡ out ++ 93 ∷ [] → new ≡ old ++ later_json json all
  closed new wrote =
      let whole : out ≡ old ++ flat_map (λ x. 44 ∷ json x) all =
      sym (append-nil out) ∙ ap (λ (l : List A). out ++ flat_map (λ x. 44 ∷ json x) l) (sym none) ∙ on.same in
      wrote ∙ ap (λ (l : List ℕ). l ++ 93 ∷ []) whole ∙ append_assoc old (flat_map (λ x. 44 ∷ json x) all) (93 ∷ [])

  pub all_valid : Each V all
  all_valid = on.valid (subst (Each V) (sym none) tt)

-- ---- the values of cells

pub values_from : (cells : List Cell) (labels : List (List ℕ)) (at : ℕ) (c : Cell) → at < length cells → c ≡ get_or cells at c
    → values_of (drop at cells) labels ≡ value_of c labels ∷ values_of (drop (at + 1) cells) (labels_after c labels)
values_from cells labels at c lt is = ap (λ (l : List Cell). values_of l labels) (drop-item cells at c lt is)

-- the same with the labels that were given back
pub values_on : (cells : List Cell) (labels left : List (List ℕ)) (at : ℕ) (c : Cell) → at < length cells → c ≡ get_or cells at c → left ≡ labels_after c labels
    → values_of (drop at cells) labels ≡ value_of c labels ∷ values_of (drop (at + 1) cells) left
values_on cells labels left at c lt is same =
    values_from cells labels at c lt is
    ∙ ap (λ (l : List (List ℕ)). value_of c labels ∷ values_of (drop (at + 1) cells) l) (sym same)

pub values_end : (cells : List Cell) (labels : List (List ℕ)) (at : ℕ) → length cells ≤ at → values_of (drop at cells) labels ≡ []
values_end cells labels at le = ap (λ (l : List Cell). values_of l labels) (drop-past cells at le)

pub value_count : (cells : List Cell) (labels : List (List ℕ)) → length (values_of cells labels) ≡ length cells
value_count [] labels = refl
value_count (c ∷ cells) labels = ap suc (value_count cells (labels_after c labels))

-- ---- the whole

pub written : (order : List (List ℕ)) (mark : Mark) (labels : List (List ℕ)) (text bytes spelled given json old : List ℕ)
    → text ≡ bytes → bytes ≡ spelled → spelled ≡ encode_of standard given → given ≡ json
    → json ≡ old ++ cursor_json (cursor_of order mark labels) → old ≡ []
    → Each IsUtf8 order → Each IsMarkValue (values_of mark.values labels) → length mark.values ≡ length order → 0 < mark.number → mark.number < 2 ^ 64
    → IsCursor text (cursor_of order mark labels)
written order mark labels text bytes spelled given json old a b c d e f names values pairs some small =
    let whole : json ≡ cursor_json (cursor_of order mark labels) = e ∙ ap (λ (l : List ℕ). l ++ cursor_json (cursor_of order mark labels)) f in
    record {
      spelled = a ∙ b ∙ c ∙ ap (λ (l : List ℕ). encode_of standard l) (d ∙ whole);
      valid = record { order = names; values = values; pairs = value_count mark.values labels ∙ pairs; number = (some, small) };
    }
