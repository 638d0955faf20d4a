-- The marks on the places whose rows are shown.
use Rattle.std.proofs.Common.{◌≡◌, ℕ, ◌<◌, Bool, true, false, ◌||◌, ◌&&◌, if◌then◌else◌, List, [], ◌∷◌, length, get_or, set, replicate, Option, Some, None, refl, sym, ap, ◌∙◌, subst, eqb-true, eq-eqb}
use Rattle.std.specs.Prelude.{◌==◌}
use Rattle.std.proofs.lemmas.List.{length-set, length-replicate, get_or-set_same, get_or-set_other, get_or-replicate}
use Rattle.pg_base.specs.Schema.{SchemaParts}
use Rattle.place_tree.specs.Exec.{needs_rows, shows_rows}
use Rattle.place_tree.specs.Fields.{does_of}
use Rattle.place_tree.specs.Fold.{same_place}
use Rattle.place_tree.specs.declared.place.Place.{Place}
use Rattle.step_plan.specs.Listed.{ShownAre, with_mark, with_mark_of, with_marks}

mark_long : (above : Option ℕ) (shown : List Bool) → length (with_mark above shown) ≡ length shown
mark_long None shown = refl
mark_long (Some i) shown = length-set shown i true

mark_of_long : (schema : SchemaParts) (p : Place) (shown : List Bool) → length (with_mark_of schema p shown) ≡ length shown
mark_of_long schema p shown = on (shows_rows (does_of schema p))
  where
    on : (b : Bool) → length (if b then with_mark p.parent shown else shown) ≡ length shown
    on true = mark_long p.parent shown
    on false = refl

marks_long : (schema : SchemaParts) (places : List Place) (shown : List Bool) → length (with_marks schema places shown) ≡ length shown
marks_long schema [] shown = refl
marks_long schema (p ∷ places) shown = marks_long schema places (with_mark_of schema p shown) ∙ mark_of_long schema p shown

set_told : (shown : List Bool) (x i : ℕ) → i < length shown → get_or (set shown x true) i false ≡ (x == i) || get_or shown i false
set_told shown x i lt = by (x == i) refl
  where
    by : (b : Bool) → (x == i) ≡ b → get_or (set shown x true) i false ≡ b || get_or shown i false
    by true e = ap (λ j. get_or (set shown j true) i false) (eqb-true x i e) ∙ get_or-set_same shown i true false lt
    by false e = get_or-set_other shown x i true false (λ same. let z : true ≡ false = sym (eq-eqb x i (sym same)) ∙ e in cc)

mark_told : (above : Option ℕ) (shown : List Bool) (i : ℕ) → i < length shown
    → get_or (with_mark above shown) i false ≡ same_place above (Some i) || get_or shown i false
mark_told None shown i lt = refl
mark_told (Some x) shown i lt = set_told shown x i lt

and_false : (a : Bool) → a && false ≡ false
and_false true = refl
and_false false = refl

and_true : (a : Bool) → a && true ≡ a
and_true true = refl
and_true false = refl

or_false : (a : Bool) → a || false ≡ a
or_false true = refl
or_false false = refl

mark_by : (b : Bool) (above : Option ℕ) (shown : List Bool) (i : ℕ) → i < length shown
    → get_or (if b then with_mark above shown else shown) i false ≡ (same_place above (Some i) && b) || get_or shown i false
mark_by true above shown i lt = mark_told above shown i lt ∙ ap (λ b. b || get_or shown i false) (sym (and_true (same_place above (Some i))))
mark_by false above shown i lt = ap (λ b. b || get_or shown i false) (sym (and_false (same_place above (Some i))))

moved : (c g n : Bool) → (c || g) || n ≡ g || (c || n)
moved true true n = refl
moved true false n = refl
moved false true n = refl
moved false false n = refl

marks_told : (schema : SchemaParts) (places : List Place) (shown : List Bool) (i : ℕ) → i < length shown
    → get_or (with_marks schema places shown) i false ≡ get_or shown i false || needs_rows schema places i
marks_told schema [] shown i lt = sym (or_false (get_or shown i false))
marks_told schema (p ∷ places) shown i lt =
    let b : Bool = shows_rows (does_of schema p) in
    let more : List Bool = with_mark_of schema p shown in
    let less : i < length more = subst (λ (n : ℕ). i < n) (sym (mark_of_long schema p shown)) lt in
    marks_told schema places more i less
    ∙ ap (λ g. g || needs_rows schema places i) (mark_by b p.parent shown i lt)
    ∙ moved (same_place p.parent (Some i) && b) (get_or shown i false) (needs_rows schema places i)

pub all_told : (schema : SchemaParts) (places : List Place) (none shown : List Bool) → none ≡ replicate (length places) false
    → shown ≡ with_marks schema places none → ShownAre schema places shown
all_told schema places none shown are is =
    let long : length none ≡ length places = ap length are ∙ length-replicate (length places) false in
    record {
      each = ap length is ∙ marks_long schema places none ∙ long;
      told = λ i lt.
          let less : i < length none = subst (λ (n : ℕ). i < n) (sym long) lt in
          ap (λ l. get_or l i false) is
          ∙ marks_told schema places none i less
          ∙ ap (λ (l : List Bool). get_or l i false || needs_rows schema places i) are
          ∙ ap (λ b. b || needs_rows schema places i) (get_or-replicate (length places) i false false lt);
    }
