-- Rows that were laid out, and are laid out once more.
use Rattle.std.proofs.Common.{◌≡◌, ℕ, zero, suc, ◌+◌, ◌-◌, ◌≤◌, List, [], ◌∷◌, ◌++◌, Some, length, take, drop, Bor, sym, ap, ◌∙◌, subst, length-append, length-drop, arith}
use Rattle.std.specs.List.{slice_get}
use Rattle.std.proofs.lemmas.List.{map-append, take-append-le, drop-append-le}
use Rattle.std.proofs.Math.Seq.{drop-append_seam, take-length}
use Rattle.pg_base.specs.Lists.{Each}
use Rattle.rel_model.specs.declared.tables.Row.{Row}
use Rattle.rel_model.specs.Ordered.{ordered}
use Rattle.rel_model.proofs.Rising.{each_map}
use Rattle.stmt_tree.specs.declared.stmt.Stmt.{Stmt}
use Rattle.stmt_tree.specs.declared.stmt.Child.TheViews.{out-Stmt}
use Rattle.stmt_tree.specs.Batches.{part_in}
use Rattle.stmt_run.specs.declared.laid.Shape.{Shape}
use Rattle.stmt_run.specs.declared.laid.Laid.{Laid}
use Rattle.stmt_run.specs.Laid.{shape_of, list_between, IsLaid}
use Rattle.stmt_run.proofs.Layers.{now_all, length_now, map_take, map_drop}

each_pushed : {A : Type 0} (P : A → Type 0) (xs : List A) (x : A) → Each P xs → P x → Each P (xs ++ x ∷ [])
each_pushed P [] x h p = (p, tt)
each_pushed P (y ∷ xs) x h p = (h.0, each_pushed P xs x h.1 p)

each_got : {A : Type 0} (P : A → Type 0) (xs : List A) (n : ℕ) (x : A) → Each P xs → slice_get xs n ≡ Some x → P x
each_got P [] n x h e = absurd (cc)
each_got P (y ∷ xs) zero x h e = let same : y ≡ x = cc in subst P same h.0
each_got P (y ∷ xs) (suc n) x h e = each_got P xs n x h.1 e

take_within : {A : Type 0} (all more : List A) (from n : ℕ) → from + n ≤ length all → take n (drop from (all ++ more)) ≡ take n (drop from all)
take_within all more from n le =
    ap (take n) (drop-append-le from all more (omega (arith, le)))
    ∙ take-append-le n (drop from all) more (let e = length-drop from all in omega (arith, le, e))

-- what was laid out stays so as more is
laid_on : (stmt : Stmt) (rows all more : List Row) (l : Laid) → IsLaid stmt rows all l → IsLaid stmt rows (all ++ more) l
laid_on stmt rows all more l h = record {
  shape = h.shape;
  within = let e = length-append all more in let k = h.within in omega (arith, e, k);
  part = take_within all more l.begin l.shape.count h.within ∙ h.part;
}

module _ (stmt : Stmt) (rows : List (Bor Row)) (from to : ℕ) where
  abbrev due : List Row
  due = list_between stmt (now_all rows) from to

  pub between : (list : List (Bor Row)) → list ≡ take (to - from) (drop from rows) → ordered (out-Stmt stmt).order (now_all list) ≡ list_between stmt (now_all rows) from to
  between list e =
      ap (λ l. ordered (out-Stmt stmt).order (now_all l)) e
      ∙ ap (ordered (out-Stmt stmt).order)
      (map_take (λ (r : Bor Row). r.now) (to - from) (drop from rows) ∙ ap (take (to - from)) (map_drop (λ (r : Bor Row). r.now) from rows))

  module _ (groups : List Laid) (all : List (Bor Row)) (known : Each (IsLaid stmt (now_all rows) (now_all all)) groups) where
    pub groups_on : (new : List (Bor Row)) → now_all new ≡ now_all all ++ part_in stmt (list_between stmt (now_all rows) from to) → Each (IsLaid stmt (now_all rows) (now_all new)) groups
    groups_on new e =
        subst (λ l. Each (IsLaid stmt (now_all rows) l) groups) (sym e)
        (each_map (IsLaid stmt (now_all rows) (now_all all)) (laid_on stmt (now_all rows) (now_all all) (part_in stmt due)) groups known)

    module _ (l : Laid) (n : ℕ) (there : slice_get groups n ≡ Some l) (f : l.from ≡ from) (t : l.to ≡ to) where
      laid : IsLaid stmt (now_all rows) (now_all all) l
      laid = each_got (IsLaid stmt (now_all rows) (now_all all)) groups n l known there

      same : list_between stmt (now_all rows) l.from l.to ≡ due
      same = ap (λ a. list_between stmt (now_all rows) a l.to) f ∙ ap (λ b. list_between stmt (now_all rows) from b) t

      pub again_within : l.begin + l.shape.count ≤ length all
      again_within = let k = laid.within in let e = length_now all in omega (arith, k, e)

      pub again_shape : l.shape ≡ shape_of stmt (list_between stmt (now_all rows) from to)
      again_shape = laid.shape ∙ ap (shape_of stmt) same

      pub again_rows : (new : List (Bor Row)) → new ≡ all ++ take l.shape.count (drop l.begin all) → now_all new ≡ now_all all ++ part_in stmt (list_between stmt (now_all rows) from to)
      again_rows new e =
          ap now_all e
          ∙ map-append (λ (r : Bor Row). r.now) all (take l.shape.count (drop l.begin all))
          ∙ ap (λ l. now_all all ++ l)
          (map_take (λ (r : Bor Row). r.now) l.shape.count (drop l.begin all)
          ∙ ap (take l.shape.count) (map_drop (λ (r : Bor Row). r.now) l.begin all)
          ∙ laid.part
          ∙ ap (part_in stmt) same)

    pub groups_more : (new : List (Bor Row)) (shape : Shape) (begin : ℕ) → begin ≡ length all → now_all new ≡ now_all all ++ part_in stmt (list_between stmt (now_all rows) from to) → shape ≡ shape_of stmt (list_between stmt (now_all rows) from to) → (groups' : List Laid) → groups' ≡ groups ++ record { from = from; to = to; shape = shape; begin = begin } ∷ [] → Each (IsLaid stmt (now_all rows) (now_all new)) groups'
    groups_more new shape begin b e s groups' pushed =
        let n : shape.count ≡ length (part_in stmt due) = ap (λ (x : Shape). x.count) s in
        let long : length (now_all new) ≡ length (now_all all) + length (part_in stmt due) = ap length e ∙ length-append (now_all all) (part_in stmt due) in
        let at : begin ≡ length (now_all all) = b ∙ sym (length_now all) in
        let own : IsLaid stmt (now_all rows) (now_all new) (record { from = from; to = to; shape = shape; begin = begin }) = record {
          shape = s;
          within = omega (arith, n, long, at);
          part =
              ap (λ l. take shape.count (drop begin l)) e
              ∙ ap (λ k. take shape.count (drop k (now_all all ++ part_in stmt due))) at
              ∙ ap (take shape.count) (drop-append_seam (now_all all) (part_in stmt due))
              ∙ ap (λ k. take k (part_in stmt due)) n
              ∙ take-length (part_in stmt due);
        } in
        subst (Each (IsLaid stmt (now_all rows) (now_all new))) (sym pushed)
        (each_pushed (IsLaid stmt (now_all rows) (now_all new)) groups (record { from = from; to = to; shape = shape; begin = begin }) (groups_on new e) own)
