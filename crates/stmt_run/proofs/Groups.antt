-- What a binary search finds among grouped rows.
use Rattle.std.proofs.Common.{◌≡◌, ℕ, zero, suc, ◌-◌, ◌<◌, ◌≤◌, List, [], ◌∷◌, length, map, get_or, take, drop, Bor, Bool, true, false, refl, sym, ap, ◌∙◌, subst, arith}
use Rattle.std.specs.List.{prefix_len}
use Rattle.std.specs.declared.cmp.Ordering.{Ordering}
use Rattle.std.specs.declared.cmp.Ordering.TheVariants.{Less, Equal, Greater}
use Rattle.std.specs.Ordering.{ordering_index}
use Rattle.std.specs.List.Sorted.{IsNonDecreasingBy}
use Rattle.std.proofs.lemmas.List.Sums.{prefix_len-le-length}
use Rattle.pg_base.specs.declared.cell.Cell.{Cell}
use Rattle.shared_list.specs.Lists.{Splits}
use Rattle.shared_list.proofs.Front.{passes_before, fails_after}
use Rattle.rel_model.specs.declared.tables.Row.{Row}
use Rattle.rel_model.specs.declared.window.By.{By}
use Rattle.std.specs.Ordering.{nat_cmp, ordering_then}
use Rattle.std.proofs.lemmas.List.{length-map}
use Rattle.rel_model.specs.Ordered.{cells_by, ascending}
use Rattle.stmt_run.specs.Marks.{key_mark, row_mark}
use Rattle.stmt_run.proofs.Marks.{keys_tell}
use Rattle.rel_model.proofs.Orders.{cells_order_total}
use Rattle.rel_model.proofs.Groups.{climbing, range_of}
use Rattle.stmt_run.specs.Grouped.{stands_at, grouped, is_under, group_at}
use Rattle.stmt_run.proofs.Layers.{now_all, length_now}

get_now : (rows : List (Bor Row)) (m : ℕ) (x : Bor Row) → m < length rows → x ≡ get_or rows m x → get_or (now_all rows) m x.now ≡ x.now
get_now rows m x lt is = at rows m x lt ∙ ap (λ (r : Bor Row). r.now) (sym is)
  where
    at : (rows : List (Bor Row)) (m : ℕ) (x : Bor Row) → m < length rows → get_or (now_all rows) m x.now ≡ (get_or rows m x).now
    at [] m x lt = absurd (omega arith)
    at (r ∷ rows) zero x lt = refl
    at (r ∷ rows) (suc m) x lt = at rows m x (omega arith)

lower_under : (b : Bool) (o p : Ordering) → ordering_index o ≤ ordering_index p → is_under b p ≡ true → is_under b o ≡ true
lower_under true Less p le h = refl
lower_under true Equal Less le h = absurd (omega (arith, le))
lower_under true Equal Equal le h = refl
lower_under true Equal Greater le h = refl
lower_under true Greater Less le h = absurd (omega (arith, le))
lower_under true Greater Equal le h = absurd (omega (arith, le))
lower_under true Greater Greater le h = h
lower_under false Less p le h = refl
lower_under false Equal Less le h = absurd (omega (arith, le))
lower_under false Equal Equal le h = h
lower_under false Equal Greater le h = cc
lower_under false Greater Less le h = absurd (omega (arith, le))
lower_under false Greater Equal le h = cc
lower_under false Greater Greater le h = h

module _ (rows : List (Bor Row)) (order : List By) (key : List Cell) where
  abbrev under : Bool → Row → Bool
  under b r = is_under b (stands_at order key r)

  pub prefix_within : (b : Bool) → prefix_len (λ r. is_under b (stands_at order key r)) (now_all rows) ≤ length rows
  prefix_within b = let e = prefix_len-le-length (under b) (now_all rows) in let f = length_now rows in omega (arith, e, f)

  pub over_at : (b : Bool) (m : ℕ) (x : Bor Row) → m < length rows → x ≡ get_or rows m x → is_under b (stands_at order key x.now) ≡ false → prefix_len (λ r. is_under b (stands_at order key r)) (now_all rows) ≤ m
  over_at b m x lt is h = fails_after (under b) (now_all rows) m x.now (ap (under b) (get_now rows m x lt is) ∙ h)

  module _ (xs : List Row) (sorted : now_all rows ≡ grouped order xs) where
    splits : (b : Bool) → Splits (under b) (now_all rows)
    splits b = record {
      lower = λ i j d le lt h. lower_under b (stands_at order key (get_or (now_all rows) i d)) (stands_at order key (get_or (now_all rows) j d)) (climbs i j d le lt) h;
    }
      where
        climbs : IsNonDecreasingBy (λ r. ordering_index (stands_at order key r)) (now_all rows)
        climbs = subst (IsNonDecreasingBy (λ r. ordering_index (stands_at order key r))) (sym sorted) (climbing (cells_order_total order) (λ (r : Row). cells_by order r.cells) key xs)

    pub under_by : (b : Bool) (m : ℕ) (x : Bor Row) → m < length rows → x ≡ get_or rows m x → is_under b (stands_at order key x.now) ≡ true → m < prefix_len (λ r. is_under b (stands_at order key r)) (now_all rows)
    under_by b m x lt is h =
        passes_before (under b) (now_all rows) m x.now (splits b) (let e = length_now rows in omega (arith, lt, e)) (ap (under b) (get_now rows m x lt is) ∙ h)

    range : (from to : ℕ) → from ≡ prefix_len (under false) (now_all rows) → to ≡ prefix_len (under true) (now_all rows) → (from ≤ to) × (to ≤ length rows) × (take (to - from) (drop from (now_all rows)) ≡ group_at order key (now_all rows))
    range from to a b =
        let r = range_of (cells_order_total order) (λ (r : Row). cells_by order r.cells) key xs in
        let f : from ≡ prefix_len (under false) (grouped order xs) = a ∙ ap (prefix_len (under false)) sorted in
        let t : to ≡ prefix_len (under true) (grouped order xs) = b ∙ ap (prefix_len (under true)) sorted in (
          (let k = r.order in omega (arith, k, f, t)),
          (let k = prefix_within true in omega (arith, k, b)),
          ap (λ l. take (to - from) (drop from l)) sorted
              ∙ ap (λ n. take (to - n) (drop n (grouped order xs))) f
              ∙ ap (λ n. take (n - prefix_len (under false) (grouped order xs)) (drop (prefix_len (under false) (grouped order xs)) (grouped order xs))) t
              ∙ r.is
              ∙ ap (group_at order key) (sym sorted),
        )

    pub seek_order : (from to : ℕ) → from ≡ prefix_len (λ r. is_under false (stands_at order key r)) (now_all rows) → to ≡ prefix_len (λ r. is_under true (stands_at order key r)) (now_all rows) → from ≤ to
    seek_order from to a b = (range from to a b).0

    pub seek_within : (from to : ℕ) → from ≡ prefix_len (λ r. is_under false (stands_at order key r)) (now_all rows) → to ≡ prefix_len (λ r. is_under true (stands_at order key r)) (now_all rows) → to ≤ length rows
    seek_within from to a b = (range from to a b).1

    pub group_is : (from to : ℕ) → from ≡ prefix_len (λ r. is_under false (stands_at order key r)) (now_all rows) → to ≡ prefix_len (λ r. is_under true (stands_at order key r)) (now_all rows) → take (to - from) (drop from (now_all rows)) ≡ group_at order key (now_all rows)
    group_is from to a b = (range from to a b).2

pub under_at : (rows : List (Bor Row)) (order : List By) (key : List Cell) (b : Bool) (xs : List Row) → now_all rows ≡ grouped order xs → (m : ℕ) (x : Bor Row) → m < length rows → x ≡ get_or rows m x → is_under b (stands_at order key x.now) ≡ true → m < prefix_len (λ r. is_under b (stands_at order key r)) (now_all rows)
under_at rows order key b xs sorted m x lt is h = under_by rows order key xs sorted b m x lt is h

get_marked : (f : Row → ℕ) (rows : List (Bor Row)) (m d : ℕ) (x : Bor Row) → m < length rows → x ≡ get_or rows m x → get_or (map f (now_all rows)) m d ≡ f x.now
get_marked f [] m d x lt is = absurd (omega arith)
get_marked f (r ∷ rows) zero d x lt is = ap (λ (b : Bor Row). f b.now) (sym is)
get_marked f (r ∷ rows) (suc m) d x lt is = get_marked f rows m d x (omega arith) is

pub told_at : (columns : List ℕ) (order : List By) (rows : List (Bor Row)) (marks : List ℕ) (key : List Cell) → order ≡ ascending columns → marks ≡ map (row_mark columns) (now_all rows) → (m d : ℕ) (x : Bor Row) → m < length rows → x ≡ get_or rows m x → ordering_then (nat_cmp (get_or marks m d) (key_mark columns key)) (stands_at order key x.now) ≡ stands_at order key x.now
told_at columns order rows marks key is marked m d x lt there =
    let e : get_or marks m d ≡ row_mark columns x.now = ap (λ l. get_or l m d) marked ∙ get_marked (row_mark columns) rows m d x lt there in
    subst (λ o. ordering_then (nat_cmp (get_or marks m d) (key_mark columns key)) (stands_at o key x.now) ≡ stands_at o key x.now) (sym is)
    (ap (λ n. ordering_then (nat_cmp n (key_mark columns key)) (stands_at (ascending columns) key x.now)) e ∙ keys_tell columns (cells_by (ascending columns) x.now.cells) key)

pub as_many : (columns : List ℕ) (rows : List (Bor Row)) (marks : List ℕ) → marks ≡ map (row_mark columns) (now_all rows) → length marks ≡ length rows
as_many columns rows marks marked = ap length marked ∙ length-map (now_all rows) (row_mark columns) ∙ length_now rows
