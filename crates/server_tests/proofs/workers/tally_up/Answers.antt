use Rattle.std.proofs.Common.{rules, ℕ, List, ◌≡◌, ◌++◌, All, length, take, subst, sym, ap, ◌∙◌}
use Rattle.std.proofs.Math.Seq.{take-append_seam}
use Rattle.server_tests.specs.Lists.{IsAt}
use Rattle.server_tests.proofs.workers.tally_up.Goals as goal

-- what was lent and came back is the whole list
came_back : {A : Type 0} (n : ℕ) (xs ys : List A) → n ≡ length xs → take n (xs ++ ys) ≡ xs
came_back n xs ys e = ap (λ (k : ℕ). take k (xs ++ ys)) e ∙ take-append_seam xs ys

pub add_all-requires-clause-seats : goal.add_all-requires-clause-seats
add_all-requires-clause-seats g c = rw c.as_mut_slice.ensures.value (λ κs b k d l. let h = c.in_ok-cell.ensures.seats k d l in (h.0, h.1, h.2))

pub close_all-requires : goal.close_all-requires
close_all-requires g c = let e = came_back c.in_ok-cell.all.len c.add_all.new.seats _ (search rules) in record {
  seats = (subst (All (IsAt c.in_ok-cell.cell.id)) (sym e) c.add_all.ensures.seats, search rules);
}
