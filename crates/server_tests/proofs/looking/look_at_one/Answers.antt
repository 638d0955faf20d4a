use Rattle.std.proofs.Common.{Some, rules, sym, ◌∙◌, ap}
use Rattle.server_tests.proofs.looking.look_at_one.Goals as goal

pub look_beside-requires : goal.look_beside-requires
look_beside-requires g c = record {
  seats = ((λ k d l. let h = c.in_ok-cell.ensures.seats k d l in (h.0, h.1 ∙ ap Some (sym c.in_ok-cell.ensures.cell.0), h.2)), search rules, search rules);
}
