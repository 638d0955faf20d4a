use Rattle.std.proofs.Common.{rules, ◌∙◌}
use Rattle.server_tests.proofs.looking.look_beside.Goals as goal

pub turn-before-requires-clause-needs : goal.turn-before-requires-clause-needs
turn-before-requires-clause-needs g c = (c.args.cell.fixed, search rules, tt)

pub join-requires : goal.join-requires
join-requires g c = record {
  cell = (
    c.turn-after.ensures.seat.0 ∙ (c.turn-before.ensures.seat.0 ∙ search rules),
    c.turn-second.ensures.seat.0 ∙ (c.turn-first.ensures.seat.0 ∙ search rules),
  );
}
