use Rattle.std.proofs.Common.{◌≡◌, ℕ, List, length, take, drop, refl, sym, ap, ◌∙◌, subst, rules, arith}
use Rattle.http_sessions.specs.declared.refusal.Refusal.TheVariants.{HeadTooLarge}
use Rattle.http_sessions.proofs.TurnSteps.{refused_at, halted_at, turn_after, refused_long, halted_got, halted_sent, refused_got, got_since}
use Rattle.http_sessions.proofs.session.turn.Goals as goal

pub returns-in-TooLong-clause-turn : goal.returns-in-TooLong-clause-turn
returns-in-TooLong-clause-turn g c =
    refused_at g.P.Responder.front g.P.Responder.responds c.args.responder.now _ _ c.args.notes.now.items HeadTooLarge c.refuse.result c.front.result c.front.ensures c.in-TooLong.ensures.came (refused_long _ c.in-TooLong.ensures.found.0) c.refuse.ensures.bytes

pub returns-in-Halted-clause-turn : goal.returns-in-Halted-clause-turn
returns-in-Halted-clause-turn g c =
    halted_at g.P.Responder.front g.P.Responder.responds _ _ c.args.responder.now _ c.args.notes.now.items c.in-Halted.halt c.end_before.result c.end_before.ensures c.in-Halted.ensures.came c.in-Halted.ensures.found.0 c.in-Halted.ensures.found.1
