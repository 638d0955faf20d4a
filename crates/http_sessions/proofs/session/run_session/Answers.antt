use Rattle.std.proofs.Common.{◌≡◌, [], refl}
use Rattle.http_sessions.proofs.TurnSteps.{so_start, so_memory, report_is}
use Rattle.http_sessions.proofs.session.run_session.Goals as goal

pub returns-in_default-clause-session : goal.returns-in_default-clause-session
returns-in_default-clause-session g c =
    let so = so_start g.P.Responder.front g.P.Responder.responds c.args.responder.now (g.S.Source.given c.args.source.now) (g.S.Source.left c.args.source.now) (g.K.Sink.taken c.args.sink.now) in
    report_is g.P.Responder.front g.P.Responder.responds _ _ _ _ c.refused.ensures.end c.refused.ensures.notes (so_memory g.P.Responder.front g.P.Responder.responds so refl)

pub returns-in_default-with_capacity-clause-session : goal.returns-in_default-with_capacity-clause-session
returns-in_default-with_capacity-clause-session g c =
    let so = so_start g.P.Responder.front g.P.Responder.responds c.args.responder.now (g.S.Source.given c.args.source.now) (g.S.Source.left c.args.source.now) (g.K.Sink.taken c.args.sink.now) in
    report_is g.P.Responder.front g.P.Responder.responds _ _ _ _ c.refused-in_default-with_capacity.ensures.end c.refused-in_default-with_capacity.ensures.notes (so_memory g.P.Responder.front g.P.Responder.responds so refl)
