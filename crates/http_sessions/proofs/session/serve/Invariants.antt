use Rattle.std.proofs.Common.{◌≡◌, ◌<◌, ◌≤◌, length}
use Rattle.std.specs.Vec.{vec_capacity}
use Rattle.http_sessions.specs.Windows.{window_of, IsWindow}
use Rattle.http_sessions.specs.Turns.{SoFar}
use Rattle.http_sessions.proofs.session.serve.Given as goal

abbrev pub invariant-turns : goal.invariant-turns
invariant-turns g l = record {
  window : IsWindow l.room l.window;
  out : 65536 ≤ vec_capacity l.out;
  few : l._turn < 1000000;
  count : length l.notes.items ≡ l._turn;
  so_far : SoFar g.P.Responder.front g.P.Responder.responds l.fn.responder l.responder (g.S.Source.given l.fn.source) (g.S.Source.given l.source) (g.S.Source.left l.fn.source) (g.S.Source.left l.source) (g.K.Sink.taken l.fn.sink) (g.K.Sink.taken l.sink) (window_of l.room l.window) l.notes.items;
  read : g.S.Source.faults l.source ≡ g.S.Source.faults l.fn.source;
  wrote : g.K.Sink.faults l.sink ≡ g.K.Sink.faults l.fn.sink;
}
