use Rattle.std.proofs.Common.{◌≡◌, ◌-◌}
use Rattle.http_sessions.specs.Windows.{window_of, IsWindow, Came}
use Rattle.http_sessions.proofs.reading.fill.Given as goal

abbrev pub invariant-reads : goal.invariant-reads
invariant-reads g l = record {
  window : IsWindow l.room l.window;
  came : Came (g.S.Source.given l.fn.source) (g.S.Source.given l.source) (g.S.Source.left l.fn.source) (g.S.Source.left l.source) (window_of l.fn.room l.fn.window) (window_of l.room l.window);
  same : g.S.Source.faults l.source ≡ g.S.Source.faults l.fn.source;
}

abbrev pub decreases-reads : goal.decreases-reads
decreases-reads g l = l.size - (l.window.held - l.window.start)
