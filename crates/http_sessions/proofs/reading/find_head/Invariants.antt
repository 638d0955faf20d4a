use Rattle.std.proofs.Common.{◌≡◌, ◌-◌, ◌≤◌, length, take}
use Rattle.http_sessions.specs.HeadEnd.{IsScanOf}
use Rattle.http_sessions.specs.Windows.{window_of, IsWindow, Came}
use Rattle.http_sessions.proofs.reading.find_head.Given as goal

abbrev pub invariant-looks : goal.invariant-looks
invariant-looks g l = record {
  window : IsWindow l.room l.window;
  came : Came (g.S.Source.given l.fn.source) (g.S.Source.given l.source) (g.S.Source.left l.fn.source) (g.S.Source.left l.source) (window_of l.fn.room l.fn.window) (window_of l.room l.window);
  same : g.S.Source.faults l.source ≡ g.S.Source.faults l.fn.source;
  looked : l.seen.at ≤ length (window_of l.room l.window);
  early : l.seen.at ≤ 16384;
  so_far : IsScanOf (take l.seen.at (window_of l.room l.window)) l.seen;
}

abbrev pub decreases-looks : goal.decreases-looks
decreases-looks g l = 16384 - (l.window.held - l.window.start)
