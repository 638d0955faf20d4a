use Rattle.std.proofs.Common.{◌≡◌, take, drop}
use Rattle.http_sessions.proofs.window.shift.Given as goal

abbrev pub invariant-bytes : goal.invariant-bytes
invariant-bytes l = record {
  moved : take l.i l.room ≡ take l.i (drop l.window.start l.fn.room);
  kept : drop l.i l.room ≡ drop l.i l.fn.room;
}
