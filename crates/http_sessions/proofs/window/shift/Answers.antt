use Rattle.std.proofs.Common.{◌+◌, ◌<◌, length, arith}
use Rattle.http_sessions.proofs.Received.{moved_more, kept_more}
use Rattle.http_sessions.proofs.window.shift.Goals as goal

pub bytes-preserved : goal.bytes-preserved
bytes-preserved c =
    let lt : c.args.window.start + c.bytes.i < length c.bytes.room = omega arith in
    record {
      moved = moved_more c.bytes.room c.args.room.now c.bytes.i c.args.window.start lt c.bytes.invariant.moved c.bytes.invariant.kept;
      kept = kept_more c.bytes.room c.args.room.now c.bytes.i _ c.bytes.invariant.kept;
    }
