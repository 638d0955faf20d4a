use Rattle.std.proofs.Common.{◌≡◌, List, length, ap, arith}
use Rattle.pg_io.proofs.Passed.{whole_read, read_is}
use Rattle.pg_io.proofs.std_files.read_up_to.Goals as goal

pub returns : goal.returns
returns g c =
    let room = c.read_to_end.new.buf.small in
    let held = c.read_to_end.new.buf.ok in
    let within = c.if-len-limit.false in
    let counted = c.len.ensures in
    let whole : length c.of.result ≡ length c.read_to_end.new.buf.items = ap (λ (l : List _). length l) c.of.ensures in
    let read = read_is (g.R.Read.remaining c.args.reader) _ c.saturating_add-room.result _ _ _ c.of.result
    (ap (λ r. g.R.Read.remaining r) c.take-front.ensures.inner) c.take-front.ensures.limit c.new-bytes.ensures.items c.of.ensures c.in_ok-read_to_end.ensures.bytes in
    whole_read (g.R.Read.remaining c.args.reader) _ _ c.of.result c.saturating_add-room.ensures (omega (arith, room, held.0, held.1, whole)) read (omega (arith, held.0, within, counted, whole))
