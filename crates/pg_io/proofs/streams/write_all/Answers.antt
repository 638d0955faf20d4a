use Rattle.std.proofs.Common.{◌∙◌, arith}
use Rattle.pg_io.proofs.Delivered.{delivered_more, length-rest}
use Rattle.pg_io.proofs.streams.write_all.Goals as goal

pub pieces-preserved : goal.pieces-preserved
pieces-preserved g c = record {
  within = let w = c.in_ok-at.ensures.bound.0 in let r = length-rest c.args.bytes.now c.pieces.at in omega (arith, w, r, c.pieces.invariant.within);
  given = delivered_more _ _ _ _ _ _ c.pieces.invariant.given c.in_ok-at.ensures.bytes;
  same = c.in_ok-at.ensures.cause ∙ c.pieces.invariant.same;
}
