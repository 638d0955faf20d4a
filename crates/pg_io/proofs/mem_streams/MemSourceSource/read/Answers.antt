use Rattle.std.proofs.Common.{◌∙◌, ap, List, ℕ, min, length, take, drop, arith}
use Rattle.pg_io.proofs.Passed.{given_more, copied_front}
use Rattle.pg_io.proofs.mem_streams.MemSourceSource.read.Goals as goal

pub returns-clause-given : goal.returns-clause-given
returns-clause-given c =
    let count = c.min-count.ensures in
    given_more _ _ _ _ _
    (c.min-from.ensures ∙ ap (λ (l : List ℕ). min c.args.self.now.at (length l)) c.bytes-bytes.ensures)
    (copied_front c.bytes-bytes.result.now _ _ c.min-from.result _ c.copy_from_slice.ensures.after (omega (arith, count))
    ∙ ap (λ (l : List ℕ). take c.min-count.result (drop c.min-from.result l)) c.bytes-bytes.ensures)
