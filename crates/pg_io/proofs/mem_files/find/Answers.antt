use Rattle.std.proofs.Common.{◌≡◌, ◌∙◌, true, false, rules}
use Rattle.std.specs.Str.{bytes_eq}
use Rattle.pg_base.proofs.ListSteps.{drop-past}
use Rattle.pg_io.proofs.ByName.{file_of-hit, file_of-miss, file_of-none}
use Rattle.pg_io.proofs.mem_files.find.Goals as goal

pub returns-then-eq : goal.returns-then-eq
returns-then-eq c =
    let hit : bytes_eq c.file-item.result.name c.args.name.now ≡ true = search rules in
    c.loop-file.invariant ∙ file_of-hit _ _ _ _ c.loop-file-test.true c.file-item.is hit

pub loop-file-preserved : goal.loop-file-preserved
loop-file-preserved c =
    let miss : bytes_eq c.file-item.result.name c.args.name.now ≡ false = search rules in
    c.loop-file.invariant ∙ file_of-miss _ _ _ _ c.loop-file-test.true c.file-item.is miss

pub returns : goal.returns
returns c = c.loop-file.invariant ∙ file_of-none _ _ (drop-past _ _ c.loop-file-test.false)
