use Rattle.std.proofs.Common.{◌≡◌, ◌++◌, drop, flat_map}
use Rattle.schema_build.specs.Sdl as text_of
use Rattle.schema_build.proofs.sdl.put_cases.Given as goal

abbrev pub invariant-loop-case : goal.invariant-loop-case
invariant-loop-case l =
    l.out.items ++ flat_map (text_of.case_line) (drop l.case-index l.cases)
    ≡ l.fn.out.items ++ flat_map (text_of.case_line) l.cases
