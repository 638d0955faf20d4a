use Rattle.std.proofs.Common.{◌≡◌, ◌++◌, drop, flat_map, codes}
use Rattle.schema_build.specs.Sdl as text_of
use Rattle.schema_build.proofs.sdl.put_other_arguments.Given as goal

abbrev pub invariant-loop-other : goal.invariant-loop-other
invariant-loop-other l =
    l.out.items ++ flat_map (λ other. codes ", " ++ text_of.argument l.schema other) (drop l.other-index l.others)
    ≡ l.fn.out.items ++ flat_map (λ other. codes ", " ++ text_of.argument l.schema other) l.others
