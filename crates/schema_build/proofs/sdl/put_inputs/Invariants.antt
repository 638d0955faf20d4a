use Rattle.std.proofs.Common.{◌≡◌, ◌++◌, drop, flat_map}
use Rattle.schema_build.specs.Sdl as text_of
use Rattle.schema_build.proofs.sdl.put_inputs.Given as goal

abbrev pub invariant-loop-arg : goal.invariant-loop-arg
invariant-loop-arg l =
    l.out.items ++ flat_map (text_of.input_line l.schema) (drop l.arg-index l.args)
    ≡ l.fn.out.items ++ flat_map (text_of.input_line l.schema) l.args
