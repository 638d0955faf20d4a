use Rattle.std.proofs.Common.{◌≡◌, ◌++◌, drop, flat_map}
use Rattle.schema_build.specs.Sdl as text_of
use Rattle.schema_build.proofs.sdl.put_fields.Given as goal

abbrev pub invariant-loop-field : goal.invariant-loop-field
invariant-loop-field l =
    l.out.items ++ flat_map (text_of.field_line l.schema) (drop l.field-index l.fields)
    ≡ l.fn.out.items ++ flat_map (text_of.field_line l.schema) l.fields
