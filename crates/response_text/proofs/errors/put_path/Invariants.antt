use Rattle.std.proofs.Common.{◌≡◌, ◌++◌, drop, map}
use Rattle.place_tree.specs.Response.{path_text}
use Rattle.response_text.specs.Paths as spec
use Rattle.response_text.proofs.errors.put_path.Given as goal

abbrev pub invariant-loop-part : goal.invariant-loop-part
invariant-loop-part l =
    l.out.items ++ spec.parts_left l.due (map spec.part_of (drop l.part-index l.path)) ≡ l.fn.out.items ++ path_text (map spec.part_of l.path)
