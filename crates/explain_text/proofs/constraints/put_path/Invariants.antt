use Rattle.std.proofs.Common.{◌≡◌, ◌++◌, false, drop}
use Rattle.explain_text.specs.Explained.{part_text}
use Rattle.explain_text.specs.Values.{separated}
use Rattle.explain_text.proofs.constraints.put_path.Given as goal

abbrev pub invariant-loop-part : goal.invariant-loop-part
invariant-loop-part l =
    l.out.items ++ separated 46 part_text l.due (drop l.part-index l.path) ≡ l.initial.out.items ++ separated 46 part_text false l.path
