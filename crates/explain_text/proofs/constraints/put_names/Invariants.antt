use Rattle.std.proofs.Common.{◌≡◌, ◌++◌, false, drop}
use Rattle.explain_text.specs.Explained.{name_text}
use Rattle.explain_text.specs.Values.{separated}
use Rattle.explain_text.proofs.constraints.put_names.Given as goal

abbrev pub invariant-loop-name : goal.invariant-loop-name
invariant-loop-name l =
    l.out.items ++ separated 44 name_text l.due (drop l.name-index l.names) ≡ l.initial.out.items ++ separated 44 name_text false l.names
