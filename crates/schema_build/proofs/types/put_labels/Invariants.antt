use Rattle.std.proofs.Common.{◌≡◌, ◌++◌, drop, map}
use Rattle.pg_base.specs.EnumCases.{case_of_label}
use Rattle.schema_build.proofs.types.put_labels.Given as goal

abbrev pub invariant-loop-label : goal.invariant-loop-label
invariant-loop-label l =
    l.cases.items ++ map case_of_label (drop l.label-index l.labels) ≡ l.fn.cases.items ++ map case_of_label l.labels
