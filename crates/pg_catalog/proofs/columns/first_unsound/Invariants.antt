use Rattle.std.proofs.Common.{◌≡◌, drop, not, find}
use Rattle.pg_catalog.specs.Columns.{is_sound}
use Rattle.pg_catalog.proofs.columns.first_unsound.Given as goal

abbrev pub invariant-loop-column : goal.invariant-loop-column
invariant-loop-column l =
    find (λ column. not (is_sound l.enums column)) (drop l.column-index l.columns) ≡ find (λ column. not (is_sound l.enums column)) l.columns
