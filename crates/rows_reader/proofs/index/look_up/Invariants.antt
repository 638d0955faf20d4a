use Rattle.rows_reader.proofs.index.look_up.Given as goal

abbrev pub invariant-loop-index : goal.invariant-loop-index
invariant-loop-index l = Unit {0}
