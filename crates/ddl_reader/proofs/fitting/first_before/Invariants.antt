use Rattle.std.proofs.Common.{◌≡◌, ◌-◌, ◌++◌, take}
use Rattle.ddl_reader.specs.Stops.{lexemes_before}
use Rattle.ddl_reader.proofs.fitting.first_before.Given as goal

abbrev pub invariant-loop-turn : goal.invariant-loop-turn
invariant-loop-turn l = l.front.items ++ take (l.fn.most - l._turn) (lexemes_before l.fn.pos l.tokens) ≡ take l.fn.most (lexemes_before l.fn.pos l.fn.start)
