-- From the getters of a parse to its rows.
use Rattle.std.proofs.Common.{◌≡◌, ◌∙◌, Option, option_map}
use Rattle.std.specs.Borrow.{Bor}
use Rattle.clap.specs.Walk.{Text, first_of, rows_of}
use Rattle.clap.specs.Matches.{first_value}
use Rattle.clap.specs.declared.parser.matches.Found.{Found}
use Rattle.clap.proofs.WalkLemmas.{first_value-rows}

-- what a getter gives is the first text of the rows
pub got : (f : Found) (id : Text) (r : Option (Bor Text)) → option_map (λ s. s.now) r ≡ first_value f id
    → option_map (λ s. s.now) r ≡ first_of id (rows_of f)
got f id r e = e ∙ first_value-rows f id
