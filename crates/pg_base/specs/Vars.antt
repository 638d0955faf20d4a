-- What a variable holds.
use Rattle.std.specs.Prelude.{ℕ, List, [], ◌∷◌, Option, Some, None, if◌then◌else◌}
use Rattle.std.specs.Str.{bytes_eq}
use Rattle.pg_base.specs.declared.value.Value.{Value}
use Rattle.pg_base.specs.declared.vars.Variable.{Variable}
use Rattle.pg_base.specs.declared.vars.Vars.{Vars}

-- the value of the first entry with the name
abbrev pub value_in : List Variable → List ℕ → Option Value
value_in [] name = None
value_in (e ∷ entries) name = if bytes_eq e.name name then Some e.value else value_in entries name

-- the variable's value, or none where it has no entry
abbrev pub variable : Vars → List ℕ → Option Value
variable vars name = value_in vars.entries name
