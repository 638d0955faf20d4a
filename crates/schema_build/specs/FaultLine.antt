-- The line that tells why a catalog has no schema.
use Rattle.std.specs.Prelude.{ℕ, List, [], ◌++◌, Option, Some, None, codes}
use Rattle.pg_base.specs.declared.build_fault.BuildFault.{BuildFault}
use Rattle.pg_base.specs.declared.build_fault.BuildFault.TheVariants as fault

-- the name of a type, or that of what a type has, after its type's
abbrev pub owned_name : Option (List ℕ) → List ℕ → List ℕ
owned_name None name = name
owned_name (Some owner) name = owner ++ codes "." ++ name

-- without a line feed; out of memory has no line
abbrev pub fault_line : BuildFault → List ℕ
fault_line (fault.NamesMeet owner name earlier later) = codes "schema fault 1: " ++ owned_name owner name
fault_line (fault.NotAName name) = codes "schema fault 2: " ++ name
fault_line fault.TooManyFields = codes "schema fault 3"
fault_line (fault.NoFields name) = codes "schema fault 4: " ++ name
fault_line fault.Memory = []
