-- Files in memory.
use Rattle.std.specs.Prelude.{ℕ, List, [], ◌∷◌, if◌then◌else◌}
use Rattle.std.specs.Str.{bytes_eq}
use Rattle.pg_io.specs.declared.mem_files.MemFile.{MemFile}
use Rattle.pg_io.specs.Files.{Told, Absent, Holds}

-- the first file of the name
unfoldable pub file_of : List MemFile → List ℕ → Told
file_of [] name = Absent
file_of (f ∷ files) name = if bytes_eq f.name name then Holds f.bytes else file_of files name
