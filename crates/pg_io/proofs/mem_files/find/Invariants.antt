use Rattle.std.proofs.Common.{◌≡◌, drop}
use Rattle.pg_io.specs.MemFiles.{file_of}
use Rattle.pg_io.proofs.mem_files.find.Given as goal

abbrev pub invariant-loop-file : goal.invariant-loop-file
invariant-loop-file l = file_of l.files l.name ≡ file_of (drop l.file-index l.files) l.name
