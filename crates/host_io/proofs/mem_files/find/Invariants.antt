use Rattle.std.proofs.Common.{◌≡◌, drop}
use Rattle.host_io.specs.Memory.{file_of}
use Rattle.host_io.proofs.mem_files.find.Given as goal

abbrev pub invariant-entries : goal.invariant-entries
invariant-entries l = file_of (drop l.entry-index l.entries) l.name ≡ file_of l.entries l.name
