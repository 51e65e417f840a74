use Rattle.std.proofs.Common.{◌≡◌, ◌++◌}
use Rattle.std.specs.List.{flat_map}
use Rattle.reach_cert.specs.Certs.{line_text}
use Rattle.reach_cert.proofs.CellLines.{lines_to}
use Rattle.reach_cert.proofs.printing.push_rows.Given as goal

abbrev pub invariant-each : goal.invariant-each
invariant-each l = l.out.items ≡ l.fn.out.items ++ flat_map line_text (lines_to 0 l.rows l.i)
