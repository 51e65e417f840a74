use Rattle.host_io.proofs.Reading.{Front}
use Rattle.host_io.proofs.real_lines.read_line.Given as goal

abbrev pub invariant-parts : goal.invariant-parts
invariant-parts g l = Front l.max (g.B.Read.remaining l.fn.reader) (g.B.Read.remaining l.reader) l.line.items
