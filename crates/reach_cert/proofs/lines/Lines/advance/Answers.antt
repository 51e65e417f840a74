use Rattle.std.proofs.Common.{sym, ◌∙◌}
use Rattle.reach_cert.proofs.Ends.{advanced}
use Rattle.reach_cert.proofs.lines.Lines.advance.Goals as goal

pub returns : goal.returns
returns c = advanced c.self.inside.rest.now c.self.inside.number c.line_end.result c.args.self.now c.self.view_is c.line_end.ensures (sym c.if-is_empty.false ∙ c.is_empty.ensures)
