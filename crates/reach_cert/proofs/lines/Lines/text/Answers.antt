use Rattle.std.proofs.Common.{ap}
use Rattle.reach_cert.proofs.Ends.{text_is}
use Rattle.reach_cert.proofs.lines.Lines.text.Goals as goal

pub returns : goal.returns
returns c = text_is c.self.inside.rest.now c.line_end.result c.args.self.now.lines c.strip_suffix.result (ap (λ a. a.lines) c.self.view_is) c.line_end.ensures c.strip_suffix.ensures.cases
