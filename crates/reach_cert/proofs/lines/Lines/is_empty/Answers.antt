use Rattle.std.proofs.Common.{ap, ◌∙◌}
use Rattle.reach_cert.proofs.Ends.{none_left}
use Rattle.reach_cert.proofs.lines.Lines.is_empty.Goals as goal

pub returns : goal.returns
returns c = c.is_empty.ensures ∙ none_left c.self.inside.rest.now c.args.self.now.lines (ap (λ a. a.lines) c.self.view_is)
