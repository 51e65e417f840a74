use Rattle.style_text.proofs.Exact.{style_spelled}
use Rattle.style_text.proofs.laws.read_is_spelled.Goals as goal

pub returns : goal.returns
returns c = style_spelled
