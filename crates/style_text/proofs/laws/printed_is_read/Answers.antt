use Rattle.style_text.proofs.Exact.{printed_style}
use Rattle.style_text.proofs.laws.printed_is_read.Goals as goal

pub returns : goal.returns
returns c = printed_style
