use Rattle.style_text.proofs.Exact.{one_style, one_place, no_style}
use Rattle.style_text.proofs.laws.one_answer.Goals as goal

pub returns : goal.returns
returns c = record { one_style = one_style; one_place = one_place; no_style = no_style }
