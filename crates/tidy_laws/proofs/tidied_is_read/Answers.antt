use Rattle.tidy_laws.proofs.Join.{tidied_again}
use Rattle.tidy_laws.proofs.Texts.{any_text, tame_text}
use Rattle.tidy_laws.proofs.tidied_is_read.Goals as goal

pub returns : goal.returns
returns c = record { read = any_text; no_deeper = tame_text; again = tidied_again }
