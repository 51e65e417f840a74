use Rattle.tidy_laws.specs.Told.{AnyDepth}
use Rattle.tidy_laws.proofs.Lexing.{read_back}
use Rattle.tidy_laws.proofs.is_read_back.Goals as goal

pub returns : goal.returns
returns c = read_back AnyDepth
