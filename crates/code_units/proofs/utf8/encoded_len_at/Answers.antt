use Rattle.code_units.proofs.AsciiRuns.{bytes_len}
use Rattle.code_units.proofs.LossyChars.{utf8_of-len}
use Rattle.code_units.proofs.utf8.encoded_len_at.Goals as goal

pub returns-then-ascii-gt0-clause-len : goal.returns-then-ascii-gt0-clause-len
returns-then-ascii-gt0-clause-len c = bytes_len c.args.units.now c.args.at c.run-ascii.result c.run-ascii.ensures.len

pub returns-clause-len : goal.returns-clause-len
returns-clause-len c = rw c.len_utf8.ensures.value (utf8_of-len _ _ c.char_at-c.result.0 c.char_at-c.ensures.first)
