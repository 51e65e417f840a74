use Rattle.std.proofs.Common.{eqb-true, sym, ◌∙◌}
use Rattle.std.specs.Char.{is_ascii}
use Rattle.std.proofs.lemmas.Simd.{length-chunk}
use lib.Lanes.{chunk}
use Rattle.code_units.proofs.Lanes.{all_pass, byte_bits}
use Rattle.code_units.proofs.runs.is_ascii_block.Goals as goal

pub returns : goal.returns
returns c none = all_pass is_ascii c.args.bytes.now c.args.at c.requires (sym (byte_bits (chunk c.args.at 16 c.args.bytes.now) (length-chunk c.args.at 16 c.args.bytes.now c.requires)) ∙ eqb-true _ 0 none)
