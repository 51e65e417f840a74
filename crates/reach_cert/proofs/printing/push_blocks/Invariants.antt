use Rattle.std.proofs.Common.{◌≡◌, ◌++◌, take}
use Rattle.std.specs.List.{flat_map}
use Rattle.reach_cert.proofs.CellLines.{block_text}
use Rattle.reach_cert.proofs.printing.push_blocks.Given as goal

abbrev pub invariant-each : goal.invariant-each
invariant-each l = l.out.items ≡ l.fn.out.items ++ flat_map block_text (take l.block-index l.blocks)
