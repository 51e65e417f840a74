use Rattle.std.proofs.Common.{◌∙◌, ap, sym}
use Rattle.store_cells.specs.Numbered.{live}
use Rattle.store_cells.proofs.Live.{live_live}
use Rattle.store_cells.proofs.pairs.fill.Goals as goal

pub returns-then-holes-len-clause-full : goal.returns-then-holes-len-clause-full
returns-then-holes-len-clause-full c = λ none. ap live c.retain_below.ensures ∙ live_live c.args.table.now.entries ∙ sym c.retain_below.ensures

pub returns-then-holes-len-clause-same : goal.returns-then-holes-len-clause-same
returns-then-holes-len-clause-same c = ap live c.retain_below.ensures ∙ live_live c.args.table.now.entries
