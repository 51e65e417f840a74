use Rattle.std.proofs.Common.{◌∙◌, sym}
use Rattle.std.proofs.lemmas.Option.{IfSome_then}
use Rattle.store_cells.proofs.Live.{live_lookup, name_is}
use Rattle.store_cells.proofs.pairs.few_value.Goals as goal

pub returns-then-n-lt-FIRST_HOLE : goal.returns-then-n-lt-FIRST_HOLE
returns-then-n-lt-FIRST_HOLE c = IfSome_then c.get_few.result c.get_few.ensures (λ v e. sym (live_lookup c.args.n c.args.table.now.entries (name_is c.args.n c.if-n-lt-FIRST_HOLE.true)) ∙ e)
