use Rattle.std.specs.List.{list_any}
use Rattle.std.specs.Prelude.{◌&&◌}
use Rattle.store_cells.specs.Arrays.{is_index_below, is_reference}
use Rattle.store_cells.specs.Cells.{PlainCell}
use Rattle.js_image.proofs.Arrays.{at_test}
use Rattle.js_image.proofs.receivers.references_in.Goals as goal

pub returns-clause-found : goal.returns-clause-found
returns-clause-found c = at_test (λ (d : PlainCell). list_any (λ p. is_index_below c.args.len p.0 && is_reference p.1) d.pairs) c.has_reference.result c.args.store.now.cells c.args.cell c.requires c.has_reference.ensures
