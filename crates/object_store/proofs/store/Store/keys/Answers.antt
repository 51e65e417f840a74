use Rattle.std.proofs.Common.{ap, sym, Option, []}
use Rattle.std.specs.Option.{option_map_or}
use Rattle.store_cells.specs.Cells.{PlainCell}
use Rattle.store_cells.specs.Arrays.{keys_of}
use Rattle.store_cells.proofs.Look.{known_cells, known_at}
use Rattle.object_store.proofs.Puts.{seen}
use Rattle.store_cells.proofs.Listing.{keys_seen}
use Rattle.object_store.proofs.store.Store.keys.Goals as goal

pub keys-requires : goal.keys-requires
keys-requires c =
    let s = c.self in
    known_at _ s.inside.cells.items c.args.cell c.cell.result.now (known_cells s.inside.names _ s.inside.cells.items s.invariant.base.fine) c.cell.ensures

pub returns : goal.returns
returns c =
    let s = c.self in
    keys_seen c.keys.result _ (sym (ap (λ (o : Option PlainCell). option_map_or keys_of o []) (seen c.args.self.now s.inside.names s.inside.cells.items s.inside.kept.items s.view_is s.invariant c.args.cell c.cell.result.now c.cell.ensures))) c.keys.ensures
