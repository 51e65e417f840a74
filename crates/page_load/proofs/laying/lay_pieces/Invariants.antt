use Rattle.std.proofs.Common.{map, take}
use Rattle.page_plan.specs.Pages.{piece_of}
use Rattle.page_load.specs.Laying.{AreLaid, LaysOut}
use Rattle.page_load.proofs.laying.lay_pieces.Given as goal

abbrev pub invariant-pieces : goal.invariant-pieces
invariant-pieces l = record {
  laid : AreLaid l.slots l.base.roots.items l.base.store l.base.page;
  lays : LaysOut l.base.page l.base.roots.items (map piece_of (take l.piece-index l.pieces));
}
