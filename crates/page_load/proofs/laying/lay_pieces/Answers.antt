use Rattle.page_load.proofs.Lots.{pieces_all, pieces_more}
use Rattle.page_load.proofs.laying.lay_pieces.Goals as goal

pub pieces-init : goal.pieces-init
pieces-init c = record { laid = c.in_ok-base.ensures.laid; lays = c.in_ok-base.ensures.lays }

pub pieces-preserved : goal.pieces-preserved
pieces-preserved c = record {
  laid = c.in_ok-lay_piece.ensures.laid;
  lays = pieces_more c.args.pieces.now c.lay_piece.new.base.page c.lay_piece.new.base.roots.items c.pieces.piece-index c.piece-item.result c.pieces-test.true c.piece-item.is (c.in_ok-lay_piece.ensures.lays _ c.pieces.invariant.lays);
}

pub returns-clause-lays : goal.returns-clause-lays
returns-clause-lays c = pieces_all c.args.pieces.now c.pieces.base.page c.pieces.base.roots.items c.pieces.piece-index c.pieces-test.false c.pieces.invariant.lays
