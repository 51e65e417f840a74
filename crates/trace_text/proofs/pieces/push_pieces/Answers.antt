use Rattle.trace_text.specs.Pieces.{piece_text}
use Rattle.trace_text.proofs.Parts.{part_item, more_item, all_so_far, whole_part}
use Rattle.trace_text.proofs.pieces.push_pieces.Goals as goal

pub returns-in_err-push_piece-clause-part : goal.returns-in_err-push_piece-clause-part
returns-in_err-push_piece-clause-part c =
    part_item piece_text c.args.pieces.now c.pieces.piece-index c.piece-item.result c.args.out.now.items c.pieces.out.items c.push_piece.new.out.items c.pieces-test.true c.piece-item.is c.pieces.invariant c.push_piece.ensures.part

pub pieces-preserved : goal.pieces-preserved
pieces-preserved c =
    more_item piece_text c.args.pieces.now c.pieces.piece-index c.piece-item.result c.args.out.now.items c.pieces.out.items c.push_piece.new.out.items c.pieces-test.true c.piece-item.is c.pieces.invariant c.in_ok-push_piece.ensures.ok

pub returns-clause-ok : goal.returns-clause-ok
returns-clause-ok c = all_so_far piece_text c.args.pieces.now c.pieces.piece-index c.args.out.now.items c.pieces.out.items c.pieces-test.false c.pieces.invariant

pub returns-clause-part : goal.returns-clause-part
returns-clause-part c = whole_part _ _ _ (all_so_far piece_text c.args.pieces.now c.pieces.piece-index c.args.out.now.items c.pieces.out.items c.pieces-test.false c.pieces.invariant)
