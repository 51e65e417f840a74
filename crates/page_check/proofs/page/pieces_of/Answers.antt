use Rattle.page_check.proofs.Paged.{pieces_more, slots_more}
use Rattle.page_check.proofs.page.pieces_of.Goals as goal

pub entries-preserved : goal.entries-preserved
entries-preserved c = record {
  pieces = pieces_more c.entries.yielded c.in-Some.entry c.entries.all.items c.push.new.self.items c.in_ok-next_piece.field-0 c.entries.slots c.entries.invariant.slots c.entries.invariant.pieces c.in_ok-push.ensures.items c.in_ok-next_piece.ensures.piece;
  slots = slots_more c.entries.yielded c.in-Some.entry c.entries.slots c.next_piece.new.slots c.entries.invariant.slots c.in_ok-next_piece.ensures.slots;
}
