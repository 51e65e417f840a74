use Rattle.std.proofs.Common.{ap, length, subst, sym, ◌∙◌}
use Rattle.store_cells.specs.Shape.{IsRefWithin}
use Rattle.object_store.specs.Elements as stored
use Rattle.js_image.specs.Elements.{stored_length}
use Rattle.js_image.proofs.Arrays.{at_option}
use Rattle.js_image.proofs.receivers.length_of.Goals as goal

pub returns-in-Ref : goal.returns-in-Ref
returns-in-Ref c = at_option stored.array_length c.array_length.result c.args.store.now.cells c.in-Ref.cell (subst (IsRefWithin (length c.args.store.now.cells)) c.in-Ref.is c.requires) c.array_length.ensures ∙ sym (ap (stored_length c.args.store.now.cells) c.in-Ref.is)
