use Rattle.std.proofs.Common.{ap, length, subst, sym, ◌∙◌}
use Rattle.store_cells.specs.Shape.{IsRefWithin}
use Rattle.object_store.specs.Elements as stored
use Rattle.store_cells.specs.declared.value.Value.{Value}
use Rattle.js_image.specs.Elements.{stored_own}
use Rattle.js_image.proofs.Arrays.{at_test}
use Rattle.js_image.proofs.receivers.own_of.Goals as goal

pub returns-in-Ref : goal.returns-in-Ref
returns-in-Ref c = at_test (stored.shows_own c.args.name.now) c.has_own.result c.args.store.now.cells c.in-Ref.cell (subst (IsRefWithin (length c.args.store.now.cells)) c.in-Ref.is c.requires) c.has_own.ensures ∙ sym (ap (λ (v : Value). stored_own c.args.store.now.cells v c.args.name.now) c.in-Ref.is)
