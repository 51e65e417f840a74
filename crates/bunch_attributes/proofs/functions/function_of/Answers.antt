use Rattle.std.proofs.Common.{sym, ◌∙◌}
use Rattle.js_image.specs.Image.{image, seen}
use Rattle.bunch_attributes.proofs.Callees.{callee_seen}
use Rattle.bunch_attributes.proofs.functions.function_of.Goals as goal

pub returns-in-Ref-clause-own : goal.returns-in-Ref-clause-own
returns-in-Ref-clause-own c = λ fs r w fine.
    callee_seen fs w c.args.store.now.cells c.callee.result (image fs r w c.args.store.now) (seen w c.args.store.now.cells c.args.v.now) (c.callee.ensures.called fs r w fine)
    ∙ sym c.is_function.ensures ∙ c.if-not-is_function.false
