use Rattle.std.proofs.Common.{ap, sym, ◌∙◌, ℕ, Option}
use Rattle.js_image.specs.Elements.{array_plan, own_place}
use Rattle.js_image.specs.Image.{image}
use Rattle.js_image.proofs.Arrays.{length_is, receiver_is}
use Rattle.js_image.proofs.receivers.array_length.Goals as goal

pub returns-clause-length : goal.returns-clause-length
returns-clause-length c = λ fs r w held. c.length_of.ensures ∙ length_is fs r w c.args.store.now c.lawful.ensures c.args.base.now held

pub returns-clause-receiver : goal.returns-clause-receiver
returns-clause-receiver c = λ fs r w k held.
    receiver_is fs r w c.args.store.now c.lawful.ensures k c.args.base.now held
    ∙ ap (λ (o : Option ℕ). array_plan (own_place w c.args.store.now.cells c.args.base.now) o k (image fs r w c.args.store.now)) (sym c.length_of.ensures)
