use Rattle.std.proofs.Common.{◌∙◌}
use Rattle.js_image.proofs.Arrays.{has_is}
use Rattle.js_image.proofs.receivers.has_own.Goals as goal

pub returns : goal.returns
returns c = λ fs r w confined held. c.own_of.ensures ∙ has_is fs w c.args.store.now c.lawful.ensures confined r c.args.name.now c.args.base.now held
