use Rattle.std.proofs.Common.{◌∙◌}
use Rattle.js_image.proofs.Found.{some_found}
use Rattle.js_image.proofs.reading.is_found.Goals as goal

pub returns : goal.returns
returns c = λ fs r w confined held. c.found_of.ensures.found ∙ some_found fs w c.args.store.now confined c.lawful.ensures c.args.name.now c.args.base.now held c.found_of.ensures.few r
