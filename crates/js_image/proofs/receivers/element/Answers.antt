use Rattle.std.proofs.Common.{ap, arith, ◌<◌, ◌^◌, ◌∙◌, subst, sym}
use Rattle.std.proofs.lemmas.Result.{IfOk-weaker}
use Rattle.js_image.specs.Image.{seen}
use Rattle.js_image.specs.Held.{IsFine}
use Rattle.js_image.proofs.Arrays.{element_fine, element_is}
use Rattle.js_image.proofs.receivers.element.Goals as goal

pub returns-clause-found : goal.returns-clause-found
returns-clause-found c =
    let lt : c.args.at < 2 ^ 64 = omega (arith, c.requires.index) in
    IfOk-weaker c.element_of.result _ _ (λ v e. λ fs r w len held is. ap (seen w c.args.store.now.cells) e ∙ element_is fs r w c.args.store.now c.lawful.ensures c.args.at len lt c.args.base.now held is) c.element_of.ensures

pub returns-clause-fine : goal.returns-clause-fine
returns-clause-fine c = IfOk-weaker c.element_of.result _ _ (λ v e. λ fs w confined held. subst (IsFine w c.args.store.now.cells) (sym e) (element_fine fs w c.args.store.now c.lawful.ensures confined c.args.at c.args.base.now held)) c.element_of.ensures
