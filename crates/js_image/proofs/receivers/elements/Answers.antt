use Rattle.std.proofs.Common.{ap, arith, ◌+◌, ◌≤◌, ◌∙◌, subst, sym}
use Rattle.std.proofs.lemmas.Result.{IfOk-weaker}
use Rattle.js_image.specs.Image.{all_seen}
use Rattle.js_image.specs.Held.{AreFine}
use Rattle.js_image.proofs.Arrays.{elements_are, elements_fine}
use Rattle.js_image.proofs.receivers.elements.Goals as goal

pub returns-clause-found : goal.returns-clause-found
returns-clause-found c =
    let le : 0 + c.args.len ≤ 4294967295 = omega (arith, c.ranges.len) in
    IfOk-weaker c.elements_of.result _ _ (λ vs e. λ fs r w m held is. ap (all_seen w c.args.store.now.cells) e ∙ elements_are fs r w c.args.store.now c.lawful.ensures 0 c.args.len m le c.args.base.now held is) c.elements_of.ensures

pub returns-clause-fine : goal.returns-clause-fine
returns-clause-fine c = IfOk-weaker c.elements_of.result _ _ (λ vs e. λ fs w confined held. subst (AreFine w c.args.store.now.cells) (sym e) (elements_fine fs w c.args.store.now c.lawful.ensures confined 0 c.args.len c.args.base.now held)) c.elements_of.ensures
