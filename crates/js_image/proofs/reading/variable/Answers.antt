use Rattle.std.proofs.Common.{ap, subst, sym, ◌∙◌}
use Rattle.std.proofs.lemmas.Result.{IfOk-weaker}
use Rattle.js_image.specs.Image.{seen}
use Rattle.js_image.specs.Held.{IsFine}
use Rattle.js_image.proofs.reading.variable.Goals as goal

pub returns-clause-found : goal.returns-clause-found
returns-clause-found c = IfOk-weaker c.shared.result _ _ (λ v e. λ fs r w d confined own. ap (seen w c.args.store.now.cells) e ∙ c.variable_at.ensures.found fs r w d confined own) c.shared.ensures

pub returns-clause-fine : goal.returns-clause-fine
returns-clause-fine c = IfOk-weaker c.shared.result _ _ (λ v e. λ fs w confined own. subst (IsFine w c.args.store.now.cells) (sym e) (c.variable_at.ensures.fine fs w confined own)) c.shared.ensures
