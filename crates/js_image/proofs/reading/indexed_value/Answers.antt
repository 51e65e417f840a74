use Rattle.std.proofs.Common.{ap, subst, sym, ◌∙◌}
use Rattle.std.proofs.lemmas.Result.{IfOk-weaker}
use Rattle.js_image.specs.Image.{seen}
use Rattle.js_image.specs.Held.{IsFine}
use Rattle.js_image.proofs.reading.indexed_value.Goals as goal

pub returns-clause-found : goal.returns-clause-found
returns-clause-found c = IfOk-weaker c.shared.result _ _ (λ v e. λ fs r w confined held. ap (seen w c.args.store.now.cells) e ∙ c.indexed_at.ensures.found fs r w confined held) c.shared.ensures

pub returns-clause-fine : goal.returns-clause-fine
returns-clause-fine c = IfOk-weaker c.shared.result _ _ (λ v e. λ fs w confined held. subst (IsFine w c.args.store.now.cells) (sym e) (c.indexed_at.ensures.fine fs w confined held)) c.shared.ensures
