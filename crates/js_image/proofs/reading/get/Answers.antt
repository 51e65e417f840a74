use Rattle.std.proofs.lemmas.Result.{IfOk-weaker}
use Rattle.js_image.proofs.Found.{read_found}
use Rattle.js_image.proofs.reading.get.Goals as goal

pub returns-clause-found : goal.returns-clause-found
returns-clause-found c = IfOk-weaker c.read_of.result _ _ (λ v e. λ fs r w confined held. (read_found fs w c.args.store.now confined c.lawful.ensures c.args.name.now c.args.base.now held c.read_of.ensures.few v e).0 r) c.read_of.ensures.value

pub returns-clause-fine : goal.returns-clause-fine
returns-clause-fine c = IfOk-weaker c.read_of.result _ _ (λ v e. λ fs w confined held. (read_found fs w c.args.store.now confined c.lawful.ensures c.args.name.now c.args.base.now held c.read_of.ensures.few v e).1) c.read_of.ensures.value
