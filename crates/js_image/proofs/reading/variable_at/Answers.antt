use Rattle.js_image.proofs.Found.{value_found}
use Rattle.js_image.proofs.reading.variable_at.Goals as goal

pub returns-clause-found : goal.returns-clause-found
returns-clause-found c = λ fs r w d confined own. (value_found fs w c.args.store.now confined c.lawful.ensures c.args.name.now c.args.scope own _ c.value_at.ensures).0 r d

pub returns-clause-fine : goal.returns-clause-fine
returns-clause-fine c = λ fs w confined own. (value_found fs w c.args.store.now confined c.lawful.ensures c.args.name.now c.args.scope own _ c.value_at.ensures).1
