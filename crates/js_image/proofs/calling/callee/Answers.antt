use Rattle.std.proofs.Common.{subst, sym}
use Rattle.js_image.specs.Callees.{IsCallee, IsFineCallee}
use Rattle.js_image.specs.Image.{image, seen}
use Rattle.js_image.proofs.Called.{value_called, value_fine}
use Rattle.js_image.proofs.calling.callee.Goals as goal

pub returns-clause-called : goal.returns-clause-called
returns-clause-called c = λ fs r w held. subst (λ q. IsCallee fs w c.args.store.now.cells q (image fs r w c.args.store.now) (seen w c.args.store.now.cells c.args.value.now)) (sym c.callee_of.ensures) (value_called fs w c.args.store.now c.lawful.ensures r c.args.value.now held)

pub returns-clause-fine : goal.returns-clause-fine
returns-clause-fine c = λ fs w confined held. subst (IsFineCallee fs w c.args.store.now.cells) (sym c.callee_of.ensures) (value_fine fs w c.args.store.now c.lawful.ensures confined c.args.value.now held)
