use Rattle.std.proofs.Common.{sym, ap}
use Rattle.widget_meaning.specs.Properties.{is_function}
use Rattle.js_image.specs.Image.{image, seen}
use Rattle.js_calls.proofs.Invoked.{callable}
use Rattle.js_calls.proofs.converting.is_called.Goals as goal

pub returns-in-Function : goal.returns-in-Function
returns-in-Function c = λ fs r w h. let s = c.args.store.now in sym (callable (image fs r w s) (seen w s.cells c.args.v.now) _ _ (c.in-Function.ensures.called fs r w h))

pub returns-in-Native : goal.returns-in-Native
returns-in-Native c = λ fs r w h. sym (ap (is_function (image fs r w c.args.store.now)) (c.in-Native.ensures.called fs r w h))
