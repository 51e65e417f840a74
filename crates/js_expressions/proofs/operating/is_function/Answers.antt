use Rattle.std.proofs.Common.{sym, subst}
use Rattle.std.specs.Option.{option_map}
use Rattle.object_store.specs.Owned.{scope_number}
use Rattle.js_image.specs.declared.outcome.Callee.{Callee}
use Rattle.js_image.specs.Image.{function_in, image, seen}
use Rattle.js_image.specs.Callees.{IsCallee}
use Rattle.js_expressions.proofs.Values.{callable, native_callable}
use Rattle.js_expressions.proofs.operating.is_function.Goals as goal

pub returns-in-Function : goal.returns-in-Function
returns-in-Function c = λ fs r w h.
    let s = c.args.store.now in
    let p = c.in-Function.field-0 in
    let v = seen w s.cells c.args.value.now in
    sym (callable (image fs r w s) v (function_in fs p.code p.fun p.declared) (option_map (scope_number w s.cells) p.scope)
    (subst (λ (q : Callee). IsCallee fs w s.cells q (image fs r w s) v) c.in-Function.is (c.callee.ensures.called fs r w h)))

pub returns-in-Native : goal.returns-in-Native
returns-in-Native c = λ fs r w h.
    let s = c.args.store.now in
    let v = seen w s.cells c.args.value.now in
    sym (native_callable (image fs r w s) v c.in-Native.field-0
    (subst (λ (q : Callee). IsCallee fs w s.cells q (image fs r w s) v) c.in-Native.is (c.callee.ensures.called fs r w h)))
