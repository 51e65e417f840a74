use Rattle.std.proofs.Common.{Option, sym, subst, ap, ◌∙◌, List, ℕ}
use Rattle.std.specs.Prelude.{option_to_list}
use Rattle.object_store.specs.Owned.{scope_number}
use Rattle.widget_meaning.specs.Calls.{with_variable}
use Rattle.js_image.specs.Image.{image, seen}
use Rattle.js_calls.specs.Called.{AreNamed}
use Rattle.js_calls.proofs.Named.{written}
use Rattle.js_calls.proofs.declaring.set_name.Goals as goal

pub returns-in-Some-clause-plan : goal.returns-in-Some-clause-plan
returns-in-Some-clause-plan c = λ fs r confined.
    let w = c.args.w in
    let s = c.args.store.now in
    let i = scope_number w s.cells c.args.scope in
    let named = (subst (λ (o : Option (List ℕ)). AreNamed w s c.args.scope (option_to_list o)) c.in-Some.is c.requires.named).0 in
    c.assign.ensures.plan fs r 0 confined
    ∙ written (image fs r w s) i 0 c.in-Some.x (seen w s.cells c.args.value) named
    ∙ ap (λ (o : Option (List ℕ)). with_variable (image fs r w s) i (option_to_list o) (seen w s.cells c.args.value)) (sym c.in-Some.is)
