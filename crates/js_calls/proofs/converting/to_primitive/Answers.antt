use Rattle.std.proofs.Common.{◌≡◌, true, sym, ap, ◌∙◌}
use Rattle.std.proofs.lemmas.Result.{IfOk-weaker}
use Rattle.widget_meaning.specs.Values.{is_object}
use Rattle.widget_meaning.specs.Plan.{Do}
use Rattle.widget_meaning.specs.Properties.{get}
use Rattle.widget_meaning.specs.Calls.{primitive_result}
use Rattle.js_image.specs.Image.{image, seen}
use Rattle.js_names.specs.Code.{trees_of}
use Rattle.js_calls.proofs.Converted.{no_string, stays_primitive, string_called, string_job}
use Rattle.js_calls.proofs.Invoked.{fine_within}
use Rattle.js_calls.proofs.converting.to_primitive.Goals as goal

pub get-requires : goal.get-requires
get-requires c = fine_within c.args.w c.args.store.now.cells c.args.value c.requires.held

pub is_called-requires : goal.is_called-requires
is_called-requires c = fine_within c.args.w c.args.store.now.cells c.in_ok-func.func (c.in_ok-func.ensures.fine (trees_of c.args.codes.now.items) c.args.w c.requires.confined c.requires.held)

pub returns-then-not-is_object-clause-plan : goal.returns-then-not-is_object-clause-plan
returns-then-not-is_object-clause-plan c =
    let fs = trees_of c.args.codes.now.items in
    let s = c.args.store.now in
    rw c.give.ensures (λ r. stays_primitive (seen c.args.w s.cells c.args.value) c.args.depth (image fs r c.args.w s) (sym (c.is_object.ensures c.args.w s.cells) ∙ c.if-not-is_object.true))

pub returns-then-not-is_called-clause-plan : goal.returns-then-not-is_called-clause-plan
returns-then-not-is_called-clause-plan c =
    let fs = trees_of c.args.codes.now.items in
    let w = c.args.w in
    let s = c.args.store.now in
    let v = seen w s.cells c.args.value in
    let f = seen w s.cells c.in_ok-func.func in
    let fine = c.in_ok-func.ensures.fine fs w c.requires.confined c.requires.held in
    let object : is_object v ≡ true = sym (c.is_object.ensures w s.cells) ∙ c.if-not-is_object.false in
    IfOk-weaker c.throw.result _ _
    (λ n h r. h r ∙ no_string v c.args.depth (image fs r w s) f object
    (c.in_ok-func.ensures.found fs r w c.requires.confined c.requires.held ∙ ap (get (image fs r w s) v) c.in_ok-name.ensures)
    (sym (c.is_called.ensures fs r w fine) ∙ c.if-not-is_called.true))
    c.throw.ensures.plan

pub returns-clause-plan : goal.returns-clause-plan
returns-clause-plan c =
    let fs = trees_of c.args.codes.now.items in
    let w = c.args.w in
    let s = c.args.store.now in
    let v = seen w s.cells c.args.value in
    let f = seen w s.cells c.in_ok-func.func in
    let fine = c.in_ok-func.ensures.fine fs w c.requires.confined c.requires.held in
    let object : is_object v ≡ true = sym (c.is_object.ensures w s.cells) ∙ c.if-not-is_object.false in
    let ok = c.in_ok-new.ensures.ok in
    IfOk-weaker c.push.result _ _
    (λ k q. rw q (λ r. ap (λ j. Do j (image fs r w s) primitive_result)
    (string_job w s.cells c.in_ok-new.field-0.value c.in_ok-func.func c.args.value c.args.depth (ap (λ q. q.func) ok) (ap (λ q. q.this) ok) (ap (λ q. q.args.items) ok ∙ c.new.ensures.items) (ap (λ q. q.depth) ok))
    ∙ string_called v c.args.depth (image fs r w s) f object
    (c.in_ok-func.ensures.found fs r w c.requires.confined c.requires.held ∙ ap (get (image fs r w s) v) c.in_ok-name.ensures)
    (sym (c.is_called.ensures fs r w fine) ∙ c.if-not-is_called.false)))
    c.push.ensures
