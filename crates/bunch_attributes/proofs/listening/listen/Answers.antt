use Rattle.std.proofs.Common.{[], length, map, ap, sym, subst, refl, ◌∙◌}
use Rattle.std.specs.Prelude.{is_some}
use Rattle.std.specs.List.{fold}
use Rattle.plain_tree.specs.Words.{is_event_type}
use Rattle.store_cells.specs.Cells.{own_count}
use Rattle.store_cells.specs.declared.value.Value.TheVariants as value
use Rattle.widget_meaning.specs.BunchWrites.{change_kept, with_handler}
use Rattle.widget_meaning.specs.Costs.{give, pay, slots_cost}
use Rattle.widget_meaning.specs.Plan.{charge}
use Rattle.widget_meaning.specs.Properties.{is_own_function as is_own}
use Rattle.js_image.specs.declared.outcome.Fault.TheVariants as fault
use Rattle.js_image.specs.Held.{IsFine}
use Rattle.js_image.specs.Image.{no_rest, seen}
use Rattle.js_image.specs.Image as joint
use Rattle.js_image.proofs.Makes.{within_of}
use Rattle.page_image.specs.Image.{number}
use Rattle.native_image.specs.Charges.{OfSlots}
use Rattle.native_image.specs.Image.{image}
use Rattle.native_image.proofs.Joint.{rest}
use Rattle.bunch_attributes.specs.declared.keeping.Change.TheVariants as change
use Rattle.bunch_attributes.specs.Kept.{keep_plan, meant}
use Rattle.bunch_attributes.proofs.Callees.{function_own, function_seen}
use Rattle.bunch_attributes.proofs.Heard.{on_bad, on_function, on_object, on_other, on_plan, slots_are}
use Rattle.native_image.specs.Handed.{parts}
use Rattle.native_image.proofs.Reading.{writes_memory, writes_same, writes_thrown}
use Rattle.bunch_attributes.proofs.listening.listen.Goals as goal

pub function_of-requires : goal.function_of-requires
function_of-requires c = within_of c.args.widget.now.id.index c.args.shared.now.store.cells c.args.func.now c.requires.func

pub returns-then-is_object : goal.returns-then-is_object
returns-then-is_object c =
    let w = c.args.widget.now.id.index in
    let s = c.args.shared.now.store in
    let ns = map (number c.args.shared.now.page w) c.args.bunch.now.nodes.now in
    let v = seen w s.cells (value.Ref c.args.bunch.now.cell) in
    let t = seen w s.cells c.args.kind.now in
    let f = seen w s.cells c.args.func.now in
    writes_thrown c.args.shared.now c.args.widget.now c.requires.sound (λ d u. on_plan ns v t f d u) fault.E4 c.args.meter.now
    (λ fs x d. on_object ns v t f d (image fs x w (parts c.args.shared.now c.args.widget.now)) (sym (c.is_object.ensures.object w s.cells) ∙ c.if-is_object.true))

pub returns-then-not-is_event_type : goal.returns-then-not-is_event_type
returns-then-not-is_event_type c =
    let w = c.args.widget.now.id.index in
    let s = c.args.shared.now.store in
    let ns = map (number c.args.shared.now.page w) c.args.bunch.now.nodes.now in
    let v = seen w s.cells (value.Ref c.args.bunch.now.cell) in
    let t = seen w s.cells c.args.kind.now in
    let f = seen w s.cells c.args.func.now in
    writes_thrown c.args.shared.now c.args.widget.now c.requires.sound (λ d u. on_plan ns v t f d u) fault.E4 c.args.meter.now
    (λ fs x d.
    on_bad ns v t f d (image fs x w (parts c.args.shared.now c.args.widget.now)) (sym (c.is_object.ensures.object w s.cells) ∙ c.if-is_object.false)
    (ap is_event_type (sym (c.in_ok-kind.ensures w s.cells)) ∙ sym c.is_event_type.ensures ∙ c.if-not-is_event_type.true))

pub returns-in_err-kind : goal.returns-in_err-kind
returns-in_err-kind c = writes_memory c.args.shared.now c.args.widget.now c.requires.sound c.args.meter.now c.args.meter.now _ c.from_residual.result c.from_residual.ensures.0

pub returns-in-None : goal.returns-in-None
returns-in-None c =
    let w = c.args.widget.now.id.index in
    let s = c.args.shared.now.store in
    let h = parts c.args.shared.now c.args.widget.now in
    let ns = map (number c.args.shared.now.page w) c.args.bunch.now.nodes.now in
    let v = seen w s.cells (value.Ref c.args.bunch.now.cell) in
    let t = seen w s.cells c.args.kind.now in
    let f = seen w s.cells c.args.func.now in
    writes_thrown c.args.shared.now c.args.widget.now c.requires.sound (λ d u. on_plan ns v t f d u) fault.E4 c.args.meter.now
    (λ fs x d.
    on_other ns v t f d (image fs x w h) (sym (c.is_object.ensures.object w s.cells) ∙ c.if-is_object.false)
    (ap is_event_type (sym (c.in_ok-kind.ensures w s.cells)) ∙ sym c.is_event_type.ensures ∙ c.if-not-is_event_type.false)
    (c.function_of.ensures.own fs (rest w c.args.widget.now.id.small x h) w c.requires.func ∙ ap is_some c.in-None.is))

pub keep-requires-clause-change : goal.keep-requires-clause-change
keep-requires-clause-change c =
    let w = c.args.widget.now.id.index in
    let s = c.args.shared.now.store in
    let is = c.in-Some.ensures.cell in
    function_own w s.cells (joint.image [] no_rest w s) c.in-Some.func (subst (IsFine w s.cells) is c.requires.func)
    (ap (λ u. is_own (joint.image [] no_rest w s) (seen w s.cells u)) (sym is) ∙ c.function_of.ensures.own [] no_rest w c.requires.func ∙ ap is_some c.in-Some.is)

pub returns-in-Some : goal.returns-in-Some
returns-in-Some c =
    let w = c.args.widget.now.id.index in
    let p = c.args.shared.now.page in
    let s = c.args.shared.now.store in
    let l = c.args.widget.now.around in
    let h = parts c.args.shared.now c.args.widget.now in
    let ns = map (number p w) c.args.bunch.now.nodes.now in
    let v = seen w s.cells (value.Ref c.args.bunch.now.cell) in
    let t = seen w s.cells c.args.kind.now in
    let f = seen w s.cells c.args.func.now in
    let is = c.in-Some.ensures.cell in
    writes_same c.args.shared.now c.keep.new.shared c.args.widget.now c.keep.new.widget c.args.meter.now c.keep.new.meter (λ d u. on_plan ns v t f d u) (λ d u. keep_plan (meant (own_count w s.cells) (change.Listen c.in_ok-kind.kind c.in-Some.func)) (OfSlots (length ns)) ns v u) c.keep.result
    (λ fs x d.
    let u = image fs x w h in
    let good = c.function_of.ensures.own fs (rest w c.args.widget.now.id.small x h) w c.requires.func ∙ ap is_some c.in-Some.is in
    let cell = ap (seen w s.cells) is ∙ function_seen w s.cells u c.in-Some.func (ap (λ y. is_own u (seen w s.cells y)) (sym is) ∙ good) in
    on_function ns v t f d u (sym (c.is_object.ensures.object w s.cells) ∙ c.if-is_object.false)
    (ap is_event_type (sym (c.in_ok-kind.ensures w s.cells)) ∙ sym c.is_event_type.ensures ∙ c.if-not-is_event_type.false)
    good
    ∙ (λ j. charge (length ns) u (pay (slots_cost (length ns)) u (λ y. give v (fold (change_kept (with_handler (sym (c.in_ok-kind.ensures w s.cells) j) (cell j))) y ns)))))
    (c.keep.ensures (OfSlots (length ns)) (slots_are (number p w) c.args.bunch.now.nodes.now c.requires.bunch.nodes.few (length c.args.bunch.now.nodes.now) refl))
