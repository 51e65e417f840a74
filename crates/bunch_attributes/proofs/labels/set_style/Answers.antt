use Rattle.std.proofs.Common.{◌*◌, ◌∷◌, [], length, map, ap, sym, ◌∙◌}
use Rattle.std.specs.Prelude.{◌&&◌, ◌||◌, nat_eq}
use Rattle.std.specs.List.{fold}
use Rattle.std.proofs.lemmas.List.{length-map}
use Rattle.store_cells.specs.declared.value.Value.TheVariants as value
use Rattle.style_text.specs.Styles.{is_listed, is_value}
use Rattle.widget_meaning.specs.BunchWrites as means
use Rattle.widget_meaning.specs.BunchWrites.{relabel, write_method}
use Rattle.widget_meaning.specs.Costs.{give}
use Rattle.permitted_table.specs.declared.native.WriteNative.TheVariants.{SetStyle}
use Rattle.widget_meaning.specs.PageForms.{want_all}
use Rattle.widget_meaning.specs.Plan.{charge}
use Rattle.widget_meaning.specs.Values.{E4, to_text}
use Rattle.js_image.specs.declared.outcome.Fault.TheVariants as fault
use Rattle.js_image.specs.Image.{seen}
use Rattle.native_common.specs.Numbers.{counted}
use Rattle.page_image.specs.Image.{number}
use Rattle.native_image.specs.Charges.{OfUnits, pay_for}
use Rattle.native_image.specs.Image.{image}
use Rattle.native_image.proofs.Wants.{objects_of, primitives_of, unwanted, wanted}
use Rattle.bunch_attributes.specs.Labels.{relabel_plan}
use Rattle.bunch_attributes.specs.Tests.{passes}
use Rattle.bunch_attributes.specs.declared.judging.Test.TheVariants as test
use Rattle.bunch_attributes.specs.declared.relabelling.Label.TheVariants as label
use Rattle.native_image.specs.Handed.{parts}
use Rattle.native_image.proofs.Reading.{writes_memory, writes_same, writes_thrown}
use Rattle.bunch_attributes.proofs.labels.set_style.Goals as goal

pub returns-then-either_object : goal.returns-then-either_object
returns-then-either_object c =
    let w = c.args.widget.now.id.index in
    let p = c.args.shared.now.page in
    let s = c.args.shared.now.store in
    let h = parts c.args.shared.now c.args.widget.now in
    let ns = map (number p w) c.args.bunch.now.nodes.now in
    let v = seen w s.cells (value.Ref c.args.bunch.now.cell) in
    let a = seen w s.cells c.args.property.now in
    let t = seen w s.cells c.args.value.now in
    writes_thrown c.args.shared.now c.args.widget.now c.requires.sound (λ d u. write_method SetStyle ns v (a ∷ t ∷ []) d u) fault.E4 c.args.meter.now
    (λ fs x d. let u = image fs x w h in objects_of a t u (means.set_style ns (to_text a) (to_text t) v u) (sym (c.either_object.ensures w s.cells) ∙ c.if-either_object.true))

pub returns-in_err-property : goal.returns-in_err-property
returns-in_err-property c = writes_memory c.args.shared.now c.args.widget.now c.requires.sound c.args.meter.now c.args.meter.now _ c.from_residual.result c.from_residual.ensures.0

pub returns-in_err-value : goal.returns-in_err-value
returns-in_err-value c = writes_memory c.args.shared.now c.args.widget.now c.requires.sound c.args.meter.now c.args.meter.now _ c.from_residual-in_err-value.result c.from_residual-in_err-value.ensures.0

pub returns-in_err-restyling : goal.returns-in_err-restyling
returns-in_err-restyling c = writes_memory c.args.shared.now c.args.widget.now c.requires.sound c.args.meter.now c.args.meter.now _ c.from_residual-in_err-restyling.result c.from_residual-in_err-restyling.ensures.0

pub returns-then-not-may_style : goal.returns-then-not-may_style
returns-then-not-may_style c =
    let w = c.args.widget.now.id.index in
    let p = c.args.shared.now.page in
    let s = c.args.shared.now.store in
    let h = parts c.args.shared.now c.args.widget.now in
    let ns = map (number p w) c.args.bunch.now.nodes.now in
    let v = seen w s.cells (value.Ref c.args.bunch.now.cell) in
    let a = seen w s.cells c.args.property.now in
    let t = seen w s.cells c.args.value.now in
    writes_thrown c.args.shared.now c.args.widget.now c.requires.sound (λ d u. write_method SetStyle ns v (a ∷ t ∷ []) d u) fault.E4 c.args.meter.now
    (λ fs x d. let u = image fs x w h in primitives_of a t u (means.set_style ns (to_text a) (to_text t) v u) (sym (c.either_object.ensures w s.cells) ∙ c.if-either_object.false) ∙ unwanted E4 (is_listed (to_text a) && (nat_eq (length (to_text t)) 0 || is_value (to_text t))) u (want_all (passes test.Element u) ns u (charge (length ns) u (pay_for (OfUnits (length ns * length (to_text t))) u (λ y. give v (fold (relabel (means.styled (to_text a) (to_text t))) y ns))))) ((λ j. is_listed (sym (c.in_ok-property.ensures w s.cells) j) && (nat_eq (length (sym (c.in_ok-value.ensures w s.cells) j)) 0 || is_value (sym (c.in_ok-value.ensures w s.cells) j))) ∙ sym c.may_style.ensures ∙ c.if-not-may_style.true))

pub returns : goal.returns
returns c =
    let w = c.args.widget.now.id.index in
    let p = c.args.shared.now.page in
    let s = c.args.shared.now.store in
    let h = parts c.args.shared.now c.args.widget.now in
    let ns = map (number p w) c.args.bunch.now.nodes.now in
    let v = seen w s.cells (value.Ref c.args.bunch.now.cell) in
    let a = seen w s.cells c.args.property.now in
    let t = seen w s.cells c.args.value.now in
    let how = c.in_ok-restyling.restyling in
    let named = sym (c.in_ok-property.ensures w s.cells) ∙ sym c.in_ok-restyling.ensures.property in
    let valued = sym (c.in_ok-value.ensures w s.cells) ∙ sym c.in_ok-restyling.ensures.value in
    writes_same c.args.shared.now c.relabel.new.shared c.args.widget.now c.args.widget.now c.args.meter.now c.relabel.new.meter (λ d u. write_method SetStyle ns v (a ∷ t ∷ []) d u) (λ d u. relabel_plan test.Element (label.Style how) (OfUnits (length ns * length c.in_ok-value.value)) ns v u) c.relabel.result
    (λ fs x d. let u = image fs x w h in primitives_of a t u (means.set_style ns (to_text a) (to_text t) v u) (sym (c.either_object.ensures w s.cells) ∙ c.if-either_object.false) ∙ wanted E4 (is_listed (to_text a) && (nat_eq (length (to_text t)) 0 || is_value (to_text t))) u (want_all (passes test.Element u) ns u (charge (length ns) u (pay_for (OfUnits (length ns * length (to_text t))) u (λ y. give v (fold (relabel (means.styled (to_text a) (to_text t))) y ns))))) ((λ j. is_listed (sym (c.in_ok-property.ensures w s.cells) j) && (nat_eq (length (sym (c.in_ok-value.ensures w s.cells) j)) 0 || is_value (sym (c.in_ok-value.ensures w s.cells) j))) ∙ sym c.may_style.ensures ∙ c.if-not-may_style.false) ∙ (λ j. want_all (passes test.Element u) ns u (charge (length ns) u (pay_for (OfUnits (length ns * length (sym (c.in_ok-value.ensures w s.cells) j))) u (λ y. give v (fold (relabel (means.styled (named j) (valued j))) y ns))))))
    (c.relabel.ensures (OfUnits (length ns * length c.in_ok-value.value)) (c.units_for.ensures ∙ ap (λ k. counted (k * length c.in_ok-value.value)) (sym (length-map c.args.bunch.now.nodes.now (number p w)))))
