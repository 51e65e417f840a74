use Rattle.std.proofs.Common.{◌≡◌, ◌∷◌, [], length, ap, sym, subst, refl, ◌∙◌, true, ℕ}
use Rattle.plain_tree.specs.Words.{is_event_type}
use Rattle.query_grammar.specs.Finds.{has_number}
use Rattle.store_cells.specs.declared.value.Value.TheVariants as value
use Rattle.widget_meaning.specs.BunchWrites.{fire, fired, write_method}
use Rattle.permitted_table.specs.declared.native.WriteNative.TheVariants.{Fire}
use Rattle.widget_meaning.specs.Plan.{charge}
use Rattle.widget_meaning.specs.Values.{E4, to_text}
use Rattle.page_image.specs.Image.{number, owns}
use Rattle.native_image.specs.Handed.{numbers, sees, state}
use Rattle.native_image.proofs.Nodes.{same_kept}
use Rattle.native_image.proofs.Reading.{reads_charged, reads_free, reads_lacking, reads_memory}
use Rattle.native_image.proofs.Wants.{object_of, primitive_of, unwanted, wanted}
use Rattle.native_image.proofs.Working.{few_counted}
use Rattle.bunch_attributes.proofs.firing.fire.Goals as goal

pub returns-then-is_object : goal.returns-then-is_object
returns-then-is_object c =
    let h = c.args.shared.now in
    let v = c.args.widget.now in
    let ns = numbers h v c.args.bunch.now.nodes.now in
    let this = sees h v (value.Ref c.args.bunch.now.cell) in
    let t = sees h v c.args.kind.now in
    reads_free h v c.requires.sound c.args.meter.now (λ d u. write_method Fire ns this (t ∷ []) d u) _ tt (λ w k. tt)
    (λ fs x d. let u = state h v fs x in object_of t u (fire ns (to_text t) this d u) (sym (c.is_object.ensures.object v.id.index h.store.cells) ∙ c.if-is_object.true))

pub returns-in_err-kind : goal.returns-in_err-kind
returns-in_err-kind c = reads_memory c.args.shared.now c.args.widget.now c.requires.sound c.args.meter.now c.args.meter.now _ c.from_residual.result c.from_residual.ensures.0

pub returns-then-not-is_event_type : goal.returns-then-not-is_event_type
returns-then-not-is_event_type c =
    let h = c.args.shared.now in
    let v = c.args.widget.now in
    let w = v.id.index in
    let ns = numbers h v c.args.bunch.now.nodes.now in
    let this = sees h v (value.Ref c.args.bunch.now.cell) in
    let t = sees h v c.args.kind.now in
    reads_free h v c.requires.sound c.args.meter.now (λ d u. write_method Fire ns this (t ∷ []) d u) _ tt (λ w k. tt)
    (λ fs x d.
    let u = state h v fs x in
    primitive_of t u (fire ns (to_text t) this d u) (sym (c.is_object.ensures.object w h.store.cells) ∙ c.if-is_object.false)
    ∙ unwanted E4 (is_event_type (to_text t)) u (charge (length ns) u (fired (to_text t) ns this d u))
    (ap is_event_type (sym (c.in_ok-kind.ensures w h.store.cells)) ∙ sym c.is_event_type.ensures ∙ c.if-not-is_event_type.true))

pub returns-in_err-nodes : goal.returns-in_err-nodes
returns-in_err-nodes c = reads_memory c.args.shared.now c.args.widget.now c.requires.sound c.args.meter.now c.args.meter.now _ c.from_residual-in_err-nodes.result c.from_residual-in_err-nodes.ensures.0

pub returns-in-Ok : goal.returns-in-Ok
returns-in-Ok c =
    let h = c.args.shared.now in
    let v = c.args.widget.now in
    let w = v.id.index in
    let ns = numbers h v c.args.bunch.now.nodes.now in
    let this = sees h v (value.Ref c.args.bunch.now.cell) in
    let t = sees h v c.args.kind.now in
    let taken = c.in-Ok.ensures.ok (length ns) (few_counted (number h.page w) c.args.bunch.now.nodes.now c.requires.bunch.nodes.few) in
    reads_charged h v h.store (length ns) (λ d u. write_method Fire ns this (t ∷ []) d u) (λ d u. fired c.in_ok-kind.kind (numbers h v c.in_ok-nodes.nodes.items) this d u) c.args.meter.now c.take.new.meter taken.0 taken.1
    (λ fs x d.
    let u = state h v fs x in
    primitive_of t u (fire ns (to_text t) this d u) (sym (c.is_object.ensures.object w h.store.cells) ∙ c.if-is_object.false)
    ∙ wanted E4 (is_event_type (to_text t)) u (charge (length ns) u (fired (to_text t) ns this d u))
    (ap is_event_type (sym (c.in_ok-kind.ensures w h.store.cells)) ∙ sym c.is_event_type.ensures ∙ c.if-not-is_event_type.false)
    ∙ (λ j. charge (length ns) u (fired (sym (c.in_ok-kind.ensures w h.store.cells) j) (numbers h v (sym c.in_ok-nodes.ensures.items j)) this d u)))
    _ c.requires.sound (same_kept w h.store h.store refl)
    (record {
      leaves = λ fs x d. refl;
      fine = c.requires.bunch.held;
      fires = subst (λ ms. (n : ℕ) → has_number ms n ≡ true → owns h.page w n ≡ true) (sym c.in_ok-nodes.ensures.items) c.requires.bunch.nodes.own;
      sound = c.requires.sound;
    })

pub returns-in-Err : goal.returns-in-Err
returns-in-Err c =
    let h = c.args.shared.now in
    let v = c.args.widget.now in
    let w = v.id.index in
    let ns = numbers h v c.args.bunch.now.nodes.now in
    let this = sees h v (value.Ref c.args.bunch.now.cell) in
    let t = sees h v c.args.kind.now in
    reads_lacking h v c.requires.sound (length ns) (λ d u. write_method Fire ns this (t ∷ []) d u) (λ d u. fired (to_text t) ns this d u) c.args.meter.now c.take.new.meter c.in-Err.ensures.same
    (c.in-Err.ensures.err (length ns) (few_counted (number h.page w) c.args.bunch.now.nodes.now c.requires.bunch.nodes.few))
    (λ fs x d.
    let u = state h v fs x in
    primitive_of t u (fire ns (to_text t) this d u) (sym (c.is_object.ensures.object w h.store.cells) ∙ c.if-is_object.false)
    ∙ wanted E4 (is_event_type (to_text t)) u (charge (length ns) u (fired (to_text t) ns this d u))
    (ap is_event_type (sym (c.in_ok-kind.ensures w h.store.cells)) ∙ sym c.is_event_type.ensures ∙ c.if-not-is_event_type.false))
