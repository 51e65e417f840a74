use Rattle.std.proofs.Common.{[], length, refl, sym, ap, ◌∙◌}
use Rattle.std.specs.List.{filter_map}
use Rattle.std.proofs.lemmas.List.{length-map}
use Rattle.std.proofs.lemmas.Result.{IfOk-weaker}
use Rattle.store_cells.specs.Cells.{own_count}
use Rattle.widget_meaning.specs.BunchReads.{get_parent}
use Rattle.widget_meaning.specs.Costs.{give, want}
use Rattle.widget_meaning.specs.NativeForms.{make_bunch}
use Rattle.widget_meaning.specs.PageForms.{once}
use Rattle.widget_meaning.specs.Plan.{charge}
use Rattle.widget_meaning.specs.Trees.{parent}
use Rattle.widget_meaning.specs.Values.{E10}
use Rattle.page_image.specs.Image.{number}
use Rattle.native_image.specs.Handed.{numbers, state}
use Rattle.native_image.proofs.Joint.{image_shows}
use Rattle.native_image.proofs.Reading.{reads_charged, reads_free, reads_lacking, reads_memory}
use Rattle.bunch_read.proofs.Reading.{small}
use Rattle.bunch_read.proofs.finding.get_parent.Goals as goal

pub all_open-requires : goal.all_open-requires
all_open-requires c = c.requires.nodes.own

pub returns-then-not-all_open : goal.returns-then-not-all_open
returns-then-not-all_open c =
    let h = c.args.shared.now in
    let v = c.args.widget.now in
    let w = v.id.index in
    let ns = numbers h v c.args.list.now in
    reads_free h v c.requires.sound c.args.meter.now (λ d s. get_parent ns s) _ tt (λ w k. tt)
    (λ fs x d.
    let s = state h v fs x in
    ap (λ t. want E10 t s (charge (length ns) s (make_bunch (once [] (filter_map (λ n. parent n s.own.forest) ns)) s give)))
    (sym (c.all_open.ensures (own_count w h.store.cells) s (image_shows w fs x h.store h.page v.around v.bubbled c.requires.sound.holds)) ∙ c.if-not-all_open.true))

pub parents-requires : goal.parents-requires
parents-requires c = c.requires.nodes.own

pub give_bunch-requires-clause-sound : goal.give_bunch-requires-clause-sound
give_bunch-requires-clause-sound c = (c.args.widget.now.around, c.requires.sound)

pub give_bunch-requires-clause-own : goal.give_bunch-requires-clause-own
give_bunch-requires-clause-own c = c.in_ok-nodes-in-Ok.ensures.apart.own

pub give_bunch-requires-clause-apart : goal.give_bunch-requires-clause-apart
give_bunch-requires-clause-apart c = c.in_ok-nodes-in-Ok.ensures.apart.apart

pub returns-in_ok-nodes-in-Ok : goal.returns-in_ok-nodes-in-Ok
returns-in_ok-nodes-in-Ok c =
    let h = c.args.shared.now in
    let v = c.args.widget.now in
    let w = v.id.index in
    let ns = numbers h v c.args.list.now in
    let found = numbers h v c.in_ok-nodes-in-Ok.nodes.items in
    let t = c.in-Ok.ensures.ok (length c.args.list.now) (small (length c.args.list.now) (length c.args.list.now) refl c.requires.nodes.few) in
    reads_charged h v c.give_bunch.new.store (length c.args.list.now) (λ d s. get_parent ns s) (λ d s. make_bunch found s give) c.args.meter.now c.take.new.meter t.0 t.1
    (λ fs x d.
    let s = state h v fs x in
    ap (λ t. want E10 t s (charge (length ns) s (make_bunch (once [] (filter_map (λ n. parent n s.own.forest) ns)) s give)))
    (sym (c.all_open.ensures (own_count w h.store.cells) s (image_shows w fs x h.store h.page v.around v.bubbled c.requires.sound.holds)) ∙ c.if-not-all_open.false)
    ∙ (λ j. charge (length-map c.args.list.now (number h.page w) j) s (make_bunch (sym (c.in_ok-nodes-in-Ok.ensures.image s refl) j) s give)))
    c.give_bunch.result (c.give_bunch.ensures.sound v.around c.requires.sound) c.give_bunch.ensures.kept
    (IfOk-weaker c.give_bunch.result _ _ (λ o e. e v.around v.bubbled c.requires.sound) c.give_bunch.ensures.ends)

pub returns-in-Err : goal.returns-in-Err
returns-in-Err c =
    let h = c.args.shared.now in
    let v = c.args.widget.now in
    let w = v.id.index in
    let ns = numbers h v c.args.list.now in
    reads_lacking h v c.requires.sound (length c.args.list.now) (λ d s. get_parent ns s) (λ d s. make_bunch (once [] (filter_map (λ n. parent n s.own.forest) ns)) s give) c.args.meter.now c.take.new.meter c.in-Err.ensures.same
    (c.in-Err.ensures.err (length c.args.list.now) (small (length c.args.list.now) (length c.args.list.now) refl c.requires.nodes.few))
    (λ fs x d.
    let s = state h v fs x in
    ap (λ t. want E10 t s (charge (length ns) s (make_bunch (once [] (filter_map (λ n. parent n s.own.forest) ns)) s give)))
    (sym (c.all_open.ensures (own_count w h.store.cells) s (image_shows w fs x h.store h.page v.around v.bubbled c.requires.sound.holds)) ∙ c.if-not-all_open.false)
    ∙ (λ j. charge (length-map c.args.list.now (number h.page w) j) s (make_bunch (once [] (filter_map (λ n. parent n s.own.forest) ns)) s give)))

pub returns-in_err-nodes-in-Ok : goal.returns-in_err-nodes-in-Ok
returns-in_err-nodes-in-Ok c = reads_memory c.args.shared.now c.args.widget.now c.requires.sound c.args.meter.now c.take.new.meter _ c.from_residual.result c.from_residual.ensures.0
