use Rattle.std.proofs.Common.{◌*◌, Some, length, sym}
use Rattle.std.proofs.lemmas.Result.{IfOk-weaker}
use Rattle.store_cells.specs.Cells.{own_count}
use Rattle.widget_meaning.specs.BunchReads.{query_steps, starts}
use Rattle.widget_meaning.specs.Costs.{give}
use Rattle.widget_meaning.specs.NativeForms.{make_bunch}
use Rattle.widget_meaning.specs.Plan.{charge}
use Rattle.widget_meaning.specs.Queries.{finds}
use Rattle.page_image.specs.Image.{own}
use Rattle.native_image.specs.Handed.{numbers, state}
use Rattle.native_image.proofs.Joint.{image_shows}
use Rattle.native_image.proofs.Reading.{reads_charged, reads_lacking, reads_memory}
use Rattle.bunch_read.proofs.Opened.{next_is, shown_by, times}
use Rattle.bunch_read.proofs.finding.find_bunch.Goals as goal

pub found-requires-clause-shown : goal.found-requires-clause-shown
found-requires-clause-shown c =
    let h = c.args.shared.now in
    let v = c.args.widget.now in
    shown_by v.id.index h.store h.page v.around c.requires.sound

pub give_bunch-requires-clause-sound : goal.give_bunch-requires-clause-sound
give_bunch-requires-clause-sound c = (c.args.widget.now.around, c.requires.sound)

pub give_bunch-requires-clause-own : goal.give_bunch-requires-clause-own
give_bunch-requires-clause-own c = c.in_ok-nodes-in-Ok.ensures.apart.own

pub give_bunch-requires-clause-apart : goal.give_bunch-requires-clause-apart
give_bunch-requires-clause-apart c = c.in_ok-nodes-in-Ok.ensures.apart.apart

pub returns-in_ok-nodes-in-Ok : goal.returns-in_ok-nodes-in-Ok
returns-in_ok-nodes-in-Ok c =
    let h = c.args.shared.now in
    let v = c.args.widget.now in
    let q = c.args.query.now in
    let ns = numbers h v c.args.list.now in
    let m = length q * length (own h.page v.id.index) in
    let found = numbers h v c.in_ok-nodes-in-Ok.nodes.items in
    let t = c.in-Ok.ensures.ok m (times c.steps_len.result c.made.result c.saturating_mul-extra.result (length q) (length (own h.page v.id.index)) c.steps_len.ensures c.made.ensures.exact c.saturating_mul-extra.ensures) in
    reads_charged h v c.give_bunch.new.store m (λ d s. query_steps (Some q) ns s) (λ d s. make_bunch found s give) c.args.meter.now c.take.new.meter t.0 t.1
    (λ fs x d.
    let s = state h v fs x in
    λ j. charge (length q * next_is v.id.index h.store h.page v.around v.bubbled fs x j) s (make_bunch (sym (c.in_ok-nodes-in-Ok.ensures.image (own_count v.id.index h.store.cells) s (image_shows v.id.index fs x h.store h.page v.around v.bubbled c.requires.sound.holds)) j) s give))
    c.give_bunch.result (c.give_bunch.ensures.sound v.around c.requires.sound) c.give_bunch.ensures.kept
    (IfOk-weaker c.give_bunch.result _ _ (λ o e. e v.around v.bubbled c.requires.sound) c.give_bunch.ensures.ends)

pub returns-in-Err : goal.returns-in-Err
returns-in-Err c =
    let h = c.args.shared.now in
    let v = c.args.widget.now in
    let q = c.args.query.now in
    let ns = numbers h v c.args.list.now in
    let m = length q * length (own h.page v.id.index) in
    reads_lacking h v c.requires.sound m (λ d s. query_steps (Some q) ns s) (λ d s. make_bunch (finds s (starts s q ns) q) s give) c.args.meter.now c.take.new.meter c.in-Err.ensures.same
    (c.in-Err.ensures.err m (times c.steps_len.result c.made.result c.saturating_mul-extra.result (length q) (length (own h.page v.id.index)) c.steps_len.ensures c.made.ensures.exact c.saturating_mul-extra.ensures))
    (λ fs x d. let s = state h v fs x in λ j. charge (length q * next_is v.id.index h.store h.page v.around v.bubbled fs x j) s (make_bunch (finds s (starts s q ns) q) s give))

pub returns-in_err-nodes-in-Ok : goal.returns-in_err-nodes-in-Ok
returns-in_err-nodes-in-Ok c = reads_memory c.args.shared.now c.args.widget.now c.requires.sound c.args.meter.now c.take.new.meter _ c.from_residual.result c.from_residual.ensures.0
