use Rattle.std.proofs.Common.{Some, refl, sym, ap, ◌∙◌, false}
use Rattle.std.specs.Prelude.{◌||◌, not}
use Rattle.widget_meaning.specs.BunchReads.{query, query_steps}
use Rattle.widget_meaning.specs.Costs.{want}
use Rattle.widget_meaning.specs.Queries.{read_query}
use Rattle.widget_meaning.specs.Values.{E4, to_text}
use Rattle.native_image.specs.Handed.{numbers, sees, state}
use Rattle.native_image.proofs.Reading.{reads_free, reads_memory, reads_same}
use Rattle.bunch_read.proofs.Opened.{bad_query, read_is, read_none}
use Rattle.bunch_read.proofs.finding.query.Goals as goal

pub returns-then-is_object : goal.returns-then-is_object
returns-then-is_object c =
    let h = c.args.shared.now in
    let v = c.args.widget.now in
    let ns = numbers h v c.args.list.now in
    let u = sees h v c.args.text.now in
    reads_free h v c.requires.sound c.args.meter.now (λ d s. query ns u s) _ tt (λ w k. tt)
    (λ fs x d. let s = state h v fs x in ap (λ t. want E4 (not (t || false)) s (query_steps (read_query (to_text u)) ns s)) (sym (c.is_object.ensures.object v.id.index h.store.cells) ∙ c.if-is_object.true))

pub returns-in-Ok : goal.returns-in-Ok
returns-in-Ok c =
    let h = c.args.shared.now in
    let v = c.args.widget.now in
    let ns = numbers h v c.args.list.now in
    let u = sees h v c.args.text.now in
    reads_same h v c.find_bunch.new.shared c.args.meter.now c.find_bunch.new.meter (λ d s. query ns u s) (λ d s. query_steps (Some c.in-Ok.query) ns s) c.find_bunch.result
    (λ fs x d.
    let s = state h v fs x in
    ap (λ t. want E4 (not (t || false)) s (query_steps (read_query (to_text u)) ns s)) (sym (c.is_object.ensures.object v.id.index h.store.cells) ∙ c.if-is_object.false)
    ∙ ap (λ t. query_steps (read_query t) ns s) (sym (c.in_ok-text.ensures v.id.index h.store.cells))
    ∙ ap (λ q. query_steps q ns s) (read_is c.in_ok-text.text c.in-Ok.query c.in-Ok.ensures.query))
    c.find_bunch.ensures

pub returns-in-Err-BadQuery : goal.returns-in-Err-BadQuery
returns-in-Err-BadQuery c =
    let h = c.args.shared.now in
    let v = c.args.widget.now in
    let ns = numbers h v c.args.list.now in
    let u = sees h v c.args.text.now in
    reads_free h v c.requires.sound c.args.meter.now (λ d s. query ns u s) _ tt (λ w k. tt)
    (λ fs x d.
    let s = state h v fs x in
    ap (λ t. want E4 (not (t || false)) s (query_steps (read_query (to_text u)) ns s)) (sym (c.is_object.ensures.object v.id.index h.store.cells) ∙ c.if-is_object.false)
    ∙ ap (λ t. query_steps (read_query t) ns s) (sym (c.in_ok-text.ensures v.id.index h.store.cells))
    ∙ ap (λ q. query_steps q ns s) (read_none c.in_ok-text.text (λ steps e. bad_query c.in-Err-BadQuery.field-0 c.in-Err-BadQuery.field-0-0 c.in-Err-BadQuery.field-0-is (c.in-Err-BadQuery.ensures.only steps e))))

pub returns-in_err-text : goal.returns-in_err-text
returns-in_err-text c = reads_memory c.args.shared.now c.args.widget.now c.requires.sound c.args.meter.now c.args.meter.now _ c.from_residual.result c.from_residual.ensures.0
