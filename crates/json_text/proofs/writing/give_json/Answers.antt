use Rattle.std.proofs.Common.{length}
use Rattle.widget_meaning.specs.Values.{Text}
use Rattle.widget_meaning.specs.Costs.{give, make_text}
use Rattle.native_common.proofs.Meeting.{refines_charged}
use Rattle.json_text.proofs.writing.give_json.Goals as goal

pub returns-in-Ok : goal.returns-in-Ok
returns-in-Ok c =
    let t = c.in-Ok.ensures.ok (length c.args.text) c.text_len.ensures.counted in
    refines_charged c.args.w.index c.args.store.now c.make_text.new.store (length c.args.text) (λ d s. make_text c.args.text s (give (Text c.args.text))) c.make_text.result c.args.meter.now c.take.new.meter t.0 t.1 c.make_text.ensures
