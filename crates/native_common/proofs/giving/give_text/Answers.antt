use Rattle.std.proofs.Common.{◌≡◌, ◌+◌, length, ap, arith}
use Rattle.widget_meaning.specs.Values.{Text}
use Rattle.widget_meaning.specs.Costs.{give, make_text}
use Rattle.native_common.specs.Numbers.{counted}
use Rattle.native_common.proofs.Meeting.{refines_charged}
use Rattle.native_common.proofs.giving.give_text.Goals as goal

pub returns-in-Ok : goal.returns-in-Ok
returns-in-Ok c = λ n e.
    let same : length c.units.result.now ≡ length c.args.text = ap length c.units.ensures in
    let asked : c.saturating_add.result ≡ counted (n + length c.args.text) = omega arith in
    let t = c.in-Ok.ensures.ok (n + length c.args.text) asked in
    refines_charged c.args.w.index c.args.store.now c.make_text.new.store (n + length c.args.text) (λ d s. make_text c.args.text s (give (Text c.args.text))) c.make_text.result c.args.meter.now c.take.new.meter t.0 t.1 c.make_text.ensures
