use Rattle.std.proofs.Common.{refl}
use Rattle.std.specs.Option.{option_map}
use Rattle.js_image.specs.Image.{all_seen, seen}
use Rattle.native_common.specs.Receivers.{receiver}
use Rattle.natives.proofs.Whole.{as_called}
use Rattle.natives.proofs.calling.call.Goals as goal

pub returns : goal.returns
returns c =
    let h = c.args.shared.now in
    let v = c.args.widget.now in
    let w = v.id.index in
    let vs = all_seen w h.store.cells c.args.native.now.args.items in
    let n = c.call_on.new in
    as_called h v c.args.meter.now n.meter n.shared n.widget c.args.native.now.which (receiver w h.store.cells c.receiver_of-this.result.now) (option_map (seen w h.store.cells) c.args.native.now.this) vs vs c.call_on.result c.receiver_of-this.ensures.same refl c.call_on.ensures
