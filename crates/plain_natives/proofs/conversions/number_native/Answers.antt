use Rattle.std.proofs.Common.{List, ap}
use Rattle.store_cells.specs.declared.value.Value.{Value as StoreValue}
use Rattle.widget_meaning.specs.GlobalNatives as globals
use Rattle.widget_meaning.specs.Operators as operators
use Rattle.js_image.specs.Image.{all_seen, image, seen}
use Rattle.native_common.proofs.Meeting.{refines_same}
use Rattle.plain_natives.proofs.Exits.{first_some}
use Rattle.plain_natives.proofs.conversions.number_native.Goals as goal

pub returns-in-Some : goal.returns-in-Some
returns-in-Some c =
    λ w s.
    let v = c.in-Some.v.now in
    refines_same w s s (λ d t. globals.number_of (all_seen w s.cells c.args.args.now) t) (λ d t. globals.of_number (seen w s.cells v) (λ x. operators.as_number x (λ z. z)) t) c.number.result c.args.meter.now c.number.new.meter
    (λ fs r d. ap (λ (l : List StoreValue). globals.number_of (all_seen w s.cells l) (image fs r w s)) (first_some c.args.args.now v c.in-Some.ensures.value))
    (c.number.ensures w s)
