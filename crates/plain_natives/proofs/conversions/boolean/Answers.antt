use Rattle.std.proofs.Common.{refl, sym, ap}
use Rattle.store_cells.specs.declared.value.Value.TheVariants as value
use Rattle.widget_meaning.specs.Values as meaning
use Rattle.widget_meaning.specs.Costs.{give}
use Rattle.widget_meaning.specs.GlobalNatives as globals
use Rattle.js_image.specs.Image.{image, seen}
use Rattle.js_values.specs.declared.outcome.NativeOut.TheVariants as native
use Rattle.native_common.proofs.Meeting.{ends_here}
use Rattle.plain_natives.proofs.Exits.{charged_as}
use Rattle.plain_natives.proofs.conversions.boolean.Goals as goal

pub returns : goal.returns
returns c =
    λ w s.
    let v = seen w s.cells c.args.v.now in
    charged_as w s (λ d t. globals.boolean_of v t) (λ d t. give (meaning.Truth (meaning.is_true v)) t) (globals.units_read v) c.units_read.result (native.Value (value.Bool c.is_true.result)) c.args.meter.now c.charged.new.meter c.charged.result
    (c.charged.ensures w s) (c.units_read.ensures w s.cells)
    (ends_here w s (λ d t. give (meaning.Truth (meaning.is_true v)) t) (native.Value (value.Bool c.is_true.result)) (λ fs r node d. ap (λ b. give (meaning.Truth b) (image fs r w s)) (sym (c.is_true.ensures w s.cells))) tt)
    (λ fs r d. refl)
