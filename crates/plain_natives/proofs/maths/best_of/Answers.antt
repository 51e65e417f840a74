use Rattle.std.proofs.Common.{◌+◌, List, sym, ap, ◌∙◌, map, drop}
use Rattle.store_cells.specs.declared.value.Value.{Value as StoreValue}
use Rattle.widget_meaning.specs.Values.{to_number}
use Rattle.widget_meaning.specs.Operators as operators
use Rattle.js_image.specs.Image.{all_seen}
use Rattle.native_common.proofs.Loops.{stepped}
use Rattle.plain_natives.specs.Choices as choices
use Rattle.std.specs.List.{fold}
use Rattle.code_units.specs.declared.whole.WholeRead.TheVariants as read
use Rattle.std.proofs.lemmas.List.{at_drop_all}
use Rattle.plain_natives.proofs.maths.best_of.Goals as goal

pub loop-v-preserved : goal.loop-v-preserved
loop-v-preserved c =
    λ w cells.
    ap (λ a. fold (operators.of_numbers read.Left read.NotNumber (λ x y. read.Whole (choices.better c.args.max x y))) a (map to_number (all_seen w cells (drop (c.loop-v.v-index + 1) c.args.rest.now)))) (c.better_of-found.ensures ∙ ap (operators.of_numbers read.Left read.NotNumber (λ x y. read.Whole (choices.better c.args.max x y)) c.loop-v.found) (c.read_number.ensures w cells))
    ∙ sym (stepped (λ (xs : List StoreValue). fold (operators.of_numbers read.Left read.NotNumber (λ x y. read.Whole (choices.better c.args.max x y))) c.loop-v.found (map to_number (all_seen w cells xs))) c.args.rest.now c.loop-v.v-index c.v-item.result c.loop-v-test.true c.v-item.is)
    ∙ c.loop-v.invariant w cells

pub returns : goal.returns
returns c =
    λ w cells. sym (at_drop_all (λ (xs : List StoreValue). fold (operators.of_numbers read.Left read.NotNumber (λ x y. read.Whole (choices.better c.args.max x y))) c.loop-v.found (map to_number (all_seen w cells xs))) c.args.rest.now c.loop-v.v-index c.loop-v-test.false) ∙ c.loop-v.invariant w cells
