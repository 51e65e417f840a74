use Rattle.std.proofs.Common.{◌+◌, List, sym, ap, ◌∙◌, map, drop}
use Rattle.store_cells.specs.declared.value.Value.{Value as StoreValue}
use Rattle.widget_meaning.specs.Values.{to_number}
use Rattle.widget_meaning.specs.GlobalNatives as globals
use Rattle.js_image.specs.Image.{all_seen}
use Rattle.native_common.proofs.Loops.{stepped}
use Rattle.std.specs.Prelude.{◌||◌}
use Rattle.std.specs.List.{list_any}
use Rattle.std.proofs.lemmas.List.{at_drop_all}
use Rattle.plain_natives.proofs.codes.any_left.Goals as goal

pub returns-then-has_left : goal.returns-then-has_left
returns-then-has_left c =
    λ w cells. sym (sym (c.loop-v.invariant w cells) ∙ stepped (λ (xs : List StoreValue). list_any globals.has_left (map to_number (all_seen w cells xs))) c.args.args.now c.loop-v.v-index c.v-item.result c.loop-v-test.true c.v-item.is
    ∙ ap (λ b. b || (λ (xs : List StoreValue). list_any globals.has_left (map to_number (all_seen w cells xs))) (drop (c.loop-v.v-index + 1) c.args.args.now)) (ap globals.has_left (sym (c.read_number.ensures w cells)) ∙ sym c.has_left.ensures ∙ c.if-has_left.true))

pub loop-v-preserved : goal.loop-v-preserved
loop-v-preserved c =
    λ w cells. sym (stepped (λ (xs : List StoreValue). list_any globals.has_left (map to_number (all_seen w cells xs))) c.args.args.now c.loop-v.v-index c.v-item.result c.loop-v-test.true c.v-item.is
    ∙ ap (λ b. b || (λ (xs : List StoreValue). list_any globals.has_left (map to_number (all_seen w cells xs))) (drop (c.loop-v.v-index + 1) c.args.args.now)) (ap globals.has_left (sym (c.read_number.ensures w cells)) ∙ sym c.has_left.ensures ∙ c.if-has_left.false)) ∙ c.loop-v.invariant w cells

pub returns : goal.returns
returns c =
    λ w cells. sym (at_drop_all (λ (xs : List StoreValue). list_any globals.has_left (map to_number (all_seen w cells xs))) c.args.args.now c.loop-v.v-index c.loop-v-test.false) ∙ c.loop-v.invariant w cells
