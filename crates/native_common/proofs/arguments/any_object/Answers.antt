use Rattle.std.proofs.Common.{◌+◌, drop, sym, ap, ◌∙◌}
use Rattle.std.specs.Prelude.{◌||◌}
use Rattle.std.specs.List.{list_any}
use Rattle.std.proofs.lemmas.List.{at_drop_all}
use Rattle.widget_meaning.specs.Values.{is_object}
use Rattle.js_image.specs.Image.{all_seen}
use Rattle.native_common.proofs.Loops.{stepped}
use Rattle.native_common.proofs.arguments.any_object.Goals as goal

pub returns-then-is_object : goal.returns-then-is_object
returns-then-is_object c = λ w cells.
    sym (sym (c.loop-v.invariant w cells)
    ∙ stepped (λ xs. list_any is_object (all_seen w cells xs)) c.args.vs.now c.loop-v.v-index c.v-item.result c.loop-v-test.true c.v-item.is
    ∙ ap (λ b. b || list_any is_object (all_seen w cells (drop (c.loop-v.v-index + 1) c.args.vs.now))) (sym (c.is_object.ensures.object w cells) ∙ c.if-is_object.true))

pub loop-v-preserved : goal.loop-v-preserved
loop-v-preserved c = λ w cells.
    sym (stepped (λ xs. list_any is_object (all_seen w cells xs)) c.args.vs.now c.loop-v.v-index c.v-item.result c.loop-v-test.true c.v-item.is
    ∙ ap (λ b. b || list_any is_object (all_seen w cells (drop (c.loop-v.v-index + 1) c.args.vs.now))) (sym (c.is_object.ensures.object w cells) ∙ c.if-is_object.false))
    ∙ c.loop-v.invariant w cells

pub returns : goal.returns
returns c = λ w cells.
    sym (at_drop_all (λ xs. list_any is_object (all_seen w cells xs)) c.args.vs.now c.loop-v.v-index c.loop-v-test.false) ∙ c.loop-v.invariant w cells
