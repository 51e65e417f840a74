use Rattle.std.proofs.Common.{◌+◌, drop, sym, ap, ◌∙◌}
use Rattle.std.specs.Prelude.{◌||◌}
use Rattle.std.specs.List.{list_any}
use Rattle.std.proofs.lemmas.List.{at_drop_all}
use Rattle.native_common.proofs.Loops.{stepped}
use Rattle.bunch_read.specs.Values.{is_long}
use Rattle.bunch_read.proofs.texts.any_long.Goals as goal

pub returns-then-is_long : goal.returns-then-is_long
returns-then-is_long c =
    sym (sym c.loop-v.invariant
    ∙ stepped (list_any is_long) c.args.values.now c.loop-v.v-index c.v-item.result c.loop-v-test.true c.v-item.is
    ∙ ap (λ b. b || list_any is_long (drop (c.loop-v.v-index + 1) c.args.values.now)) (sym c.is_long.ensures ∙ c.if-is_long.true))

pub loop-v-preserved : goal.loop-v-preserved
loop-v-preserved c =
    sym (stepped (list_any is_long) c.args.values.now c.loop-v.v-index c.v-item.result c.loop-v-test.true c.v-item.is
    ∙ ap (λ b. b || list_any is_long (drop (c.loop-v.v-index + 1) c.args.values.now)) (sym c.is_long.ensures ∙ c.if-is_long.false))
    ∙ c.loop-v.invariant

pub returns : goal.returns
returns c = sym (at_drop_all (list_any is_long) c.args.values.now c.loop-v.v-index c.loop-v-test.false) ∙ c.loop-v.invariant
