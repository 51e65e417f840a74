use Rattle.std.proofs.Common.{◌+◌, drop, sym, ap, ◌∙◌}
use Rattle.std.specs.Prelude.{◌||◌, nat_lt}
use Rattle.std.specs.List.{list_any}
use Rattle.std.proofs.lemmas.List.{at_drop_all}
use Rattle.widget_meaning.specs.Limits.{max_text}
use Rattle.widget_meaning.specs.NativeForms.{is_too_long}
use Rattle.native_common.proofs.Loops.{over_no, over_yes, stepped}
use Rattle.native_common.proofs.giving.any_long.Goals as goal

pub returns-then-text_len-gt-LONGEST : goal.returns-then-text_len-gt-LONGEST
returns-then-text_len-gt-LONGEST c =
    sym (sym c.loop-part.invariant
    ∙ stepped (list_any is_too_long) c.args.parts.now c.loop-part.part-index c.part-item.result c.loop-part-test.true c.part-item.is
    ∙ ap (λ b. b || list_any is_too_long (drop (c.loop-part.part-index + 1) c.args.parts.now)) (ap (λ n. nat_lt max_text n) (sym c.text_len.ensures.exact) ∙ over_yes max_text c.text_len.result c.if-text_len-gt-LONGEST.true))

pub loop-part-preserved : goal.loop-part-preserved
loop-part-preserved c =
    sym (stepped (list_any is_too_long) c.args.parts.now c.loop-part.part-index c.part-item.result c.loop-part-test.true c.part-item.is
    ∙ ap (λ b. b || list_any is_too_long (drop (c.loop-part.part-index + 1) c.args.parts.now)) (ap (λ n. nat_lt max_text n) (sym c.text_len.ensures.exact) ∙ over_no max_text c.text_len.result c.if-text_len-gt-LONGEST.false))
    ∙ c.loop-part.invariant

pub returns : goal.returns
returns c = sym (at_drop_all (list_any is_too_long) c.args.parts.now c.loop-part.part-index c.loop-part-test.false) ∙ c.loop-part.invariant
