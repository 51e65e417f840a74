use Rattle.std.proofs.Common.{◌+◌, drop, sym, ap, ◌∙◌}
use Rattle.std.specs.Prelude.{◌||◌, nat_lt}
use Rattle.std.specs.List.{list_any}
use Rattle.std.proofs.lemmas.List.{at_drop_all}
use Rattle.widget_meaning.specs.Limits.{max_text}
use Rattle.widget_meaning.specs.NativeForms.{is_too_long}
use Rattle.native_common.proofs.Loops.{over_no, over_yes, stepped}
use Rattle.adsafe_object.proofs.texts.any_long.Goals as goal

pub returns-then-text_len-gt-LONGEST : goal.returns-then-text_len-gt-LONGEST
returns-then-text_len-gt-LONGEST c =
    sym (sym c.loop-text.invariant
    ∙ stepped (list_any is_too_long) c.args.texts.now c.loop-text.text-index c.text-item.result c.loop-text-test.true c.text-item.is
    ∙ ap (λ b. b || list_any is_too_long (drop (c.loop-text.text-index + 1) c.args.texts.now)) (ap (λ n. nat_lt max_text n) (sym c.text_len.ensures.exact) ∙ over_yes max_text c.text_len.result c.if-text_len-gt-LONGEST.true))

pub loop-text-preserved : goal.loop-text-preserved
loop-text-preserved c =
    sym (stepped (list_any is_too_long) c.args.texts.now c.loop-text.text-index c.text-item.result c.loop-text-test.true c.text-item.is
    ∙ ap (λ b. b || list_any is_too_long (drop (c.loop-text.text-index + 1) c.args.texts.now)) (ap (λ n. nat_lt max_text n) (sym c.text_len.ensures.exact) ∙ over_no max_text c.text_len.result c.if-text_len-gt-LONGEST.false))
    ∙ c.loop-text.invariant

pub returns : goal.returns
returns c = sym (at_drop_all (list_any is_too_long) c.args.texts.now c.loop-text.text-index c.loop-text-test.false) ∙ c.loop-text.invariant
