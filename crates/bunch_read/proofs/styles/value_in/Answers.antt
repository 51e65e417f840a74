use Rattle.std.proofs.Common.{◌+◌, drop, sym, ap, ◌∙◌, if◌then◌else◌}
use Rattle.std.proofs.lemmas.Result.{IfOk-weaker}
use Rattle.widget_meaning.specs.Styles.{style_value}
use Rattle.native_common.proofs.Loops.{stepped}
use Rattle.bunch_read.proofs.styles.value_in.Goals as goal

pub each-preserved : goal.each-preserved
each-preserved c =
    let more = style_value (drop (c.each.pair-index + 1) c.args.pairs.now) c.args.name.now in
    c.each.invariant
    ∙ stepped (λ ps. style_value ps c.args.name.now) c.args.pairs.now c.each.pair-index c.pair-item.result c.each-test.true c.pair-item.is
    ∙ ap (λ b. if b then c.pair-item.result.1 else more) (sym c.eq.ensures ∙ c.if-eq.false)

pub returns-then-eq : goal.returns-then-eq
returns-then-eq c =
    let more = style_value (drop (c.each.pair-index + 1) c.args.pairs.now) c.args.name.now in
    IfOk-weaker c.share.result _ _
    (λ t e. e
    ∙ sym (
    c.each.invariant
    ∙ stepped (λ ps. style_value ps c.args.name.now) c.args.pairs.now c.each.pair-index c.pair-item.result c.each-test.true c.pair-item.is
    ∙ ap (λ b. if b then c.pair-item.result.1 else more) (sym c.eq.ensures ∙ c.if-eq.true)
    ))
    c.share.ensures
