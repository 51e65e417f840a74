use Rattle.std.proofs.Common.{◌+◌, ◌||◌, drop, sym, ap, ◌∙◌}
use Rattle.std.specs.List.{list_any}
use Rattle.std.specs.Str.{bytes_eq}
use Rattle.std.proofs.lemmas.List.{at_drop_all}
use Rattle.native_common.proofs.Loops.{stepped}
use Rattle.style_text.specs.Styles.{Pair, is_used}
use Rattle.bunch_attributes.proofs.styles.is_used.Goals as goal

pub returns-then-eq : goal.returns-then-eq
unfolding is_used
returns-then-eq c = sym (
    c.each.invariant
    ∙ stepped (list_any (λ (q : Pair). bytes_eq q.0 c.args.name.now)) c.args.pairs.now c.each.pair-index c.pair-item.result c.each-test.true c.pair-item.is
    ∙ ap (λ b. b || list_any (λ (q : Pair). bytes_eq q.0 c.args.name.now) (drop (c.each.pair-index + 1) c.args.pairs.now)) (sym c.eq.ensures ∙ c.if-eq.true))

pub returns : goal.returns
unfolding is_used
returns c = sym (c.each.invariant ∙ at_drop_all (list_any (λ (q : Pair). bytes_eq q.0 c.args.name.now)) c.args.pairs.now c.each.pair-index c.each-test.false)
