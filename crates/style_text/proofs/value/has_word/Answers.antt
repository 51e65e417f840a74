use Rattle.std.proofs.Common.{◌≡◌, false, sym, subst, ◌∙◌, arith, add-one}
use Rattle.style_text.specs.Styles.{begins_in_any_case}
use Rattle.style_text.proofs.Words.{has_word_later}
use Rattle.style_text.proofs.Cuts.{range_rest}
use Rattle.style_text.proofs.value.has_word.Goals as goal

pub loop-at-preserved : goal.loop-at-preserved
loop-at-preserved c =
    let none = subst (λ l. begins_in_any_case c.args.word.now l ≡ false) (range_rest c.args.units.now c.loop-at.at) (sym c.if-begins_in_any_case.ensures) in
    rw add-one (c.loop-at.invariant ∙ has_word_later c.args.word.now c.args.units.now c.loop-at.at (omega arith) none)
