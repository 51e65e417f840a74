use Rattle.std.proofs.Common.{◌≡◌, false, sym, subst, ◌∙◌, arith, add-one}
use Rattle.markup_rules.specs.Words.{begins_with}
use Rattle.markup_rules.proofs.Wording.{has_word_later, range_rest}
use Rattle.markup_rules.proofs.words.has_word_in.Goals as goal

pub places-preserved : goal.places-preserved
places-preserved c =
    let none = subst (λ l. begins_with c.args.word.now l ≡ false) (range_rest c.args.units.now c.places.at) (sym c.if-begins_with.ensures) in
    rw add-one (c.places.invariant ∙ has_word_later c.args.word.now c.args.units.now c.places.at (omega arith) none)
