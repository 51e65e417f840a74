use Rattle.std.proofs.Common.{◌∙◌, sym}
use Rattle.style_text.proofs.Reading.{not_free, no_colon, property_is}
use Rattle.style_text.proofs.read.property_at.Goals as goal

pub returns-then-not-is_free : goal.returns-then-not-is_free
returns-then-not-is_free c = λ pairs h.
    let e = c.property_end-end.ensures in
    not_free _ _ _ _ c.requires.first c.requires.inside e.order e.inside (e.read pairs h) (e.all pairs h) (sym (c.is_free.ensures pairs h) ∙ c.if-not-is_free.true)

pub returns-then-not-stands : goal.returns-then-not-stands
returns-then-not-stands c = λ pairs h.
    let e = c.property_end-end.ensures in
    no_colon _ _ _ _ c.requires.first c.requires.inside e.order e.inside (e.read pairs h) (e.all pairs h) (sym (c.is_free.ensures pairs h) ∙ c.if-not-is_free.false) _ c.blanks_end-colon.ensures (sym c.if-not-stands.ensures)

pub returns : goal.returns
returns c = λ pairs h.
    let e = c.property_end-end.ensures in
    property_is _ _ _ _ c.requires.first c.requires.inside e.order e.inside (e.read pairs h) (e.all pairs h) (sym (c.is_free.ensures pairs h) ∙ c.if-not-is_free.false) _ c.blanks_end-colon.ensures _ (sym c.if-not-stands.ensures) c.blanks_end.ensures
