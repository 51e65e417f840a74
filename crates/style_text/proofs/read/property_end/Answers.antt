use Rattle.std.proofs.Common.{◌∙◌, sym, arith}
use Rattle.style_text.proofs.Reading.{name_more}
use Rattle.style_text.proofs.read.property_end.Goals as goal

pub property-preserved : goal.property-preserved
property-preserved c =
    record {
      order = omega (arith, c.property.invariant.order);
      inside = omega arith;
      read = λ pairs h. name_more _ _ _ _ c.property.invariant.order c.property-test.true (sym (c.fits.ensures pairs h) ∙ c.if-not-fits.false) (c.property.invariant.read pairs h);
    }
