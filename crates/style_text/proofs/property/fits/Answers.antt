use Rattle.style_text.specs.Styles.{properties, is_used}
use Rattle.style_text.specs.Machine.{fits}
use Rattle.style_text.specs.Used.{marks_of}
use Rattle.style_text.proofs.property.fits.Goals as goal

pub returns : goal.returns
unfolding fits marks_of properties
returns c = λ pairs h. c.fits_in.ensures (is_used pairs) h
