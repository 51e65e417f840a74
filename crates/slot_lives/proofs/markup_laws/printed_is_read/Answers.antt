use Rattle.slot_lives.proofs.Forms as forms
use Rattle.slot_lives.proofs.Law as law
use Rattle.slot_lives.proofs.markup_laws.printed_is_read.Goals as goal

pub returns : goal.returns
returns c = record { text = law.printed_is_read; output = forms.output_is_read }
