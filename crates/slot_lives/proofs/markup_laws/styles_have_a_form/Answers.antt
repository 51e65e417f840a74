use Rattle.slot_lives.proofs.Forms as forms
use Rattle.slot_lives.proofs.markup_laws.styles_have_a_form.Goals as goal

pub returns : goal.returns
returns c = record { form = forms.has_form; stays = forms.printed_stays }
