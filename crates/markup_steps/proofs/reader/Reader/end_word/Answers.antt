use Rattle.std.proofs.Common.{◌∙◌, ◌-◌, sym, ap, length, slice_get}
use Rattle.markup_steps.proofs.Grows.{top_last}
use Rattle.markup_steps.proofs.reader.Reader.end_word.Goals as goal

pub returns-in-Some : goal.returns-in-Some
returns-in-Some c = c.units.ensures ∙ sym (top_last c.args.self.now.grown.open.items c.in-Some.open.now (sym (c.in-Some.ensures.value ∙ ap (λ l. slice_get l (length l - 1)) c.deref.ensures.value)))
