use Rattle.std.proofs.Common.{sym, ap, ◌∙◌}
use Rattle.std.specs.Prelude.{option_copied}
use Rattle.page_image.specs.Image.{label_at}
use Rattle.life_queue.proofs.Valued.{is_named, named}
use Rattle.life_queue.proofs.events.is_input.Goals as goal

pub returns-in-Some : goal.returns-in-Some
returns-in-Some c = c.is_word.ensures ∙ sym (ap (λ o. is_named (option_copied o)) c.in-Some.is) ∙ named (label_at c.args.page.now c.args.w c.args.node) (option_copied c.tag.result) c.tag.ensures

pub returns-in-None : goal.returns-in-None
returns-in-None c = sym (ap (λ o. is_named (option_copied o)) c.in-None.is) ∙ named (label_at c.args.page.now c.args.w c.args.node) (option_copied c.tag.result) c.tag.ensures
