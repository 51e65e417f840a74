use Rattle.std.proofs.Common.{sym, ◌∙◌}
use Rattle.page_image.specs.Image.{forest, label_at, number}
use Rattle.native_image.proofs.Keeping.{host_here}
use Rattle.life_queue.proofs.Valued.{is_element, not_set}
use Rattle.life_queue.proofs.events.set_text_value.Goals as goal

pub returns-then-not-is_input-clause-image : goal.returns-then-not-is_input-clause-image
returns-then-not-is_input-clause-image c = λ o e. not_set (label_at c.args.page.now c.args.w c.args.node) (number c.args.page.now c.args.w c.args.node) c.args.text.now o (forest c.args.page.now c.args.w) (sym c.is_input.ensures ∙ c.if-not-is_input.true) e

pub set_attr-requires-clause-element : goal.set_attr-requires-clause-element
set_attr-requires-clause-element c = is_element (label_at c.args.page.now c.args.w c.args.node) (sym c.is_input.ensures ∙ c.if-not-is_input.false)

pub returns-then-not-is_input-clause-host : goal.returns-then-not-is_input-clause-host
returns-then-not-is_input-clause-host c = host_here c.args.page.now

pub returns-in_err-name-clause-host : goal.returns-in_err-name-clause-host
returns-in_err-name-clause-host c = host_here c.args.page.now

pub returns-in_err-share-clause-host : goal.returns-in_err-share-clause-host
returns-in_err-share-clause-host c = host_here c.args.page.now
