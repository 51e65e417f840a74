use Rattle.std.proofs.Common.{ap, length, ◌∙◌, Some}
use Rattle.page_nodes.specs.Entries.{label_of}
use Rattle.native_common.specs.Numbers.{counted}
use Rattle.bunch_read.proofs.Content.{none_own, own_is}
use Rattle.bunch_read.proofs.texts.own_len.Goals as goal

pub returns-in-Text : goal.returns-in-Text
returns-in-Text c = λ l e. c.text_len.ensures.counted ∙ ap (λ t. counted (length t)) (own_is _ c.in-Text.text l (c.content.ensures ∙ ap (λ x. Some (label_of x)) c.in-Text.is) e)

pub returns-in-Element : goal.returns-in-Element
returns-in-Element c = λ l e. ap (λ t. counted (length t)) (none_own _ _ _ l (c.content.ensures ∙ ap (λ x. Some (label_of x)) c.in-Element.is) e)
