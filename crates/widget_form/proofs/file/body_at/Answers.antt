use Rattle.std.proofs.Common.{sym, ap, ◌∙◌, arith}
use Rattle.std.proofs.lemmas.Option.{slice_get_within, get_or_from_slice_get}
use Rattle.plain_tree.specs.Plains.{placed}
use Rattle.markup_rules.specs.Parts.{with_body}
use Rattle.widget_form.proofs.file.body_at.Goals as goal

pub swap_remove-requires : goal.swap_remove-requires
swap_remove-requires c = omega (arith, slice_get_within c.args.content.items c.args.place c.requires.plain c.requires.found, c.args.content.ok.0)

pub returns : goal.returns
returns c = c.trimmed.ensures ∙ ap with_body (ap placed (c.swap_remove.ensures.value ∙ get_or_from_slice_get c.args.content.items c.args.place c.requires.plain c.swap_remove.result c.requires.found) ∙ c.requires.element) ∙ sym c.requires.body
