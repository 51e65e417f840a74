use Rattle.std.proofs.Common.{codes, sym, ap, ◌∙◌}
use Rattle.std.specs.Prelude.{option_copied}
use Rattle.query_grammar.specs.Filters.{is_equal}
use Rattle.bunch_attributes.proofs.Tags.{tag_seen}
use Rattle.bunch_attributes.proofs.judging.is_input.Goals as goal

pub returns-in-Some : goal.returns-in-Some
returns-in-Some c = λ s there.
    c.is_word.ensures
    ∙ ap (λ o. is_equal (option_copied o) (codes "input")) (sym c.in-Some.is)
    ∙ sym (ap (λ o. is_equal o (codes "input")) (tag_seen c.args.page.now c.args.w.index s there c.args.node c.requires _ c.tag.ensures))

pub returns-in-None : goal.returns-in-None
returns-in-None c = λ s there.
    ap (λ o. is_equal (option_copied o) (codes "input")) (sym c.in-None.is)
    ∙ sym (ap (λ o. is_equal o (codes "input")) (tag_seen c.args.page.now c.args.w.index s there c.args.node c.requires _ c.tag.ensures))
