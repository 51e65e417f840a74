use Rattle.std.proofs.Common.{codes, sym, ap, ◌∙◌, ◌||◌}
use Rattle.std.specs.Prelude.{option_copied}
use Rattle.query_grammar.specs.Filters.{is_equal}
use Rattle.bunch_attributes.proofs.Tags.{tag_seen}
use Rattle.bunch_attributes.proofs.judging.is_field.Goals as goal

pub returns-in-Some : goal.returns-in-Some
returns-in-Some c = λ s there.
    c.is_field_tag.ensures
    ∙ ap (λ o. is_equal (option_copied o) (codes "input") || is_equal (option_copied o) (codes "button") || is_equal (option_copied o) (codes "textarea") || is_equal (option_copied o) (codes "select") || is_equal (option_copied o) (codes "option")) (sym c.in-Some.is)
    ∙ sym (ap (λ o. is_equal o (codes "input") || is_equal o (codes "button") || is_equal o (codes "textarea") || is_equal o (codes "select") || is_equal o (codes "option")) (tag_seen c.args.page.now c.args.w.index s there c.args.node c.requires _ c.tag.ensures))

pub returns-in-None : goal.returns-in-None
returns-in-None c = λ s there.
    ap (λ o. is_equal (option_copied o) (codes "input") || is_equal (option_copied o) (codes "button") || is_equal (option_copied o) (codes "textarea") || is_equal (option_copied o) (codes "select") || is_equal (option_copied o) (codes "option")) (sym c.in-None.is)
    ∙ sym (ap (λ o. is_equal o (codes "input") || is_equal o (codes "button") || is_equal o (codes "textarea") || is_equal o (codes "select") || is_equal o (codes "option")) (tag_seen c.args.page.now c.args.w.index s there c.args.node c.requires _ c.tag.ensures))
