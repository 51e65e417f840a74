use Rattle.std.proofs.Common.{None, Some, [], ap, sym, ◌∙◌, if◌then◌else◌}
use Rattle.std.specs.Prelude.{option_copied}
use Rattle.std.specs.Option.{option_map_or}
use Rattle.style_text.specs.Styles.{print_style}
use Rattle.widget_meaning.specs.Styles.{style_pairs, with_property}
use Rattle.bunch_attributes.proofs.styles.restyled.Goals as goal

pub returns-then-sets_nothing : goal.returns-then-sets_nothing
returns-then-sets_nothing c = sym (λ j. if (sym c.sets_nothing.ensures ∙ c.if-sets_nothing.true) j then None else Some (print_style (with_property (option_map_or style_pairs (option_copied c.args.style) []) c.args.property.now c.args.value.now)))

pub returns : goal.returns
returns c =
    ap Some
    (c.in_ok-text.ensures
    ∙ ap print_style (c.deref-2.ensures.value ∙ c.in_ok-changed.ensures
    ∙ ap (λ ps. with_property ps c.args.property.now c.args.value.now) (c.deref.ensures.value ∙ c.in_ok-pairs.ensures)))
    ∙ sym (λ j. if (sym c.sets_nothing.ensures ∙ c.if-sets_nothing.false) j then None else Some (print_style (with_property (option_map_or style_pairs (option_copied c.args.style) []) c.args.property.now c.args.value.now)))
