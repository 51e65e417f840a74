use Rattle.std.proofs.Common.{◌∷◌, ◌++◌, [], ap, sym, ◌∙◌, length}
use Rattle.std.specs.Prelude.{nat_eq}
use Rattle.std.proofs.lemmas.Result.{IfOk-weaker}
use Rattle.bunch_attributes.proofs.Pairs.{set_empty, set_new, set_used}
use Rattle.bunch_attributes.proofs.styles.with_property.Goals as goal

pub returns-then-is_empty : goal.returns-then-is_empty
returns-then-is_empty c =
    IfOk-weaker c.without_property.result _ _
    (λ ps e. e ∙ set_empty c.args.name.now c.args.value.now c.args.pairs.now (ap (λ us. nat_eq (length us) 0) (sym c.units.ensures) ∙ sym c.is_empty.ensures ∙ c.if-is_empty.true))
    c.without_property.ensures

pub returns-then-is_used : goal.returns-then-is_used
returns-then-is_used c =
    c.in_ok-changed.ensures
    ∙ set_used c.args.name.now c.args.value.now c.args.pairs.now (ap (λ us. nat_eq (length us) 0) (sym c.units.ensures) ∙ sym c.is_empty.ensures ∙ c.if-is_empty.false) (sym c.is_used.ensures ∙ c.if-is_used.true)

pub returns : goal.returns
returns c =
    c.in_ok-keep.ensures
    ∙ ap (λ l. l ++ (c.args.name.now, c.args.value.now) ∷ []) c.in_ok-changed.ensures
    ∙ set_new c.args.name.now c.args.value.now c.args.pairs.now (ap (λ us. nat_eq (length us) 0) (sym c.units.ensures) ∙ sym c.is_empty.ensures ∙ c.if-is_empty.false) (sym c.is_used.ensures ∙ c.if-is_used.false)
