use Rattle.std.proofs.Common.{◌+◌, sym, arith, ap, subst, ◌∙◌}
use Rattle.style_text.specs.Values.{is_open}
use Rattle.style_text.proofs.Cuts.{range_none}
use Rattle.style_text.proofs.Values.{open_none, other_number}
use Rattle.style_text.proofs.Reading.{ValueSoFar, value_begins, value_further, space_further, value_ended, value_all}
use Rattle.style_text.proofs.read.value_end.Goals as goal
use Rattle.style_text.proofs.read.value_end.Goals.{then-goes_on, else-goes_on+else-units-place-ne-SPACE}

pub goes_on-requires-clause-begun : goal.goes_on-requires-clause-begun
goes_on-requires-clause-begun c = ap is_open (range_none c.args.units.now c.args.at) ∙ open_none

pub value-init : goal.value-init
value-init c = value_begins _ _ c.requires.first (omega arith) (sym c.if-not-goes_on.ensures)

pub returns-then-units-place-ne-SPACE : goal.returns-then-units-place-ne-SPACE
returns-then-units-place-ne-SPACE c = value_ended _ _ _ _ c.value.invariant c.value-test.true (sym c.if-goes_on.ensures) (other_number _ _ c.if-units-place-ne-SPACE.true)

pub value-preserved : goal.value-preserved
value-preserved c =
    elim c.if-goes_on.branch [
      | then-goes_on w ↦ subst (λ e. ValueSoFar c.args.units.now c.args.at e (c.value.place + 1)) (sym w.end-is) (value_further _ _ _ _ c.value.invariant c.value-test.true (sym w.if-goes_on.ensures))
      | else-goes_on+else-units-place-ne-SPACE w ↦ subst (λ e. ValueSoFar c.args.units.now c.args.at e (c.value.place + 1)) (sym w.end-is) (space_further _ _ _ _ c.value.invariant c.value-test.true w.if-units-place-ne-SPACE.false)
    ]

pub returns : goal.returns
returns c = value_all _ _ _ _ c.value.invariant c.value-test.false
