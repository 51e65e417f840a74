use Rattle.std.proofs.Common.{◌<◌, false, ◌∷◌, [], refl, arith, slice_index}
use Rattle.std.proofs.lemmas.Grind.{common_steps}
use Rattle.code_units.specs.declared.owner.TheConstants.{WIDGETS}
use Rattle.turn_sched.proofs.Flags.{all_false, flags_more}
use Rattle.turn_sched.proofs.round_robin.flags_of.Goals as goal

pub ready-init : goal.ready-init
ready-init c = (refl, λ w fits. all_false (false ∷ false ∷ false ∷ false ∷ false ∷ false ∷ false ∷ false ∷ false ∷ false ∷ false ∷ false ∷ false ∷ false ∷ false ∷ false ∷ false ∷ false ∷ false ∷ false ∷ false ∷ false ∷ false ∷ false ∷ false ∷ false ∷ false ∷ false ∷ false ∷ false ∷ false ∷ false ∷ []) w refl)

pub ready-preserved : goal.ready-preserved
ready-preserved c =
    let small : slice_index c.args.ready.now c.ready.w-index < WIDGETS = c.requires c.ready.w-index 0 c.ready-test.true in (
      grind (arith, common_steps, c.ready.invariant.0),
      λ w fits. flags_more c.ready.flags c.args.ready.now c.ready.w-index w c.ready-test.true (omega (arith, small, c.ready.invariant.0)) (c.ready.invariant.1 w fits),
    )
