use Rattle.std.proofs.Common.{◌≡◌, ◌∙◌, rules, eq-eqb}
use mir.Val.{of_z, to_z}
use mir.Syntax.{w64}
use Rattle.std.specs.Prelude.{◌*ℤ◌, ◌%◌}
use Rattle.std.proofs.lemmas.Bool.{ne_eqb}
use Rattle.std.proofs.lemmas.Int.{to_z-of_z}
use Rattle.plain_natives.proofs.PowerLaws.{even_power, fits_unit, odd_power}
use Rattle.plain_natives.proofs.powers.unit_power.Goals as goal

pub returns-then-n-eq0 : goal.returns-then-n-eq0
returns-then-n-eq0 c =
    let x : to_z w64 (of_z w64 c.args.x) ≡ c.args.x = search rules in
    let e = even_power c.args.x c.args.n c.requires.unit c.requires.positive (eq-eqb (c.args.n % 2) 0 c.if-n-eq0.true) in
    let small : to_z w64 (of_z w64 (c.args.x *ℤ c.args.x)) ≡ c.args.x *ℤ c.args.x = to_z-of_z w64 (c.args.x *ℤ c.args.x) (fits_unit c.args.x c.requires.unit) in
    (λ j. to_z w64 (of_z w64 (x j *ℤ x j))) ∙ small ∙ e

pub returns-else-n-eq0 : goal.returns-else-n-eq0
returns-else-n-eq0 c =
    let x : to_z w64 (of_z w64 c.args.x) ≡ c.args.x = search rules in
    x ∙ odd_power c.args.x c.args.n c.requires.unit c.requires.positive (ne_eqb (c.args.n % 2) 0 c.if-n-eq0.false)
