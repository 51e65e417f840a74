use Rattle.std.proofs.Common.{◌≡◌, ◌∙◌, ◌+◌, ap, arith, suc, sym}
use Rattle.std.proofs.lemmas.Bool.Decides.{nat_tests}
use Rattle.store_cells.specs.Numbered.{noted}
use Rattle.store_cells.proofs.Gapless.{same_near}
use Rattle.store_cells.proofs.indices.Indices.is_noted.Goals as goal

pub ruled_number-requires : goal.ruled_number-requires
ruled_number-requires c = omega (arith, c.if-at-self.true, c.self.invariant.ruled)

pub returns-then-at-self : goal.returns-then-at-self
returns-then-at-self c = λ yes.
    let s = c.self.inside in
    let at = c.args.at in
    let n = c.args.n in
    let number : n ≡ 2 + at = grind (arith, nat_tests, yes, c.ruled_number.ensures) in
    sym (ap (noted (suc at) n) c.self.view_is) ∙ sym (same_near 0 at at n s.upto s.far.entries (omega arith) c.if-at-self.true number) ∙ c.self.view_is
