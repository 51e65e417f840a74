use Rattle.std.proofs.Common.{◌+◌, ◌≤◌, ◌∙◌, Some, ap, arith, sym}
use Rattle.store_cells.specs.Numbered.{found_in}
use Rattle.store_cells.proofs.Gapless.{found_far, found_near}
use Rattle.store_cells.proofs.indices.Indices.get.Goals as goal

pub ruled_number-requires : goal.ruled_number-requires
ruled_number-requires c = omega (arith, c.if-at-self.true, c.self.invariant.ruled)

pub returns-then-at-self : goal.returns-then-at-self
returns-then-at-self c =
    let s = c.self.inside in
    let at = c.args.at in
    ap Some c.ruled_number.ensures ∙ sym (found_near 0 at at s.upto s.far.entries (omega arith) c.if-at-self.true) ∙ ap (λ l. found_in l at) c.self.view_is

pub returns-else-at-self : goal.returns-else-at-self
returns-else-at-self c =
    let s = c.self.inside in
    let at = c.args.at in
    let le : 0 + s.upto ≤ at = omega (arith, c.if-at-self.false) in
    c.far_at.ensures ∙ sym (found_far 0 at s.upto s.far.entries le) ∙ ap (λ l. found_in l at) c.self.view_is
