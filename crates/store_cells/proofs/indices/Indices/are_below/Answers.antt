use Rattle.std.proofs.Common.{◌+◌, ◌≤◌, arith, subst}
use Rattle.store_cells.specs.Holes.{IsNonePast}
use Rattle.store_cells.proofs.Gapless.{below_join, none_from_end}
use Rattle.store_cells.proofs.indices.Indices.are_below.Goals as goal

pub returns : goal.returns
returns c = λ e.
    let s = c.self.inside in
    let n = c.args.n in
    let le : 0 + s.upto ≤ n = omega (arith, c.if-self-n.false) in
    subst (IsNonePast n) c.self.view_is (none_from_end n n _ (below_join 0 s.upto n s.far.entries le (c.is_far_below.ensures e)) (omega arith))
