use Rattle.std.proofs.Common.{arith, subst, take, ◌≡◌, ◌-◌, ◌+◌}
use Rattle.page_nodes.specs.Arenas.{nodes_in}
use Rattle.page_nodes.specs.Index.{IsIndex}
use Rattle.page_nodes.proofs.index.leave_from.Goals as goal

pub leave-requires-clause-before : goal.leave-requires-clause-before
leave-requires-clause-before c =
    let e : c.back.node ≡ c.back.node - 1 + 1 = omega arith in
    subst (λ n. IsIndex (take n (nodes_in c.args.arena.now)) c.back.ids) e c.back.invariant.index
