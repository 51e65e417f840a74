use Rattle.std.proofs.Common.{◌≡◌, List, [], None, sym, subst, arith}
use Rattle.std.proofs.lemmas.Grind.{common_steps}
use Rattle.turn_sched.specs.declared.chooser.Ask.{Ask}
use Rattle.turn_sched.specs.Turns.{TakeTurns, no_ask}
use Rattle.turn_sched.proofs.round_robin.RoundRobin.new.Goals as goal

pub invariant_of-result : goal.invariant_of-result
invariant_of-result c =
    let empty : c.in_ok-with_capacity.field-0.items ≡ [] = c.in_ok-with_capacity.ensures.items in
    (subst (λ (asks : List Ask). TakeTurns None asks) (sym empty) no_ask, λ some. grind (arith, common_steps, empty), omega (arith, c.in_ok-with_capacity.ensures.capacity, c.in_ok-with_capacity.ensures.len))
