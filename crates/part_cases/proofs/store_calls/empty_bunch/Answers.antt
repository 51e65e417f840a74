use Rattle.std.proofs.Common.{ℕ, List, refl, subst, sym, nat_eq}
use Rattle.std.specs.List.{IsDistinct}
use Rattle.store_cells.specs.Born.{HaveCells}
use Rattle.part_cases.proofs.store_calls.empty_bunch.Goals as goal

pub make-requires : goal.make-requires
unfolding IsDistinct
make-requires c = subst (λ (ns : List ℕ). IsDistinct nat_eq ns × HaveCells c.args.store.now.cells ns) (sym c.new-nodes.ensures.items) (tt, refl)
