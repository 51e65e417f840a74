use Rattle.std.proofs.Common.{◌∙◌, ℕ, List, ap, eqb, subst, sym}
use Rattle.std.specs.List.{IsDistinct}
use Rattle.std.specs.Map.{keys_of}
use Rattle.std.specs.Vec.{vec_items}
use Rattle.pair_table.proofs.Rises.{rising_none}
use Rattle.pair_table.proofs.rising.RisingPairs.pour.Goals as goal

pub invariant_of-self : goal.invariant_of-self
invariant_of-self g c = rising_none (vec_items c.replace-list.new.dest) (ap vec_items c.replace-list.ensures.after ∙ c.new.ensures.items)

pub insert_all-requires-clause-distinct : goal.insert_all-requires-clause-distinct
insert_all-requires-clause-distinct g c = subst (λ (l : List (ℕ × g.row.V.Denot)). IsDistinct eqb (keys_of l)) (sym (ap vec_items c.replace-list.ensures.value)) c.self.invariant.differ
