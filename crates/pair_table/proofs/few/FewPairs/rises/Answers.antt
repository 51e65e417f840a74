use Rattle.std.proofs.Common.{ℕ, List, ap, length, subst}
use Rattle.std.specs.Map.{keys_of}
use Rattle.pair_table.specs.Pairs.{Pairs}
use Rattle.pair_table.specs.Rising.{AreNear, IsRising}
use Rattle.pair_table.proofs.Rises.{rising_all}
use Rattle.pair_table.proofs.few.FewPairs.rises.Goals as goal

pub returns : goal.returns
returns g c = λ yes.
    let near = subst (λ (l : List (ℕ × g.row.V.Denot)). AreNear (length l) (keys_of l)) c.deref.ensures.value (c.all_near.ensures yes) in
    subst (λ (l : List (ℕ × g.row.V.Denot)). IsRising (length l) (keys_of l)) (ap (λ (p : Pairs g.row.V.Denot). p.entries) c.self.view_is) (rising_all c.self.inside.list.items c.self.invariant near)
