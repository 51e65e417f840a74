use Rattle.std.proofs.Common.{ℕ, List, ap, arith, length}
use Rattle.property_names.proofs.Seen.{long_keys, seen_long}
use Rattle.property_names.proofs.names.PropertyNames.len.Goals as goal

pub returns : goal.returns
returns c =
    let keys = c.self.inside.names in
    omega (arith, c.len.ensures, seen_long keys (long_keys keys c.self.invariant), ap (λ (l : List (List ℕ)). length l) c.self.view_is)
