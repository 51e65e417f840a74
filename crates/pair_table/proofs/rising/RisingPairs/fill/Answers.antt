use Rattle.std.proofs.Common.{◌∙◌, subst, sym}
use Rattle.std.specs.Map.{keys_of}
use Rattle.pair_table.specs.Rising.{IsRising}
use Rattle.pair_table.proofs.rising.RisingPairs.fill.Goals as goal

pub invariant_of-self : goal.invariant_of-self
invariant_of-self g c = subst (λ n. IsRising n (keys_of c.args.list.items)) (sym (c.len-self-inside.ensures ∙ c.args.list.ok.0)) c.requires
