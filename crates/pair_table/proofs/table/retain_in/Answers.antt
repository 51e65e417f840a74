use Rattle.std.proofs.Common.{ℕ, Bool, nat_lt, rules, tests}
use Rattle.indexmap.proofs.CallerLemmas.{filter-RetainsPairs}
use Rattle.pair_table.proofs.table.retain_in.Goals as goal

pub returns : goal.returns
returns g c =
    let test : ℕ × g.row.V.Denot → Bool = λ p. nat_lt p.0 c.args.bound in
    filter-RetainsPairs _ test _ (λ k v b w f call. search (rules, tests)) _ _ c.retain.ensures.filtered
