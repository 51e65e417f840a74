use Rattle.std.proofs.Common.{◌≤◌, arith, subst, sym}
use Rattle.std.specs.Prelude.{◌-◌}
use Rattle.list_methods.proofs.Lists.{clamped_within, from_end_within}
use Rattle.list_methods.proofs.splicing.cut_of.Goals as goal

pub returns-clause-within : goal.returns-clause-within
returns-clause-within c =
    let at : c.from_end-at.result ≤ c.args.len = subst (λ n. n ≤ c.args.len) (sym c.from_end-at.ensures) (from_end_within c.args.len _) in
    let count : c.clamped.result ≤ c.args.len - c.from_end-at.result = subst (λ n. n ≤ c.args.len - c.from_end-at.result) (sym c.clamped.ensures) (clamped_within (c.args.len - c.from_end-at.result) _) in
    omega arith
