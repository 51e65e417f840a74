use Rattle.std.proofs.Common.{◌∙◌, ℕ, List, Bool, ap, eqb, filter, nat_lt, rules, subst, sym, tests}
use Rattle.std.specs.List.{IsDistinct}
use Rattle.std.specs.Map.{keys_of}
use Rattle.std.proofs.lemmas.Fn.{filter_same}
use Rattle.std.proofs.lemmas.Map.Made.{IsDistinct-keys_filter}
use Rattle.pair_table.specs.Pairs.{Pairs}
use Rattle.pair_table.proofs.Rises.{rising_any}
use Rattle.pair_table.proofs.rising.RisingPairs.retain_below.Goals as goal

pub invariant_of-self : goal.invariant_of-self
invariant_of-self g c =
    let test : ℕ × g.row.V.Denot → Bool = λ p. nat_lt p.0 c.args.bound in
    let kept = filter_same _ test _ (λ x b q k. search (rules, tests)) _ _ c.retain.ensures.filtered in
    rising_any (keys_of c.retain.new.self.items) (subst (λ (l : List (ℕ × g.row.V.Denot)). IsDistinct eqb (keys_of l)) (sym kept) (IsDistinct-keys_filter eqb test c.self.inside.list.items c.self.invariant.differ))

pub returns : goal.returns
returns g c =
    let test : ℕ × g.row.V.Denot → Bool = λ p. nat_lt p.0 c.args.bound in
    filter_same _ test _ (λ x b q k. search (rules, tests)) _ _ c.retain.ensures.filtered ∙ ap (λ (p : Pairs g.row.V.Denot). filter test p.entries) c.self.view_is
