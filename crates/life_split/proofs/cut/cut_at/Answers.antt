use Rattle.std.proofs.Common.{◌≡◌, ◌+◌, ◌<◌, true, Some, [], length, map, get_or, nat_lt, sym, ap, ◌∙◌, arith}
use Rattle.std.proofs.lemmas.Bool.Decides.{nat_tests}
use Rattle.std.proofs.lemmas.Result.{on_ok_weaker}
use Rattle.life_split.specs.Cut.{is_below}
use Rattle.life_split.specs.Steps.{cut_on, with_life}
use Rattle.life_split.proofs.Setting.{set_at}
use Rattle.life_split.proofs.cut.cut_at.Goals as goal

pub returns-in-Swap-clause-lives : goal.returns-in-Swap-clause-lives
returns-in-Swap-clause-lives c =
    let small : nat_lt c.in-Swap.slot (length c.args.lives.now.items) ≡ true = ap (is_below (length c.args.lives.now.items)) (sym c.in-Swap.is) ∙ c.requires.below in
    let fits : c.in-Swap.slot < length c.args.lives.now.items = grind (arith, nat_tests) in
    on_ok_weaker c.add_life.result
    (λ added w in_w.
    set_at (λ v. v.items) c.args.lives.now.items c.in-Swap.slot w (with_life c.args.at (Some (c.args.at + 1))) c.index_mut.result.now c.add_life.new.lives fits c.index_mut.ensures.value added
    ∙ ap (λ i. cut_on w c.args.at i (get_or (map (λ v. v.items) c.args.lives.now.items) w [])) (sym c.in-Swap.is))
    c.add_life.ensures
