use Rattle.std.proofs.Common.{refl, ◌∙◌}
use Rattle.page_load.proofs.Lots.{markup_all, markup_more, markup_none}
use Rattle.page_load.proofs.laying.lay_markup.Goals as goal

pub trees-init : goal.trees-init
trees-init c = record {
  away = λ v lt h. h;
  home = λ v tree lt h. h;
  raws = λ h. h;
  kept = λ lot n h. h;
  standing = λ n h. h;
  same = λ v. refl;
  confined = λ fs v h. h;
  lots = λ lots h. markup_none c.args.page.now lots h;
}

pub trees-preserved : goal.trees-preserved
trees-preserved c =
    let inv = c.trees.invariant in
    let ens = c.in_ok-add_markup.ensures in
    record {
      away = λ v lt h. ens.away v lt (inv.away v lt h);
      home = λ v tree lt h. ens.home v tree lt (inv.home v tree lt h);
      raws = λ h. ens.raws (inv.raws h);
      kept = λ lot n h. ens.lots lot n (inv.kept lot n h);
      standing = λ n h. ens.standing n (inv.standing n h);
      same = λ v. c.add_markup.ensures.same v ∙ inv.same v;
      confined = λ fs v h. c.add_markup.ensures.confined fs v (inv.confined fs v h);
      lots = λ lots h. markup_more c.args.content.now c.trees.tree-index c.tree-item.result c.trees-test.true c.tree-item.is c.add_markup.new.page lots (ens.laid _ (inv.lots lots h));
    }

pub returns-clause-lots : goal.returns-clause-lots
returns-clause-lots c = λ lots h. markup_all c.args.content.now c.trees.tree-index c.trees-test.false c.trees.page lots (c.trees.invariant.lots lots h)
