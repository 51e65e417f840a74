use Rattle.std.proofs.Common.{◌+◌, length, get_or, drop, ◌∙◌, arith}
use Rattle.std.proofs.lemmas.List.{drop_more}
use Rattle.life_split.specs.declared.items.LifeItem.TheVariants as item
use Rattle.life_split.specs.Cut.{lives_of}
use Rattle.life_split.specs.Steps.{with_last}
use Rattle.life_split.proofs.Cutting.{found_all, found_more}
use Rattle.life_split.proofs.Setting.{all_changed}
use Rattle.life_split.proofs.cut.lives.Goals as goal

pub items-preserved : goal.items-preserved
items-preserved c = record {
  slots = c.cut_at.ensures.slots ∙ c.items.invariant.slots;
  found = λ w in_w.
      found_more w c.items.at (get_or c.args.items.now c.items.at (item.To 0)) (drop c.items.at c.args.items.now) (drop (c.items.at + 1) c.args.items.now) _ _ _ (length c.args.items.now)
      (drop_more c.args.items.now c.items.at (item.To 0) c.items-test.true) (c.in_ok-cut_at.ensures.lives w (omega (arith, c.items.invariant.slots))) (c.items.invariant.found w in_w);
}

pub returns : goal.returns
returns c =
    all_changed (λ v. v.items) (with_last (length c.args.items.now)) (lives_of c.args.items.now) c.args.slots c.items.lives.len c.items.lives.items c.end_lives.new.lives c.deref_mut.result.now
    c.in_ok-end_lives.ensures c.deref_mut.ensures.value c.deref_mut.ensures.len c.items.invariant.slots
    (λ w in_w. found_all w c.items.at c.args.items.now _ _ (length c.args.items.now) c.items-test.false (c.items.invariant.found w in_w))
