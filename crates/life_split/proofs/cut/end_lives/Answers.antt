use Rattle.std.proofs.Common.{None, ap, sym, ◌∙◌, map, arith}
use Rattle.std.proofs.lemmas.List.{length-map}
use Rattle.life_split.specs.Steps.{with_last, with_life}
use Rattle.life_split.proofs.Setting.{ended_more, left_more}
use Rattle.life_split.proofs.cut.end_lives.Goals as goal

pub slots-preserved : goal.slots-preserved
slots-preserved c = record {
  ended = ended_more (λ v. v.items) (with_last c.args.end) c.slots.lives (map (λ v. v.items) c.args.lives.now) c.slots.list-index c.list-item.result c.add_life.new.lives (omega (arith, c.slots.auto.lives)) (omega (arith, length-map c.args.lives.now (λ v. v.items))) c.list-item.is
      (c.in_ok-add_life.ensures ∙ ap (λ v. with_life c.args.end None v.items) (sym c.list-item.is)) c.slots.invariant.ended c.slots.invariant.left;
  left = left_more (λ v. v.items) c.slots.lives (map (λ v. v.items) c.args.lives.now) c.slots.list-index c.add_life.new.lives c.slots.invariant.left;
}
