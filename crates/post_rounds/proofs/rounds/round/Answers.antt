use Rattle.std.proofs.Common.{[], map, length, ◌∙◌, arith}
use Rattle.std.proofs.lemmas.List.{length-map}
use Rattle.std.proofs.lemmas.List.FromFn.{fill_by_all}
use Rattle.post_rounds.specs.Events.{values}
use Rattle.post_rounds.specs.News.{news}
use Rattle.post_rounds.proofs.Delivering.{sender_more, senders_all, sender_next}
use Rattle.post_rounds.proofs.rounds.round.Goals as goal

pub senders-preserved : goal.senders-preserved
senders-preserved c = record {
  slots = c.deliver.ensures.slots ∙ c.senders.invariant.slots;
  news = λ w in_w. sender_more c.args.channels.now c.args.names.now c.senders.sender w c.deref.result.now _ _ _ _ _
      (sender_next (λ v. v.items) c.args.fresh.now c.senders.sender c.index-fresh-sender.result c.deref.result.now c.senders-test.true c.index-fresh-sender.is c.deref.ensures.value)
      (c.in_ok-deliver.ensures.news w in_w) (c.senders.invariant.news w in_w);
}

pub returns : goal.returns
returns c =
    fill_by_all (news c.args.channels.now c.args.names.now (map (λ v. v.items) c.args.fresh.now)) (map (λ v. values v.items) c.senders.events.items) (length c.args.names.now) []
    (length-map c.senders.events.items (λ v. values v.items) ∙ c.senders.invariant.slots)
    (λ w in_w. senders_all c.args.channels.now c.args.names.now w c.senders.sender (map (λ v. v.items) c.args.fresh.now) _ _
    (omega (arith, length-map c.args.fresh.now (λ v. v.items), c.senders-test.false)) (c.senders.invariant.news w in_w))
