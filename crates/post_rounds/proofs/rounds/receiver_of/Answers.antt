use Rattle.std.proofs.Common.{◌&&◌, nat_eq, ap, sym, ◌∙◌}
use Rattle.post_rounds.proofs.Receiving.{gets}
use Rattle.post_rounds.proofs.rounds.receiver_of.Goals as goal

pub returns-then-is_channel-clause-receiver : goal.returns-then-is_channel-clause-receiver
returns-then-is_channel-clause-receiver c = λ w in_w.
    gets c.args.channels.now c.args.names.now c.args.to.now c.args.sender c.in_ok-receiver.receiver w c.requires in_w (sym c.place_of.ensures ∙ c.in_ok-receiver.was)
    ∙ ap (λ b. b && nat_eq c.in_ok-receiver.receiver w) (sym c.is_channel.ensures ∙ c.if-is_channel.true)

pub returns-else-is_channel-clause-receiver : goal.returns-else-is_channel-clause-receiver
returns-else-is_channel-clause-receiver c = λ w in_w.
    gets c.args.channels.now c.args.names.now c.args.to.now c.args.sender c.in_ok-receiver.receiver w c.requires in_w (sym c.place_of.ensures ∙ c.in_ok-receiver.was)
    ∙ ap (λ b. b && nat_eq c.in_ok-receiver.receiver w) (sym c.is_channel.ensures ∙ c.if-is_channel.false)
