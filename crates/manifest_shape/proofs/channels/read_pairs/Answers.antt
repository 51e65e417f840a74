use Rattle.std.proofs.Common.{◌≡◌, ℕ, List, true, false, sym, ap, ◌∙◌, rules}
use Rattle.std.specs.List.{list_any}
use Rattle.std.specs.Result.{IsErrOf}
use Rattle.manifest_shape.specs.Manifest.{same_channel}
use Rattle.json_shapes.specs.declared.fault.Misfit.TheVariants as misfit
use Rattle.manifest_shape.proofs.ChannelLemmas.{no_channel_yet, no_channel, channel_again, channels_more}
use Rattle.manifest_shape.proofs.channels.read_pairs.Goals as goal

pub pairs-init : goal.pairs-init
pairs-init c = no_channel_yet c.args.names.now c.args.pairs.now c.new-channels.result.items c.new-channels.ensures.items

pub returns-then-is_given-clause-misfit : goal.returns-then-is_given-clause-misfit
returns-then-is_given-clause-misfit c = λ err all are.
    let again : true ≡ list_any (λ b. same_channel b c.in_ok-channel.channel) c.pairs.channels.items =
    sym c.if-is_given.true ∙ c.is_given.ensures ∙ ap (λ (cs : List (ℕ × ℕ)). list_any (λ b. same_channel b c.in_ok-channel.channel) cs) c.deref.ensures.value in
    channel_again c.args.names.now c.args.pairs.now c.pairs.pair-index c.pair-item.result c.pairs.channels.items all c.in_ok-channel.channel c.pairs-test.true c.pair-item.is c.pairs.invariant c.in_ok-channel.ensures.ok again are

pub returns-in_err-channel-clause-misfit : goal.returns-in_err-channel-clause-misfit
returns-in_err-channel-clause-misfit c = λ err all are.
    let here : IsErrOf c.read_channel.result misfit.Shape = search rules in
    no_channel c.args.names.now c.args.pairs.now c.pairs.pair-index c.pair-item.result all c.pairs-test.true c.pair-item.is (c.read_channel.ensures.misfit here) are

pub pairs-preserved : goal.pairs-preserved
pairs-preserved c =
    let fresh : false ≡ list_any (λ b. same_channel b c.in_ok-channel.channel) c.pairs.channels.items =
    sym c.if-is_given.false ∙ c.is_given.ensures ∙ ap (λ (cs : List (ℕ × ℕ)). list_any (λ b. same_channel b c.in_ok-channel.channel) cs) c.deref.ensures.value in
    channels_more c.args.names.now c.args.pairs.now c.pairs.pair-index c.pair-item.result c.pairs.channels.items c.push.new.self.items c.in_ok-channel.channel c.pairs-test.true c.pair-item.is c.pairs.invariant c.in_ok-channel.ensures.ok fresh c.in_ok-push.ensures.items
