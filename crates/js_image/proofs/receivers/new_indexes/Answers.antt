use Rattle.std.proofs.Common.{◌-◌, ◌≤◌, ◌∙◌, ap, arith}
use Rattle.js_image.proofs.Indexes.{counts_are}
use Rattle.js_image.proofs.receivers.new_indexes.Goals as goal

pub returns : goal.returns
returns c =
    let few : c.args.len ≤ 4294967295 = omega (arith, c.ranges.len) in
    λ fs r w m held is. c.saturating_sub.ensures ∙ ap (λ n. c.args.len - n) c.count_of-count.ensures.count ∙ counts_are fs r w c.args.store.now c.lawful.ensures c.args.len m few c.args.base.now held is c.count_of-count.ensures.differ
