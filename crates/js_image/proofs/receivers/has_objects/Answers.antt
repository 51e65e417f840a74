use Rattle.std.proofs.Common.{◌≤◌, ◌∙◌, arith}
use Rattle.js_image.proofs.Indexes.{objects_are}
use Rattle.js_image.proofs.receivers.has_objects.Goals as goal

pub returns : goal.returns
returns c =
    let few : c.args.len ≤ 4294967295 = omega (arith, c.ranges.len) in
    λ fs r w m held is. c.references_of.ensures.found ∙ objects_are fs r w c.args.store.now c.lawful.ensures c.args.len m few c.args.base.now held is c.references_of.ensures.differ
