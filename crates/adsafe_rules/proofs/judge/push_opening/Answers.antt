use Rattle.js_tree.specs.declared.nodes.Part.TheVariants as part
use Rattle.std.proofs.Common.{◌∷◌, []}
use Rattle.adsafe_rules.proofs.judge.push_opening.Goals as goal

pub returns-in_ok-push-in-Some : goal.returns-in_ok-push-in-Some
returns-in_ok-push-in-Some c = record {
  parts = part.Fun c.in-Some.fun ∷ [];
  same = c.in-Some.ensures.1;
  are_in = (c.in-Some.ensures.0, tt);
  pushed = c.in_ok-push-in-Some.ensures.items;
}
