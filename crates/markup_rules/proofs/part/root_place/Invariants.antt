use Rattle.std.proofs.Common.{◌≡◌, drop}
use Rattle.plain_tree.specs.Plains.{placed_all}
use Rattle.markup_rules.specs.Elements.{roots}
use Rattle.markup_rules.specs.Elements.{body_of}
use Rattle.markup_rules.proofs.part.root_place.Given as goal

-- the root stands among what is still to come
abbrev pub invariant-nodes : goal.invariant-nodes
invariant-nodes l = record {
  roots : roots (placed_all l.content) ≡ roots (placed_all (drop l.i l.content));
  body : body_of (placed_all l.content) ≡ body_of (placed_all (drop l.i l.content));
}
