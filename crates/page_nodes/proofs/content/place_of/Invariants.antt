use Rattle.std.proofs.Common.{length, ◌-◌, ℕ, ◌<◌, ◌≤◌, false}
use Rattle.page_nodes.specs.Contents.{IsNamed}
use Rattle.page_nodes.proofs.content.place_of.Given as goal

-- none of those so far has the name
abbrev pub invariant-each : goal.invariant-each
invariant-each l = record {
  bound : l.place ≤ length l.attributes;
  first : (j : ℕ) → j < l.place → IsNamed l.name l.attributes j false;
}

abbrev pub decreases-each : goal.decreases-each
decreases-each l = length l.attributes - l.place
