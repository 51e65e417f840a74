use Rattle.std.proofs.Common.{None}
use Rattle.js_tree.specs.Trees.{trees, program_of}
use Rattle.first_breach.specs.Narrowing.{Narrows}
use Rattle.adsafe_rules.specs.Program.{Breaks}
use Rattle.node_rules.specs.Enclosing.{env_of}
use Rattle.adsafe_rules.specs.Walk.{IsGoing, Left, load}
use Rattle.adsafe_rules.proofs.judge.search.Given as goal

abbrev pub invariant-walk : goal.invariant-walk
invariant-walk l = record {
  going : IsGoing (trees l.tree) l.enclosing l.work.items;
  narrows : Narrows (Breaks (program_of l.tree) l.scope) None (Left (trees l.tree) (env_of (trees l.tree) l.enclosing.stack.items) l.work.items) l.best;
}

abbrev pub decreases-walk : goal.decreases-walk
decreases-walk l = load (trees l.tree) l.work.items
