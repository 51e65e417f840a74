use Rattle.std.proofs.Common.{◌≡◌, drop}
use Rattle.query_walks.specs.Finds.{finds}
use Rattle.query_walks.specs.Walks.{AreNodes}
use Rattle.query_lang.proofs.finder.take_steps.Given as goal

abbrev pub invariant-each : goal.invariant-each
invariant-each l = record {
  nodes : AreNodes l.page l.list.items;
  left : finds l.page l.owner l.focus l.list.items (drop l.step-index l.steps) ≡ finds l.page l.owner l.focus l.starts l.steps;
}
