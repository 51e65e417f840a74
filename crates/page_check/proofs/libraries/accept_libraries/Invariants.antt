use Rattle.std.proofs.Common.{All, take}
use Rattle.adsafe_rules.specs.declared.scope.Scope.TheVariants as scope
use Rattle.js_tree.specs.Trees.{program_of}
use Rattle.adsafe_rules.specs.Accepts.{tree_of}
use Rattle.adsafe_rules.specs.Program.{IsClean}
use Rattle.slot_check.specs.Verdicts.{sources_of, AreJudged}
use Rattle.page_check.specs.Judged.{AreKept}
use Rattle.page_check.proofs.libraries.accept_libraries.Given as goal

abbrev pub invariant-libs : goal.invariant-libs
invariant-libs l = record {
  judged : AreJudged (sources_of l.libs) l.judged;
  kept : AreKept l.accepted.items (take l.at (sources_of l.libs)) l.places.items;
  clean : All (λ a. IsClean (program_of (tree_of a)) scope.Lib) l.accepted.items;
}
