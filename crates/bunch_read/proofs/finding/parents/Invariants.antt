use Rattle.std.proofs.Common.{◌≡◌, map, take, []}
use Rattle.std.specs.List.{filter_map}
use Rattle.widget_meaning.specs.OwnState.{State}
use Rattle.widget_meaning.specs.PageForms.{once}
use Rattle.widget_meaning.specs.Trees.{parent}
use Rattle.page_image.specs.Image.{forest, number}
use Rattle.bunch_read.specs.Finding.{AreApart}
use Rattle.bunch_read.proofs.finding.parents.Given as goal

-- the parents of those before, each once
abbrev pub invariant-each : goal.invariant-each
invariant-each l = record {
  same : l.seen.keys ≡ l.found.items;
  image : (s : State) → s.own.forest ≡ forest l.page l.w → map (number l.page l.w) l.found.items ≡ once [] (filter_map (λ n. parent n s.own.forest) (map (number l.page l.w) (take l.node-index l.list)));
  apart : AreApart l.page l.w l.found.items;
}
