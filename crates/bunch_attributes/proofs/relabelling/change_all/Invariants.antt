use Rattle.std.proofs.Common.{◌≡◌, ℕ, map, take, true, false}
use Rattle.std.specs.List.{fold}
use Rattle.query_grammar.specs.Finds.{has_number}
use Rattle.page_image.specs.Image.{forest, number, relabel_in}
use Rattle.page_image.specs.Stays.{HostStays, KeepsNodes, OthersStay}
use Rattle.page_image.specs.Targets.{is_text_at}
use Rattle.bunch_attributes.specs.Labels.{meant}
use Rattle.bunch_attributes.proofs.relabelling.change_all.Given as goal

-- those before are changed, and all are elements
abbrev pub invariant-each : goal.invariant-each
invariant-each l = record {
  same : meant l.change ≡ meant l.initial.change;
  image : forest l.page l.w.index ≡ fold (relabel_in (meant l.initial.change)) (forest l.initial.page l.w.index) (map (number l.initial.page l.w.index) (take l.node-index l.list));
  kept : KeepsNodes l.initial.page l.page;
  others : OthersStay l.initial.page l.page l.w.index;
  host : HostStays l.initial.page l.page;
  elements : (n : ℕ) → has_number l.list n ≡ true → is_text_at (forest l.page l.w.index) (number l.page l.w.index n) ≡ false;
}
