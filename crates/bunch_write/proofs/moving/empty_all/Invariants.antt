use Rattle.std.proofs.Common.{◌≡◌, map, take}
use Rattle.std.specs.List.{fold}
use Rattle.page_image.specs.Image.{forest, number}
use Rattle.page_image.specs.Stays.{HostStays, KeepsNodes, OthersStay}
use Rattle.bunch_write.specs.Trees.{emptied_in}
use Rattle.bunch_write.proofs.moving.empty_all.Given as goal

-- those before are emptied
abbrev pub invariant-each : goal.invariant-each
invariant-each l = record {
  image : forest l.page l.w.index ≡ fold emptied_in (forest l.initial.page l.w.index) (map (number l.initial.page l.w.index) (take l.node-index l.list));
  kept : KeepsNodes l.initial.page l.page;
  others : OthersStay l.initial.page l.page l.w.index;
  host : HostStays l.initial.page l.page;
}
