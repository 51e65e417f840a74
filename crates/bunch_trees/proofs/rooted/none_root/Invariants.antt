use Rattle.std.proofs.Common.{◌≡◌, map, take, true}
use Rattle.std.specs.List.{list_all}
use Rattle.widget_meaning.specs.BunchWrites.{is_no_root}
use Rattle.page_image.specs.Image.{number}
use Rattle.bunch_trees.proofs.rooted.none_root.Given as goal

-- none of those before is the root
abbrev pub invariant-each : goal.invariant-each
invariant-each l = list_all is_no_root (map (number l.page l.w.index) (take l.node-index l.list)) ≡ true
