use Rattle.std.proofs.Common.{◌≡◌, length, map}
use Rattle.manifest_reader.specs.Page.{part_of}
use Rattle.page_plan.specs.Pages.{piece_of}
use Rattle.page_check.specs.Runs.{slots_named, pieces}
use Rattle.page_check.proofs.page.pieces_of.Given as goal

abbrev pub invariant-entries : goal.invariant-entries
invariant-entries l = record {
  pieces : map piece_of l.all.items ≡ pieces (map part_of l.yielded);
  slots : l.slots ≡ length (slots_named (map part_of l.yielded));
}
