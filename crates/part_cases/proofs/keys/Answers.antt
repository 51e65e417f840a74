use Rattle.std.proofs.Common.{refl}
use Rattle.part_cases.proofs.keys.Goals as goal

pub slice_bounds-of_files-end : goal.slice_bounds-of_files-end
slice_bounds-of_files-end c = refl
