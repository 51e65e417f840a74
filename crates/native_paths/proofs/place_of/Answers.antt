use Rattle.std.proofs.Common.{refl}
use Rattle.native_paths.proofs.place_of.Goals as goal

pub place_in-requires : goal.place_in-requires
place_in-requires c = refl
