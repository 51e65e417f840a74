-- The laws of the cut.
use Rattle.std.proofs.Common.{ℕ, List, refl}
use Rattle.slot_lives.specs.LifeLaws.{LifeLaws}
use Rattle.slot_lives.proofs.Growing.{given, swapped, not_ended, ended, none_ended, none_beyond, no_swap}
use Rattle.slot_lives.proofs.Alike.{others_beyond}

pub life_laws : {A : Type 0} (first : A) (others : List A) (w : ℕ) → LifeLaws first others w
life_laws first others w = record {
  before = refl;
  given = λ items i other. given first others w items i other;
  swapped = λ items i is. swapped first others w items i is;
  not_ended = λ items. not_ended first others w items;
  ended = λ items p i at is. ended first others w items p i at is;
  none_ended = λ items p i at other. none_ended first others w items p i at other;
  none_beyond = λ items p le. none_beyond first others w items p le;
  others_beyond = λ items more few. others_beyond first others more items w few;
  no_swap = λ items none. no_swap first others w items none;
}
