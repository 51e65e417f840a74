-- The laws of the cut.
use Rattle.std.proofs.Common.{ℕ, List}
use Rattle.life_split.specs.declared.items.LifeItem.{LifeItem}
use Rattle.life_split.specs.CutLaws.{CutLaws}
use Rattle.life_split.proofs.Spans.{all_given, count, ends, whole}
use Rattle.life_split.proofs.Holding.{never, once}

pub cut_laws : (w : ℕ) (items : List LifeItem) → CutLaws w items
cut_laws w items = record {
  whole = whole w items;
  all_given = all_given w items;
  once = λ k i at stays. once w k items i at stays;
  never = λ k i at swaps. never w k items i at swaps;
  ends = ends w items;
  count = count w items;
}
