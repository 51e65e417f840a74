use Rattle.std.proofs.Common.{◌≡◌, ℕ, List, length, filter}
use Rattle.store_cells.specs.Arrays.{is_below}
use Rattle.store_cells.specs.Holes.{IsFull}
use Rattle.store_cells.specs.Numbered.{found_in, live, name_at, noted_below, references_in}
use Rattle.store_cells.specs.Shape.{IsIndexed, Known}
use Rattle.store_cells.proofs.pairs.cut.Given as goal

abbrev pub invariant-loop-k : goal.invariant-loop-k
invariant-loop-k l = record {
  full : IsFull l.holes l.table.entries;
  elements : noted_below l.n l.elements ≡ noted_below l.n l.initial.elements;
  entries : (names : List (List ℕ)) → Known (length names) (live l.initial.table.entries) → IsIndexed names (found_in l.initial.elements) (live l.initial.table.entries)
      → Known (length names) (live l.table.entries) × IsIndexed names (found_in l.elements) (live l.table.entries)
      × (filter (λ e. is_below l.n (name_at names e.0)) (live l.table.entries) ≡ filter (λ e. is_below l.n (name_at names e.0)) (live l.initial.table.entries));
  count : (names : List (List ℕ)) → Known (length names) (live l.initial.table.entries) → IsIndexed names (found_in l.initial.elements) (live l.initial.table.entries)
      → l.initial.count ≡ references_in names (live l.initial.table.entries) → l.count ≡ references_in names (live l.table.entries);
}

abbrev pub decreases-loop-k : goal.decreases-loop-k
decreases-loop-k l = length l.elements
