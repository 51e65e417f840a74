-- What `splice` takes out and leaves, as a widget sees it.
use Rattle.std.proofs.Common.{◌≡◌, ℕ, ◌+◌, List, ◌++◌, drop, sym, ap, ◌∙◌, subst, arith, take}
use Rattle.std.specs.Prelude.{◌-◌, slice_range}
use Rattle.std.proofs.lemmas.List.{drop-map, map-append, take-map}
use Rattle.store_cells.specs.declared.value.Value.{Value as StoreValue}
use Rattle.store_cells.specs.Cells.{PlainCell}
use Rattle.widget_meaning.specs.Values.{Value}
use Rattle.js_image.specs.Held.{AreFine, IsFine}
use Rattle.js_image.specs.Image.{all_seen, seen}
use Rattle.list_methods.proofs.Lists.{all_left, all_more, all_taken}

module _ (w : ℕ) (cells : List PlainCell) (all : List StoreValue) (at count : ℕ) where
  pub taken_seen : (els : List Value) (taken : List StoreValue) → all_seen w cells all ≡ els → taken ≡ slice_range all at (at + count) → take count (drop at els) ≡ all_seen w cells taken
  taken_seen els taken h is =
      let many : count ≡ (at + count) - at = omega arith in
      ap (λ l. take count (drop at l)) (sym h)
      ∙ (λ j. take (many j) (drop-map (seen w cells) at all j))
      ∙ take-map (seen w cells) ((at + count) - at) (drop at all)
      ∙ ap (all_seen w cells) (sym is)

  pub taken_fine : (taken : List StoreValue) → AreFine w cells all → taken ≡ slice_range all at (at + count) → AreFine w cells taken
  taken_fine taken h is = subst (AreFine w cells) (sym is) (all_taken (IsFine w cells) ((at + count) - at) (drop at all) (all_left (IsFine w cells) at all h))

  module _ (new left : List StoreValue) (is : left ≡ take at all ++ (new ++ drop (at + count) all)) where
    pub left_seen : (els : List Value) → all_seen w cells all ≡ els → take at els ++ (all_seen w cells new ++ drop (at + count) els) ≡ all_seen w cells left
    left_seen els h =
        (λ j. take at (sym h j) ++ (all_seen w cells new ++ drop (at + count) (sym h j)))
        ∙ (λ j. take-map (seen w cells) at all j ++ (all_seen w cells new ++ drop-map (seen w cells) (at + count) all j))
        ∙ ap (λ l. all_seen w cells (take at all) ++ l) (sym (map-append (seen w cells) new (drop (at + count) all)))
        ∙ sym (map-append (seen w cells) (take at all) (new ++ drop (at + count) all))
        ∙ ap (all_seen w cells) (sym is)

    pub left_fine : AreFine w cells all → AreFine w cells new → AreFine w cells left
    left_fine h g = subst (AreFine w cells) (sym is) (all_more (IsFine w cells) (take at all) (new ++ drop (at + count) all) (all_taken (IsFine w cells) at all h) (all_more (IsFine w cells) new (drop (at + count) all) g (all_left (IsFine w cells) (at + count) all h)))
