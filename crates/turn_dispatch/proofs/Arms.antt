-- What is done with a level, arm by arm.
use Rattle.std.proofs.Common.{◌≡◌, ℕ, zero, suc, ◌<◌, true, List, [], ◌∷◌, length, refl, sym, ap, ◌∙◌, subst, arith}
use Rattle.std.specs.Prelude.{get_or}
use Rattle.std.specs.List.{AllByRecursion}
use Rattle.std.proofs.lemmas.List.{get_or-map}
use Rattle.store_cells.specs.declared.value.Value.TheVariants as value
use Rattle.store_cells.specs.Cells.{PlainCell, own_count}
use Rattle.widget_meaning.specs.Values.{Own}
use Rattle.page_tree.specs.declared.page.Page.{Page}
use Rattle.page_image.specs.Image.{owns}
use Rattle.js_image.specs.Held.{IsHeld}
use Rattle.js_image.specs.Image.{seen}
use Rattle.native_image.specs.Sound.{IsOwnCell}
use Rattle.turn_dispatch.specs.declared.level.Hearing.{Hearing}
use Rattle.turn_dispatch.specs.Held.{FineHearing}
use Rattle.turn_dispatch.specs.Levels.{functions_of}
use Rattle.turn_dispatch.proofs.Stays.{own_held, own_seen}

each_at : (P : ℕ → Type 0) (xs : List ℕ) (i d : ℕ) → i < length xs → AllByRecursion P xs → P (get_or xs i d)
each_at P [] i d lt h = absurd (omega (arith, lt))
each_at P (x ∷ xs) zero d lt h = h.0
each_at P (x ∷ xs) (suc i) d lt h = each_at P xs i d (omega (arith, lt)) h.1

-- an element of a list by any default
pub same_at : (xs : List ℕ) (i d e : ℕ) → i < length xs → get_or xs i d ≡ get_or xs i e
same_at [] i d e lt = absurd (omega (arith, lt))
same_at (x ∷ xs) zero d e lt = refl
same_at (x ∷ xs) (suc i) d e lt = same_at xs i d e (omega (arith, lt))

-- a handler by its number
module _ (w : ℕ) (cells : List PlainCell) (p : Page) (h : Hearing) (n f : ℕ) (lt : n < length h.handlers.items) (is : f ≡ get_or h.handlers.items n f) (fine : FineHearing w cells p h) where
  handler_own : IsOwnCell w cells f
  handler_own = subst (IsOwnCell w cells) (sym is) (each_at (IsOwnCell w cells) h.handlers.items n f lt fine.handlers)

  pub handler_held : IsHeld w cells f
  handler_held = own_held w cells f handler_own

  pub handler_seen : seen w cells (value.Ref f) ≡ Own (get_or (functions_of w cells p h) n 0)
  handler_seen = own_seen w cells f handler_own ∙ ap Own (ap (own_count w cells) is ∙ sym (get_or-map (own_count w cells) h.handlers.items n f 0 lt))

-- a node by its number is the widget's
pub node_own : (p : Page) (w : ℕ) (ns : List ℕ) (n d : ℕ) → n < length ns → AllByRecursion (λ m. owns p w m ≡ true) ns → owns p w (get_or ns n d) ≡ true
node_own p w ns n d lt h = each_at (λ m. owns p w m ≡ true) ns n d lt h
