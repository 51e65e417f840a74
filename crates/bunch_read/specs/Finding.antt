-- Nodes that are found.
use Rattle.std.specs.Prelude.{◌≡◌, ℕ, List, [], ◌∷◌, ◌++◌, Bool, true, false, not, Option, None, Some, if◌then◌else◌, map, nat_eq}
use Rattle.std.specs.List.{IsDistinct, filter}
use Rattle.query_grammar.specs.Finds.{has_number}
use Rattle.query_grammar.specs.Steps.{Step}
use Rattle.widget_meaning.specs.BunchReads.{is_next}
use Rattle.widget_meaning.specs.OwnState.{State, kept_at}
use Rattle.page_tree.specs.declared.page.Page.{Page}
use Rattle.page_image.specs.Image.{number, owns}

-- whether the first step of a query goes to the next sibling
abbrev pub begins_next : List Step → Bool
begins_next [] = false
begins_next (q ∷ qs) = is_next q.hunter

-- a number behind others, where it is there and not among them
abbrev pub added : List ℕ → Option ℕ → List ℕ
added xs None = xs
added xs (Some y) = if has_number xs y then xs else xs ++ y ∷ []

-- Nodes of a widget that differ.
pub record AreApart (p : Page) (w : ℕ) (ns : List ℕ) : Type 0 where
  pub own : (n : ℕ) → has_number ns n ≡ true → owns p w n ≡ true
  pub apart : IsDistinct nat_eq ns

-- Those of some nodes of a widget that are not protected.
pub record Opens (p : Page) (w : ℕ) (s : State) (list ns : List ℕ) : Type 0 where
  pub image : map (number p w) ns ≡ filter (λ n. not (kept_at s n).is_protected) (map (number p w) list)
  pub own : (n : ℕ) → has_number ns n ≡ true → owns p w n ≡ true
