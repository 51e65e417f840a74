-- Lives that are found one after the other.
use Rattle.std.specs.Prelude.{ℕ, ◌+◌, if◌then◌else◌, List, [], ◌∷◌, ◌++◌, Option, Some, None}
use Rattle.std.specs.Option.{unwrap_or}
use Rattle.life_split.specs.declared.items.Life.{Life}
use Rattle.life_split.specs.declared.items.LifeItem.{LifeItem}
use Rattle.life_split.specs.Cut.{is_swap}

-- where the life after these begins
abbrev pub next_from : List Life → ℕ
next_from [] = 0
next_from (life ∷ []) = unwrap_or life.until 0
next_from (first ∷ life ∷ lives) = next_from (life ∷ lives)

-- with one life more, which ends here
abbrev pub with_life : ℕ → Option ℕ → List Life → List Life
with_life to until lives = lives ++ record { from = next_from lives; to = to; until = until } ∷ []

-- with the last life
abbrev pub with_last : ℕ → List Life → List Life
with_last end lives = with_life end None lives

-- what an item at this position leaves of the lives of slot w
abbrev pub cut_on : ℕ → ℕ → LifeItem → List Life → List Life
cut_on w at item lives = if is_swap w item then with_life at (Some (at + 1)) lives else lives
