-- A pick of a life.
use Rattle.std.specs.Prelude.{◌≡◌, ℕ, ◌+◌, ◌-◌, ◌<◌, ◌≤◌, ◌++◌, List, Option, None, Some, codes, true}
use Rattle.widget_meaning.specs.Values.{Text, Value}
use Rattle.life_laws.specs.Life.{ready, weight}
use Rattle.life_laws.specs.declared.entry.Picked.{Picked}
use Rattle.life_laws.specs.Picks.{Picks}
use Rattle.native_image.specs.declared.handed.Shared.{Shared}
use Rattle.life_queue.specs.declared.life.Life.{Life}
use Rattle.life_queue.specs.Lives.{life_seen}
use Rattle.life_queue.specs.Fine.{FineLife, tally}

-- a value as a text
abbrev pub text_in : Value → Option (List ℕ)
text_in (Text t) = Some t
text_in v = None

-- a property as a text
abbrev pub own_text_in : Option Value → Option (List ℕ)
own_text_in None = None
own_text_in (Some v) = text_in v

-- a name and a message, where both are there
abbrev pub both_texts : Option (List ℕ) → Option (List ℕ) → List ℕ
both_texts (Some x) (Some m) = x ++ (codes ": " ++ m)
both_texts x m = codes "[object]"

-- a life whose turn spent so much of its grant that this is left
abbrev pub spent_to : ℕ → Life → Life
spent_to left l = record l { records = record l.records { spent = l.records.spent + (l.grant - left) } }

-- A life was picked with k units: what is seen of it is a pick by its answer, what is left weighs less where it was ready, and it is sound.
pub record PicksLife (h m : Shared) (w k : ℕ) (r : Picked) (a b : Life) : Type 0 where
  pub picks : Picks k r (life_seen h w a) (life_seen m w b)
  pub fine : FineLife m w b
  pub lighter : ready (life_seen h w a) ≡ true → weight (life_seen m w b) < weight (life_seen h w a)
  pub counted : tally m w b ≤ tally h w a
