-- What is kept for a widget beside its store that the natives of `ADSAFE` change.
use Rattle.std.specs.Prelude.{ℕ, ℤ, ◌+◌, List, [], ◌∷◌, ◌++◌, Option, None, Some, map}
use Rattle.store_cells.specs.Cells.{PlainCell, own_count}
use Rattle.widget_meaning.specs.OwnState.{OwnState, Post, Timer, with_own}
use Rattle.widget_meaning.specs.AdsafeNatives.{delay}
use Rattle.js_image.specs.Image.{Rest}

-- The log, the posts by receiver and text, and the timer that is asked for by its function and its milliseconds.
pub record Notes : Type 0 where
  pub log : List (List ℕ)
  pub posts : List (List ℕ × List ℕ)
  pub asked : Option (ℕ × ℤ)

-- a kept post
abbrev pub post_of : List ℕ × List ℕ → Post
post_of p = record { receiver = p.0; text = p.1 }

-- the timers of a widget and the one that is asked for, which is due at the clock plus its delay
abbrev pub with_asked : ℕ → List PlainCell → Option (ℕ × ℤ) → OwnState → List Timer
with_asked w cells None o = o.timers
with_asked w cells (Some a) o = o.timers ++ record { due = o.clock + delay a.1; func = own_count w cells a.0 } ∷ []

-- a widget with these notes
abbrev pub with_notes : ℕ → List PlainCell → Notes → OwnState → OwnState
with_notes w cells n o = record o { log = n.log; posts = map post_of n.posts; timers = with_asked w cells n.asked o }

-- what the store does not hold of it, with these notes
abbrev pub noted : ℕ → List PlainCell → Notes → Rest → Rest
noted w cells n r = record { nodes = r.nodes; state = with_own r.state (with_notes w cells n r.state.own); few = r.few }
