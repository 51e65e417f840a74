-- A work that is taken from a queue.
use Rattle.std.specs.Prelude.{◌≡◌, ℕ, ◌+◌, ◌*◌, ◌<◌, ◌≤◌, [], Bool, true, false, is_some}
use Rattle.life_laws.specs.Life.{Same, potential, potentials, started, turn_bound, weight}
use Rattle.widget_meaning.specs.OwnState.{State}
use Rattle.widget_meaning.specs.Plan.{Plan}
use Rattle.life_queue.specs.declared.life.Life.{Life}
use Rattle.life_queue.specs.declared.life.Work.{Work}
use Rattle.native_image.specs.declared.handed.Shared.{Shared}
use Rattle.life_queue.specs.Lives.{life_seen, life_with, own_of, trees_in, work_of, works_of}
use Rattle.life_queue.specs.Fine.{FineLife, most_fuel, tally}

-- A turn of this plan began at a life between turns: it is in progress, what it has to do stands at the life's image, and the life is sound.
pub record Starts (h k : Shared) (w : ℕ) (f : State → Plan) (a b : Life) : Type 0 where
  pub same : Same (started f (own_of h w a) (works_of h w a)) (life_seen k w b)
  pub fine : FineLife k w b
  pub weighs : weight (life_seen k w b) ≤ potentials (works_of h w a) * turn_bound + (most_fuel + 1)
  pub counted : tally k w b ≤ 1 + tally h w a

-- A work was taken, where a life was so: all that there was to do is still to be done, what is left weighs less, and the life is sound.
pub record Takes (h k : Shared) (w : ℕ) (i : Work) (a b : Life) : Type 0 where
  pub same : Same (life_with h w i a) (life_seen k w b)
  pub fine : FineLife k w b
  pub lighter : weight (life_seen k w b) < weight (life_with h w i a)
  pub counted : tally k w b ≤ potential (work_of (trees_in h) i) + tally h w a

-- Works were taken until one began a turn, or none was left.
pub record BeginsTurn (h k : Shared) (w : ℕ) (begun : Bool) (a b : Life) : Type 0 where
  pub same : Same (life_seen h w a) (life_seen k w b)
  pub fine : FineLife k w b
  pub turn : is_some b.turn ≡ begun
  pub empty : begun ≡ false → b.queue.items ≡ []
  pub lighter : begun ≡ true → weight (life_seen k w b) < weight (life_seen h w a)
  pub counted : tally k w b ≤ tally h w a
