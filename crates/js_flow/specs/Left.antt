-- What a form leaves.
use Rattle.std.specs.Prelude.{◌≡◌, List, [], ◌++◌, Bool, true, false}
use Rattle.js_flow.specs.declared.frame.Frame.{Frame}
use Rattle.js_flow.specs.declared.job.Next.{Next}
use Rattle.js_flow.specs.declared.job.Next.TheVariants as next

-- the frames that were there, those that it put above them, and what is next; the last frame is given to first
pub record Left : Type 0 where
  pub below : List Frame
  pub above : List Frame
  pub next : Next

-- all frames
abbrev pub all_frames : Left → List Frame
all_frames l = l.below ++ l.above

-- these frames were put on all that were there, and this is next
abbrev pub Leaves : Left → Left → List Frame → Next → Type 0
Leaves old new frames n = new ≡ record { below = all_frames old; above = frames; next = n }

-- what is next costs nothing
abbrev pub is_free_next : Next → Bool
is_free_next (next.Begin j) = true
is_free_next (next.Run b p) = true
is_free_next (next.Give o) = true
is_free_next _ = false

-- what is next is a job, a charge, a native or a stop, or no frame is left
abbrev pub IsSettled : Left → Next → Type 0
IsSettled l (next.Go j) = Unit {0}
IsSettled l (next.Pay n) = Unit {0}
IsSettled l (next.Native c) = Unit {0}
IsSettled l (next.Stop c) = Unit {0}
IsSettled l (next.Done o) = all_frames l ≡ []
IsSettled l n = ⊥
