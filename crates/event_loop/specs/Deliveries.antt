-- Where an event goes.
use Rattle.std.specs.Prelude.{ℕ, zero, suc, ◌<◌, length, Bool, List, [], ◌∷◌, Option, Some, None, if◌then◌else◌, slice_get, option_and_then}
use Rattle.page_nodes.specs.Entries.{Entry, at}
use Rattle.page_tree.specs.Documents.{parent_within}
use Rattle.std.specs.declared.vec.Vec.{Vec}
use Rattle.std.specs.declared.alloc.Global.{Global}
use Rattle.event_loop.specs.declared.around.Loop.{Loop}
use Rattle.event_loop.specs.declared.delivery.Delivered.{Delivered}
use Rattle.event_loop.specs.declared.delivery.Delivered.TheVariants as goes
use Rattle.event_loop.specs.Kept.{listening}
use Rattle.event_loop.specs.Around.{kept}

-- what may be there is a node
abbrev pub IsNodeOf : List Entry → Option ℕ → Type 0
IsNodeOf k None = Unit {0}
IsNodeOf k (Some n) = n < length k

-- the node to which child positions lead
abbrev pub leads : List Entry → Option ℕ → List ℕ → Option ℕ
leads k n [] = n
leads k n (i ∷ is) = leads k (option_and_then (λ m. slice_get (at k m).children i) n) is

-- so many nodes stand at and above a node at most
unfoldable pub most : ℕ
most = 201

-- this node with its functions, if there are some, or else what is found further up
abbrev pub here_or : ℕ → List ℕ → Option (ℕ × List ℕ) → Option (ℕ × List ℕ)
here_or n [] above = above
here_or n (f ∷ fs) above = Some (n, f ∷ fs)

-- the nearest node at or above one that listens to a type, with its functions, within so many steps; trees of widgets are at
-- most 201 high, so `most` steps find it
abbrev pub nearest : ℕ → List Entry → ℕ → Loop → Option ℕ → List ℕ → Option (ℕ × List ℕ)
nearest f k r l None kind = None
nearest zero k r l (Some n) kind = None
nearest (suc f) k r l (Some n) kind = here_or n (listening (kept l n) kind) (nearest f k r l (parent_within k (Some r) n) kind)

-- the same of an answer
abbrev pub found_of : Option (ℕ × Vec ℕ Global) → Option (ℕ × List ℕ)
found_of None = None
found_of (Some (n, fs)) = Some (n, fs.items)

-- where an event goes, as plain data
pub data Goes : Type 0 where
  Gone : Goes
  Miss : Goes
  Silent : Goes
  Turn : ℕ → ℕ → List ℕ → Goes

-- an answer as plain data
abbrev pub delivered_of : Delivered → Goes
delivered_of goes.Gone = Gone
delivered_of goes.Miss = Miss
delivered_of goes.Silent = Silent
delivered_of (goes.Turn target at handlers) = Turn target at handlers.items

-- where it goes from its target
abbrev pub delivered_at : ℕ → Option (ℕ × List ℕ) → Goes
delivered_at target None = Silent
delivered_at target (Some (n, fs)) = Turn target n fs

-- by the target, if there is one
abbrev pub delivered_to : List Entry → ℕ → Loop → Option ℕ → List ℕ → Goes
delivered_to k r l None kind = Miss
delivered_to k r l (Some target) kind = delivered_at target (nearest most k r l (Some target) kind)

-- where an event goes
abbrev pub delivered : List Entry → ℕ → Loop → Bool → List ℕ → List ℕ → Goes
delivered k r l stopped path kind = if stopped then Gone else delivered_to k r l (leads k (Some r) path) kind
