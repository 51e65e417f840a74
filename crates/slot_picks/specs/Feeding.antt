-- Rounds of posts over what is seen of all lives: what the last lives of slots were given, and what a round gives them.
use Rattle.std.specs.Prelude.{◌≡◌, ℕ, ◌+◌, ◌++◌, Bool, true, false, if◌then◌else◌, List, [], ◌∷◌, drop, map, nat_eq, Option, None, Some, slice_get, slice_index_or}
use Rattle.std.specs.List.{list_any}
use Rattle.life_laws.specs.Life.{Seen, due, image}
use Rattle.life_laws.specs.Life as todo
use Rattle.life_laws.specs.Chains.{last_life}
use Rattle.post_rounds.specs.declared.posts.Post.{Post}
use Rattle.life_laws.specs.Fed.{Fed, IsQuiet, event_of, posts_of, round, state}

-- each life has done all that it had
abbrev pub HaveDone : List Seen → Type 0
HaveDone ss = (v : ℕ) (s : Seen) → slice_get ss v ≡ Some s → image s ≡ due s

-- ## What slots were given

-- The last life of a slot has this still to come to: that of its widget by itself on what it was given; and so many of its posts were taken.
pub record IsFed (accepts : ℕ → Bool) (ss : List Seen) (told : List ℕ) (v : ℕ) (f : Fed) : Type 0 where
  pub accepted : accepts v ≡ true
  pub comes : (s : Seen) → slice_get ss v ≡ Some s → due s ≡ state f
  pub taken : slice_get told v ≡ Some f.told

-- where there is one; one that was refused was given nothing
abbrev pub IsLastFed : (ℕ → Bool) → List Seen → List ℕ → ℕ → Option Fed → Type 0
IsLastFed accepts ss told v None = accepts v ≡ false
IsLastFed accepts ss told v (Some f) = IsFed accepts ss told v f

-- so it is of the last life of each slot
abbrev pub AreFed : (ℕ → Bool) → List Seen → List ℕ → List (List ℕ) → List (Option Fed) → Type 0
AreFed accepts ss told [] [] = Unit {0}
AreFed accepts ss told (c ∷ cs) (f ∷ fs) = IsLastFed accepts ss told (last_life c) f × AreFed accepts ss told cs fs
AreFed accepts ss told _ _ = ⊥

-- a life shows the own state of its widget by itself on what it was given
abbrev pub IsLastShown : (ℕ → Bool) → List Seen → ℕ → Option Fed → Type 0
IsLastShown accepts ss v None = accepts v ≡ false
IsLastShown accepts ss v (Some f) = (accepts v ≡ true) × ((s : Seen) → slice_get ss v ≡ Some s → image s ≡ state f)

-- and so does the last life of each slot
abbrev pub AreShown : (ℕ → Bool) → List Seen → List (List ℕ) → List (Option Fed) → Type 0
AreShown accepts ss [] [] = Unit {0}
AreShown accepts ss (c ∷ cs) (f ∷ fs) = IsLastShown accepts ss (last_life c) f × AreShown accepts ss cs fs
AreShown accepts ss _ _ = ⊥

-- ## What a round gives

-- what a call that delivers a round, or nothing where the round is quiet, makes of what the last lives were given
abbrev pub Delivers : Bool → List (ℕ × ℕ) → List (List ℕ) → List (Option Fed) → (List (Option Fed) → Type 0) → Type 0
Delivers false channels names fs WereGiven = IsQuiet channels names fs × WereGiven fs
Delivers true channels names fs WereGiven = (IsQuiet channels names fs → ⊥) × WereGiven (round channels names fs)

-- a life is the last one of some slot
abbrev pub is_last : ℕ → List (List ℕ) → Bool
is_last v cs = list_any (λ c. nat_eq (last_life c) v) cs

-- the posts that are seen of a life
abbrev pub posts_seen : Option Seen → List Post
posts_seen None = []
posts_seen (Some s) = posts_of (image s)

-- those that no round has taken; of a life that was refused none
abbrev pub fresh_at : (ℕ → Bool) → List Seen → List ℕ → ℕ → List Post
fresh_at accepts ss told v = if accepts v then drop (slice_index_or told v 0) (posts_seen (slice_get ss v)) else []

-- of the last life of each slot
abbrev pub fresh_lasts : (ℕ → Bool) → List Seen → List ℕ → List (List ℕ) → List (List Post)
fresh_lasts accepts ss told cs = map (λ c. fresh_at accepts ss told (last_life c)) cs

-- a life with these events more in its queue
abbrev pub given_events : List (List ℕ) → Seen → Seen
given_events values s = record s { queue = s.queue ++ map (λ value. todo.Given (event_of value)) values }

-- lives from a number on with these events more, each by its number
abbrev pub with_more : (ℕ → List (List ℕ)) → ℕ → List Seen → List Seen
with_more more v [] = []
with_more more v (s ∷ ss) = given_events (more v) s ∷ with_more more (v + 1) ss

-- and how many of their posts are taken then
abbrev pub told_more : (ℕ → ℕ) → ℕ → List ℕ → List ℕ
told_more more v [] = []
told_more more v (n ∷ ns) = (n + more v) ∷ told_more more (v + 1) ns

-- the events of a round for a life: those of the slots of which it is the last one
abbrev pub events_for : List (List ℕ) → List (List (List ℕ)) → ℕ → List (List ℕ)
events_for [] es v = []
events_for (c ∷ cs) [] v = []
events_for (c ∷ cs) (e ∷ es) v = (if nat_eq (last_life c) v then e else []) ++ events_for cs es v

-- and how many of its posts are taken
abbrev pub counts_for : List (List ℕ) → List ℕ → ℕ → ℕ
counts_for [] ns v = 0
counts_for (c ∷ cs) [] v = 0
counts_for (c ∷ cs) (n ∷ ns) v = (if nat_eq (last_life c) v then n else 0) + counts_for cs ns v

-- what an accepted life gets
abbrev pub gets : (ℕ → Bool) → List (List ℕ) → List (List (List ℕ)) → ℕ → List (List ℕ)
gets accepts cs es v = if accepts v then events_for cs es v else []

-- no last life that was accepted has an event
abbrev pub AreStill : (ℕ → Bool) → List (List ℕ) → List (List (List ℕ)) → Type 0
AreStill accepts cs es = (w : ℕ) (c : List ℕ) → slice_get cs w ≡ Some c → accepts (last_life c) ≡ true → slice_index_or es w [] ≡ []

-- the sum of some numbers
abbrev pub sum_of : List ℕ → ℕ
sum_of [] = 0
sum_of (n ∷ ns) = n + sum_of ns
