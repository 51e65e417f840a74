-- Posts that lives keep, and the events of a round in the queues of lives.
use Rattle.std.specs.Prelude.{◌≡◌, ℕ, ◌+◌, ◌++◌, Bool, true, false, if◌then◌else◌, List, [], ◌∷◌, drop, length, map, take, slice_get, Option, None, Some}
use Rattle.post_rounds.specs.declared.posts.Post.{Post}
use Rattle.post_rounds.specs.News.{all_news}
use Rattle.widget_meaning.specs.Items.{Occurs}
use Rattle.widget_meaning.specs.Limits.{max_posts}
use Rattle.life_laws.specs.Fed.{Fed, event_of}
use Rattle.life_laws.specs.Chains.{last_life}
use Rattle.life_queue.specs.declared.life.Work.{Work}
use Rattle.life_queue.specs.declared.life.Work.TheVariants as work
use Rattle.life_queue.specs.Lives as lives
use Rattle.slot_picks.specs.declared.lives.Place.{Place}
use Rattle.native_image.specs.declared.handed.Shared.{Shared}
use Rattle.slot_picks.specs.Places.{is_accepted, seens_from, told_of}
use Rattle.slot_picks.specs.Feeding.{AreFed, AreStill, Delivers, HaveDone, counts_for, events_for}

-- a kept post, by receiver and text
abbrev pub post_in : List ℕ × List ℕ → Post
post_in p = record { to = p.0; text = p.1 }

-- the posts of a life that no round has taken; of one that was refused none
abbrev pub fresh_in : Place → List Post
fresh_in p = if p.life.accepted then drop p.told (map post_in (take max_posts p.life.widget.posts.items)) else []

-- of the life at a number
abbrev pub fresh_of_life : Option Place → List Post
fresh_of_life None = []
fresh_of_life (Some p) = fresh_in p

-- and of the last life of each slot
abbrev pub fresh_of_lasts : List Place → List (List ℕ) → List (List Post)
fresh_of_lasts ps cs = map (λ c. fresh_of_life (slice_get ps (last_life c))) cs

-- a work is the event of a post
abbrev pub IsEvent : List ℕ → Work → Type 0
IsEvent value (work.Event e) = Occurs (lives.event_of e) ≡ event_of value
IsEvent value _ = ⊥

-- and so many are
abbrev pub AreEvents : List (List ℕ) → List Work → Type 0
AreEvents [] [] = Unit {0}
AreEvents (v ∷ vs) (x ∷ xs) = IsEvent v x × AreEvents vs xs
AreEvents _ _ = ⊥

-- A queue has these events more, behind all others.
pub record HasEvents (vs : List (List ℕ)) (old new : List Work) : Type 0 where
  pub works : List Work
  pub queue : new ≡ old ++ works
  pub are : AreEvents vs works

-- a life is as it was but for its queue and how many of its posts are taken
abbrev pub IsAlike : Place → Place → Type 0
IsAlike old new = new ≡ record old { life = record old.life { queue = new.life.queue }; told = new.told }

-- and so lives are
abbrev pub AreAlike : List Place → List Place → Type 0
AreAlike [] [] = Unit {0}
AreAlike (l ∷ ls) (m ∷ ms) = IsAlike l m × AreAlike ls ms
AreAlike _ _ = ⊥

-- A life has these events more, and so many more of its posts are taken.
pub record HasRound (vs : List (List ℕ)) (n : ℕ) (old new : Place) : Type 0 where
  pub events : HasEvents vs old.life.queue.items new.life.queue.items
  pub told : new.told ≡ old.told + n
  pub alike : IsAlike old new

-- and so have the lives from a number on, each those of its number, of which one that was refused has no event
abbrev pub HaveRound : (ℕ → List (List ℕ)) → (ℕ → ℕ) → ℕ → List Place → List Place → Type 0
HaveRound more counts v [] [] = Unit {0}
HaveRound more counts v (l ∷ ls) (m ∷ ms) = HasRound (if l.life.accepted then more v else []) (counts v) l m × HaveRound more counts (v + 1) ls ms
HaveRound more counts v _ _ = ⊥

-- A round of these posts: where it gives no accepted last life an event, nothing changes; else they have their events, and their fresh posts are taken.
abbrev pub IsRound : Bool → List (ℕ × ℕ) → List (List ℕ) → List (List ℕ) → List Place → List Place → Type 0
IsRound false channels names cs old new = AreStill (is_accepted old) cs (all_news channels names (fresh_of_lasts old cs)) × (new ≡ old)
IsRound true channels names cs old new =
    (AreStill (is_accepted old) cs (all_news channels names (fresh_of_lasts old cs)) → ⊥)
    × HaveRound (events_for cs (all_news channels names (fresh_of_lasts old cs))) (counts_for cs (map length (fresh_of_lasts old cs))) 0 old new

-- the last lives of slots were given this
abbrev pub WereGiven : Shared → List (List ℕ) → List Place → List (Option Fed) → Type 0
WereGiven h cs ps fs = AreFed (is_accepted ps) (seens_from h 0 ps) (told_of ps) cs fs

-- Lives that were given so much, and have done it, are given one round more.
abbrev pub GivesRound : Bool → List (ℕ × ℕ) → List (List ℕ) → List (List ℕ) → List Place → List Place → Type 0
GivesRound delivered channels names cs old new =
    (h : Shared) (fs : List (Option Fed)) → HaveDone (seens_from h 0 old) → WereGiven h cs old fs → Delivers delivered channels names fs (WereGiven h cs new)
