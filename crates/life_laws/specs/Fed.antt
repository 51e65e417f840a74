-- Rounds of posts between the last lives of slots, until none is delivered.
use Rattle.std.specs.Prelude.{◌≡◌, ℕ, ◌+◌, List, [], ◌∷◌, ◌++◌, codes, drop, length, map, Option, None, Some, take}
use Rattle.std.specs.Option.{option_map}
use Rattle.widget_meaning.specs.Limits.{max_posts}
use Rattle.widget_meaning.specs.OwnState.{OwnState, Post as Kept}
use Rattle.widget_meaning.specs.Items.{Item, Occurs}
use Rattle.widget_meaning.specs.Alone.{Content, alone}
use Rattle.post_rounds.specs.declared.posts.Post.{Post}
use Rattle.post_rounds.specs.News.{news}

-- What the last life of a slot was given so far, by the trace and by rounds, and how many of its posts rounds have taken.
pub record Fed : Type 0 where
  pub content : Content
  pub grant : ℕ
  pub items : List Item
  pub told : ℕ

-- its own state: that of its widget by itself
abbrev pub state : Fed → OwnState
state f = alone f.content f.grant f.items

-- a post that a widget keeps
abbrev pub post_of : Kept → Post
post_of p = record { to = p.receiver; text = p.text }

-- the posts that a widget has made, of which it keeps no more than so many
abbrev pub posts_of : OwnState → List Post
posts_of o = map post_of (take max_posts o.posts)

-- those of a slot that no round has taken; a slot that is refused has none
abbrev pub fresh_of : Option Fed → List Post
fresh_of None = []
fresh_of (Some f) = drop f.told (posts_of (state f))

-- of all slots
abbrev pub fresh : List (Option Fed) → List (List Post)
fresh fs = map fresh_of fs

-- a post as an event of its receiver
abbrev pub event_of : List ℕ → Item
event_of value = Occurs (record { kind = codes "post"; path = []; value = Some value })

-- a life is given the events of a round, and its fresh posts are taken
abbrev pub fed_on : List (List ℕ) → Fed → Fed
fed_on values f = record f { items = f.items ++ map event_of values; told = f.told + length (fresh_of (Some f)) }

-- between slots with these channels (pairs of their numbers, the sender first) and these names
module _ (channels : List (ℕ × ℕ)) (names : List (List ℕ)) where
  -- the slots from a number on after a round of these posts
  abbrev pub round_from : List (List Post) → ℕ → List (Option Fed) → List (Option Fed)
  round_from posts w [] = []
  round_from posts w (f ∷ fs) = option_map (fed_on (news channels names posts w)) f ∷ round_from posts (w + 1) fs

  -- all slots after a round
  abbrev pub round : List (Option Fed) → List (Option Fed)
  round fs = round_from (fresh fs) 0 fs

  -- a round of these posts delivers nothing to the slots from a number on
  abbrev pub AreQuiet : List (List Post) → ℕ → List (Option Fed) → Type 0
  AreQuiet posts w [] = Unit {0}
  AreQuiet posts w (None ∷ fs) = AreQuiet posts (w + 1) fs
  AreQuiet posts w (Some f ∷ fs) = (news channels names posts w ≡ []) × AreQuiet posts (w + 1) fs

  -- the next round delivers nothing
  abbrev pub IsQuiet : List (Option Fed) → Type 0
  IsQuiet fs = AreQuiet (fresh fs) 0 fs

  -- rounds one after the other, up to the first that delivers nothing
  pub data RoundsTo : List (Option Fed) → List (Option Fed) → Type 0 where
    ended : {fs : List (Option Fed)} → IsQuiet fs → RoundsTo fs fs
    again : {fs gs : List (Option Fed)} → (IsQuiet fs → ⊥) → RoundsTo (round fs) gs → RoundsTo fs gs
