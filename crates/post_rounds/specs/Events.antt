-- Events, and who gets a post.
use Rattle.std.specs.Prelude.{ℕ, Bool, false, ◌&&◌, nat_eq, if◌then◌else◌, List, [], map, Option, Some, None}
use Rattle.std.specs.Str.{bytes_eq}
use Rattle.post_rounds.specs.declared.posts.Post.{Post}
use Rattle.post_rounds.specs.declared.posts.PostEvent.{PostEvent}
use Rattle.post_rounds.specs.News.{heard, is_declared, name}

-- the values of events
abbrev pub values : List PostEvent → List (List ℕ)
values events = map (λ (e : PostEvent). e.value) events

-- what slot w gets of the posts of sender s
abbrev pub sent : List (ℕ × ℕ) → List (List ℕ) → ℕ → ℕ → List Post → List (List ℕ)
sent channels names s w posts = if is_declared channels s w then heard (name names s) (name names w) posts else []

-- a slot has this name
abbrev pub is_named : List ℕ → List ℕ → Bool
is_named to name = bytes_eq name to

-- slot w gets a post of sender s to this name
abbrev pub is_received : List (ℕ × ℕ) → List (List ℕ) → ℕ → ℕ → List ℕ → Bool
is_received channels names s w to = is_declared channels s w && bytes_eq (name names w) to

-- a slot was found, and it is w
abbrev pub is_at : Option ℕ → ℕ → Bool
is_at None w = false
is_at (Some r) w = nat_eq r w
