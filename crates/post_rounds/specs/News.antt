-- One round of posts: what each slot gets of the posts that were made since the round before.
use Rattle.std.specs.Prelude.{ℕ, ◌+◌, Bool, ◌&&◌, nat_eq, if◌then◌else◌, List, [], ◌∷◌, ◌++◌, map, length, slice_index_or}
use Rattle.std.specs.Str.{bytes_eq}
use Rattle.std.specs.List.{filter, list_any, range_with_len}
use Rattle.post_rounds.specs.declared.posts.Post.{Post}

-- the name of a slot
abbrev pub name : List (List ℕ) → ℕ → List ℕ
name names w = slice_index_or names w []

-- the pair of this sender and this receiver is one of the channels
abbrev pub is_declared : List (ℕ × ℕ) → ℕ → ℕ → Bool
is_declared channels s w = list_any (λ (c : ℕ × ℕ). nat_eq c.0 s && nat_eq c.1 w) channels

-- a post is to the slot of this name
abbrev pub is_to : List ℕ → Post → Bool
is_to receiver post = bytes_eq receiver post.to

-- the value of a post's event: the sender's name, a space and the text
abbrev pub value_of : List ℕ → Post → List ℕ
value_of sender post = sender ++ 32 ∷ post.text

-- what a receiver gets of a listed sender, in the order of posting
abbrev pub heard : List ℕ → List ℕ → List Post → List (List ℕ)
heard sender receiver posts = map (value_of sender) (filter (is_to receiver) posts)

-- what slot w gets of the senders from number s on, whose posts these are: first of s
abbrev pub news_from : List (ℕ × ℕ) → List (List ℕ) → ℕ → ℕ → List (List Post) → List (List ℕ)
news_from channels names w s [] = []
news_from channels names w s (posts ∷ fresh) =
    (if is_declared channels s w then heard (name names s) (name names w) posts else []) ++ news_from channels names w (s + 1) fresh

-- the values of the events that slot w gets in a round, from the fresh posts of each slot
abbrev pub news : List (ℕ × ℕ) → List (List ℕ) → List (List Post) → ℕ → List (List ℕ)
news channels names fresh w = news_from channels names w 0 fresh

-- what all slots get
abbrev pub all_news : List (ℕ × ℕ) → List (List ℕ) → List (List Post) → List (List (List ℕ))
all_news channels names fresh = map (news channels names fresh) (range_with_len 0 (length names))
