-- Laws of a round.
use Rattle.std.specs.Prelude.{◌≡◌, ℕ, ◌<◌, ◌≤◌, true, false, List, [], ◌∷◌, ◌++◌, length, slice_index_or}
use Rattle.std.specs.List.{Contains, IsDistinct, sum_by}
use Rattle.std.specs.Str.{bytes_eq}
use Rattle.post_rounds.specs.declared.posts.Post.{Post}
use Rattle.post_rounds.specs.News.{all_news, is_declared, name, news, value_of}

-- the fresh posts of a slot
abbrev pub posts_of : List (List Post) → ℕ → List Post
posts_of fresh s = slice_index_or fresh s []

-- Two rounds that agree on slot w: on its name, on which senders are listed for it, and on their names and their posts.
pub record Agree (w : ℕ) (channels channels' : List (ℕ × ℕ)) (names names' : List (List ℕ)) (fresh fresh' : List (List Post)) : Type 0 where
  pub receiver : name names w ≡ name names' w
  pub listed : (s : ℕ) → is_declared channels s w ≡ is_declared channels' s w
  pub senders : (s : ℕ) → is_declared channels s w ≡ true → name names s ≡ name names' s
  pub posts : (s : ℕ) → is_declared channels s w ≡ true → posts_of fresh s ≡ posts_of fresh' s

-- A fresh post to slot w of a sender that is listed for it.
pub record Posted (channels : List (ℕ × ℕ)) (names : List (List ℕ)) (fresh : List (List Post)) (w : ℕ) : Type 0 where
  pub sender : ℕ
  pub post : Post
  pub listed : is_declared channels sender w ≡ true
  pub is_fresh : Contains (posts_of fresh sender) post
  pub to : name names w ≡ post.to

-- the value of its event
abbrev pub posted_value : (channels : List (ℕ × ℕ)) (names : List (List ℕ)) (fresh : List (List Post)) (w : ℕ) → Posted channels names fresh w → List ℕ
posted_value channels names fresh w p = value_of (name names p.sender) p.post

-- what a slot gets depends on the posts of its listed senders alone, and it gets nothing where no channel leads to it
pub record SenderLaws (w : ℕ) (channels : List (ℕ × ℕ)) (names : List (List ℕ)) (fresh : List (List Post)) : Type 0 where
  pub alone : (channels' : List (ℕ × ℕ)) (names' : List (List ℕ)) (fresh' : List (List Post))
      → Agree w channels channels' names names' fresh fresh' → news channels names fresh w ≡ news channels' names' fresh' w
  pub no_channel : ((s : ℕ) → is_declared channels s w ≡ false) → news channels names fresh w ≡ []

-- each fresh post of a listed sender is an event, and each event is one of these; where there is none, there is no event
pub record EventLaws (w : ℕ) (channels : List (ℕ × ℕ)) (names : List (List ℕ)) (fresh : List (List Post)) : Type 0 where
  pub reaches : (p : Posted channels names fresh w) → Contains (news channels names fresh w) (posted_value channels names fresh w p)
  pub comes : (v : List ℕ) → Contains (news channels names fresh w) v → (p : Posted channels names fresh w) × (v ≡ posted_value channels names fresh w p)
  pub quiet : ¬ Posted channels names fresh w → news channels names fresh w ≡ []
  pub no_posts : ((s : ℕ) → posts_of fresh s ≡ []) → news channels names fresh w ≡ []

-- a post to a name that no slot has is dropped
pub record DropLaws (w : ℕ) (channels : List (ℕ × ℕ)) (names : List (List ℕ)) (before after : List (List Post)) (sooner later : List Post) (post : Post) : Type 0 where
  pub dropped : w < length names → ¬ Contains names post.to
      → news channels names (before ++ (sooner ++ post ∷ later) ∷ after) w ≡ news channels names (before ++ (sooner ++ later) ∷ after) w

-- all slots together get at most one event for each fresh post, where no two slots have one name
pub record CountLaws (channels : List (ℕ × ℕ)) (names : List (List ℕ)) (fresh : List (List Post)) : Type 0 where
  pub events : IsDistinct bytes_eq names → sum_by length (all_news channels names fresh) ≤ sum_by length fresh
