-- The laws of a round.
use Rattle.std.proofs.Common.{ℕ, List}
use Rattle.post_rounds.specs.declared.posts.Post.{Post}
use Rattle.post_rounds.specs.RoundLaws.{CountLaws, DropLaws, EventLaws, SenderLaws}
use Rattle.post_rounds.proofs.Listing.{alone, no_channel, no_posts}
use Rattle.post_rounds.proofs.Coming.{comes, quiet, reaches}
use Rattle.post_rounds.proofs.Dropping.{dropped}
use Rattle.post_rounds.proofs.Counting.{events}

pub sender_laws : (w : ℕ) (channels : List (ℕ × ℕ)) (names : List (List ℕ)) (fresh : List (List Post)) → SenderLaws w channels names fresh
sender_laws w channels names fresh = record {
  alone = λ channels' names' fresh' h. alone w channels channels' names names' fresh fresh' h;
  no_channel = λ h. no_channel w channels names fresh h;
}

pub event_laws : (w : ℕ) (channels : List (ℕ × ℕ)) (names : List (List ℕ)) (fresh : List (List Post)) → EventLaws w channels names fresh
event_laws w channels names fresh = record {
  reaches = λ p. reaches w channels names fresh p;
  comes = λ v h. comes w channels names fresh v h;
  quiet = λ h. quiet w channels names fresh h;
  no_posts = λ h. no_posts w channels names fresh h;
}

pub drop_laws : (w : ℕ) (channels : List (ℕ × ℕ)) (names : List (List ℕ)) (before after : List (List Post)) (sooner later : List Post) (post : Post) → DropLaws w channels names before after sooner later post
drop_laws w channels names before after sooner later post = record { dropped = λ in_w absent. dropped w channels names before after sooner later post in_w absent }

pub count_laws : (channels : List (ℕ × ℕ)) (names : List (List ℕ)) (fresh : List (List Post)) → CountLaws channels names fresh
count_laws channels names fresh = record { events = λ distinct. events channels names fresh distinct }
