-- A post to a name that no slot has is dropped.
use Rattle.std.proofs.Common.{◌≡◌, ℕ, ◌+◌, ◌<◌, Bool, false, cond, if◌then◌else◌, List, [], ◌∷◌, ◌++◌, map, length, sym, ◌∙◌, ap}
use Rattle.std.proofs.lemmas.List.{get_or_default}
use Rattle.std.proofs.lemmas.List.Elements.{filter-append}
use Rattle.std.proofs.lemmas.Slice.Eq.{bytes_eq-Decides}
use Rattle.std.specs.List.{Contains, filter}
use Rattle.post_rounds.specs.declared.posts.Post.{Post}
use Rattle.post_rounds.specs.News.{heard, is_declared, is_to, name, news, news_from, value_of}
use Rattle.post_rounds.proofs.Tests.{fails}

-- the slot has another name
unnamed : (w : ℕ) (names : List (List ℕ)) (post : Post) → w < length names → ¬ Contains names post.to → is_to (name names w) post ≡ false
unnamed w names post in_w absent =
    fails (is_to (name names w) post) (λ met. absent (w, in_w, get_or_default names w post.to [] in_w ∙ (bytes_eq-Decides (name names w) post.to).0 met))

without : (t : Post → Bool) (sooner later : List Post) (post : Post) → t post ≡ false → filter t (sooner ++ post ∷ later) ≡ filter t (sooner ++ later)
without t sooner later post fails =
    filter-append t sooner (post ∷ later) ∙ (ap (λ b. filter t sooner ++ cond b (post ∷ filter t later) (filter t later)) fails ∙ sym (filter-append t sooner later))

-- two lists of posts of one sender of which the slot hears the same
exchanged : (channels : List (ℕ × ℕ)) (names : List (List ℕ)) (w s : ℕ) (before after : List (List Post)) (ps qs : List Post) → filter (is_to (name names w)) ps ≡ filter (is_to (name names w)) qs
    → news_from channels names w s (before ++ ps ∷ after) ≡ news_from channels names w s (before ++ qs ∷ after)
exchanged channels names w s [] after ps qs same =
    ap (λ (kept : List Post). (if is_declared channels s w then map (value_of (name names s)) kept else []) ++ news_from channels names w (s + 1) after) same
exchanged channels names w s (first ∷ before) after ps qs same =
    ap (λ (es : List (List ℕ)). (if is_declared channels s w then heard (name names s) (name names w) first else []) ++ es) (exchanged channels names w (s + 1) before after ps qs same)

pub dropped : (w : ℕ) (channels : List (ℕ × ℕ)) (names : List (List ℕ)) (before after : List (List Post)) (sooner later : List Post) (post : Post) → w < length names → ¬ Contains names post.to
    → news channels names (before ++ (sooner ++ post ∷ later) ∷ after) w ≡ news channels names (before ++ (sooner ++ later) ∷ after) w
dropped w channels names before after sooner later post in_w absent =
    exchanged channels names w 0 before after (sooner ++ post ∷ later) (sooner ++ later) (without (is_to (name names w)) sooner later post (unnamed w names post in_w absent))
