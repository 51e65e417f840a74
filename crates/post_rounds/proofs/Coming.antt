-- Each fresh post of a listed sender is an event, and each event is one of these.
use Rattle.std.proofs.Common.{◌≡◌, ℕ, zero, suc, ◌+◌, Bool, true, false, if◌then◌else◌, List, [], ◌∷◌, get_or, refl, sym, subst, inl, inr, arith}
use Rattle.std.proofs.lemmas.Slice.Eq.{bytes_eq-Decides}
use Rattle.std.specs.List.{Contains, filter}
use Rattle.post_rounds.specs.declared.posts.Post.{Post}
use Rattle.post_rounds.specs.News.{heard, is_declared, is_to, name, news, news_from, value_of}
use Rattle.post_rounds.specs.Events.{sent}
use Rattle.post_rounds.specs.RoundLaws.{Posted, posted_value, posts_of}
use Rattle.post_rounds.proofs.Members.{In, contains_from_in, empty, in_append, in_filter, in_filter_back, in_from_contains, in_left, in_map, in_map_back, in_right}

module _ (w : ℕ) (channels : List (ℕ × ℕ)) (names : List (List ℕ)) where
  reaches_sent : (s : ℕ) (post : Post) (posts : List Post) → is_declared channels s w ≡ true → name names w ≡ post.to → In post posts → In (value_of (name names s) post) (sent channels names s w posts)
  reaches_sent s post posts listed to at =
      let passes : is_to (name names w) post ≡ true = (bytes_eq-Decides (name names w) post.to).1 to in
      subst (λ b. In (value_of (name names s) post) (if b then heard (name names s) (name names w) posts else [])) (sym listed)
      (in_map (value_of (name names s)) post (filter (is_to (name names w)) posts) (in_filter (is_to (name names w)) post posts passes at))

  reaches_from : (s i j : ℕ) (fresh : List (List Post)) (post : Post) → s + i ≡ j → is_declared channels j w ≡ true → name names w ≡ post.to → In post (get_or fresh i [])
      → In (value_of (name names j) post) (news_from channels names w s fresh)
  reaches_from s i j [] post e listed to at = absurd at
  reaches_from s zero j (ps ∷ qs) post e listed to at =
      let same : j ≡ s = omega arith in
      subst (λ n. In (value_of (name names n) post) (news_from channels names w s (ps ∷ qs))) (sym same)
      (in_left (value_of (name names s) post) (sent channels names s w ps) (news_from channels names w (s + 1) qs) (reaches_sent s post ps (subst (λ n. is_declared channels n w ≡ true) same listed) to at))
  reaches_from s (suc i) j (ps ∷ qs) post e listed to at =
      in_right (value_of (name names j) post) (sent channels names s w ps) (news_from channels names w (s + 1) qs) (reaches_from (s + 1) i j qs post (omega arith) listed to at)

  -- An event is that of a post.
  record Comes (s : ℕ) (fresh : List (List Post)) (v : List ℕ) : Type 0 where
    at : ℕ
    sender : ℕ
    post : Post
    number : s + at ≡ sender
    listed : is_declared channels sender w ≡ true
    fresh_post : In post (get_or fresh at [])
    to : name names w ≡ post.to
    value : value_of (name names sender) post ≡ v

  comes_heard : (s : ℕ) (v : List ℕ) (ps : List Post) (qs : List (List Post)) (b : Bool) → is_declared channels s w ≡ b → In v (if b then heard (name names s) (name names w) ps else []) → Comes s (ps ∷ qs) v
  comes_heard s v ps qs true listed h =
      let mapped = in_map_back (value_of (name names s)) v (filter (is_to (name names w)) ps) h in
      let kept = in_filter_back (is_to (name names w)) mapped.0 ps mapped.1 in
      record { at = 0; sender = s; post = mapped.0; number = omega arith; listed = listed; fresh_post = kept.0; to = (bytes_eq-Decides (name names w) mapped.0.to).0 kept.1; value = mapped.2 }
  comes_heard s v ps qs false listed h = absurd h

  comes_later : (s : ℕ) (v : List ℕ) (ps : List Post) (qs : List (List Post)) → Comes (s + 1) qs v → Comes s (ps ∷ qs) v
  comes_later s v ps qs h = record { at = suc h.at; sender = h.sender; post = h.post; number = omega (arith, h.number); listed = h.listed; fresh_post = h.fresh_post; to = h.to; value = h.value }

  comes_from : (s : ℕ) (fresh : List (List Post)) (v : List ℕ) → In v (news_from channels names w s fresh) → Comes s fresh v
  comes_from s [] v h = absurd h
  comes_from s (ps ∷ qs) v h =
      elim (in_append v (sent channels names s w ps) (news_from channels names w (s + 1) qs) h) as (λ _. Comes s (ps ∷ qs) v) [
        | inl here ↦ comes_heard s v ps qs (is_declared channels s w) refl here
        | inr there ↦ comes_later s v ps qs (comes_from (s + 1) qs v there)
      ]

  pub reaches : (fresh : List (List Post)) (p : Posted channels names fresh w) → Contains (news channels names fresh w) (posted_value channels names fresh w p)
  reaches fresh p = contains_from_in (value_of (name names p.sender) p.post) (news channels names fresh w)
      (reaches_from 0 p.sender p.sender fresh p.post (omega arith) p.listed p.to (in_from_contains p.post (posts_of fresh p.sender) p.is_fresh))

  posted : (fresh : List (List Post)) (v : List ℕ) → Comes 0 fresh v → (p : Posted channels names fresh w) × (v ≡ posted_value channels names fresh w p)
  posted fresh v h =
      let same : h.at ≡ h.sender = omega (arith, h.number) in
      (record { sender = h.sender; post = h.post; listed = h.listed; is_fresh = contains_from_in h.post (posts_of fresh h.sender) (subst (λ n. In h.post (get_or fresh n [])) same h.fresh_post); to = h.to }, sym h.value)

  pub comes : (fresh : List (List Post)) (v : List ℕ) → Contains (news channels names fresh w) v → (p : Posted channels names fresh w) × (v ≡ posted_value channels names fresh w p)
  comes fresh v h = posted fresh v (comes_from 0 fresh v (in_from_contains v (news channels names fresh w) h))

  pub quiet : (fresh : List (List Post)) → ¬ Posted channels names fresh w → news channels names fresh w ≡ []
  quiet fresh no_one = empty (news channels names fresh w) (λ v h. no_one ((posted fresh v (comes_from 0 fresh v h)).0))
