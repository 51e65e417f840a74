-- What a slot gets depends on its listed senders alone.
use Rattle.std.proofs.Common.{◌≡◌, ℕ, suc, ◌+◌, Bool, true, false, if◌then◌else◌, List, [], ◌∷◌, ◌++◌, get_or, refl, sym, ◌∙◌, ap, subst, arith}
use Rattle.post_rounds.specs.declared.posts.Post.{Post}
use Rattle.post_rounds.specs.News.{heard, is_declared, name, news, news_from}
use Rattle.post_rounds.specs.Events.{sent}
use Rattle.post_rounds.specs.RoundLaws.{Agree, posts_of}

-- what is heard of one sender, where it is listed
part : (b : Bool) → List ℕ → List ℕ → List Post → List (List ℕ)
part b sender receiver posts = if b then heard sender receiver posts else []

same_part : (b c : Bool) (sender sender' receiver receiver' : List ℕ) (posts posts' : List Post) → b ≡ c → receiver ≡ receiver' → (b ≡ true → sender ≡ sender') → (b ≡ true → posts ≡ posts')
    → (if b then heard sender receiver posts else []) ≡ (if c then heard sender' receiver' posts' else [])
same_part true true s s' r r' ps ps' e to from posts = λ i. heard (from refl i) (to i) (posts refl i)
same_part true false s s' r r' ps ps' e to from posts = cc
same_part false true s s' r r' ps ps' e to from posts = cc
same_part false false s s' r r' ps ps' e to from posts = refl

no_part : (b : Bool) (sender receiver : List ℕ) → (if b then heard sender receiver [] else []) ≡ []
no_part true s r = refl
no_part false s r = refl

module _ (w : ℕ) (channels channels' : List (ℕ × ℕ)) (names names' : List (List ℕ)) (receiver : name names w ≡ name names' w) (listed : (s : ℕ) → is_declared channels s w ≡ is_declared channels' s w)
    (senders : (s : ℕ) → is_declared channels s w ≡ true → name names s ≡ name names' s) where
  same_sent : (s : ℕ) (posts posts' : List Post) → (is_declared channels s w ≡ true → posts ≡ posts') → sent channels names s w posts ≡ sent channels' names' s w posts'
  same_sent s posts posts' same = same_part (is_declared channels s w) (is_declared channels' s w) (name names s) (name names' s) (name names w) (name names' w) posts posts' (listed s) receiver (senders s) same

  same_from : (s : ℕ) (fresh fresh' : List (List Post)) → ((i j : ℕ) → s + i ≡ j → is_declared channels j w ≡ true → get_or fresh i [] ≡ get_or fresh' i [])
      → news_from channels names w s fresh ≡ news_from channels' names' w s fresh'
  same_from s [] [] same = refl
  same_from s [] (ps ∷ qs) same =
      let here : [] ≡ sent channels' names' s w ps = sym (no_part (is_declared channels s w) (name names s) (name names w)) ∙ same_sent s [] ps (same 0 s (omega arith)) in
      let later : [] ≡ news_from channels' names' w (s + 1) qs = same_from (s + 1) [] qs (λ i j e. same (suc i) j (omega arith)) in
      λ k. here k ++ later k
  same_from s (ps ∷ qs) [] same =
      let here : sent channels names s w ps ≡ [] = same_sent s ps [] (same 0 s (omega arith)) ∙ no_part (is_declared channels' s w) (name names' s) (name names' w) in
      let later : news_from channels names w (s + 1) qs ≡ [] = same_from (s + 1) qs [] (λ i j e. same (suc i) j (omega arith)) in
      λ k. here k ++ later k
  same_from s (ps ∷ qs) (ps' ∷ qs') same =
      let here : sent channels names s w ps ≡ sent channels' names' s w ps' = same_sent s ps ps' (same 0 s (omega arith)) in
      let later : news_from channels names w (s + 1) qs ≡ news_from channels' names' w (s + 1) qs' = same_from (s + 1) qs qs' (λ i j e. same (suc i) j (omega arith)) in
      λ k. here k ++ later k

at_zero : (P : ℕ → Type 0) (i j : ℕ) → 0 + i ≡ j → P j → P i
at_zero P i j e h = let same : j ≡ i = omega arith in subst P same h

pub alone : (w : ℕ) (channels channels' : List (ℕ × ℕ)) (names names' : List (List ℕ)) (fresh fresh' : List (List Post)) → Agree w channels channels' names names' fresh fresh'
    → news channels names fresh w ≡ news channels' names' fresh' w
alone w channels channels' names names' fresh fresh' h =
    same_from w channels channels' names names' h.receiver h.listed h.senders 0 fresh fresh' (λ i j e listed. h.posts i (at_zero (λ n. is_declared channels n w ≡ true) i j e listed))

-- nothing is heard where no sender is listed
silent : (w s : ℕ) (channels : List (ℕ × ℕ)) (names : List (List ℕ)) (fresh : List (List Post)) → ((n : ℕ) → is_declared channels n w ≡ false) → news_from channels names w s fresh ≡ []
silent w s channels names [] h = refl
silent w s channels names (ps ∷ qs) h =
    ap (λ b. (if b then heard (name names s) (name names w) ps else []) ++ news_from channels names w (s + 1) qs) (h s) ∙ silent w (s + 1) channels names qs h

pub no_channel : (w : ℕ) (channels : List (ℕ × ℕ)) (names : List (List ℕ)) (fresh : List (List Post)) → ((n : ℕ) → is_declared channels n w ≡ false) → news channels names fresh w ≡ []
no_channel w channels names fresh h = silent w 0 channels names fresh h

-- nothing is heard where nobody posts
pub no_posts : (w : ℕ) (channels : List (ℕ × ℕ)) (names : List (List ℕ)) (fresh : List (List Post)) → ((s : ℕ) → posts_of fresh s ≡ []) → news channels names fresh w ≡ []
no_posts w channels names fresh h = alone w channels channels names names fresh [] (record { receiver = refl; listed = λ s. refl; senders = λ s listed. refl; posts = λ s listed. h s })
