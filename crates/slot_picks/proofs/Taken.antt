-- How many posts a round takes.
use Rattle.std.proofs.Common.{◌≡◌, ℕ, zero, suc, ◌+◌, ◌<◌, ◌≤◌, Bool, true, false, List, [], ◌∷◌, map, length, drop, take, refl, sym, ap, ◌∙◌, arith, Option, Some, None, ne_eqb, eq-eqb, inl, inr}
use Rattle.std.specs.Prelude.{slice_get, slice_index_or, nat_eq, if◌then◌else◌}
use Rattle.std.specs.List.{filter, range_with_len}
use Rattle.std.specs.Option.{option_map}
use Rattle.std.proofs.lemmas.Bool.Decides.{eqb_tells}
use Rattle.std.proofs.lemmas.List.{length-append, length-drop, length-map, nil_from_length}
use Rattle.life_laws.specs.Chains.{Chains, last_life}
use Rattle.post_rounds.specs.declared.posts.Post.{Post}
use Rattle.post_rounds.specs.News.{all_news, heard, is_declared, is_to, name, news, news_from, value_of}
use Rattle.widget_meaning.specs.Limits.{max_posts}
use Rattle.slot_picks.specs.declared.lives.Place.{Place}
use Rattle.slot_picks.specs.Places.{homes_of, is_accepted, told_of}
use Rattle.slot_picks.specs.Feeding.{AreStill, counts_for, events_for, sum_of, told_more}
use Rattle.slot_picks.specs.Posting.{HaveRound, IsRound, fresh_of_life, fresh_of_lasts, post_in}
use Rattle.slot_picks.proofs.More.{chain_at, counts_none, last_each, last_home, some_is, told_at}
use Rattle.slot_picks.proofs.Gathering.{few_kept}
use Rattle.slot_picks.proofs.Seen.{told_round}

-- ## Events

few_pass : {X : Type 0} (p : X → Bool) (xs : List X) → length (filter p xs) ≤ length xs
few_pass p [] = omega arith
few_pass p (x ∷ xs) = by (p x) (few_pass p xs)
  where
    by : (b : Bool) → length (filter p xs) ≤ length xs → length (if b then x ∷ filter p xs else filter p xs) ≤ length (x ∷ xs)
    by true h = omega (arith, h)
    by false h = omega (arith, h)

few_heard : (b : Bool) (sender receiver : List ℕ) (posts : List Post) → length (if b then heard sender receiver posts else []) ≤ length posts
few_heard true sender receiver posts = let same = length-map (filter (is_to receiver) posts) (value_of sender) in let few = few_pass (is_to receiver) posts in omega (arith, same, few)
few_heard false sender receiver posts = omega arith

few_from : (channels : List (ℕ × ℕ)) (names : List (List ℕ)) (w s : ℕ) (posts : List (List Post)) → length (news_from channels names w s posts) ≤ sum_of (map length posts)
few_from channels names w s [] = omega arith
few_from channels names w s (p ∷ posts) =
    let here = few_heard (is_declared channels s w) (name names s) (name names w) p in
    let later = few_from channels names w (s + 1) posts in
    let all = length-append (if is_declared channels s w then heard (name names s) (name names w) p else []) (news_from channels names w (s + 1) posts) in
    omega (arith, here, later, all)

-- a slot gets no more events than there are fresh posts
pub few_news : (channels : List (ℕ × ℕ)) (names : List (List ℕ)) (w : ℕ) (posts : List (List Post)) → length (news channels names posts w) ≤ sum_of (map length posts)
few_news channels names w posts = few_from channels names w 0 posts

index_none : (g : ℕ → List (List ℕ)) → ((x : ℕ) → g x ≡ []) → (xs : List ℕ) (w : ℕ) → slice_index_or (map g xs) w [] ≡ []
index_none g none [] zero = refl
index_none g none [] (suc w) = refl
index_none g none (x ∷ xs) zero = none x
index_none g none (x ∷ xs) (suc w) = index_none g none xs w

-- where there is an event there is a post
some_posts : (acc : ℕ → Bool) (channels : List (ℕ × ℕ)) (names : List (List ℕ)) (cs : List (List ℕ)) (ps : List (List Post)) (n : ℕ) → sum_of (map length ps) ≡ n → (AreStill acc cs (all_news channels names ps) → ⊥) → 0 < n
some_posts acc channels names cs ps zero e loud = absurd (loud (λ w c at is. index_none (news channels names ps) (λ x. (let few = few_news channels names x ps in nil_from_length (news channels names ps x) (omega (arith, few, e)))) (range_with_len 0 (length names)) w))
some_posts acc channels names cs ps (suc n) e loud = omega arith

-- ## Posts of one life

module _ (homes : List ℕ) (born : ℕ) (f : ℕ → List Post) where
  -- no more posts of a life are taken than are fresh
  few_counts : (k v : ℕ) (cs : List (List ℕ)) → Chains homes born k cs → counts_for cs (map length (map (λ c. f (last_life c)) cs)) v ≤ length (f v)
  few_counts k v [] h = omega arith
  few_counts k v (c ∷ cs) h = elim (eqb_tells (last_life c) v) as (λ _. counts_for (c ∷ cs) (map length (map (λ d. f (last_life d)) (c ∷ cs))) v ≤ length (f v)) [
    | inl same ↦
        (let home : slice_get homes v ≡ Some k = ap (slice_get homes) (sym same.1) ∙ last_home homes born k c h.0 in
        let none = counts_none homes born (k + 1) k v cs (map length (map (λ d. f (last_life d)) cs)) h.1 home (omega arith) in
        let n : ℕ = length (f (last_life c)) in
        let is : counts_for (c ∷ cs) (map length (map (λ d. f (last_life d)) (c ∷ cs))) v ≡ n + counts_for cs (map length (map (λ d. f (last_life d)) cs)) v = ap (λ b. (if b then n else 0) + counts_for cs (map length (map (λ d. f (last_life d)) cs)) v) same.0 in
        let this : n ≡ length (f v) = ap (λ u. length (f u)) same.1 in
        omega (arith, is, none, this))
    | inr other ↦
        (let n : ℕ = length (f (last_life c)) in
        let is : counts_for (c ∷ cs) (map length (map (λ d. f (last_life d)) (c ∷ cs))) v ≡ 0 + counts_for cs (map length (map (λ d. f (last_life d)) cs)) v = ap (λ b. (if b then n else 0) + counts_for cs (map length (map (λ d. f (last_life d)) cs)) v) other.0 in
        let later = few_counts (k + 1) v cs h.1 in
        omega (arith, is, later))
  ]

few_here : (b : Bool) (t : ℕ) (xs : List Post) → length xs ≤ 256 → t ≤ 256 → t + length (if b then drop t xs else []) ≤ 256
few_here true t xs most few = let rest = length-drop t xs in omega (arith, rest, most, few)
few_here false t xs most few = omega (arith, few)

few_fresh : (ls : List Place) (v t : ℕ) → slice_get (told_of ls) v ≡ Some t → t ≤ 256 → t + length (fresh_of_life (slice_get ls v)) ≤ 256
few_fresh [] v t at few = absurd (none t v at)
  where
    none : (n k : ℕ) → slice_get (told_of []) k ≡ Some n → ⊥
    none n k e = cc
few_fresh (l ∷ ls) zero t at few =
    let same : t ≡ l.told = sym (some_is l.told t at) in
    let told : l.told ≤ 256 = omega (arith, same, few) in
    let here = few_here l.life.accepted l.told (map post_in (take max_posts l.life.widget.posts.items)) (few_kept l.life.widget.posts.items) told in
    omega (arith, same, here)
few_fresh (l ∷ ls) (suc v) t at few = few_fresh ls v t at few

was_told : (o : Option ℕ) (m n : ℕ) → option_map (λ t. t + m) o ≡ Some n → (t : ℕ) × (o ≡ Some t) × (n ≡ t + m)
was_told None m n e = absurd (none n e)
  where
    none : (n : ℕ) → None ≡ Some n → ⊥
    none n e = cc
was_told (Some t) m n e = (t, refl, sym (some_is (t + m) n e))

-- ## The sum of what is taken

sum_then : (f g : ℕ → ℕ) (v : ℕ) (ns : List ℕ) → sum_of (told_more (λ u. f u + g u) v ns) + sum_of ns ≡ sum_of (told_more f v ns) + sum_of (told_more g v ns)
sum_then f g v [] = refl
sum_then f g v (n ∷ ns) = let later = sum_then f g (v + 1) ns in omega (arith, later)

sum_none : (v : ℕ) (ns : List ℕ) → sum_of (told_more (λ u. 0) v ns) ≡ sum_of ns
sum_none v [] = refl
sum_none v (n ∷ ns) = let later = sum_none (v + 1) ns in omega (arith, later)

sum_past : (l n v : ℕ) (ns : List ℕ) → l < v → sum_of (told_more (λ u. if nat_eq l u then n else 0) v ns) ≡ sum_of ns
sum_past l n v [] past = refl
sum_past l n v (m ∷ ns) past =
    let later = sum_past l n (v + 1) ns (omega (arith, past)) in
    let here : (if nat_eq l v then n else 0) ≡ 0 = ap (λ b. if b then n else 0) (ne_eqb l v (λ e. absurd (omega (arith, e, past)))) in
    omega (arith, later, here)

sum_one : (l n v k : ℕ) (ns : List ℕ) → v + k ≡ l → k < length ns → sum_of (told_more (λ u. if nat_eq l u then n else 0) v ns) ≡ sum_of ns + n
sum_one l n v k [] e within = absurd (omega (arith, within))
sum_one l n v zero (m ∷ ns) e within =
    let later = sum_past l n (v + 1) ns (omega (arith, e)) in
    let here : (if nat_eq l v then n else 0) ≡ n = ap (λ b. if b then n else 0) (eq-eqb l v (omega (arith, e))) in
    omega (arith, later, here)
sum_one l n v (suc k) (m ∷ ns) e within =
    let later = sum_one l n (v + 1) k ns (omega (arith, e)) (omega (arith, within)) in
    let here : (if nat_eq l v then n else 0) ≡ 0 = ap (λ b. if b then n else 0) (ne_eqb l v (λ g. absurd (omega (arith, g, e)))) in
    omega (arith, later, here)

-- all that is taken of the slots is taken of their last lives
pub sum_taken : (told : List ℕ) (cs : List (List ℕ)) (ns : List ℕ) → length ns ≡ length cs → ((i : ℕ) (c : List ℕ) → slice_get cs i ≡ Some c → last_life c < length told)
    → sum_of (told_more (counts_for cs ns) 0 told) ≡ sum_of told + sum_of ns
sum_taken told [] [] e within = let none = sum_none 0 told in omega (arith, none)
sum_taken told [] (n ∷ ns) e within = absurd (omega (arith, e))
sum_taken told (c ∷ cs) [] e within = absurd (omega (arith, e))
sum_taken told (c ∷ cs) (n ∷ ns) e within =
    let later = sum_taken told cs ns (omega (arith, e)) (λ i d at. within (suc i) d at) in
    let here = sum_one (last_life c) n 0 (last_life c) told (omega arith) (within 0 c refl) in
    let both = sum_then (λ u. if nat_eq (last_life c) u then n else 0) (counts_for cs ns) 0 told in
    omega (arith, later, here, both)

-- ## The round

module _ (channels : List (ℕ × ℕ)) (names : List (List ℕ)) (cs : List (List ℕ)) (old new : List Place) (born : ℕ) (chains : Chains (homes_of old) born 0 cs) where
  -- no more posts of a life are taken than it keeps
  kept_true : HaveRound (events_for cs (all_news channels names (fresh_of_lasts old cs))) (counts_for cs (map length (fresh_of_lasts old cs))) 0 old new
      → ((v n : ℕ) → slice_get (told_of old) v ≡ Some n → n ≤ 256) → (v n : ℕ) → slice_get (told_of new) v ≡ Some n → n ≤ 256
  kept_true r most v n at =
      let counts : ℕ → ℕ = counts_for cs (map length (fresh_of_lasts old cs)) in
      let told : told_of new ≡ told_more counts 0 (told_of old) = told_round (events_for cs (all_news channels names (fresh_of_lasts old cs))) counts 0 old new r in
      let was = was_told (slice_get (told_of old) v) (counts v) n (sym (told_at counts 0 v v (told_of old) (omega arith)) ∙ (sym (ap (λ ts. slice_get ts v) told) ∙ at)) in
      let few = few_counts (homes_of old) born (λ u. fresh_of_life (slice_get old u)) 0 v cs chains in
      let room = few_fresh old v was.0 was.1 (most v was.0 was.1) in
      omega (arith, few, room, was.2)

  -- and some are
  more_true : born ≤ length old → (AreStill (is_accepted old) cs (all_news channels names (fresh_of_lasts old cs)) → ⊥)
      → HaveRound (events_for cs (all_news channels names (fresh_of_lasts old cs))) (counts_for cs (map length (fresh_of_lasts old cs))) 0 old new → sum_of (told_of old) < sum_of (told_of new)
  more_true there loud r =
      let ns : List ℕ = map length (fresh_of_lasts old cs) in
      let told : sum_of (told_of new) ≡ sum_of (told_more (counts_for cs ns) 0 (told_of old)) = ap sum_of (told_round (events_for cs (all_news channels names (fresh_of_lasts old cs))) (counts_for cs ns) 0 old new r) in
      let long : length ns ≡ length cs = length-map (fresh_of_lasts old cs) length ∙ length-map cs (λ c. fresh_of_life (slice_get old (last_life c))) in
      let places : length (told_of old) ≡ length old = length-map old (λ (p : Place). p.told) in
      let sums = sum_taken (told_of old) cs ns long (λ i c at. (let chain = chain_at (homes_of old) born 0 i i cs c (omega arith) chains at in
      let below = last_each (λ u. u < born) c chain.some chain.below in
      omega (arith, below, there, places))) in
      let some = some_posts (is_accepted old) channels names cs (fresh_of_lasts old cs) (sum_of ns) refl loud in
      omega (arith, told, sums, some)

pub keeps_round : (delivered : Bool) (channels : List (ℕ × ℕ)) (names : List (List ℕ)) (cs : List (List ℕ)) (old new : List Place) (born : ℕ) → Chains (homes_of old) born 0 cs → IsRound delivered channels names cs old new
    → ((v n : ℕ) → slice_get (told_of old) v ≡ Some n → n ≤ max_posts) → (v n : ℕ) → slice_get (told_of new) v ≡ Some n → n ≤ max_posts
keeps_round false channels names cs old new born chains r most = λ v n at. most v n (ap (λ ps. slice_get (told_of ps) v) (sym r.1) ∙ at)
keeps_round true channels names cs old new born chains r most = kept_true channels names cs old new born chains r.1 most

pub takes_more : (channels : List (ℕ × ℕ)) (names : List (List ℕ)) (cs : List (List ℕ)) (old new : List Place) (born : ℕ) → Chains (homes_of old) born 0 cs → born ≤ length old → IsRound true channels names cs old new
    → sum_of (told_of old) < sum_of (told_of new)
takes_more channels names cs old new born chains there r = more_true channels names cs old new born chains there r.0 r.1
