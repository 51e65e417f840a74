-- What one round does to each slot.
use Rattle.std.proofs.Common.{◌≡◌, ℕ, zero, suc, ◌+◌, ◌-◌, ◌<◌, ◌≤◌, List, [], ◌∷◌, map, length, take, get_or, Option, Some, None, refl, ap, ◌∙◌, arith}
use Rattle.std.proofs.lemmas.Grind.{common_steps}
use Rattle.std.proofs.lemmas.List.{length-drop, length-map, length-take, nil_from_length}
use Rattle.std.proofs.lemmas.List.Sums.{fold-append}
use Rattle.std.specs.Option.{option_map}
use Rattle.widget_meaning.specs.Limits.{max_posts}
use Rattle.widget_meaning.specs.OwnState.{OwnState}
use Rattle.widget_meaning.specs.Items.{item}
use Rattle.widget_meaning.specs.Alone.{loaded}
use Rattle.post_rounds.specs.declared.posts.Post.{Post}
use Rattle.post_rounds.specs.News.{news}
use Rattle.post_rounds.specs.RoundLaws.{posts_of as posts_at}
use Rattle.post_rounds.proofs.Listing.{no_posts}
use Rattle.life_laws.specs.Fed.{AreQuiet, Fed, IsQuiet, event_of, fed_on, fresh, fresh_of, post_of, posts_of, round, round_from, state}
use Rattle.life_laws.specs.RoundLaws.{AreTold, fed_at, many_fresh, may_come, with_events}

-- a widget keeps no more posts than it may
few_posts : (o : OwnState) → length (posts_of o) ≤ max_posts
few_posts o = let same = length-map (take max_posts o.posts) post_of in let few = length-take max_posts o.posts in grind (arith, common_steps)

one_told : (t n k m : ℕ) → k ≡ n - t → n ≤ m → t ≤ m → t + k ≤ m
one_told t n k m e l h = omega arith

one_left : (t n k m : ℕ) → k ≡ n - t → n ≤ m → (m - (t + k)) + k ≡ m - t
one_left t n k m e l = omega arith

module _ (channels : List (ℕ × ℕ)) (names : List (List ℕ)) where
  pub same_length : (posts : List (List Post)) (v : ℕ) (fs : List (Option Fed)) → length (round_from channels names posts v fs) ≡ length fs
  same_length posts v [] = refl
  same_length posts v (f ∷ fs) = ap suc (same_length posts (v + 1) fs)

  at_from : (posts : List (List Post)) (v i w : ℕ) (fs : List (Option Fed)) → v + i ≡ w
      → get_or (round_from channels names posts v fs) i None ≡ option_map (fed_on (news channels names posts w)) (get_or fs i None)
  at_from posts v i w [] e = refl
  at_from posts v zero w (f ∷ fs) e = let same : v ≡ w = omega arith in ap (λ n. option_map (fed_on (news channels names posts n)) f) same
  at_from posts v (suc i) w (f ∷ fs) e = at_from posts (v + 1) i w fs (omega arith)

  -- a slot after a round
  pub after_round : (fs : List (Option Fed)) (w : ℕ) → fed_at (round channels names fs) w ≡ option_map (fed_on (news channels names (fresh fs) w)) (fed_at fs w)
  after_round fs w = at_from (fresh fs) 0 w w fs (omega arith)

  pub refused : (fs : List (Option Fed)) (w : ℕ) → fed_at fs w ≡ None → fed_at (round channels names fs) w ≡ None
  refused fs w e = after_round fs w ∙ ap (option_map (fed_on (news channels names (fresh fs) w))) e

  pub seen : (fs : List (Option Fed)) (w : ℕ) (f : Fed) → fed_at fs w ≡ Some f
      → option_map state (fed_at (round channels names fs) w) ≡ Some (with_events (news channels names (fresh fs) w) (state f))
  seen fs w f e =
      ap (option_map state) (after_round fs w) ∙ ap (λ o. option_map state (option_map (fed_on (news channels names (fresh fs) w)) o)) e
      ∙ ap Some (fold-append item (loaded f.content f.grant) f.items (map event_of (news channels names (fresh fs) w)))

  pub taken : (fs : List (Option Fed)) (w : ℕ) (f : Fed) → fed_at fs w ≡ Some f
      → option_map (λ (g : Fed). g.told) (fed_at (round channels names fs) w) ≡ Some (f.told + length (fresh_of (Some f)))
  taken fs w f e =
      ap (option_map (λ (g : Fed). g.told)) (after_round fs w) ∙ ap (λ o. option_map (λ (g : Fed). g.told) (option_map (fed_on (news channels names (fresh fs) w)) o)) e

  pub told : (posts : List (List Post)) (v : ℕ) (fs : List (Option Fed)) → AreTold fs → AreTold (round_from channels names posts v fs)
  told posts v [] h = h
  told posts v (None ∷ fs) h = told posts (v + 1) fs h
  told posts v (Some f ∷ fs) h =
      (one_told f.told (length (posts_of (state f))) (length (fresh_of (Some f))) max_posts (length-drop f.told (posts_of (state f))) (few_posts (state f)) h.0, told posts (v + 1) fs h.1)

  -- each post is taken once
  pub fewer : (posts : List (List Post)) (v : ℕ) (fs : List (Option Fed)) → may_come (round_from channels names posts v fs) + many_fresh fs ≡ may_come fs
  fewer posts v [] = refl
  fewer posts v (None ∷ fs) = let later = fewer posts (v + 1) fs in omega arith
  fewer posts v (Some f ∷ fs) =
      let here = one_left f.told (length (posts_of (state f))) (length (fresh_of (Some f))) max_posts (length-drop f.told (posts_of (state f))) (few_posts (state f)) in
      let later = fewer posts (v + 1) fs in
      omega arith

  -- ## What is fresh

  no_fresh : (fs : List (Option Fed)) → many_fresh fs ≡ 0 → (s : ℕ) → posts_at (fresh fs) s ≡ []
  no_fresh [] e s = refl
  no_fresh (f ∷ fs) e zero = nil_from_length (fresh_of f) (omega arith)
  no_fresh (f ∷ fs) e (suc s) = no_fresh fs (omega arith) s

  pub all_quiet : (posts : List (List Post)) (v : ℕ) (fs : List (Option Fed)) → ((w : ℕ) → news channels names posts w ≡ []) → AreQuiet channels names posts v fs
  all_quiet posts v [] h = tt
  all_quiet posts v (None ∷ fs) h = all_quiet posts (v + 1) fs h
  all_quiet posts v (Some f ∷ fs) h = (h v, all_quiet posts (v + 1) fs h)

  -- where something is delivered, something was fresh
  pub some_fresh : (fs : List (Option Fed)) → (IsQuiet channels names fs → ⊥) → 0 < many_fresh fs
  some_fresh fs loud = by (many_fresh fs) refl
    where
      by : (n : ℕ) → many_fresh fs ≡ n → 0 < n
      by zero e = absurd (loud (all_quiet (fresh fs) 0 fs (λ w. no_posts w channels names (fresh fs) (no_fresh fs e))))
      by (suc n) e = omega arith
