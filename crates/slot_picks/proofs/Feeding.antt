-- A round of posts over what is seen of all lives.
use Rattle.std.proofs.Common.{◌≡◌, ℕ, zero, suc, ◌+◌, Bool, true, false, List, [], ◌∷◌, map, length, drop, refl, sym, ap, ◌∙◌, subst, arith, Option, Some, None}
use Rattle.std.specs.Prelude.{slice_get, slice_index_or, if◌then◌else◌}
use Rattle.std.specs.Option.{option_map}
use Rattle.std.proofs.lemmas.List.Sums.{fold-append}
use Rattle.life_laws.specs.Life.{Seen, due, image}
use Rattle.life_laws.specs.Chains.{Chains, last_life}
use Rattle.post_rounds.specs.declared.posts.Post.{Post}
use Rattle.post_rounds.specs.News.{news}
use Rattle.widget_meaning.specs.Items.{item}
use Rattle.widget_meaning.specs.Alone.{loaded}
use Rattle.life_laws.specs.Fed.{AreQuiet, Fed, event_of, fed_on, fresh, fresh_of, posts_of, round, round_from}
use Rattle.life_laws.specs.RoundLaws.{with_events}
use Rattle.slot_picks.specs.Feeding.{AreFed, IsFed, IsLastFed, counts_for, events_for, fresh_at, fresh_lasts, gets, given_events, posts_seen, told_more, with_more}
use Rattle.slot_picks.proofs.More.{counts_from, due_given, events_from, more_at, some_is, told_at}

none_some : {A : Type 0} (x : A) → None ≡ Some x → ⊥
none_some x e = cc

-- what a life is seen to have more
given_at : (vs : List (List ℕ)) (o : Option Seen) (t : Seen) → option_map (given_events vs) o ≡ Some t → (s : Seen) × (o ≡ Some s) × (given_events vs s ≡ t)
given_at vs None t e = absurd (none_some t e)
given_at vs (Some s) t e = (s, refl, some_is (given_events vs s) t e)

-- ## The fresh posts

module _ (accepts : ℕ → Bool) (ss : List Seen) (told : List ℕ)
    (there : (v n : ℕ) → slice_get told v ≡ Some n → (s : Seen) × (slice_get ss v ≡ Some s)) (shown : (v : ℕ) (s : Seen) → slice_get ss v ≡ Some s → image s ≡ due s) where
  read_told : (o : List ℕ) (v n : ℕ) → slice_get o v ≡ Some n → slice_index_or o v 0 ≡ n
  read_told [] v n e = cc
  read_told (x ∷ xs) zero n e = some_is x n e
  read_told (x ∷ xs) (suc v) n e = read_told xs v n e

  fresh_is : (v : ℕ) (f : Option Fed) → IsLastFed accepts ss told v f → fresh_at accepts ss told v ≡ fresh_of f
  fresh_is v None h = ap (λ b. if b then drop (slice_index_or told v 0) (posts_seen (slice_get ss v)) else []) h
  fresh_is v (Some f) h =
      let s = there v f.told h.taken in
      ap (λ b. if b then drop (slice_index_or told v 0) (posts_seen (slice_get ss v)) else []) h.accepted
      ∙ (ap (λ n. drop n (posts_seen (slice_get ss v))) (read_told told v f.told h.taken)
      ∙ (ap (λ o. drop f.told (posts_seen o)) s.1 ∙ ap (λ o. drop f.told (posts_of o)) (shown v s.0 s.1 ∙ h.comes s.0 s.1)))

  -- what is read off the lives is what is fresh
  pub fresh_same : (cs : List (List ℕ)) (fs : List (Option Fed)) → AreFed accepts ss told cs fs → fresh_lasts accepts ss told cs ≡ fresh fs
  fresh_same [] [] h = refl
  fresh_same [] (f ∷ fs) h = absurd h
  fresh_same (c ∷ cs) [] h = absurd h
  fresh_same (c ∷ cs) (f ∷ fs) h = ap (λ p. p ∷ fresh_lasts accepts ss told cs) (fresh_is (last_life c) f h.0) ∙ ap (λ ps. fresh_of f ∷ ps) (fresh_same cs fs h.1)

-- ## A round

module _ (accepts : ℕ → Bool) (ss : List Seen) (told : List ℕ) (channels : List (ℕ × ℕ)) (names : List (List ℕ)) (posts : List (List Post)) where
  -- a last life that has the events of its slot, and whose fresh posts are taken
  one_fed : (v : ℕ) (f : Fed) (more : ℕ → List (List ℕ)) (counts : ℕ → ℕ) (vs : List (List ℕ)) → IsFed accepts ss told v f → more v ≡ vs → counts v ≡ length (fresh_of (Some f))
      → IsFed accepts (with_more more 0 ss) (told_more counts 0 told) v (fed_on vs f)
  one_fed v f more counts vs h gets takes = record {
    accepted = h.accepted;
    comes = λ t at.
        let was = given_at (more v) (slice_get ss v) t (sym (more_at more 0 v v ss (omega arith)) ∙ at) in
        ap due (sym was.2) ∙ (due_given (more v) was.0 ∙ (ap (λ us. with_events us (due was.0)) gets ∙ (ap (with_events vs) (h.comes was.0 was.1)
        ∙ sym (fold-append item (loaded f.content f.grant) f.items (map event_of vs)))));
    taken = told_at counts 0 v v told (omega arith) ∙ (ap (option_map (λ t. t + counts v)) h.taken ∙ ap (λ n. Some (f.told + n)) takes);
  }

  last_fed : (v : ℕ) (f : Option Fed) (more : ℕ → List (List ℕ)) (counts : ℕ → ℕ) (vs : List (List ℕ)) → IsLastFed accepts ss told v f → (accepts v ≡ true → more v ≡ vs) → counts v ≡ length (fresh_of f)
      → IsLastFed accepts (with_more more 0 ss) (told_more counts 0 told) v (option_map (fed_on vs) f)
  last_fed v None more counts vs h gets takes = h
  last_fed v (Some f) more counts vs h gets takes = one_fed v f more counts vs h (gets h.accepted) takes

  all_fed : (k : ℕ) (cs : List (List ℕ)) (fs : List (Option Fed)) (more : ℕ → List (List ℕ)) (counts : ℕ → ℕ)
      → ((i w : ℕ) (c : List ℕ) → k + i ≡ w → slice_get cs i ≡ Some c → accepts (last_life c) ≡ true → more (last_life c) ≡ news channels names posts w)
      → ((i : ℕ) (c : List ℕ) (f : Option Fed) → slice_get cs i ≡ Some c → slice_get fs i ≡ Some f → counts (last_life c) ≡ length (fresh_of f))
      → AreFed accepts ss told cs fs → AreFed accepts (with_more more 0 ss) (told_more counts 0 told) cs (round_from channels names posts k fs)
  all_fed k [] [] more counts gets takes h = tt
  all_fed k [] (f ∷ fs) more counts gets takes h = absurd h
  all_fed k (c ∷ cs) [] more counts gets takes h = absurd h
  all_fed k (c ∷ cs) (f ∷ fs) more counts gets takes h = (
    last_fed (last_life c) f more counts (news channels names posts k) h.0 (gets 0 k c (omega arith) refl) (takes 0 c f refl refl),
    all_fed (k + 1) cs fs more counts (λ i w d e at. gets (suc i) w d (omega arith) at) (λ i d g at is. takes (suc i) d g at is) h.1,
  )

lengths_at : (ps : List (List Post)) (i : ℕ) (p : List Post) → slice_get ps i ≡ Some p → slice_get (map length ps) i ≡ Some (length p)
lengths_at [] i p e = cc
lengths_at (q ∷ ps) zero p e = ap (λ r. Some (length r)) (some_is q p e)
lengths_at (q ∷ ps) (suc i) p e = lengths_at ps i p e

fresh_get : (fs : List (Option Fed)) (i : ℕ) (f : Option Fed) → slice_get fs i ≡ Some f → slice_get (fresh fs) i ≡ Some (fresh_of f)
fresh_get [] i f e = cc
fresh_get (g ∷ fs) zero f e = ap (λ r. Some (fresh_of r)) (some_is g f e)
fresh_get (g ∷ fs) (suc i) f e = fresh_get fs i f e

if_yes : {A : Type 0} (b : Bool) (x y : A) → b ≡ true → (if b then x else y) ≡ x
if_yes b x y e = rw e refl

-- Of lives that were given so much, each last one has its events more, and its fresh posts are taken: then they were given what a round gives.
pub round_fed : (accepts : ℕ → Bool) (ss : List Seen) (told : List ℕ) (channels : List (ℕ × ℕ)) (names : List (List ℕ)) (homes : List ℕ) (born : ℕ)
    (cs : List (List ℕ)) (es : List (List (List ℕ))) (fs : List (Option Fed)) → Chains homes born 0 cs
    → ((w : ℕ) (c : List ℕ) → slice_get cs w ≡ Some c → slice_get es w ≡ Some (news channels names (fresh fs) w))
    → AreFed accepts ss told cs fs
    → AreFed accepts (with_more (gets accepts cs es) 0 ss) (told_more (counts_for cs (map length (fresh fs))) 0 told) cs (round channels names fs)
round_fed accepts ss told channels names homes born cs es fs chains events h =
    all_fed accepts ss told channels names (fresh fs) 0 cs fs (gets accepts cs es) (counts_for cs (map length (fresh fs)))
    (λ i w c e at yes. if_yes (accepts (last_life c)) (events_for cs es (last_life c)) [] yes
    ∙ (events_from homes born 0 i w (last_life c) cs es (news channels names (fresh fs) i) c e chains at refl (events i c at) ∙ ap (news channels names (fresh fs)) (let same : i ≡ w = omega arith in same)))
    (λ i c f at is. counts_from homes born 0 i i (last_life c) cs (map length (fresh fs)) (length (fresh_of f)) c (omega arith) chains at refl (lengths_at (fresh fs) i (fresh_of f) (fresh_get fs i f is)))
    h

-- ## Whether a round is quiet

pub read_at : (es : List (List (List ℕ))) (w : ℕ) (e : List (List ℕ)) → slice_get es w ≡ Some e → slice_index_or es w [] ≡ e
read_at [] w e at = cc
read_at (x ∷ es) zero e at = some_is x e at
read_at (x ∷ es) (suc w) e at = read_at es w e at

module _ (accepts : ℕ → Bool) (ss : List Seen) (told : List ℕ) (channels : List (ℕ × ℕ)) (names : List (List ℕ)) (posts : List (List Post)) where
  -- where no last life that was accepted has an event, the round is quiet
  pub still_quiet : (k : ℕ) (cs : List (List ℕ)) (fs : List (Option Fed)) → AreFed accepts ss told cs fs
      → ((i w : ℕ) (c : List ℕ) → k + i ≡ w → slice_get cs i ≡ Some c → accepts (last_life c) ≡ true → news channels names posts w ≡ []) → AreQuiet channels names posts k fs
  still_quiet k [] [] h still = tt
  still_quiet k [] (f ∷ fs) h still = absurd h
  still_quiet k (c ∷ cs) [] h still = absurd h
  still_quiet k (c ∷ cs) (None ∷ fs) h still = still_quiet (k + 1) cs fs h.1 (λ i w d e at. still (suc i) w d (omega arith) at)
  still_quiet k (c ∷ cs) (Some f ∷ fs) h still = (still 0 k c (omega arith) refl h.0.accepted, still_quiet (k + 1) cs fs h.1 (λ i w d e at. still (suc i) w d (omega arith) at))

  no_yes : (b : Bool) → b ≡ false → b ≡ true → ⊥
  no_yes true e f = cc
  no_yes false e f = cc

  -- and where the round is quiet, none has
  pub quiet_still : (k i w : ℕ) (cs : List (List ℕ)) (fs : List (Option Fed)) (c : List ℕ) → k + i ≡ w → AreFed accepts ss told cs fs → AreQuiet channels names posts k fs
      → slice_get cs i ≡ Some c → accepts (last_life c) ≡ true → news channels names posts w ≡ []
  quiet_still k i w [] [] c e h quiet at is = cc
  quiet_still k i w [] (f ∷ fs) c e h quiet at is = absurd h
  quiet_still k i w (d ∷ cs) [] c e h quiet at is = absurd h
  quiet_still k zero w (d ∷ cs) (None ∷ fs) c e h quiet at is = absurd (no_yes (accepts (last_life d)) h.0 (ap (λ x. accepts (last_life x)) (some_is d c at) ∙ is))
  quiet_still k zero w (d ∷ cs) (Some f ∷ fs) c e h quiet at is = subst (λ n. news channels names posts n ≡ []) (let same : k ≡ w = omega arith in same) quiet.0
  quiet_still k (suc i) w (d ∷ cs) (None ∷ fs) c e h quiet at is = quiet_still (k + 1) i w cs fs c (omega arith) h.1 quiet at is
  quiet_still k (suc i) w (d ∷ cs) (Some f ∷ fs) c e h quiet at is = quiet_still (k + 1) i w cs fs c (omega arith) h.1 quiet.1 at is
