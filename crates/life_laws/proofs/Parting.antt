-- On whom a slot depends.
use Rattle.std.proofs.Common.{◌≡◌, ℕ, zero, suc, ◌+◌, true, false, List, [], ◌∷◌, ◌++◌, map, length, drop, get_or, Option, Some, None, refl, sym, ap, ◌∙◌, subst, arith}
use Rattle.std.proofs.lemmas.List.{append-nil, length-drop, nil_from_length}
use Rattle.std.specs.Option.{option_map}
use Rattle.widget_meaning.specs.Items.{Item}
use Rattle.widget_meaning.specs.Alone.{alone}
use Rattle.post_rounds.specs.declared.posts.Post.{Post}
use Rattle.post_rounds.specs.News.{is_declared, name, news}
use Rattle.post_rounds.specs.RoundLaws.{posts_of as posts_at}
use Rattle.post_rounds.proofs.Listing.{alone as same_news, no_channel}
use Rattle.life_laws.specs.Fed.{AreQuiet, Fed, IsQuiet, RoundsTo, again, ended, event_of, fed_on, fresh, fresh_of, posts_of, round, state}
use Rattle.life_laws.specs.RoundLaws.{Agree, GivenAlike, LeadsTo, fed_at, no_step, one_step}
use Rattle.life_laws.proofs.Rounding.{after_round}

-- ## Given alike

alike_same : (o p : Option Fed) → o ≡ p → GivenAlike o p
alike_same None None e = tt
alike_same None (Some g) e = cc
alike_same (Some f) None e = cc
alike_same (Some f) (Some g) e = let same : f ≡ g = cc in (ap (λ (h : Fed). h.content) same, ap (λ (h : Fed). h.grant) same, ap (λ (h : Fed). h.items) same)

alike_sym : (o p : Option Fed) → GivenAlike o p → GivenAlike p o
alike_sym None None h = tt
alike_sym None (Some g) h = h
alike_sym (Some f) None h = h
alike_sym (Some f) (Some g) h = (sym h.0, sym h.1, sym h.2)

alike_trans : (o p q : Option Fed) → GivenAlike o p → GivenAlike p q → GivenAlike o q
alike_trans None None q h k = k
alike_trans None (Some g) q h k = absurd h
alike_trans (Some f) None q h k = absurd h
alike_trans (Some f) (Some g) None h k = k
alike_trans (Some f) (Some g) (Some e) h k = (h.0 ∙ k.0, h.1 ∙ k.1, h.2 ∙ k.2)

-- ## A slot that is given nothing

nothing_more : (vs : List (List ℕ)) (is : List Item) → vs ≡ [] → is ++ map event_of vs ≡ is
nothing_more vs is e = ap (λ us. is ++ map event_of us) e ∙ append-nil is

alike_on : (vs : List (List ℕ)) (o : Option Fed) → ((f : Fed) → o ≡ Some f → vs ≡ []) → GivenAlike (option_map (fed_on vs) o) o
alike_on vs None h = tt
alike_on vs (Some f) h = (refl, refl, nothing_more vs f.items (h f refl))

none_left : (n : ℕ) (xs : List Post) → drop (n + length (drop n xs)) xs ≡ []
none_left n xs =
    let here = length-drop n xs in
    let more = length-drop (n + length (drop n xs)) xs in
    nil_from_length (drop (n + length (drop n xs)) xs) (omega arith)

all_taken : (vs : List (List ℕ)) (o : Option Fed) → ((f : Fed) → o ≡ Some f → vs ≡ []) → fresh_of (option_map (fed_on vs) o) ≡ []
all_taken vs None h = refl
all_taken vs (Some f) h =
    ap (λ is. drop (f.told + length (fresh_of (Some f))) (posts_of (alone f.content f.grant is))) (nothing_more vs f.items (h f refl)) ∙ none_left f.told (posts_of (state f))

-- ## What is fresh, and who is quiet, by number

pub fresh_at : (fs : List (Option Fed)) (s : ℕ) → posts_at (fresh fs) s ≡ fresh_of (fed_at fs s)
fresh_at [] s = refl
fresh_at (f ∷ fs) zero = refl
fresh_at (f ∷ fs) (suc s) = fresh_at fs s

quiet_from : (channels : List (ℕ × ℕ)) (names : List (List ℕ)) (posts : List (List Post)) (v i w : ℕ) (fs : List (Option Fed)) (f : Fed)
    → v + i ≡ w → AreQuiet channels names posts v fs → get_or fs i None ≡ Some f → news channels names posts w ≡ []
quiet_from channels names posts v i w [] f e quiet at = cc
quiet_from channels names posts v zero w (None ∷ fs) f e quiet at = cc
quiet_from channels names posts v zero w (Some g ∷ fs) f e quiet at = subst (λ n. news channels names posts n ≡ []) (let same : v ≡ w = omega arith in same) quiet.0
quiet_from channels names posts v (suc i) w (None ∷ fs) f e quiet at = quiet_from channels names posts (v + 1) i w fs f (omega arith) quiet at
quiet_from channels names posts v (suc i) w (Some g ∷ fs) f e quiet at = quiet_from channels names posts (v + 1) i w fs f (omega arith) quiet.1 at

quiet_at : (channels : List (ℕ × ℕ)) (names : List (List ℕ)) (fs : List (Option Fed)) (w : ℕ) (f : Fed)
    → IsQuiet channels names fs → fed_at fs w ≡ Some f → news channels names (fresh fs) w ≡ []
quiet_at channels names fs w f quiet at = quiet_from channels names (fresh fs) 0 w w fs f (omega arith) quiet at

-- ## One page

-- each sender of a slot of these is one of these
abbrev IsClosed : List (ℕ × ℕ) → (ℕ → Type 0) → Type 0
IsClosed channels inside = (s w : ℕ) → is_declared channels s w ≡ true → inside w → inside s

module _ (channels : List (ℕ × ℕ)) (names : List (List ℕ)) where
  stays_alike : (fs : List (Option Fed)) (w : ℕ) → ((f : Fed) → fed_at fs w ≡ Some f → news channels names (fresh fs) w ≡ [])
      → GivenAlike (fed_at (round channels names fs) w) (fed_at fs w)
  stays_alike fs w h = subst (λ o. GivenAlike o (fed_at fs w)) (sym (after_round channels names fs w)) (alike_on (news channels names (fresh fs) w) (fed_at fs w) h)

  pub no_channel_alike : (w : ℕ) (fs gs : List (Option Fed)) → ((s : ℕ) → is_declared channels s w ≡ false) → RoundsTo channels names fs gs → GivenAlike (fed_at gs w) (fed_at fs w)
  no_channel_alike w fs gs none (ended quiet) = alike_same (fed_at fs w) (fed_at fs w) refl
  no_channel_alike w fs gs none (again loud later) =
      alike_trans (fed_at gs w) (fed_at (round channels names fs) w) (fed_at fs w) (no_channel_alike w (round channels names fs) gs none later)
      (stays_alike fs w (λ f at. no_channel w channels names (fresh fs) none))

  module _ (inside : ℕ → Type 0) (closed : IsClosed channels inside) where
    -- no slot of these has a fresh post
    abbrev Calm : List (Option Fed) → Type 0
    Calm fs = (s : ℕ) → inside s → fresh_of (fed_at fs s) ≡ []

    -- no slot of these is given an event
    abbrev Still : List (Option Fed) → Type 0
    Still fs = (w : ℕ) → inside w → (f : Fed) → fed_at fs w ≡ Some f → news channels names (fresh fs) w ≡ []

    calm_still : (fs : List (Option Fed)) → Calm fs → Still fs
    calm_still fs calm w within f at =
        same_news w channels channels names names (fresh fs) [] (record { receiver = refl; listed = λ s. refl; senders = λ s listed. refl; posts = λ s listed. fresh_at fs s ∙ calm s (closed s w listed within) })

    still_calm : (fs : List (Option Fed)) → Still fs → Calm (round channels names fs)
    still_calm fs still s within = ap fresh_of (after_round channels names fs s) ∙ all_taken (news channels names (fresh fs) s) (fed_at fs s) (still s within)

    still_alike : (fs gs : List (Option Fed)) → Still fs → RoundsTo channels names fs gs → (w : ℕ) → inside w → GivenAlike (fed_at gs w) (fed_at fs w)
    still_alike fs gs still (ended quiet) w within = alike_same (fed_at fs w) (fed_at fs w) refl
    still_alike fs gs still (again loud later) w within =
        alike_trans (fed_at gs w) (fed_at (round channels names fs) w) (fed_at fs w)
        (still_alike (round channels names fs) gs (calm_still (round channels names fs) (still_calm fs still)) later w within) (stays_alike fs w (still w within))

-- ## Two pages

-- Two pages agree on slots: on their names, on the channels that lead to them, and on what they were given.
record AgreeIn (inside : ℕ → Type 0) (channels channels' : List (ℕ × ℕ)) (names names' : List (List ℕ)) (fs fs' : List (Option Fed)) : Type 0 where
  names_agree : (w : ℕ) → inside w → name names w ≡ name names' w
  channels_agree : (s w : ℕ) → inside w → is_declared channels s w ≡ is_declared channels' s w
  given : (w : ℕ) → inside w → fed_at fs w ≡ fed_at fs' w

module _ (channels channels' : List (ℕ × ℕ)) (names names' : List (List ℕ)) where
  -- a slot's events are those of its listed senders
  same_events : (fs fs' : List (Option Fed)) (w : ℕ)
      → name names w ≡ name names' w → ((s : ℕ) → is_declared channels s w ≡ is_declared channels' s w)
      → ((s : ℕ) → is_declared channels s w ≡ true → (name names s ≡ name names' s) × (fed_at fs s ≡ fed_at fs' s))
      → news channels names (fresh fs) w ≡ news channels' names' (fresh fs') w
  same_events fs fs' w receiver listed senders =
      same_news w channels channels' names names' (fresh fs) (fresh fs') (record {
        receiver = receiver;
        listed = listed;
        senders = λ s e. (senders s e).0;
        posts = λ s e. fresh_at fs s ∙ (ap fresh_of ((senders s e).1) ∙ sym (fresh_at fs' s));
      })

  pub listed_senders : (fs fs' : List (Option Fed)) (w : ℕ)
      → name names w ≡ name names' w → fed_at fs w ≡ fed_at fs' w → ((s : ℕ) → is_declared channels s w ≡ is_declared channels' s w)
      → ((s : ℕ) → is_declared channels s w ≡ true → (name names s ≡ name names' s) × (fed_at fs s ≡ fed_at fs' s))
      → fed_at (round channels names fs) w ≡ fed_at (round channels' names' fs') w
  listed_senders fs fs' w receiver given listed senders =
      after_round channels names fs w ∙ (ap (λ vs. option_map (fed_on vs) (fed_at fs w)) (same_events fs fs' w receiver listed senders)
      ∙ (ap (option_map (fed_on (news channels' names' (fresh fs') w))) given ∙ sym (after_round channels' names' fs' w)))

  module _ (inside : ℕ → Type 0) (closed : IsClosed channels inside) where
    senders_in : (fs fs' : List (Option Fed)) → AgreeIn inside channels channels' names names' fs fs' → (w : ℕ) → inside w
        → (s : ℕ) → is_declared channels s w ≡ true → (name names s ≡ name names' s) × (fed_at fs s ≡ fed_at fs' s)
    senders_in fs fs' h w within s listed = let also : inside s = closed s w listed within in (h.names_agree s also, h.given s also)

    events_agree : (fs fs' : List (Option Fed)) → AgreeIn inside channels channels' names names' fs fs'
        → (w : ℕ) → inside w → news channels names (fresh fs) w ≡ news channels' names' (fresh fs') w
    events_agree fs fs' h w within = same_events fs fs' w (h.names_agree w within) (λ s. h.channels_agree s w within) (senders_in fs fs' h w within)

    round_agrees : (fs fs' : List (Option Fed)) → AgreeIn inside channels channels' names names' fs fs'
        → AgreeIn inside channels channels' names names' (round channels names fs) (round channels' names' fs')
    round_agrees fs fs' h = record {
      names_agree = h.names_agree;
      channels_agree = h.channels_agree;
      given = λ w within. listed_senders fs fs' w (h.names_agree w within) (h.given w within) (λ s. h.channels_agree s w within) (senders_in fs fs' h w within);
    }

    also_closed : (fs fs' : List (Option Fed)) → AgreeIn inside channels channels' names names' fs fs' → IsClosed channels' inside
    also_closed fs fs' h = λ s w listed within. closed s w (h.channels_agree s w within ∙ listed) within

    -- two pages that agree on slots to which no channel leads from the others give them the same
    agree_to_end : (fs fs' gs gs' : List (Option Fed)) → AgreeIn inside channels channels' names names' fs fs' → RoundsTo channels names fs gs → RoundsTo channels' names' fs' gs'
        → (w : ℕ) → inside w → GivenAlike (fed_at gs w) (fed_at gs' w)
    agree_to_end fs fs' gs gs' h (ended quiet) (ended quiet') w within = alike_same (fed_at fs w) (fed_at fs' w) (h.given w within)
    agree_to_end fs fs' gs gs' h (ended quiet) (again loud later) w within =
        alike_trans (fed_at fs w) (fed_at fs' w) (fed_at gs' w) (alike_same (fed_at fs w) (fed_at fs' w) (h.given w within))
        (alike_sym (fed_at gs' w) (fed_at fs' w)
        (still_alike channels' names' inside (also_closed fs fs' h) fs' gs'
        (λ v in_v f at. sym (events_agree fs fs' h v in_v) ∙ quiet_at channels names fs v f quiet (h.given v in_v ∙ at)) (again loud later) w within))
    agree_to_end fs fs' gs gs' h (again loud later) (ended quiet) w within =
        alike_trans (fed_at gs w) (fed_at fs w) (fed_at fs' w)
        (still_alike channels names inside closed fs gs
        (λ v in_v f at. events_agree fs fs' h v in_v ∙ quiet_at channels' names' fs' v f quiet (sym (h.given v in_v) ∙ at)) (again loud later) w within)
        (alike_same (fed_at fs w) (fed_at fs' w) (h.given w within))
    agree_to_end fs fs' gs gs' h (again loud later) (again loud' later') w within =
        agree_to_end (round channels names fs) (round channels' names' fs') gs gs' (round_agrees fs fs' h) later later' w within

  pub apart : (w : ℕ) (fs fs' gs gs' : List (Option Fed)) → Agree w channels channels' names names' fs fs' → RoundsTo channels names fs gs → RoundsTo channels' names' fs' gs' → GivenAlike (fed_at gs w) (fed_at gs' w)
  apart w fs fs' gs gs' h rounds rounds' =
      agree_to_end (LeadsTo channels w) (λ s t listed leads. one_step listed leads) fs fs' gs gs'
      (record { names_agree = h.names_agree; channels_agree = h.channels_agree; given = h.given }) rounds rounds' w no_step
