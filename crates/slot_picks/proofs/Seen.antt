-- What is seen of lives that were given a round.
use Rattle.std.proofs.Common.{◌≡◌, ℕ, zero, suc, ◌+◌, ◌<◌, Bool, true, false, List, [], ◌∷◌, ◌++◌, map, length, drop, take, refl, sym, ap, ◌∙◌, subst, arith, Option, Some, None}
use Rattle.std.specs.Prelude.{slice_get, slice_index_or, if◌then◌else◌}
use Rattle.std.specs.List.{range_with_len}
use Rattle.std.specs.Option.{option_map}
use Rattle.std.proofs.lemmas.List.{map-append, take-map}
use Rattle.js_tree.specs.Forest.{Forest}
use Rattle.widget_meaning.specs.Limits.{max_posts}
use Rattle.widget_meaning.specs.OwnState.{OwnState}
use Rattle.life_laws.specs.Life as todo
use Rattle.life_laws.specs.Life.{Going, Seen, image, shown}
use Rattle.life_laws.specs.Settled.{flag}
use Rattle.life_laws.specs.Chains.{Chains, last_life}
use Rattle.post_rounds.specs.declared.posts.Post.{Post}
use Rattle.post_rounds.specs.News.{all_news, news}
use Rattle.life_laws.specs.Fed.{AreQuiet, Fed, event_of, fresh, posts_of, round}
use Rattle.life_laws.specs.Fed as fed
use Rattle.native_image.specs.declared.handed.Shared.{Shared}
use Rattle.life_queue.specs.declared.life.Work.{Work}
use Rattle.life_queue.specs.declared.life.Work.TheVariants as work
use Rattle.life_queue.specs.Lives as lives
use Rattle.life_queue.specs.Lives.{life_seen, trees_in, work_of}
use Rattle.slot_picks.specs.declared.lives.Place.{Place}
use Rattle.slot_picks.specs.Places.{is_accepted, lent, seen_at, seens_from, told_of}
use Rattle.slot_picks.specs.Feeding.{AreFed, AreStill, Delivers, HaveDone, IsLastFed, counts_for, events_for, fresh_lasts, gets, given_events, posts_seen, told_more, with_more}
use Rattle.slot_picks.specs.Posting.{AreAlike, AreEvents, GivesRound, HasRound, HaveRound, IsAlike, IsEvent, IsRound, WereGiven, fresh_of_life, fresh_of_lasts, post_in}
use Rattle.slot_picks.proofs.More.{given_none}
use Rattle.slot_picks.proofs.Feeding.{fresh_same, quiet_still, read_at, round_fed, still_quiet}
use Rattle.slot_picks.proofs.Gathering.{get_within, map_get, map_twice}

-- ## One life

event_work : (fs : List Forest) (v : List ℕ) (x : Work) → IsEvent v x → work_of fs x ≡ todo.Given (event_of v)
event_work fs v (work.Event e) is = ap todo.Given is
event_work fs v (work.Library c) is = absurd is
event_work fs v (work.Go c) is = absurd is
event_work fs v (work.Advance d) is = absurd is
event_work fs v (work.Until n limit) is = absurd is

pub event_works : (fs : List Forest) (vs : List (List ℕ)) (xs : List Work) → AreEvents vs xs → map (work_of fs) xs ≡ map (λ value. todo.Given (event_of value)) vs
event_works fs [] [] are = refl
event_works fs [] (x ∷ xs) are = absurd are
event_works fs (v ∷ vs) [] are = absurd are
event_works fs (v ∷ vs) (x ∷ xs) are = λ i. event_work fs v x are.0 i ∷ event_works fs vs xs are.1 i

pub seen_accepted : (h : Shared) (v : ℕ) (l : Place) → l.life.accepted ≡ true → seen_at h v l ≡ life_seen (lent h l) v l.life
seen_accepted h v l is = rw is refl

seen_refused : (h : Shared) (v : ℕ) (l : Place) → l.life.accepted ≡ false → seen_at h v l ≡ flag false
seen_refused h v l is = rw is refl

-- a life with the events of a round is seen so
seen_round : (h : Shared) (v : ℕ) (l m : Place) (b : Bool) (vs : List (List ℕ)) (n : ℕ) → l.life.accepted ≡ b → HasRound (if b then vs else []) n l m → seen_at h v m ≡ given_events (if b then vs else []) (seen_at h v l)
seen_round h v l m true vs n is r =
    let now : m.life.accepted ≡ true = ap (λ (p : Place). p.life.accepted) r.alike ∙ is in
    let fs : List Forest = trees_in (lent h l) in
    let queue : map (work_of fs) m.life.queue.items ≡ map (work_of fs) l.life.queue.items ++ map (λ value. todo.Given (event_of value)) vs =
    ap (map (work_of fs)) r.events.queue ∙ (map-append (work_of fs) l.life.queue.items r.events.works ∙ ap (λ ws. map (work_of fs) l.life.queue.items ++ ws) (event_works fs vs r.events.works r.events.are)) in
    seen_accepted h v m now
    ∙ (ap (λ (p : Place). life_seen (lent h p) v p.life) r.alike
    ∙ (ap (λ (q : List todo.Work). record (life_seen (lent h l) v l.life) { queue = q }) queue
    ∙ ap (given_events vs) (sym (seen_accepted h v l is))))
seen_round h v l m false vs n is r =
    let now : m.life.accepted ≡ false = ap (λ (p : Place). p.life.accepted) r.alike ∙ is in
    seen_refused h v m now ∙ (sym (seen_refused h v l is) ∙ sym (given_none (seen_at h v l)))

-- ## All lives

-- lives with the events of a round are seen so
pub seens_round : (h : Shared) (acc : ℕ → Bool) (more : ℕ → List (List ℕ)) (counts : ℕ → ℕ) (v : ℕ) (ls ms : List Place) → ((k : ℕ) (l : Place) → slice_get ls k ≡ Some l → acc (v + k) ≡ l.life.accepted)
    → HaveRound more counts v ls ms → seens_from h v ms ≡ with_more (λ u. if acc u then more u else []) v (seens_from h v ls)
seens_round h acc more counts v [] [] is r = refl
seens_round h acc more counts v [] (m ∷ ms) is r = absurd r
seens_round h acc more counts v (l ∷ ls) [] is r = absurd r
seens_round h acc more counts v (l ∷ ls) (m ∷ ms) is r =
    let e : v + 0 ≡ v = omega arith in
    let this : acc v ≡ l.life.accepted = subst (λ u. acc u ≡ l.life.accepted) e (is 0 l refl) in
    let head : seen_at h v m ≡ given_events (if acc v then more v else []) (seen_at h v l) =
    seen_round h v l m (acc v) (more v) (counts v) (sym this) (subst (λ (b : Bool). HasRound (if b then more v else []) (counts v) l m) (sym this) r.0) in
    let later = seens_round h acc more counts (v + 1) ls ms (λ k p at. (let g : v + suc k ≡ (v + 1) + k = omega arith in subst (λ u. acc u ≡ p.life.accepted) g (is (suc k) p at))) r.1 in
    λ i. head i ∷ later i

pub told_round : (more : ℕ → List (List ℕ)) (counts : ℕ → ℕ) (v : ℕ) (ls ms : List Place) → HaveRound more counts v ls ms → told_of ms ≡ told_more counts v (told_of ls)
told_round more counts v [] [] r = refl
told_round more counts v [] (m ∷ ms) r = absurd r
told_round more counts v (l ∷ ls) [] r = absurd r
told_round more counts v (l ∷ ls) (m ∷ ms) r = let later = told_round more counts (v + 1) ls ms r.1 in λ i. r.0.told i ∷ later i

accepts_round : (more : ℕ → List (List ℕ)) (counts : ℕ → ℕ) (v k : ℕ) (ls ms : List Place) → HaveRound more counts v ls ms → is_accepted ms k ≡ is_accepted ls k
accepts_round more counts v k [] [] r = refl
accepts_round more counts v k [] (m ∷ ms) r = absurd r
accepts_round more counts v k (l ∷ ls) [] r = absurd r
accepts_round more counts v zero (l ∷ ls) (m ∷ ms) r = ap (λ (p : Place). p.life.accepted) r.0.alike
accepts_round more counts v (suc k) (l ∷ ls) (m ∷ ms) r = accepts_round more counts (v + 1) k ls ms r.1

pub accepted_at : (ls : List Place) (k : ℕ) (l : Place) → slice_get ls k ≡ Some l → is_accepted ls k ≡ l.life.accepted
accepted_at [] k l at = cc
accepted_at (m ∷ ls) zero l at = ap (λ (p : Place). p.life.accepted) (same m l at)
  where
    same : (m l : Place) → Some m ≡ Some l → m ≡ l
    same m l e = cc
accepted_at (m ∷ ls) (suc k) l at = accepted_at ls k l at

-- ## Lives that are as they were but for queues and taken posts

image_alike : (h : Shared) (v : ℕ) (l m : Place) → IsAlike l m → image (seen_at h v m) ≡ image (seen_at h v l)
image_alike h v l m alike = ap (λ (p : Place). image (seen_at h v p)) alike ∙ by l.life.accepted refl
  where
    by : (b : Bool) → l.life.accepted ≡ b → image (seen_at h v (record l { life = record l.life { queue = m.life.queue }; told = m.told })) ≡ image (seen_at h v l)
    by true is = ap image (seen_accepted h v (record l { life = record l.life { queue = m.life.queue }; told = m.told }) is) ∙ sym (ap image (seen_accepted h v l is))
    by false is = ap image (seen_refused h v (record l { life = record l.life { queue = m.life.queue }; told = m.told }) is) ∙ sym (ap image (seen_refused h v l is))

-- show what they did
pub images_alike : (h : Shared) (v : ℕ) (ls ms : List Place) → AreAlike ls ms → map image (seens_from h v ms) ≡ map image (seens_from h v ls)
images_alike h v [] [] a = refl
images_alike h v [] (m ∷ ms) a = absurd a
images_alike h v (l ∷ ls) [] a = absurd a
images_alike h v (l ∷ ls) (m ∷ ms) a = let head = image_alike h v l m a.0 in let later = images_alike h (v + 1) ls ms a.1 in λ i. head i ∷ later i

seen_of : (h : Shared) (v k : ℕ) (ls : List Place) → slice_get (seens_from h v ls) k ≡ option_map (seen_at h (v + k)) (slice_get ls k)
seen_of h v k [] = refl
seen_of h v zero (l ∷ ls) = let e : v ≡ v + 0 = omega arith in ap (λ u. Some (seen_at h u l)) e
seen_of h v (suc k) (l ∷ ls) = let e : (v + 1) + k ≡ v + suc k = omega arith in seen_of h (v + 1) k ls ∙ ap (λ u. option_map (seen_at h u) (slice_get ls k)) e

-- and one that is as it was is seen so
pub seen_same : (h : Shared) (k : ℕ) (ls ms : List Place) → slice_get ms k ≡ slice_get ls k → slice_get (seens_from h 0 ms) k ≡ slice_get (seens_from h 0 ls) k
seen_same h k ls ms e = seen_of h 0 k ms ∙ (ap (option_map (seen_at h (0 + k))) e ∙ sym (seen_of h 0 k ls))

-- ## Fresh posts

shown_posts : (t : Option Going) (o : OwnState) → posts_of (shown t o) ≡ posts_of o
shown_posts None o = refl
shown_posts (Some t) o = refl

posts_same : (h : Shared) (v : ℕ) (l : Place) → l.life.accepted ≡ true → posts_of (image (seen_at h v l)) ≡ map post_in (take max_posts l.life.widget.posts.items)
posts_same h v l is =
    let s : Seen = life_seen (lent h l) v l.life in
    ap (λ (x : Seen). posts_of (image x)) (seen_accepted h v l is)
    ∙ (shown_posts s.going s.own
    ∙ (ap (map fed.post_of) (take-map lives.post_of max_posts l.life.widget.posts.items) ∙ sym (map_twice lives.post_of fed.post_of (take max_posts l.life.widget.posts.items))))

fresh_here : (h : Shared) (v : ℕ) (l : Place) (b : Bool) → l.life.accepted ≡ b
    → (if b then drop l.told (map post_in (take max_posts l.life.widget.posts.items)) else []) ≡ (if b then drop l.told (posts_of (image (seen_at h v l))) else [])
fresh_here h v l true is = ap (drop l.told) (sym (posts_same h v l is))
fresh_here h v l false is = refl

fresh_place : (h : Shared) (v k : ℕ) (ls : List Place) → fresh_of_life (slice_get ls k) ≡ (if is_accepted ls k then drop (slice_index_or (told_of ls) k 0) (posts_seen (slice_get (seens_from h v ls) k)) else [])
fresh_place h v zero [] = refl
fresh_place h v (suc k) [] = refl
fresh_place h v zero (l ∷ ls) = fresh_here h v l l.life.accepted refl
fresh_place h v (suc k) (l ∷ ls) = fresh_place h (v + 1) k ls

-- the fresh posts of lives are those that are seen of them
fresh_seen : (h : Shared) (ls : List Place) (cs : List (List ℕ)) → fresh_of_lasts ls cs ≡ fresh_lasts (is_accepted ls) (seens_from h 0 ls) (told_of ls) cs
fresh_seen h ls [] = refl
fresh_seen h ls (c ∷ cs) = let head = fresh_place h 0 (last_life c) ls in let later = fresh_seen h ls cs in λ i. head i ∷ later i

told_there : (h : Shared) (v k n : ℕ) (ls : List Place) → slice_get (told_of ls) k ≡ Some n → (s : Seen) × (slice_get (seens_from h v ls) k ≡ Some s)
told_there h v k n [] at = absurd (none n k at)
  where
    none : (n k : ℕ) → slice_get (told_of []) k ≡ Some n → ⊥
    none n k e = cc
told_there h v zero n (l ∷ ls) at = (seen_at h v l, refl)
told_there h v (suc k) n (l ∷ ls) at = told_there h (v + 1) k n ls at

-- ## The round

-- lives of which the same were accepted
same_last : (a b : ℕ → Bool) → ((v : ℕ) → b v ≡ a v) → (ss : List Seen) (told : List ℕ) (v : ℕ) (f : Option Fed) → IsLastFed a ss told v f → IsLastFed b ss told v f
same_last a b same ss told v None h = same v ∙ h
same_last a b same ss told v (Some f) h = record { accepted = same v ∙ h.accepted; comes = h.comes; taken = h.taken }

same_given : (a b : ℕ → Bool) → ((v : ℕ) → b v ≡ a v) → (ss : List Seen) (told : List ℕ) (cs : List (List ℕ)) (fs : List (Option Fed)) → AreFed a ss told cs fs → AreFed b ss told cs fs
same_given a b same ss told [] [] h = tt
same_given a b same ss told [] (f ∷ fs) h = absurd h
same_given a b same ss told (c ∷ cs) [] h = absurd h
same_given a b same ss told (c ∷ cs) (f ∷ fs) h = (same_last a b same ss told (last_life c) f h.0, same_given a b same ss told cs fs h.1)

get_range : (a n w : ℕ) → w < n → slice_get (range_with_len a n) w ≡ Some (a + w)
get_range a zero w within = absurd (omega (arith, within))
get_range a (suc n) zero within = let e : a ≡ a + 0 = omega arith in ap Some e
get_range a (suc n) (suc w) within = let e : (a + 1) + w ≡ a + suc w = omega arith in get_range (a + 1) n w (omega (arith, within)) ∙ ap Some e

news_at : (channels : List (ℕ × ℕ)) (names : List (List ℕ)) (ps : List (List Post)) (w : ℕ) → w < length names → slice_get (all_news channels names ps) w ≡ Some (news channels names ps w)
news_at channels names ps w within =
    let e : 0 + w ≡ w = omega arith in
    map_get (news channels names ps) (range_with_len 0 (length names)) w (0 + w) (get_range 0 (length names) w within) ∙ ap (λ u. Some (news channels names ps u)) e

module _ (channels : List (ℕ × ℕ)) (names : List (List ℕ)) (cs : List (List ℕ)) (old new : List Place) (homes : List ℕ) (born : ℕ) (chains : Chains homes born 0 cs) (slots : length names ≡ length cs)
    (h : Shared) (fs : List (Option Fed)) (settled : HaveDone (seens_from h 0 old)) (given : WereGiven h cs old fs) where
  fresh_are : fresh_of_lasts old cs ≡ fresh fs
  fresh_are = fresh_seen h old cs ∙ fresh_same (is_accepted old) (seens_from h 0 old) (told_of old) (λ v n at. told_there h 0 v n old at) settled cs fs given

  news_are : (w : ℕ) (c : List ℕ) → slice_get cs w ≡ Some c → slice_get (all_news channels names (fresh_of_lasts old cs)) w ≡ Some (news channels names (fresh fs) w)
  news_are w c at =
      let within = get_within cs w c at in
      ap (λ ps. slice_get (all_news channels names ps) w) fresh_are ∙ news_at channels names (fresh fs) w (omega (arith, within, slots))

  no_news : AreStill (is_accepted old) cs (all_news channels names (fresh_of_lasts old cs)) → (i w : ℕ) (c : List ℕ) → 0 + i ≡ w → slice_get cs i ≡ Some c → is_accepted old (last_life c) ≡ true → news channels names (fresh fs) w ≡ []
  no_news still i w c e at is =
      let same : i ≡ w = omega (arith, e) in
      subst (λ n. news channels names (fresh fs) n ≡ []) same (sym (read_at (all_news channels names (fresh_of_lasts old cs)) i (news channels names (fresh fs) i) (news_are i c at)) ∙ still i c at is)

  quiet_delivers : AreStill (is_accepted old) cs (all_news channels names (fresh_of_lasts old cs)) → new ≡ old → Delivers false channels names fs (WereGiven h cs new)
  quiet_delivers still same = (
    still_quiet (is_accepted old) (seens_from h 0 old) (told_of old) channels names (fresh fs) 0 cs fs given (no_news still),
    subst (λ (ps : List Place). WereGiven h cs ps fs) (sym same) given,
  )

  quiet_is_still : AreQuiet channels names (fresh fs) 0 fs → AreStill (is_accepted old) cs (all_news channels names (fresh_of_lasts old cs))
  quiet_is_still quiet w c at is =
      read_at (all_news channels names (fresh_of_lasts old cs)) w (news channels names (fresh fs) w) (news_are w c at)
      ∙ quiet_still (is_accepted old) (seens_from h 0 old) (told_of old) channels names (fresh fs) 0 w w cs fs c (omega arith) given quiet at is

  given_more : HaveRound (events_for cs (all_news channels names (fresh_of_lasts old cs))) (counts_for cs (map length (fresh_of_lasts old cs))) 0 old new → WereGiven h cs new (round channels names fs)
  given_more r =
      let es : List (List (List ℕ)) = all_news channels names (fresh_of_lasts old cs) in
      let counts : List ℕ = map length (fresh_of_lasts old cs) in
      let seen : seens_from h 0 new ≡ with_more (gets (is_accepted old) cs es) 0 (seens_from h 0 old) =
      seens_round h (is_accepted old) (events_for cs es) (counts_for cs counts) 0 old new (λ k l at. (let e : 0 + k ≡ k = omega arith in ap (is_accepted old) e ∙ accepted_at old k l at)) r in
      let told : told_of new ≡ told_more (counts_for cs (map length (fresh fs))) 0 (told_of old) =
      told_round (events_for cs es) (counts_for cs counts) 0 old new r ∙ ap (λ ps. told_more (counts_for cs (map length ps)) 0 (told_of old)) fresh_are in
      let fed_then = round_fed (is_accepted old) (seens_from h 0 old) (told_of old) channels names homes born cs es fs chains news_are given in
      same_given (is_accepted old) (is_accepted new) (λ v. accepts_round (events_for cs es) (counts_for cs counts) 0 v old new r) (seens_from h 0 new) (told_of new) cs (round channels names fs)
      (subst (λ (ts : List ℕ). AreFed (is_accepted old) (seens_from h 0 new) ts cs (round channels names fs)) (sym told)
      (subst (λ (ss : List Seen). AreFed (is_accepted old) ss (told_more (counts_for cs (map length (fresh fs))) 0 (told_of old)) cs (round channels names fs)) (sym seen) fed_then))

  loud_delivers : (AreStill (is_accepted old) cs (all_news channels names (fresh_of_lasts old cs)) → ⊥)
      → HaveRound (events_for cs (all_news channels names (fresh_of_lasts old cs))) (counts_for cs (map length (fresh_of_lasts old cs))) 0 old new → Delivers true channels names fs (WereGiven h cs new)
  loud_delivers loud r = (λ quiet. loud (quiet_is_still quiet), given_more r)

-- a round over the lives of places is one of what the last lives were given
pub gives_round : (delivered : Bool) (channels : List (ℕ × ℕ)) (names : List (List ℕ)) (cs : List (List ℕ)) (old new : List Place) (homes : List ℕ) (born : ℕ) → Chains homes born 0 cs → length names ≡ length cs
    → IsRound delivered channels names cs old new → GivesRound delivered channels names cs old new
gives_round false channels names cs old new homes born chains slots r = λ h fs settled given. quiet_delivers channels names cs old new homes born chains slots h fs settled given r.0 r.1
gives_round true channels names cs old new homes born chains slots r = λ h fs settled given. loud_delivers channels names cs old new homes born chains slots h fs settled given r.0 r.1
