-- What is read off all lives before a round, and what is known of it.
use Rattle.std.proofs.Common.{◌≡◌, ◌≢◌, ℕ, zero, suc, ◌+◌, ◌*◌, ◌<◌, ◌≤◌, Bool, true, false, List, [], ◌∷◌, ◌++◌, map, length, drop, take, refl, sym, ap, ◌∙◌, subst, arith, Option, Some, None, inl, inr}
use Rattle.std.specs.Prelude.{nat_eq, not, slice_get, slice_index_or, if◌then◌else◌}
use Rattle.std.proofs.lemmas.Bool.{cases_lt, eqb-false, eqb-true}
use Rattle.std.proofs.lemmas.Grind.{common_steps}
use Rattle.std.proofs.lemmas.List.FromFn.{length-map-range_with_len}
use Rattle.std.proofs.lemmas.List.{length-drop, length-map, length-take, map-append}
use Rattle.std.specs.declared.alloc.Global.{Global}
use Rattle.std.specs.declared.vec.Vec.{Vec}
use Rattle.post_rounds.specs.declared.posts.Post.{Post}
use Rattle.post_rounds.specs.declared.posts.PostEvent.{PostEvent}
use Rattle.post_rounds.specs.Events.{values}
use Rattle.post_rounds.specs.News.{all_news, news}
use Rattle.life_laws.specs.Chains.{last_life}
use Rattle.slot_picks.specs.declared.lives.Place.{Place}
use Rattle.slot_picks.specs.declared.slots.Slot.{Slot}
use Rattle.slot_picks.specs.Lives.{chains_of}
use Rattle.slot_picks.specs.Places.{is_accepted}
use Rattle.widget_meaning.specs.Limits.{max_posts}
use Rattle.slot_picks.specs.Feeding.{AreStill, counts_for, events_for, sum_of}
use Rattle.slot_picks.specs.Posting.{HaveRound, IsRound, fresh_in, fresh_of_life, fresh_of_lasts, post_in}
use Rattle.slot_picks.proofs.More.{some_is}
use Rattle.slot_picks.proofs.Feeding.{read_at}

-- ## Lists

pub map_get : {A B : Type 0} (f : A → B) (xs : List A) (i : ℕ) (x : A) → slice_get xs i ≡ Some x → slice_get (map f xs) i ≡ Some (f x)
map_get f [] i x at = cc
map_get f (y ∷ xs) zero x at = ap (λ z. Some (f z)) (some_is y x at)
map_get f (y ∷ xs) (suc i) x at = map_get f xs i x at

pub map_more : {A B : Type 0} (f : A → B) (xs : List A) (i : ℕ) (x : A) → slice_get xs i ≡ Some x → map f (take (i + 1) xs) ≡ map f (take i xs) ++ f x ∷ []
map_more f [] i x at = cc
map_more f (y ∷ xs) zero x at = ap (λ z. f z ∷ []) (some_is y x at)
map_more f (y ∷ xs) (suc i) x at =
    let e : suc i + 1 ≡ suc (i + 1) = omega arith in
    ap (λ n. map f (take n (y ∷ xs))) e ∙ ap (λ r. f y ∷ r) (map_more f xs i x at)

pub map_twice : {A B C : Type 0} (f : A → B) (g : B → C) (xs : List A) → map (λ x. g (f x)) xs ≡ map g (map f xs)
map_twice f g [] = refl
map_twice f g (x ∷ xs) = ap (λ r. g (f x) ∷ r) (map_twice f g xs)

pub get_within : {A : Type 0} (xs : List A) (i : ℕ) (x : A) → slice_get xs i ≡ Some x → i < length xs
get_within [] i x at = cc
get_within (y ∷ xs) zero x at = omega arith
get_within (y ∷ xs) (suc i) x at = let later = get_within xs i x at in omega (arith, later)

pub some_get : {A : Type 0} (xs : List A) (i : ℕ) → i < length xs → (x : A) × (slice_get xs i ≡ Some x)
some_get [] i within = absurd (omega (arith, within))
some_get (x ∷ xs) zero within = (x, refl)
some_get (x ∷ xs) (suc i) within = some_get xs i (omega (arith, within))

-- ## Fresh posts

-- those of one slot more
fresh_more : (ps : List Place) (ss : List Slot) (i : ℕ) (s : Slot) → slice_get ss i ≡ Some s
    → fresh_of_lasts ps (chains_of (take (i + 1) ss)) ≡ fresh_of_lasts ps (chains_of (take i ss)) ++ fresh_of_life (slice_get ps (last_life s.lives.items)) ∷ []
fresh_more ps [] i s at = cc
fresh_more ps (t ∷ ss) zero s at = ap (λ (x : Slot). fresh_of_life (slice_get ps (last_life x.lives.items)) ∷ []) (some_is t s at)
fresh_more ps (t ∷ ss) (suc i) s at =
    let e : suc i + 1 ≡ suc (i + 1) = omega arith in
    ap (λ n. fresh_of_lasts ps (chains_of (take n (t ∷ ss)))) e ∙ ap (λ r. fresh_of_life (slice_get ps (last_life t.lives.items)) ∷ r) (fresh_more ps ss i s at)

pub fresh_step : (ps : List Place) (ss : List Slot) (i v : ℕ) (s : Slot) (p : Place) (all : List (Vec Post Global)) (x : Vec Post Global) → slice_get ss i ≡ Some s → v ≡ last_life s.lives.items → slice_get ps v ≡ Some p → x.items ≡ fresh_in p
    → map (λ (y : Vec Post Global). y.items) all ≡ fresh_of_lasts ps (chains_of (take i ss)) → map (λ (y : Vec Post Global). y.items) (all ++ x ∷ []) ≡ fresh_of_lasts ps (chains_of (take (i + 1) ss))
fresh_step ps ss i v s p all x at last there is before =
    let here : x.items ≡ fresh_of_life (slice_get ps (last_life s.lives.items)) = is ∙ ap fresh_of_life (sym (ap (slice_get ps) (sym last) ∙ there)) in
    map-append (λ (y : Vec Post Global). y.items) all (x ∷ [])
    ∙ (ap (λ r. r ++ x.items ∷ []) before ∙ (ap (λ y. fresh_of_lasts ps (chains_of (take i ss)) ++ y ∷ []) here ∙ sym (fresh_more ps ss i s at)))

pub few_kept : (xs : List (List ℕ × List ℕ)) → length (map post_in (take max_posts xs)) ≤ 256
few_kept xs = let same = length-map (take max_posts xs) post_in in let few = length-take max_posts xs in grind (arith, common_steps)

few_of : (o : Option Place) → length (fresh_of_life o) ≤ 256
few_of None = omega arith
few_of (Some p) = by p.life.accepted
  where
    by : (b : Bool) → length (if b then drop p.told (map post_in (take max_posts p.life.widget.posts.items)) else []) ≤ 256
    by true =
        let rest = length-drop p.told (map post_in (take max_posts p.life.widget.posts.items)) in
        let most = few_kept p.life.widget.posts.items in
        omega (arith, rest, most)
    by false = omega arith

-- no more of each life than it keeps
pub few_taken : (ps : List Place) (cs : List (List ℕ)) → sum_of (map length (fresh_of_lasts ps cs)) ≤ 256 * length cs
few_taken ps [] = omega arith
few_taken ps (c ∷ cs) = let here = few_of (slice_get ps (last_life c)) in let later = few_taken ps cs in omega (arith, here, later)

-- how many slots there are
pub fresh_length : (ps : List Place) (ss : List Slot) (xs : List (Vec Post Global)) → map (λ (x : Vec Post Global). x.items) xs ≡ fresh_of_lasts ps (chains_of ss) → length xs ≡ length ss
fresh_length ps ss xs e =
    sym (length-map xs (λ (x : Vec Post Global). x.items)) ∙ (ap length e ∙ (length-map (chains_of ss) (λ c. fresh_of_life (slice_get ps (last_life c))) ∙ length-map ss (λ (s : Slot). s.lives.items)))

pub events_length : (channels : List (ℕ × ℕ)) (names : List (List ℕ)) (ps : List (List Post)) (es : List (Vec PostEvent Global)) → map (λ (x : Vec PostEvent Global). values x.items) es ≡ all_news channels names ps → length es ≡ length names
events_length channels names ps es e =
    sym (length-map es (λ (x : Vec PostEvent Global). values x.items)) ∙ (ap length e ∙ length-map-range_with_len (news channels names ps) 0 (length names))

-- ## Whether there are events

-- whether the life at a place was accepted
pub accepted_read : (ps : List Place) (v : ℕ) (p : Place) → v < length ps → is_accepted ps v ≡ (slice_index_or ps v p).life.accepted
accepted_read [] v p within = absurd (omega (arith, within))
accepted_read (q ∷ ps) zero p within = refl
accepted_read (q ∷ ps) (suc v) p within = accepted_read ps v p (omega (arith, within))

pub no_values : (es : List PostEvent) → length es ≡ 0 → values es ≡ []
no_values [] e = refl
no_values (x ∷ es) e = absurd (omega (arith, e))

pub some_values : (es : List PostEvent) → values es ≡ [] → length es ≡ 0
some_values [] e = refl
some_values (x ∷ es) e = absurd (none x es e)
  where
    none : (x : PostEvent) (es : List PostEvent) → values (x ∷ es) ≡ [] → ⊥
    none x es e = cc

pub false_true : false ≡ true → ⊥
false_true e = cc

pub told_now : (b : Bool) (es : List PostEvent) → b ≡ nat_eq (length es) 0 → not b ≡ true → values es ≢ []
told_now true es is e = absurd (false_true e)
told_now false es is e = λ none. eqb-false (length es) 0 (sym is) (some_values es none)

pub untold_now : (b : Bool) (es : List PostEvent) → b ≡ nat_eq (length es) 0 → not b ≡ false → values es ≡ []
untold_now true es is e = no_values es (eqb-true (length es) 0 (sym is))
untold_now false es is e = absurd (false_true (sym e))

-- one slot more has none
pub still_step : (acc : ℕ → Bool) (cs : List (List ℕ)) (es : List (List (List ℕ))) (i : ℕ) (c : List ℕ) (e : List (List ℕ)) → slice_get cs i ≡ Some c → slice_get es i ≡ Some e → (acc (last_life c) ≡ true → e ≡ [])
    → ((w : ℕ) (d : List ℕ) → w < i → slice_get cs w ≡ Some d → acc (last_life d) ≡ true → slice_index_or es w [] ≡ [])
    → (w : ℕ) (d : List ℕ) → w < i + 1 → slice_get cs w ≡ Some d → acc (last_life d) ≡ true → slice_index_or es w [] ≡ []
still_step acc cs es i c e at is here before w d within there is_yes = elim (cases_lt w i) as (λ _. slice_index_or es w [] ≡ []) [
  | inl lt ↦ before w d lt there is_yes
  | inr ge ↦
      (let same : w ≡ i = omega (arith, within, ge) in
      let which : d ≡ c = some_is d c (sym there ∙ (ap (slice_get cs) same ∙ at)) in
      read_at es w e (ap (slice_get es) same ∙ is) ∙ here (ap (λ x. acc (last_life x)) (sym which) ∙ is_yes))
]

-- a slot that has some
pub not_still : (acc : ℕ → Bool) (cs : List (List ℕ)) (es : List (List (List ℕ))) (i : ℕ) (c : List ℕ) (e : List (List ℕ)) → slice_get cs i ≡ Some c → slice_get es i ≡ Some e → acc (last_life c) ≡ true → e ≢ [] → AreStill acc cs es → ⊥
not_still acc cs es i c e at is is_yes some still = some (sym (read_at es i e is) ∙ still i c at is_yes)

-- ## The round

module _ (channels : List (ℕ × ℕ)) (names names' : List (List ℕ)) (cs : List (List ℕ)) (old new : List Place) (es : List (List (List ℕ))) (ps : List (List Post))
    (events : es ≡ all_news channels names' ps) (same : names' ≡ names) (fresh : ps ≡ fresh_of_lasts old cs) where
  events_are : es ≡ all_news channels names (fresh_of_lasts old cs)
  events_are = events ∙ (ap (λ k. all_news channels k ps) same ∙ ap (all_news channels names) fresh)

  pub quiet_round : AreStill (is_accepted old) cs es → new ≡ old → IsRound false channels names cs old new
  quiet_round still e = (subst (λ (x : List (List (List ℕ))). AreStill (is_accepted old) cs x) events_are still, e)

  pub loud_round : (ns : List ℕ) → ns ≡ map length ps → (AreStill (is_accepted old) cs es → ⊥) → HaveRound (events_for cs es) (counts_for cs ns) 0 old new → IsRound true channels names cs old new
  loud_round ns e loud h = (
    subst (λ (x : List (List (List ℕ))). AreStill (is_accepted old) cs x → ⊥) events_are loud,
    subst (λ (x : List (List (List ℕ))). HaveRound (events_for cs x) (counts_for cs (map length (fresh_of_lasts old cs))) 0 old new) events_are
        (subst (λ (x : List ℕ). HaveRound (events_for cs es) (counts_for cs x) 0 old new) (e ∙ ap (map length) fresh) h),
  )
