-- What is seen of a life, and what slots show of it.
use Rattle.std.proofs.Common.{◌≡◌, ℕ, zero, suc, ◌+◌, ◌<◌, List, [], ◌∷◌, length, Bool, true, false, refl, sym, ap, ◌∙◌, subst, arith, Option, Some, None, get_or}
use Rattle.std.specs.Prelude.{slice_get, slice_index_or, if◌then◌else◌}
use Rattle.std.specs.Option.{option_map}
use Rattle.std.proofs.lemmas.List.{length-map}
use Rattle.std.proofs.lemmas.Option.{slice_get_read}
use Rattle.page_image.specs.Image.{forest}
use Rattle.life_laws.specs.Life.{Going, Seen, image, shown}
use Rattle.widget_meaning.specs.OwnState.{OwnState}
use Rattle.native_image.specs.declared.handed.Shared.{Shared}
use Rattle.slot_picks.specs.declared.lives.Lives.{Lives}
use Rattle.slot_picks.specs.declared.lives.Place.{Place}
use Rattle.slot_picks.specs.QueueLives.{going_of, life_seen, own_of}
use Rattle.slot_picks.specs.declared.slots.Slot.{Slot}
use Rattle.slot_picks.specs.Lives.{chains_of, present_of, seens_of}
use Rattle.life_laws.specs.Chains.{IsChain}
use Rattle.slot_picks.specs.Places.{FinePlace, FinePlaces, OwnPlace, OwnPlaces, accepts_of, homes_of, is_accepted, lent, seen_at, seens_from}
use Rattle.widget_host.specs.declared.host.Host.{Host}
use Rattle.widget_host.specs.declared.lines.RunLine.{RunLine}
use Rattle.widget_host.specs.Housed.{AreShown, IsLineOf, IsShown, IsWhole, accepts, chains, present, rooted, seens, swaps}
use Rattle.widget_host.proofs.Lasts.{slot_chain, some_is}
use Rattle.widget_host.proofs.Fed.{seen_accepted}
use Rattle.widget_host.proofs.Printed.{AreEnds}

-- ## A life by its number

pub accepts_at : (ls : List Place) (k : ℕ) (l : Place) → slice_get ls k ≡ Some l → slice_index_or (accepts_of ls) k false ≡ l.life.accepted
accepts_at [] k l at = cc
accepts_at (y ∷ ls) zero l at = ap (λ (z : Place). z.life.accepted) (some_is y l at)
accepts_at (y ∷ ls) (suc k) l at = accepts_at ls k l at

-- the life of which this is seen
pub life_at : (h : Shared) (v k : ℕ) (ls : List Place) (s : Seen) → slice_get (seens_from h v ls) k ≡ Some s → (l : Place) × (slice_get ls k ≡ Some l) × (seen_at h (v + k) l ≡ s)
life_at h v k [] s at = cc
life_at h v zero (y ∷ ls) s at = let e : v ≡ v + 0 = omega arith in (y, refl, subst (λ n. seen_at h n y ≡ s) e (some_is (seen_at h v y) s at))
life_at h v (suc k) (y ∷ ls) s at =
    let r = life_at h (v + 1) k ls s at in
    let e : (v + 1) + k ≡ v + suc k = omega arith in
    (r.0, r.1, subst (λ n. seen_at h n r.0 ≡ s) e r.2)

-- and what is seen of an accepted one
pub seen_of_life : (h : Shared) (k : ℕ) (ls : List Place) (l : Place) (s : Seen) → slice_get ls k ≡ Some l → slice_index_or (accepts_of ls) k false ≡ true → slice_get (seens_from h 0 ls) k ≡ Some s → s ≡ life_seen (lent h l) k l.life
seen_of_life h k ls l s at accepted there =
    let r = life_at h 0 k ls s there in
    let same : r.0 ≡ l = some_is r.0 l (sym r.1 ∙ at) in
    let e : 0 + k ≡ k = omega arith in
    sym r.2 ∙ ap (λ (y : Place). seen_at h (0 + k) y) same ∙ ap (λ n. seen_at h n l) e ∙ seen_accepted h k l (sym (accepts_at ls k l at) ∙ accepted)

-- there is a life whose file was accepted
pub life_accepted : (ls : List Place) (k : ℕ) → slice_index_or (accepts_of ls) k false ≡ true → (l : Place) × (slice_get ls k ≡ Some l) × (l.life.accepted ≡ true)
life_accepted [] k is = absurd (let e = is in cc)
life_accepted (y ∷ ls) zero is = (y, refl, is)
life_accepted (y ∷ ls) (suc k) is = life_accepted ls k is

-- it is sound
pub fine_at : (h : Shared) (v k w : ℕ) (ls : List Place) (l : Place) → w ≡ v + k → slice_get ls k ≡ Some l → FinePlaces h v ls → FinePlace h w l
fine_at h v k w [] l e at fine = cc
fine_at h v zero w (y ∷ ls) l e at fine =
    let here : v ≡ w = omega (arith, e) in
    subst (λ n. FinePlace h n l) here (subst (FinePlace h v) (some_is y l at) fine.0)
fine_at h v (suc k) w (y ∷ ls) l e at fine = fine_at h (v + 1) k w ls l (omega (arith, e)) at fine.1

-- and holds its own
pub own_at : (h : Shared) (v k w : ℕ) (ls : List Place) (l : Place) → w ≡ v + k → slice_get ls k ≡ Some l → OwnPlaces h v ls → OwnPlace h w l
own_at h v k w [] l e at own = cc
own_at h v zero w (y ∷ ls) l e at own =
    let here : v ≡ w = omega (arith, e) in
    subst (λ n. OwnPlace h n l) here (subst (OwnPlace h v) (some_is y l at) own.0)
own_at h v (suc k) w (y ∷ ls) l e at own = own_at h (v + 1) k w ls l (omega (arith, e)) at own.1

-- ## What a slot shows

shown_forest : (g : Option Going) (o : OwnState) → (shown g o).forest ≡ o.forest
shown_forest None o = refl
shown_forest (Some t) o = refl

life_forest : (h : Shared) (w : ℕ) (l : Place) → (image (life_seen (lent h l) w l.life)).forest ≡ forest h.page w
life_forest h w l = shown_forest (option_map (going_of (lent h l) w l.life) l.life.turn) (own_of (lent h l) w l.life)

module _ (h : Host) where
  one_end : (w : ℕ) (own : OwnState) → IsShown h w (Some own) → own.forest ≡ forest h.lives.shared.page w
  unfolding accepts seens
  one_end w own is =
      let s = is.1.0 in
      let r = life_at h.lives.shared 0 w h.lives.places.items s is.1.1 in
      ap (λ (o : OwnState). o.forest) (sym is.1.2) ∙ ap (λ (t : Seen). (image t).forest) (seen_of_life h.lives.shared w h.lives.places.items r.0 s r.1 is.0 is.1.1) ∙ life_forest h.lives.shared w r.0

  -- the slots that are shown have the trees of the page
  pub ends_shown : (cs : List (List ℕ)) (ends : List (Option OwnState)) → AreShown h cs ends
      → AreEnds h.lives.shared.page (rooted (is_accepted h.lives.places.items) cs) ends
  unfolding accepts
  ends_shown [] [] is = tt
  ends_shown [] (o ∷ ends) is = absurd is
  ends_shown (c ∷ cs) [] is = absurd is
  ends_shown (c ∷ cs) (None ∷ ends) is =
      subst (λ (b : Bool). AreEnds h.lives.shared.page ((if b then Some (present_of c) else None) ∷ rooted (is_accepted h.lives.places.items) cs) (None ∷ ends)) (sym is.0)
      (tt, ends_shown cs ends is.1)
  ends_shown (c ∷ cs) (Some own ∷ ends) is =
      subst (λ (b : Bool). AreEnds h.lives.shared.page ((if b then Some (present_of c) else None) ∷ rooted (is_accepted h.lives.places.items) cs) (Some own ∷ ends)) (sym is.0.0)
      (one_end (present_of c) own is.0, ends_shown cs ends is.1)

-- the present life of a slot
pub present_is : (ss : List Slot) (w v : ℕ) (s : Slot) → slice_get ss w ≡ Some s → slice_get s.lives.items 0 ≡ Some v → present w (chains_of ss) ≡ v
present_is [] w v s at first = cc
present_is (t ∷ ss) zero v s at first = by t.lives.items (ap (λ (x : Slot). slice_get x.lives.items 0) (some_is t s at) ∙ first)
  where
    by : (vs : List ℕ) → slice_get vs 0 ≡ Some v → present zero (vs ∷ chains_of ss) ≡ v
    by [] e = cc
    by (u ∷ us) e = some_is u v e
present_is (t ∷ ss) (suc w) v s at first = present_is ss w v s at first

-- ## The present life of a slot of a host

within : {X : Type 0} (xs : List X) (n : ℕ) (x : X) → slice_get xs n ≡ Some x → n < length xs
within [] n x at = cc
within (y ∷ xs) zero x at = omega arith
within (y ∷ xs) (suc n) x at = omega (arith, within xs n x at)

module _ (h : Host) (w : ℕ) (s : Slot) (whole : IsWhole h) (there : w < length (chains h)) (is : s ≡ get_or h.slots.items w s) where
  pub slot_there : w < length h.slots.items
  unfolding chains
  slot_there = omega (arith, there, length-map h.slots.items (λ (x : Slot). x.lives.items))

  slot_at : slice_get h.slots.items w ≡ Some s
  slot_at = slice_get_read h.slots.items (length h.slots.items) w s refl slot_there is

  chain_of : IsChain (homes_of h.lives.places.items) (16 + swaps h) (0 + w) s.lives.items
  chain_of = slot_chain (homes_of h.lives.places.items) (16 + swaps h) 0 w h.slots.items s slot_at whole.slots.chains

  pub some_lives : 0 < length s.lives.items
  some_lives = chain_of.some

  pub present_at : (v : ℕ) → slice_get s.lives.items 0 ≡ Some v → present w (chains h) ≡ v
  unfolding chains
  present_at v first = present_is h.slots.items w v s slot_at first

-- ## The line of a life

module _ (c : Lives) (v : ℕ) (is : is_accepted c.places.items v ≡ true) where
  pub life_there : v < length c.places.items
  life_there = let r = life_accepted c.places.items v is in within c.places.items v r.0 r.1

  pub life_is : (l : Place) → slice_get c.places.items v ≡ Some l → l.life.accepted ≡ true
  life_is l at = sym (accepts_at c.places.items v l at) ∙ is

  pub line_told : (r : RunLine) (l : Place) (spent : ℕ) (x : Seen) → l ≡ get_or c.places.items v l
      → ((y : Seen) → slice_get (seens_of c) v ≡ Some y → spent ≡ (image y).spent)
      → ((k : Shared) (u : ℕ) → spent ≡ (image (life_seen k u l.life)).spent → IsLineOf r (image (life_seen k u l.life)))
      → slice_get (seens_of c) v ≡ Some x → IsLineOf r (image x)
  line_told r l spent x is_life spends told here =
      let at : slice_get c.places.items v ≡ Some l = slice_get_read c.places.items (length c.places.items) v l refl life_there is_life in
      let same : x ≡ life_seen (lent c.shared l) v l.life = seen_of_life c.shared v c.places.items l x at is here in
      subst (λ (y : Seen). IsLineOf r (image y)) (sym same) (told (lent c.shared l) v (spends x here ∙ ap (λ (y : Seen). (image y).spent) same))
