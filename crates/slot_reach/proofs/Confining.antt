-- Where each life holds its own, each slot stays with its own.
use Rattle.std.proofs.Common.{◌≡◌, ℕ, zero, suc, ◌+◌, ◌<◌, List, [], ◌∷◌, map, length, refl, subst, ap, ◌∙◌, arith, Bool, true, false, Option, Some, None, if◌then◌else◌, slice_get}
use Rattle.std.specs.Prelude.{slice_index_or}
use Rattle.std.specs.List.{AllByRecursion}
use Rattle.std.specs.Option.{option_and_then, option_map_or}
use Rattle.store_cells.proofs.Lists.{none_some, some_same}
use Rattle.event_loop.specs.declared.around.Loop.{Loop}
use Rattle.js_image.specs.Held.{IsConfined}
use Rattle.js_tree.specs.Forest.{Forest}
use Rattle.native_image.specs.Sound.{HoldsOwn}
use Rattle.page_tree.specs.declared.page.Page.{Page}
use Rattle.reach_cert.specs.Certs as cert
use Rattle.life_laws.specs.Chains.{last_life}
use Rattle.slot_picks.specs.declared.lives.Lives.{Lives}
use Rattle.slot_picks.specs.declared.lives.Place.{Place}
use Rattle.slot_picks.specs.declared.slots.Slot.{Slot}
use Rattle.native_image.specs.declared.handed.Shared.{Shared}
use Rattle.slot_picks.specs.Lives.{AreStanding, OwnLives}
use Rattle.slot_picks.specs.Places.{HoldsItsOwn, OwnPlaces, homes_of, life_seen, outside}
use Rattle.reach_cert.specs.Walks.{KeepsIn}
use Rattle.slot_reach.specs.Reads.{read_slot}
use Rattle.native_image.specs.Image.{Outside, beside, image}
use Rattle.js_names.specs.Code.{trees_of}
use Rattle.life_laws.specs.Life as todo
use Rattle.life_laws.specs.Life.{Going}
use Rattle.widget_meaning.specs.OwnState.{OwnState}
use Rattle.slot_picks.specs.Places.{lent}
use Rattle.slot_reach.specs.Differ.{AllDiffer}
use Rattle.slot_reach.specs.States.{cert_of_states, slot_of_state, state_slot}
use Rattle.slot_reach.specs.Lasts.{life_read, names_before, reached, slot_read, state_at, state_in, states}
use Rattle.slot_reach.proofs.Naming.{chain_at, low_last, name_at, named}

own_at : (h : Shared) (v k : ℕ) (ps : List Place) (p : Place) → OwnPlaces h v ps → slice_get ps k ≡ Some p → p.life.accepted ≡ true → HoldsItsOwn h (v + k) p
own_at h v k [] p own at good = absurd (none_some at)
own_at h v zero (q ∷ qs) p own at good =
    let none : v ≡ v + 0 = omega arith in
    let mine : p.life.accepted ≡ true → HoldsItsOwn h v p = subst (λ (x : Place). x.life.accepted ≡ true → HoldsItsOwn h v x) (some_same q p at) own.0 in
    subst (λ n. HoldsItsOwn h n p) none (mine good)
own_at h v (suc k) (q ∷ qs) p own at good =
    let place : v + 1 + k ≡ v + suc k = omega arith in
    subst (λ n. HoldsItsOwn h n p) place (own_at h (v + 1) k qs p own.1 at good)

-- what is read of a widget of the store that holds its own stays with it
abbrev pub Law : Shared → Type 0
Law h = (names : List (Option (List ℕ))) (name : List ℕ) (w : ℕ) (fs : List Forest) (p : Page) (l : Loop) → slice_index_or names w None ≡ Some name → IsConfined fs w h.store → HoldsOwn w h.store p l → KeepsIn (read_slot names h.store.cells name w p l)

life_stays : (h : Shared) → Law h → (names : List (Option (List ℕ))) (name : List ℕ) (v : ℕ) (p : Place) → slice_index_or names v None ≡ Some name → (p.life.accepted ≡ true → HoldsItsOwn h v p) → KeepsIn (life_read names h name v p)
life_stays h law names name v p is own = by p.life.accepted refl
  where
    by : (b : Bool) → p.life.accepted ≡ b → KeepsIn (if b then read_slot names h.store.cells name v h.page p.life.widget.around else cert.Refused name)
    by true e = law names name v _ h.page p.life.widget.around is (own e).confined (own e).holds
    by false e = tt

-- and it is told by the widget's own state
abbrev pub StateLaw : Shared → Type 0
StateLaw h = (names : List (Option (List ℕ))) (name : List ℕ) (fs : List Forest) (x : Outside) (w : ℕ) (p : Page) (l : Loop) (b : Option Bool) → AllDiffer h.store.cells → slice_index_or names w None ≡ Some name → IsConfined fs w h.store → HoldsOwn w h.store p l → read_slot names h.store.cells name w p l ≡ state_slot name (image fs x w (beside h.store p l b)).own

-- what a turn has spent is not told
shown_same : (name : List ℕ) (g : Option Going) (o : OwnState) → state_slot name o ≡ state_slot name (todo.shown g o)
unfolding state_slot
shown_same name None o = refl
shown_same name (Some t) o = refl

life_is : (h : Shared) → StateLaw h → AllDiffer h.store.cells → (names : List (Option (List ℕ))) (name : List ℕ) (v : ℕ) (p : Place) → slice_index_or names v None ≡ Some name → (p.life.accepted ≡ true → HoldsItsOwn h v p) → life_read names h name v p ≡ slot_of_state (name, state_at h v p)
life_is h law apart names name v p is own = by p.life.accepted refl
  where
    by : (b : Bool) → p.life.accepted ≡ b → (if b then read_slot names h.store.cells name v h.page p.life.widget.around else cert.Refused name) ≡ slot_of_state (name, (if b then Some (todo.image (life_seen (lent h p) v p.life)) else None))
    by true e = law names name (trees_of p.codes.items) (outside p.life) v h.page p.life.widget.around None apart is (own e).confined (own e).holds
        ∙ shown_same name (life_seen (lent h p) v p.life).going (life_seen (lent h p) v p.life).own
    by false e = refl

all_same : {X Y : Type 0} (f g : X → Y) (xs : List X) → ((k : ℕ) (x : X) → slice_get xs k ≡ Some x → f x ≡ g x) → map f xs ≡ map g xs
all_same f g [] h = refl
all_same f g (x ∷ xs) h = (λ j. h 0 x refl j ∷ all_same f g xs (λ k y e. h (suc k) y e) j)

map_twice : {X Y Z : Type 0} (f : Y → Z) (g : X → Y) (xs : List X) → map (λ x. f (g x)) xs ≡ map f (map g xs)
map_twice f g [] = refl
map_twice f g (x ∷ xs) = ap (λ l. f (g x) ∷ l) (map_twice f g xs)

all_got : {X Y : Type 0} (P : Y → Type 0) (f : X → Y) (xs : List X) → ((k : ℕ) (x : X) → slice_get xs k ≡ Some x → P (f x)) → AllByRecursion P (map f xs)
all_got P f [] h = tt
all_got P f (x ∷ xs) h = (h 0 x refl, all_got P f xs (λ k y e. h (suc k) y e))

module _ (c : Lives) (ss : List Slot) (law : Law c.shared) (own : OwnLives c) (stand : AreStanding c ss) where
  abbrev names : List (Option (List ℕ))
  names = names_before ss (length c.places.items)

  name_is : (k : ℕ) (s : Slot) → slice_get ss k ≡ Some s → slice_index_or names (last_life s.lives.items) None ≡ Some s.name
  name_is k s at =
      let low : last_life s.lives.items < stand.born = low_last (homes_of c.places.items) stand.born (0 + k) s.lives.items (chain_at (homes_of c.places.items) stand.born 0 ss k s stand.chains at) in
      name_at ss (length c.places.items) (last_life s.lives.items) (omega (arith, low, stand.few)) ∙ named (homes_of c.places.items) stand.born 0 ss k s stand.chains at

  owner_at : (v : ℕ) (p : Place) → slice_get c.places.items v ≡ Some p → p.life.accepted ≡ true → HoldsItsOwn c.shared v p
  owner_at v p e good =
      let same : 0 + v ≡ v = omega arith in
      subst (λ n. HoldsItsOwn c.shared n p) same (own_at c.shared 0 v c.places.items p own e good)

  slot_stays : (k : ℕ) (s : Slot) → slice_get ss k ≡ Some s → KeepsIn (slot_read names c s)
  slot_stays k s at = by (slice_get c.places.items (last_life s.lives.items)) refl
    where
      by : (x : Option Place) → slice_get c.places.items (last_life s.lives.items) ≡ x → KeepsIn (option_map_or (life_read names c.shared s.name (last_life s.lives.items)) x (cert.Refused s.name))
      by None e = tt
      by (Some p) e = life_stays c.shared law names s.name (last_life s.lives.items) p (name_is k s at) (owner_at (last_life s.lives.items) p e)

  module _ (tells : StateLaw c.shared) (apart : AllDiffer c.shared.store.cells) where
    slot_is : (k : ℕ) (s : Slot) → slice_get ss k ≡ Some s → slot_read names c s ≡ slot_of_state (state_in c s)
    slot_is k s at = by (slice_get c.places.items (last_life s.lives.items)) refl
      where
        by : (x : Option Place) → slice_get c.places.items (last_life s.lives.items) ≡ x → option_map_or (life_read names c.shared s.name (last_life s.lives.items)) x (cert.Refused s.name) ≡ slot_of_state (s.name, option_and_then (state_at c.shared (last_life s.lives.items)) x)
        by None e = refl
        by (Some p) e = life_is c.shared tells apart names s.name (last_life s.lives.items) p (name_is k s at) (owner_at (last_life s.lives.items) p e)

    pub slots_are : reached c ss ≡ cert_of_states (states c ss)
    unfolding reached states cert_of_states
    slots_are = all_same (slot_read names c) (λ s. slot_of_state (state_in c s)) ss slot_is ∙ map_twice slot_of_state (state_in c) ss

  pub slots_stay : AllByRecursion KeepsIn (reached c ss)
  unfolding reached
  slots_stay = all_got KeepsIn (slot_read names c) ss slot_stays

-- the certificate, by the names that were found
pub read_is : (c : Lives) (ss : List Slot) (read : List cert.Slot) (found made : List (Option (List ℕ))) (count : ℕ) → read ≡ map (slot_read found c) ss → found ≡ made → made ≡ names_before ss count → count ≡ length c.places.items → read ≡ reached c ss
unfolding reached
read_is c ss read found made count is same named all = is ∙ ap (λ ns. map (slot_read ns c) ss) (same ∙ named ∙ ap (names_before ss) all)
