-- The nodes of lives: those that stand in slots, and the others.
use Rattle.std.proofs.Common.{◌≡◌, ◌≢◌, ℕ, zero, suc, ◌<◌, ◌≤◌, true, false, List, [], ◌∷◌, length, map, refl, sym, ap, ◌∙◌, subst, arith, Option, Some, None, ◌⊎◌, inl, inr}
use Rattle.std.specs.Prelude.{nat_eq, slice_get, slice_index_or, slice_set}
use Rattle.std.proofs.lemmas.Bool.Decides.{eqb_tells}
use Rattle.plain_tree.specs.Trees.{unmarked}
use Rattle.page_nodes.specs.Entries.{body}
use Rattle.page_tree.specs.declared.page.Page.{Page}
use Rattle.page_image.specs.Image.{root_of}
use Rattle.page_image.specs.Stays.{KeepsNodes}
use Rattle.page_build.specs.Layout.{IsLot, Lot, Own, Root, Spot, lot_of}
use Rattle.page_build.specs.Standing.{Exchanges, HostPasses, IsSpare, IsStanding, PagePasses}
use Rattle.page_build.proofs.Passing.{pages_exchanged, passes_exchanged, spots_pass}
use Rattle.page_build.proofs.Stands.{lot_stays, spare_stays, standing_stays}
use Rattle.life_laws.specs.Chains.{Chains, listed}
use Rattle.slot_picks.specs.declared.lives.Lives.{Lives}
use Rattle.slot_picks.specs.declared.lives.Place.{Place}
use Rattle.slot_picks.specs.declared.slots.Slot.{Slot}
use Rattle.slot_picks.specs.Lives.{AreStanding, KeepsLivesAndPage, chains_of, is_present, present_of, spots_of}
use Rattle.slot_picks.specs.Places.{accepts_of, homes_of, roots_of}
use Rattle.slot_picks.proofs.Presence.{chains_less, listed_back, not_present, present_back, present_listed, present_next, present_other, same_home, waiting_listed}

-- ## Places of which home, node and acceptance stayed

-- The place that one was before.
record Was (v : ℕ) (ls : List Place) (b : Place) : Type 0 where
  pub place : Place
  pub at : slice_get ls v ≡ Some place
  pub home : b.life.slot ≡ place.life.slot
  pub root : b.root ≡ place.root
  pub accepted : b.life.accepted ≡ place.life.accepted

head_is : {A : Type 0} (x y : A) (xs ys : List A) → x ∷ xs ≡ y ∷ ys → x ≡ y
head_is x y xs ys e = cc

pub tail_is : {A : Type 0} (x y : A) (xs ys : List A) → x ∷ xs ≡ y ∷ ys → xs ≡ ys
tail_is x y xs ys e = cc

was : (v : ℕ) (ls ms : List Place) (b : Place) → homes_of ms ≡ homes_of ls → roots_of ms ≡ roots_of ls → accepts_of ms ≡ accepts_of ls → slice_get ms v ≡ Some b → Was v ls b
was v ls [] b homes roots accepts at = cc
was v [] (m ∷ ms) b homes roots accepts at = cc
was zero (l ∷ ls) (m ∷ ms) b homes roots accepts at =
    let same : m ≡ b = cc in
    let home : m.life.slot ≡ l.life.slot = head_is m.life.slot l.life.slot (homes_of ms) (homes_of ls) homes in
    let root : m.root ≡ l.root = head_is m.root l.root (roots_of ms) (roots_of ls) roots in
    let accepted : m.life.accepted ≡ l.life.accepted = head_is m.life.accepted l.life.accepted (accepts_of ms) (accepts_of ls) accepts in
    record {
      place = l;
      at = refl;
      home = ap (λ (x : Place). x.life.slot) (sym same) ∙ home;
      root = ap (λ (x : Place). x.root) (sym same) ∙ root;
      accepted = ap (λ (x : Place). x.life.accepted) (sym same) ∙ accepted;
    }
was (suc v) (l ∷ ls) (m ∷ ms) b homes roots accepts at =
    let h : homes_of ms ≡ homes_of ls = tail_is m.life.slot l.life.slot (homes_of ms) (homes_of ls) homes in
    let r : roots_of ms ≡ roots_of ls = tail_is m.root l.root (roots_of ms) (roots_of ls) roots in
    let a : accepts_of ms ≡ accepts_of ls = tail_is m.life.accepted l.life.accepted (accepts_of ms) (accepts_of ls) accepts in
    let w = was v ls ms b h r a at in
    record { place = w.place; at = w.at; home = w.home; root = w.root; accepted = w.accepted }

within : (v : ℕ) (ls : List Place) (a : Place) → slice_get ls v ≡ Some a → v < length ls
within v [] a e = cc
within zero (l ∷ ls) a e = omega arith
within (suc v) (l ∷ ls) a e = let h = within v ls a e in omega (arith, h)

same_many : (ls ms : List Place) → homes_of ms ≡ homes_of ls → length ms ≡ length ls
same_many [] [] e = refl
same_many (l ∷ ls) [] e = cc
same_many [] (m ∷ ms) e = cc
same_many (l ∷ ls) (m ∷ ms) e = let more : homes_of ms ≡ homes_of ls = tail_is m.life.slot l.life.slot (homes_of ms) (homes_of ls) e in ap suc (same_many ls ms more)

root_at : (v : ℕ) (ls : List Place) (a : Place) (d : ℕ) → slice_get ls v ≡ Some a → slice_index_or (roots_of ls) v d ≡ a.root
root_at v [] a d e = cc
root_at zero (l ∷ ls) a d e = let same : l ≡ a = cc in ap (λ (x : Place). x.root) same
root_at (suc v) (l ∷ ls) a d e = root_at v ls a d e

-- ## A pick of one life

module _ (c d : Lives) (ss : List Slot) (few : length c.places.items ≤ 32) (k : KeepsLivesAndPage c d) where
  before : (v : ℕ) (b : Place) → slice_get d.places.items v ≡ Some b → Was v c.places.items b
  before v b at = was v c.places.items d.places.items b k.lives.homes k.lives.roots k.lives.accepts at

  below : (v : ℕ) (a : Place) → slice_get c.places.items v ≡ Some a → v < 32
  below v a at = omega (arith, few, within v c.places.items a at)

  pub spots_same : spots_of d ss ≡ spots_of c ss
  spots_same = ap (λ rs. map (λ lives. slice_index_or rs (present_of lives) body) (chains_of ss)) k.lives.roots

  -- the lives of slots, over the same homes
  chains_kept : (born : ℕ) → Chains (homes_of c.places.items) born 0 (chains_of ss) → Chains (homes_of d.places.items) born 0 (chains_of ss)
  chains_kept born = subst (λ hs. Chains hs born 0 (chains_of ss)) (sym k.lives.homes)

  many : length d.places.items ≡ length c.places.items
  many = same_many c.places.items d.places.items k.lives.homes

  pub standing_picked : HostPasses c.shared.page d.shared.page (spots_of c ss) (spots_of d ss) → AreStanding c ss → AreStanding d ss
  standing_picked passes h = record {
    born = h.born;
    few = omega (arith, h.few, many);
    chains = chains_kept h.born h.chains;
    roots = λ v b at yes. let a = before v b at in k.page.roots v (below v a.place a.at) ∙ h.roots v a.place a.at (sym a.accepted ∙ yes) ∙ ap Some (sym a.root);
    divs = λ v b s at no some slot.
        let a = before v b at in
        subst (IsLot d.shared.page (lot_of s.name None)) (sym a.root) (lot_stays c.shared.page d.shared.page k.page.host k.page.roots (lot_of s.name None) a.place.root
        (h.divs v a.place s a.at (sym a.accepted ∙ no) (λ e. some (a.root ∙ e)) (ap (slice_get ss) (sym a.home) ∙ slot)));
    nodes = λ v b at there. let a = before v b at in λ e. h.nodes v a.place a.at there (sym a.root ∙ e);
    apart = λ v u b e atb ate some same.
        let a = before v b atb in
        let o = before u e ate in
        h.apart v u a.place o.place a.at o.at (λ f. some (a.root ∙ f)) (sym a.root ∙ same ∙ o.root);
    stand = λ w v b there at.
        let a = before v b at in
        subst (IsStanding d.shared.page) (sym a.root) (standing_stays c.shared.page d.shared.page k.page.host k.page.roots a.place.root (h.stand w v a.place there a.at));
    spare = λ v b at some none.
        let a = before v b at in
        subst (IsSpare d.shared.page) (sym a.root) (spare_stays c.shared.page d.shared.page k.page.host k.page.roots a.place.root (h.spare v a.place a.at (λ e. some (a.root ∙ e)) none));
    spots = spots_pass c.shared.page d.shared.page (spots_of c ss) (spots_of d ss) h.spots passes;
  }

-- ## A swap is taken

abbrev names : List Slot → List (List ℕ)
names ss = map (λ (s : Slot). s.name) ss

-- the slot with this name was there
name_at : (ss ts : List Slot) (i : ℕ) (t : Slot) → map (λ (s : Slot). s.name) ts ≡ map (λ (s : Slot). s.name) ss → slice_get ts i ≡ Some t → (s : Slot) × (slice_get ss i ≡ Some s) × (s.name ≡ t.name)
name_at ss [] i t e at = cc
name_at [] (x ∷ ts) i t e at = cc
name_at (s ∷ ss) (x ∷ ts) zero t e at = let same : x ≡ t = cc in let name : x.name ≡ s.name = head_is x.name s.name (names ts) (names ss) e in (s, refl, sym name ∙ ap (λ (y : Slot). y.name) same)
name_at (s ∷ ss) (x ∷ ts) (suc i) t e at = name_at ss ts i t (tail_is x.name s.name (names ts) (names ss) e) at

spots_set : (f : List ℕ → ℕ) (cs : List (List ℕ)) (w : ℕ) (c : List ℕ) → map f (slice_set cs w c) ≡ slice_set (map f cs) w (f c)
spots_set f [] w c = refl
spots_set f (x ∷ cs) zero c = refl
spots_set f (x ∷ cs) (suc w) c = ap (λ ns. f x ∷ ns) (spots_set f cs w c)

map_at : {B : Type 0} (f : List ℕ → B) (cs : List (List ℕ)) (w : ℕ) (c : List ℕ) → slice_get cs w ≡ Some c → slice_get (map f cs) w ≡ Some (f c)
map_at f [] w c e = cc
map_at f (x ∷ cs) zero c e = let same : x ≡ c = cc in ap (λ y. Some (f y)) same
map_at f (x ∷ cs) (suc w) c e = map_at f cs w c e

-- a lot stays where a node is exchanged
lot_exchanged : (p q : Page) (n m : ℕ) → Exchanges p q n m → ((v : ℕ) → v < 32 → root_of q v ≡ root_of p v) → (lot : Lot) (x : ℕ) → IsLot p lot x → IsLot q lot x
lot_exchanged p q n m c roots (Own own) x l = record {
  is_in = omega (arith, l.is_in, c.made);
  below = l.below;
  hosts = c.owners x ∙ l.hosts;
  shows = ap unmarked (c.trees x l.below) ∙ l.shows;
}
lot_exchanged p q n m c roots (Root v) x l = (l.0, roots v l.0 ∙ l.1)
lot_exchanged p q n m c roots (Spot y) x l = l

same_place : (o : Option Place) (a b : Place) → o ≡ Some a → o ≡ Some b → a ≡ b
same_place o a b e f = let g : Some a ≡ Some b = sym e ∙ f in cc

module _ (c : Lives) (q : Page) (ss ts : List Slot) (w v u : ℕ) (vs : List ℕ) (a b : Place)
    (at : slice_get (chains_of ss) w ≡ Some (v ∷ u ∷ vs)) (set : chains_of ts ≡ slice_set (chains_of ss) w (u ∷ vs)) (same_names : map (λ (s : Slot). s.name) ts ≡ map (λ (s : Slot). s.name) ss)
    (ends : slice_get c.places.items v ≡ Some a) (comes : slice_get c.places.items u ≡ Some b) (few : length c.places.items ≤ 32) (h : AreStanding c ss) where
  abbrev p : Page
  p = c.shared.page

  abbrev d : Lives
  d = record c { shared = record c.shared { page = q } }

  present : slice_get (map present_of (chains_of ss)) w ≡ Some v
  present = map_at present_of (chains_of ss) w (v ∷ u ∷ vs) at

  pub old_stands : IsStanding p a.root
  old_stands = h.stand w v a present ends

  pub new_spare : IsSpare p b.root
  new_spare = h.spare u b comes (h.nodes u b comes (waiting_listed w v u vs (chains_of ss) at)) (not_present (homes_of c.places.items) h.born w v u vs (chains_of ss) h.chains at)

  new_some : b.root ≢ body
  new_some = new_spare.below

  old_some : a.root ≢ body
  old_some = h.nodes v a ends (present_listed w v (u ∷ vs) (chains_of ss) at)

  spot_at : slice_get (spots_of c ss) w ≡ Some a.root
  spot_at = map_at (λ lives. slice_index_or (roots_of c.places.items) (present_of lives) body) (chains_of ss) w (v ∷ u ∷ vs) at ∙ ap Some (root_at v c.places.items a body ends)

  spots_next : spots_of d ts ≡ slice_set (spots_of c ss) w b.root
  spots_next =
      let f : List ℕ → ℕ = λ lives. slice_index_or (roots_of c.places.items) (present_of lives) body in
      ap (map f) set ∙ spots_set f (chains_of ss) w (u ∷ vs) ∙ ap (slice_set (spots_of c ss) w) (root_at u c.places.items b body comes)

  module _ (ex : Exchanges p q a.root b.root) where
    passes_swap : HostPasses p q (spots_of c ss) (spots_of d ts)
    passes_swap = subst (HostPasses p q (spots_of c ss)) (sym spots_next) (passes_exchanged p q a.root b.root w (spots_of c ss) ex spot_at)

    pub pages_swap : KeepsNodes p q → PagePasses p q (spots_of c ss) (spots_of d ts)
    pages_swap k = subst (PagePasses p q (spots_of c ss)) (sym spots_next) (pages_exchanged p q a.root b.root w (spots_of c ss) ex spot_at k)

    module _ (nodes : KeepsNodes p q) (stands : IsStanding q b.root) (spare : IsSpare q a.root)
        (others_stand : (x : ℕ) → x ≢ a.root → IsStanding p x → IsStanding q x) (others_spare : (x : ℕ) → x ≢ b.root → IsSpare p x → IsSpare q x) where
      stand_next : (i x : ℕ) (e : Place) → slice_get (map present_of (chains_of ts)) i ≡ Some x → slice_get c.places.items x ≡ Some e → IsStanding q e.root
      stand_next i x e there has = by (eqb_tells w i)
        where
          now : slice_get (map present_of (slice_set (chains_of ss) w (u ∷ vs))) i ≡ Some x
          now = ap (λ cs. slice_get (map present_of cs) i) (sym set) ∙ there

          by : ((nat_eq w i ≡ true) × (w ≡ i)) ⊎ ((nat_eq w i ≡ false) × (w ≢ i)) → IsStanding q e.root
          by (inl same) =
              let here : u ≡ x = present_next w v u vs x (chains_of ss) (subst (λ j. slice_get (map present_of (slice_set (chains_of ss) w (u ∷ vs))) j ≡ Some x) (sym same.1) now) in
              let is : b ≡ e = same_place (slice_get c.places.items x) b e (ap (slice_get c.places.items) (sym here) ∙ comes) has in
              subst (λ (y : Place). IsStanding q y.root) is stands
          by (inr other) =
              let before : slice_get (map present_of (chains_of ss)) i ≡ Some x = present_other w v u vs i x (chains_of ss) other.1 now in
              others_stand e.root (λ same. other.1 (same_home (homes_of c.places.items) h.born w i v x (chains_of ss) h.chains present before (h.apart v x a e ends has old_some (sym same)))) (h.stand i x e before has)

      spare_next : (x : ℕ) (e : Place) → slice_get c.places.items x ≡ Some e → e.root ≢ body → is_present x (chains_of ts) ≡ false → IsSpare q e.root
      spare_next x e has some none = by (eqb_tells v x)
        where
          now : is_present x (slice_set (chains_of ss) w (u ∷ vs)) ≡ false
          now = ap (is_present x) (sym set) ∙ none

          by : ((nat_eq v x ≡ true) × (v ≡ x)) ⊎ ((nat_eq v x ≡ false) × (v ≢ x)) → IsSpare q e.root
          by (inl same) =
              let is : a ≡ e = same_place (slice_get c.places.items x) a e (ap (slice_get c.places.items) (sym same.1) ∙ ends) has in
              subst (λ (y : Place). IsSpare q y.root) is spare
          by (inr other) =
              let back = present_back w v u vs x (chains_of ss) at other.0 now in
              others_spare e.root (λ same. back.0 (h.apart u x b e comes has new_some (sym same))) (h.spare x e has some back.1)

      pub standing_swap : AreStanding d ts
      standing_swap = record {
        born = h.born;
        few = h.few;
        chains = subst (λ cs. Chains (homes_of c.places.items) h.born 0 cs) (sym set) (chains_less (homes_of c.places.items) h.born w v u vs (chains_of ss) h.chains at);
        roots = λ x e has yes. nodes.roots x (omega (arith, few, within x c.places.items e has)) ∙ h.roots x e has yes;
        divs = λ x e t has no some slot.
            let s = name_at ss ts e.life.slot t same_names slot in
            subst (λ n. IsLot q (lot_of n None) e.root) s.2 (lot_exchanged p q a.root b.root ex nodes.roots (lot_of s.0.name None) e.root (h.divs x e s.0 has no some s.1));
        nodes = λ x e has there. h.nodes x e has (listed_back w v u vs x (chains_of ss) at (ap (listed x) (sym set) ∙ there));
        apart = h.apart;
        stand = stand_next;
        spare = spare_next;
        spots = spots_pass p q (spots_of c ss) (spots_of d ts) h.spots passes_swap;
      }
