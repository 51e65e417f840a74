-- A life is born, and waits for its swap: what stands in the slots then.
use Rattle.std.proofs.Common.{◌≡◌, ◌≢◌, ◌≤◌, ℕ, zero, suc, ◌+◌, ◌<◌, ◌++◌, List, [], ◌∷◌, map, length, Bool, true, false, refl, sym, ap, ◌∙◌, subst, arith, Some, None, eqb, eqb-true, eq-eqb, if◌then◌else◌, inl, inr, ◌⊎◌, ⊎_elim}
use Rattle.std.specs.Prelude.{slice_get, slice_set, slice_index_or, nat_eq, ◌||◌}
use Rattle.std.specs.List.{list_any}
use Rattle.life_laws.specs.Slots.{Each, has}
use Rattle.life_laws.specs.Chains.{Chains, joins, listed}
use Rattle.life_laws.specs.Journal.{on_at}
use Rattle.page_tree.specs.declared.page.Page.{Page}
use Rattle.page_nodes.specs.Entries.{body}
use Rattle.page_tree.specs.Pages.{nodes}
use Rattle.page_image.specs.Image.{root_of}
use Rattle.page_build.specs.Layout.{IsLot, lot_of}
use Rattle.page_build.specs.Standing.{AreSpots, IsSpare}
use Rattle.page_load.specs.Joining.{PageJoins}
use Rattle.slot_picks.specs.declared.lives.Lives.{Lives}
use Rattle.slot_picks.specs.declared.lives.Place.{Place}
use Rattle.slot_picks.specs.declared.slots.Slot.{Slot}
use Rattle.slot_picks.specs.Lives.{AreStanding, chains_of, is_present, present_of, spots_of}
use Rattle.slot_picks.specs.Places.{homes_of, roots_of}
use Rattle.widget_host.proofs.Sets.{get_else, get_here, index_else, map_set, none_some, same_map, some_is, within}

no_true : false ≡ true → ⊥
no_true e = cc

-- two numbers are one, or not
pub same_or : (u v : ℕ) → (u ≡ v) ⊎ (u ≢ v)
same_or u v = by (eqb u v) refl
  where
    by : (b : Bool) → eqb u v ≡ b → (u ≡ v) ⊎ (u ≢ v)
    by true e = inl (eqb-true u v e)
    by false e = inr (λ g. no_true (sym e ∙ eq-eqb u v g))

-- ## Slots

-- whether a life is present hangs on the present lives alone
present_any : (u : ℕ) (cs : List (List ℕ)) → is_present u cs ≡ list_any (λ p. nat_eq p u) (map present_of cs)
present_any u [] = refl
present_any u (c ∷ cs) = ap (λ b. nat_eq (present_of c) u || b) (present_any u cs)

present_same : (u : ℕ) (cs ds : List (List ℕ)) → map present_of ds ≡ map present_of cs → is_present u ds ≡ is_present u cs
present_same u cs ds e = present_any u ds ∙ ap (list_any (λ p. nat_eq p u)) e ∙ sym (present_any u cs)

-- a life that joins a slot is not present there
pub joined_present : (to v : ℕ) (homes : List ℕ) (born w : ℕ) (cs : List (List ℕ)) → Chains homes born w cs → map present_of (on_at to (joins v) cs) ≡ map present_of cs
joined_present to v homes born w [] h = refl
joined_present zero v homes born w (c ∷ cs) h = ap (λ p. p ∷ map present_of cs) (front c h.0.some)
  where
    front : (c : List ℕ) → 0 < length c → present_of (c ++ v ∷ []) ≡ present_of c
    front [] some = absurd (omega (arith, some))
    front (x ∷ xs) some = refl
joined_present (suc to) v homes born w (c ∷ cs) h = ap (λ ps. present_of c ∷ ps) (joined_present to v homes born (w + 1) cs h.1)

has_joined : (u v : ℕ) (c : List ℕ) → has u (c ++ v ∷ []) ≡ true → (u ≡ v) ⊎ (has u c ≡ true)
has_joined u v [] e = by (nat_eq v u) refl e
  where
    by : (b : Bool) → nat_eq v u ≡ b → (if b then true else false) ≡ true → (u ≡ v) ⊎ (false ≡ true)
    by true f g = inl (sym (eqb-true v u f))
    by false f g = absurd (no_true g)
has_joined u v (x ∷ xs) e = by (nat_eq x u) e (has_joined u v xs)
  where
    by : (b : Bool) → (if b then true else has u (xs ++ v ∷ [])) ≡ true → (has u (xs ++ v ∷ []) ≡ true → (u ≡ v) ⊎ (has u xs ≡ true)) → (u ≡ v) ⊎ ((if b then true else has u xs) ≡ true)
    by true f more = inr refl
    by false f more = more f

pub joined_listed : (to v u : ℕ) (cs : List (List ℕ)) → listed u (on_at to (joins v) cs) ≡ true → (u ≡ v) ⊎ (listed u cs ≡ true)
joined_listed to v u [] e = inr e
joined_listed zero v u (c ∷ cs) e = by (has u (c ++ v ∷ [])) refl e
  where
    by : (b : Bool) → has u (c ++ v ∷ []) ≡ b → (if b then true else listed u cs) ≡ true → (u ≡ v) ⊎ ((if has u c then true else listed u cs) ≡ true)
    by true f g = ⊎_elim (λ s. inl s) (λ s. inr (ap (λ b. if b then true else listed u cs) s)) (has_joined u v c f)
    by false f g = inr (old (has u c) g)
      where
        old : (b : Bool) → listed u cs ≡ true → (if b then true else listed u cs) ≡ true
        old true h = refl
        old false h = h
joined_listed (suc to) v u (c ∷ cs) e = by (has u c) e (joined_listed to v u cs)
  where
    by : (b : Bool) → (if b then true else listed u (on_at to (joins v) cs)) ≡ true → (listed u (on_at to (joins v) cs) ≡ true → (u ≡ v) ⊎ (listed u cs ≡ true)) → (u ≡ v) ⊎ ((if b then true else listed u cs) ≡ true)
    by true f more = inr refl
    by false f more = more f

-- the slots of lives stay where a life of another number gets one
each_else : (homes : List ℕ) (born t w : ℕ) (c : List ℕ) → Each (λ u. u < born) c → Each (λ u. slice_get homes u ≡ Some w) c → Each (λ u. slice_get (slice_set homes born t) u ≡ Some w) c
each_else homes born t w [] below home = tt
each_else homes born t w (u ∷ c) below home = (get_else homes born u t (λ e. absurd (omega (arith, e, below.0))) ∙ home.0, each_else homes born t w c below.1 home.1)

pub chains_else : (homes : List ℕ) (born t w : ℕ) (cs : List (List ℕ)) → Chains homes born w cs → Chains (slice_set homes born t) born w cs
chains_else homes born t w [] h = tt
chains_else homes born t w (c ∷ cs) h = (record { some = h.0.some; rising = h.0.rising; below = h.0.below; home = each_else homes born t w c h.0.below h.0.home }, chains_else homes born t (w + 1) cs h.1)

-- each present life was born before
present_below : (homes : List ℕ) (born w : ℕ) (cs : List (List ℕ)) → Chains homes born w cs → (i u : ℕ) → slice_get (map present_of cs) i ≡ Some u → u < born
present_below homes born w [] h i u at = absurd (none_some at)
present_below homes born w (c ∷ cs) h zero u at = subst (λ n. n < born) (some_is (present_of c) u at) (first c h.0.some h.0.below)
  where
    first : (c : List ℕ) → 0 < length c → Each (λ n. n < born) c → present_of c < born
    first [] some below = absurd (omega (arith, some))
    first (x ∷ xs) some below = below.0
present_below homes born w (c ∷ cs) h (suc i) u at = present_below homes born (w + 1) cs h.1 i u at

-- a node more changes no spot of those that were there
spots_else : (rs : List ℕ) (v r : ℕ) (ps : List ℕ) → ((i u : ℕ) → slice_get ps i ≡ Some u → u ≢ v) → map (λ p. slice_index_or (slice_set rs v r) p body) ps ≡ map (λ p. slice_index_or rs p body) ps
spots_else rs v r [] ne = refl
spots_else rs v r (p ∷ ps) ne = λ j. index_else rs v p r body (ne 0 p refl) j ∷ spots_else rs v r ps (λ i u at. ne (suc i) u at) j

spots_by : (rs : List ℕ) (cs : List (List ℕ)) → map (λ lives. slice_index_or rs (present_of lives) body) cs ≡ map (λ p. slice_index_or rs p body) (map present_of cs)
spots_by rs [] = refl
spots_by rs (c ∷ cs) = ap (λ ps. slice_index_or rs (present_of c) body ∷ ps) (spots_by rs cs)

-- The spots stay where a life joins.
module _ (c d : Lives) (ss ts : List Slot) (v : ℕ) (a : Place) (homes : List ℕ) (chains : Chains homes v 0 (chains_of ss)) (places : d.places.items ≡ slice_set c.places.items v a) (present : map present_of (chains_of ts) ≡ map present_of (chains_of ss)) where
  roots_now : roots_of d.places.items ≡ slice_set (roots_of c.places.items) v a.root
  roots_now = ap roots_of places ∙ map_set (λ (p : Place). p.root) c.places.items v a

  pub spots_now : spots_of d ts ≡ spots_of c ss
  spots_now =
      spots_by (roots_of d.places.items) (chains_of ts)
      ∙ ap (map (λ p. slice_index_or (roots_of d.places.items) p body)) present
      ∙ ap (λ rs. map (λ p. slice_index_or rs p body) (map present_of (chains_of ss))) roots_now
      ∙ spots_else (roots_of c.places.items) v a.root (map present_of (chains_of ss)) (λ i u at e. let lt = present_below homes v 0 (chains_of ss) chains i u at in absurd (omega (arith, lt, e)))
      ∙ sym (spots_by (roots_of c.places.items) (chains_of ss))

-- ## The node of the life

-- What is known of the life that comes, on the page before and after.
pub record IsSeated (p q : Page) (ss : List Slot) (v : ℕ) (a : Place) : Type 0 where
  pub root : a.life.accepted ≡ true → root_of q v ≡ Some a.root
  pub div : a.life.accepted ≡ false → (s : Slot) → slice_get ss a.life.slot ≡ Some s → IsLot q (lot_of s.name None) a.root
  pub spare : IsSpare q a.root
  pub fresh : length (nodes p) ≤ a.root

module _ (c d : Lives) (ss ts : List Slot) (v : ℕ) (a : Place) (homes : List ℕ) (low : v < 20) (twenty : length c.places.items ≡ 20)
    (chains : Chains homes v 0 (chains_of ss)) (places : d.places.items ≡ slice_set c.places.items v a) (page : PageJoins v c.shared.page d.shared.page)
    (names : map (λ (s : Slot). s.name) ts ≡ map (λ (s : Slot). s.name) ss) (present : map present_of (chains_of ts) ≡ map present_of (chains_of ss))
    (is_listed : (u : ℕ) → listed u (chains_of ts) ≡ true → (u ≡ v) ⊎ (listed u (chains_of ss) ≡ true))
    (seat : IsSeated c.shared.page d.shared.page ss v a) (st : AreStanding c ss) where
  place_here : (b : Place) → slice_get d.places.items v ≡ Some b → a ≡ b
  place_here b at = some_is a b (sym (get_here c.places.items v a (omega (arith, low, twenty))) ∙ ap (λ ps. slice_get ps v) (sym places) ∙ at)

  place_else : (u : ℕ) (b : Place) → u ≢ v → slice_get d.places.items u ≡ Some b → slice_get c.places.items u ≡ Some b
  place_else u b ne at = sym (get_else c.places.items v u a ne) ∙ ap (λ ps. slice_get ps u) (sym places) ∙ at

  -- what holds of the life that comes, and of each other, holds of all
  each_place : (P : ℕ → Place → Type 0) → P v a → ((u : ℕ) (b : Place) → u ≢ v → slice_get c.places.items u ≡ Some b → P u b) → (u : ℕ) (b : Place) → slice_get d.places.items u ≡ Some b → P u b
  each_place P here more u b at = ⊎_elim
      (λ e. subst (λ n. P n b) (sym e) (subst (P v) (place_here b (subst (λ n. slice_get d.places.items n ≡ Some b) e at)) here))
      (λ ne. more u b ne (place_else u b ne at))
      (same_or u v)

  -- a node that was there
  old_in : (u : ℕ) (b : Place) → slice_get c.places.items u ≡ Some b → b.root ≢ body → b.root < length (nodes c.shared.page)
  old_in u b at below = by (is_present u (chains_of ss)) refl
    where
      somewhere : (ps : List ℕ) → list_any (λ p. nat_eq p u) ps ≡ true → (w : ℕ) × (slice_get ps w ≡ Some u)
      somewhere [] e = absurd (no_true e)
      somewhere (p ∷ ps) e = one (nat_eq p u) refl e (somewhere ps)
        where
          one : (b : Bool) → nat_eq p u ≡ b → (b || list_any (λ q. nat_eq q u) ps) ≡ true → (list_any (λ q. nat_eq q u) ps ≡ true → (w : ℕ) × (slice_get ps w ≡ Some u)) → (w : ℕ) × (slice_get (p ∷ ps) w ≡ Some u)
          one true f g more = (0, ap Some (eqb-true p u f))
          one false f g more = let r = more g in (suc r.0, r.1)

      by : (f : Bool) → is_present u (chains_of ss) ≡ f → b.root < length (nodes c.shared.page)
      by true e = let r = somewhere (map present_of (chains_of ss)) (sym (present_any u (chains_of ss)) ∙ e) in (st.stand r.0 u b r.1 at).is_in
      by false e = (st.spare u b at below e).is_in

  pub standing_born : (born : ℕ) → born ≤ length d.places.items → Chains (homes_of d.places.items) born 0 (chains_of ts) → AreStanding d ts
  standing_born born few now = record {
    born = born;
    few = few;
    chains = now;
    roots = each_place (λ u b. b.life.accepted ≡ true → root_of d.shared.page u ≡ Some b.root) seat.root
        (λ u b ne at is. page.roots u (let lt = within c.places.items u b at in omega (arith, lt, twenty)) ne ∙ st.roots u b at is);
    divs = λ u b t at not below here.
        let s = same_map (λ (x : Slot). x.name) ss ts b.life.slot t names here in
        subst (λ x. IsLot d.shared.page (lot_of x None) b.root) s.2
        (each_place (λ n x. x.life.accepted ≡ false → x.root ≢ body → (y : Slot) → slice_get ss x.life.slot ≡ Some y → IsLot d.shared.page (lot_of y.name None) x.root)
        (λ no under y there. seat.div no y there)
        (λ n x ne was no under y there. page.lots (lot_of y.name None) x.root (st.divs n x y was no under there)) u b at not below s.0 s.1);
    nodes = λ u b at is. ⊎_elim
        (λ e. subst (λ (x : Place). x.root ≢ body) (place_here b (subst (λ n. slice_get d.places.items n ≡ Some b) e at)) seat.spare.below)
        (λ was. each_place (λ n x. listed n (chains_of ss) ≡ true → x.root ≢ body) (λ _. seat.spare.below) (λ n x ne there. st.nodes n x there) u b at was)
        (is_listed u is);
    apart = λ u w b e at here below one. ⊎_elim
        (λ g. ⊎_elim
        (λ f. g ∙ sym f)
        (λ nf.
        let mine : a ≡ b = place_here b (subst (λ n. slice_get d.places.items n ≡ Some b) g at) in
        let lt = old_in w e (place_else w e nf here) (λ z. below (one ∙ z)) in
        let same : a.root ≡ e.root = ap (λ (x : Place). x.root) mine ∙ one in
        absurd (omega (arith, lt, same, seat.fresh)))
        (same_or w v))
        (λ ng. ⊎_elim
        (λ f.
        let mine : a ≡ e = place_here e (subst (λ n. slice_get d.places.items n ≡ Some e) f here) in
        let lt = old_in u b (place_else u b ng at) below in
        let same : a.root ≡ b.root = ap (λ (x : Place). x.root) mine ∙ sym one in
        absurd (omega (arith, lt, same, seat.fresh)))
        (λ nf. st.apart u w b e (place_else u b ng at) (place_else w e nf here) below one)
        (same_or w v))
        (same_or u v);
    stand = λ w u b is at.
        let was : slice_get (map present_of (chains_of ss)) w ≡ Some u = ap (λ ps. slice_get ps w) (sym present) ∙ is in
        let lt = present_below homes v 0 (chains_of ss) chains w u was in
        page.standing b.root (st.stand w u b was (place_else u b (λ e. absurd (omega (arith, lt, e))) at));
    spare = λ u b at below out. each_place (λ n x. x.root ≢ body → is_present n (chains_of ss) ≡ false → IsSpare d.shared.page x.root)
        (λ _ _. seat.spare)
        (λ n x ne was under off. page.spare x.root (st.spare n x was under off)) u b at below (sym (present_same u (chains_of ss) (chains_of ts) present) ∙ out);
    spots = subst (AreSpots d.shared.page) (sym (spots_now c d ss ts v a homes chains places present)) (page.spots (spots_of c ss) st.spots);
  }

-- Where no life came, all stands as it did.
module _ (c d : Lives) (ss ts : List Slot) (v : ℕ) (twenty : length c.places.items ≡ 20) (free : (b : Place) → slice_get c.places.items v ≡ Some b → b.life.accepted ≡ false)
    (places : d.places.items ≡ c.places.items) (page : PageJoins v c.shared.page d.shared.page)
    (names : map (λ (s : Slot). s.name) ts ≡ map (λ (s : Slot). s.name) ss) (same : chains_of ts ≡ chains_of ss) (st : AreStanding c ss) where
  was : (u : ℕ) (b : Place) → slice_get d.places.items u ≡ Some b → slice_get c.places.items u ≡ Some b
  was u b at = ap (λ ps. slice_get ps u) (sym places) ∙ at

  spots_still : spots_of d ts ≡ spots_of c ss
  spots_still = λ j. map (λ lives. slice_index_or (roots_of (places j)) (present_of lives) body) (same j)

  pub standing_still : AreStanding d ts
  standing_still = record {
    born = st.born;
    few = subst (λ ps. st.born ≤ length ps) (sym places) st.few;
    chains = subst (λ ps. Chains (homes_of ps) st.born 0 (chains_of ts)) (sym places) (subst (Chains (homes_of c.places.items) st.born 0) (sym same) st.chains);
    roots = λ u b at is.
        let at' = was u b at in
        page.roots u (let lt = within c.places.items u b at' in omega (arith, lt, twenty)) (λ e. no_true (sym (free b (subst (λ n. slice_get c.places.items n ≡ Some b) e at')) ∙ is)) ∙ st.roots u b at' is;
    divs = λ u b t at not below here.
        let s = same_map (λ (x : Slot). x.name) ss ts b.life.slot t names here in
        subst (λ x. IsLot d.shared.page (lot_of x None) b.root) s.2 (page.lots (lot_of s.0.name None) b.root (st.divs u b s.0 (was u b at) not below s.1));
    nodes = λ u b at is. st.nodes u b (was u b at) (ap (listed u) (sym same) ∙ is);
    apart = λ u w b e at here below one. st.apart u w b e (was u b at) (was w e here) below one;
    stand = λ w u b is at. page.standing b.root (st.stand w u b (ap (λ cs. slice_get (map present_of cs) w) (sym same) ∙ is) (was u b at));
    spare = λ u b at below out. page.spare b.root (st.spare u b (was u b at) below (ap (is_present u) (sym same) ∙ out));
    spots = subst (AreSpots d.shared.page) (sym spots_still) (page.spots (spots_of c ss) st.spots);
  }
