-- What is seen of places stays where a call for another changed store and page.
use Rattle.std.proofs.Common.{◌≡◌, ℕ, zero, suc, ◌+◌, ◌<◌, ◌≤◌, Bool, true, false, if◌then◌else◌, List, [], ◌∷◌, length, refl, sym, ap, ◌∙◌, subst, arith, Some}
use Rattle.std.specs.Prelude.{slice_get, slice_set}
use Rattle.js_names.specs.declared.code.Code.{Code}
use Rattle.js_names.specs.Code.{trees_of}
use Rattle.life_laws.specs.Life.{Seen, potentials}
use Rattle.native_image.specs.Sound.{HasRaw, KeepsPage}
use Rattle.page_image.specs.Image.{owns}
use Rattle.life_laws.specs.Settled.{flag}
use Rattle.native_image.specs.declared.handed.Shared.{Shared}
use Rattle.life_queue.specs.Lives.{life_seen}
use Rattle.life_queue.specs.Fine.{FineLife, KeepsCells, tally}
use Rattle.life_queue.proofs.Apart.{fine_apart, seen_apart}
use Rattle.slot_picks.specs.declared.lives.Place.{Place}
use Rattle.slot_picks.specs.Places.{FewPlace, FewPlaces, FinePlace, FinePlaces, lent, seen_at, seens_from}

-- what is seen of a place with a life, and of one without
pub seen_life : (h : Shared) (w : ℕ) (l : Place) → l.life.accepted ≡ true → seen_at h w l ≡ life_seen (lent h l) w l.life
seen_life h w l e = ap (λ (b : Bool). if b then life_seen (lent h l) w l.life else flag false) e

pub seen_none : (h : Shared) (w : ℕ) (l : Place) → l.life.accepted ≡ false → seen_at h w l ≡ flag false
seen_none h w l e = ap (λ (b : Bool). if b then life_seen (lent h l) w l.life else flag false) e

-- each node of a widget has its cell
abbrev pub AllHaveCells : Shared → Type 0
AllHaveCells h = (v n : ℕ) → owns h.page v n ≡ true → HasRaw h.store.cells n

-- a number is not that of any of these places, the first of which has this one
abbrev pub IsOff : ℕ → ℕ → List Place → Type 0
IsOff w v ls = (i : ℕ) → i < length ls → w ≡ v + i → ⊥

pub off_here : (w v : ℕ) (l : Place) (ls : List Place) → IsOff w v (l ∷ ls) → w ≡ v → ⊥
off_here w v l ls off e = off 0 (omega arith) (omega (arith, e))

pub off_next : (w v : ℕ) (l : Place) (ls : List Place) → IsOff w v (l ∷ ls) → IsOff w (v + 1) ls
off_next w v l ls off = λ i lt e. off (suc i) (omega (arith, lt)) (omega (arith, e))

pub off_behind : (w v : ℕ) (ls : List Place) → w ≡ v → IsOff w (v + 1) ls
off_behind w v ls here = λ i lt e. absurd (omega (arith, here, e))

-- a call for one number of a widget changed store and page
module _ (w : ℕ) (codes : List Code) (h m : Shared) (cells : KeepsCells (trees_of codes) w h.store m.store) (page : KeepsPage w h.page m.page) where
  other_seen : (v : ℕ) → (w ≡ v → ⊥) → v < 32 → (l : Place) → FinePlace h v l → seen_at m v l ≡ seen_at h v l
  other_seen v ne lt l was = by l.life.accepted refl
    where
      by : (c : Bool) → l.life.accepted ≡ c → seen_at m v l ≡ seen_at h v l
      by true e = seen_life m v l e ∙ (seen_apart w v ne lt (trees_of codes) (lent h l) (lent m l) refl cells page l.life (was e) ∙ sym (seen_life h v l e))
      by false e = seen_none m v l e ∙ sym (seen_none h v l e)

  -- places from one on, of which none has that number
  pub seens_stay : (v : ℕ) (ls : List Place) → IsOff w v ls → v + length ls ≤ 32 → FinePlaces h v ls → seens_from m v ls ≡ seens_from h v ls
  seens_stay v [] off few f = refl
  seens_stay v (l ∷ ls) off few f =
      let here : seen_at m v l ≡ seen_at h v l = other_seen v (off_here w v l ls off) (omega (arith, few)) l f.0 in
      let more : seens_from m (v + 1) ls ≡ seens_from h (v + 1) ls = seens_stay (v + 1) ls (off_next w v l ls off) (omega (arith, few)) f.1 in
      λ j. here j ∷ more j

  -- all places, with another in the place of this number
  pub seens_set : (b : Place) (v i : ℕ) (ls : List Place) → w ≡ v + i → i < length ls → v + length ls ≤ 32 → FinePlaces h v ls → seens_from m v (slice_set ls i b) ≡ slice_set (seens_from h v ls) i (seen_at m w b)
  seens_set b v i [] e within few f = absurd (omega (arith, within))
  seens_set b v zero (l ∷ ls) e within few f =
      let here : v ≡ w = omega (arith, e) in
      let more : seens_from m (v + 1) ls ≡ seens_from h (v + 1) ls = seens_stay (v + 1) ls (off_behind w v ls (omega (arith, e))) (omega (arith, few)) f.1 in
      λ j. seen_at m (here j) b ∷ more j
  seens_set b v (suc i) (l ∷ ls) e within few f =
      let here : seen_at m v l ≡ seen_at h v l = other_seen v (λ g. absurd (omega (arith, e, g))) (omega (arith, few)) l f.0 in
      let more : seens_from m (v + 1) (slice_set ls i b) ≡ slice_set (seens_from h (v + 1) ls) i (seen_at m w b) = seens_set b (v + 1) i ls (omega (arith, e)) (omega (arith, within)) (omega (arith, few)) f.1 in
      λ j. here j ∷ more j

  -- where each node has its cell still
  module _ (raws : AllHaveCells h → AllHaveCells m) where
    other_fine : (v : ℕ) → (w ≡ v → ⊥) → v < 32 → (l : Place) → FinePlace h v l → FinePlace m v l
    other_fine v ne lt l was = λ e. let f = was e in fine_apart w v ne lt (trees_of codes) (lent h l) (lent m l) refl cells page l.life f (raws f.sound.raws)

    other_few : (n v : ℕ) → (w ≡ v → ⊥) → v < 32 → (l : Place) → FinePlace h v l → FewPlace h n v l → FewPlace m n v l
    other_few n v ne lt l was few = λ e.
        let same : tally (lent m l) v l.life ≡ tally (lent h l) v l.life = ap (λ (s : Seen). l.life.records.turns + (l.life.records.missed + (l.life.records.gone + potentials s.queue))) (seen_apart w v ne lt (trees_of codes) (lent h l) (lent m l) refl cells page l.life (was e)) in
        subst (λ t. t ≤ n) (sym same) (few e)

    pub fews_stay : (n v : ℕ) (ls : List Place) → IsOff w v ls → v + length ls ≤ 32 → FinePlaces h v ls → FewPlaces h n v ls → FewPlaces m n v ls
    fews_stay n v [] off few f t = tt
    fews_stay n v (l ∷ ls) off few f t =
        (other_few n v (off_here w v l ls off) (omega (arith, few)) l f.0 t.0, fews_stay n (v + 1) ls (off_next w v l ls off) (omega (arith, few)) f.1 t.1)

    pub fines_stay : (v : ℕ) (ls : List Place) → IsOff w v ls → v + length ls ≤ 32 → FinePlaces h v ls → FinePlaces m v ls
    fines_stay v [] off few f = tt
    fines_stay v (l ∷ ls) off few f =
        (other_fine v (off_here w v l ls off) (omega (arith, few)) l f.0, fines_stay (v + 1) ls (off_next w v l ls off) (omega (arith, few)) f.1)

    -- all places, with another in the place of this number
    module _ (b : Place) where
      pub fews_set : (n v i : ℕ) (ls : List Place) → w ≡ v + i → v + length ls ≤ 32 → FinePlaces h v ls → FewPlaces h n v ls → tally (lent m b) w b.life ≤ n → FewPlaces m n v (slice_set ls i b)
      fews_set n v i [] e few f t here = tt
      fews_set n v zero (l ∷ ls) e few f t here =
          (λ g. subst (λ u. tally (lent m b) u b.life ≤ n) (let same : w ≡ v = omega (arith, e) in same) here, fews_stay n (v + 1) ls (off_behind w v ls (omega (arith, e))) (omega (arith, few)) f.1 t.1)
      fews_set n v (suc i) (l ∷ ls) e few f t here =
          (other_few n v (λ g. absurd (omega (arith, e, g))) (omega (arith, few)) l f.0 t.0, fews_set n (v + 1) i ls (omega (arith, e)) (omega (arith, few)) f.1 t.1 here)

      pub fines_set : (v i : ℕ) (ls : List Place) → w ≡ v + i → v + length ls ≤ 32 → FinePlaces h v ls → FineLife (lent m b) w b.life → FinePlaces m v (slice_set ls i b)
      fines_set v i [] e few f fine = tt
      fines_set v zero (l ∷ ls) e few f fine = (λ g. subst (λ u. FineLife (lent m b) u b.life) (let here : w ≡ v = omega (arith, e) in here) fine, fines_stay (v + 1) ls (off_behind w v ls (omega (arith, e))) (omega (arith, few)) f.1)
      fines_set v (suc i) (l ∷ ls) e few f fine =
          (other_fine v (λ g. absurd (omega (arith, e, g))) (omega (arith, few)) l f.0, fines_set (v + 1) i ls (omega (arith, e)) (omega (arith, few)) f.1 fine)

-- a place of the list
pub seens_at : (h : Shared) (v w i : ℕ) (ls : List Place) (l : Place) → w ≡ v + i → slice_get ls i ≡ Some l → slice_get (seens_from h v ls) i ≡ Some (seen_at h w l)
seens_at h v w i [] l e f = cc
seens_at h v w zero (m ∷ ls) l e f =
    let same : m ≡ l = cc in
    let here : v ≡ w = omega (arith, e) in
    λ j. Some (seen_at h (here j) (same j))
seens_at h v w (suc i) (m ∷ ls) l e f = seens_at h (v + 1) w i ls l (omega (arith, e)) f

pub fines_at : (h : Shared) (v w i : ℕ) (ls : List Place) (l : Place) → w ≡ v + i → slice_get ls i ≡ Some l → FinePlaces h v ls → FinePlace h w l
fines_at h v w i [] l e f all = cc
fines_at h v w zero (m ∷ ls) l e f all =
    let same : m ≡ l = cc in
    let here : v ≡ w = omega (arith, e) in
    subst (λ u. FinePlace h u l) here (subst (λ (x : Place). FinePlace h v x) same all.0)
fines_at h v w (suc i) (m ∷ ls) l e f all = fines_at h (v + 1) w i ls l (omega (arith, e)) f all.1

pub few_at : (h : Shared) (n v w i : ℕ) (ls : List Place) (l : Place) → w ≡ v + i → slice_get ls i ≡ Some l → FewPlaces h n v ls → FewPlace h n w l
few_at h n v w i [] l e f all = cc
few_at h n v w zero (m ∷ ls) l e f all =
    let same : m ≡ l = cc in
    let here : v ≡ w = omega (arith, e) in
    subst (λ u. FewPlace h n u l) here (subst (λ (x : Place). FewPlace h n v x) same all.0)
few_at h n v w (suc i) (m ∷ ls) l e f all = few_at h n (v + 1) w i ls l (omega (arith, e)) f all.1
