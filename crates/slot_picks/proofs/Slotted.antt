-- What picks of slots keep, one after the other.
use Rattle.std.proofs.Common.{◌≡◌, ℕ, suc, ◌≤◌, List, [], ◌∷◌, length, map, refl, sym, ap, ◌∙◌, subst, true, false, Ok, Err}
use Rattle.std.specs.Prelude.{IsErr, Result, is_ok}
use Rattle.std.specs.declared.alloc.Global.{Global}
use Rattle.std.specs.declared.vec.Vec.{Vec}
use Rattle.page_tree.specs.declared.page.Page.{Page}
use Rattle.page_build.specs.Standing.{HostPasses, PagePasses}
use Rattle.page_build.proofs.Passing.{pages_here, pages_then, passes_here}
use Rattle.slot_picks.specs.declared.lives.Lives.{Lives}
use Rattle.slot_picks.specs.declared.slots.Slot.{Slot}
use Rattle.slot_picks.specs.Lives.{KeepsLivesAndPage, KeepsSlots, PageStays, PicksOn, PicksUntil, WantsMemory, no_pick, one_pick, spots_of}
use Rattle.slot_picks.proofs.Keeping.{lives_here, lives_then}
use Rattle.slot_picks.proofs.Following.{beside_here}
use Rattle.slot_picks.proofs.Stands.{spots_same, standing_picked, tail_is}

no_true : false ≡ true → ⊥
no_true e = cc

ok_err : true ≡ false → ⊥
ok_err e = cc

page_passes : (p q : Page) (xs ys : List ℕ) → ys ≡ xs → PageStays p q → PagePasses p q xs ys
page_passes p q xs ys same h = record {
  host = subst (HostPasses p q xs) (sym same) (passes_here p q h.host xs);
  owners = h.owners;
  numbers = h.numbers;
  roots = h.roots;
}

pub names_many : (ss ts : List Slot) → map (λ (s : Slot). s.name) ts ≡ map (λ (s : Slot). s.name) ss → length ts ≡ length ss
names_many [] [] e = refl
names_many (s ∷ ss) [] e = cc
names_many [] (t ∷ ts) e = cc
names_many (s ∷ ss) (t ∷ ts) e = ap suc (names_many ss ts (tail_is t.name s.name (map (λ (x : Slot). x.name) ts) (map (λ (x : Slot). x.name) ss) e))

pub slots_here : (c : Lives) (ss : List Slot) → KeepsSlots c c ss ss
slots_here c ss = record { lives = lives_here c; names = refl; fuels = refl; page = pages_here c.shared.page (spots_of c ss); standing = λ h. h }

pub slots_then : (c d e : Lives) (ss ts us : List Slot) → KeepsSlots c d ss ts → KeepsSlots d e ts us → KeepsSlots c e ss us
slots_then c d e ss ts us f g = record {
  lives = lives_then c d e f.lives g.lives;
  names = g.names ∙ f.names;
  fuels = g.fuels ∙ f.fuels;
  page = pages_then c.shared.page d.shared.page e.shared.page (spots_of c ss) (spots_of d ts) (spots_of e us) f.page g.page;
  standing = λ h. g.standing (f.standing h);
}

-- one life was picked
pub slots_picked : (c d : Lives) (ss : List Slot) → length c.places.items ≤ 32 → KeepsLivesAndPage c d → KeepsSlots c d ss ss
slots_picked c d ss few k =
    let page : PagePasses c.shared.page d.shared.page (spots_of c ss) (spots_of d ss) = page_passes c.shared.page d.shared.page (spots_of c ss) (spots_of d ss) (spots_same c d ss few k) k.page in
    record { lives = k.lives; names = refl; fuels = refl; page = page; standing = standing_picked c d ss few k page.host }

-- picks after picks
picks_then : (k : ℕ) (c : Lives) (ss : Vec Slot Global) (d : Lives) (ts : Vec Slot Global) (e : Lives) (us : Vec Slot Global) → PicksOn k c ss d ts → PicksOn k d ts e us → PicksOn k c ss e us
picks_then k c ss d ts e us f no_pick = f
picks_then k c ss d ts e us f (one_pick {d = m} {ts = xs} picks one own) = one_pick (picks_then k c ss d ts m xs f picks) one own

-- and no memory was wanted
pub picks_whole : (k : ℕ) (c d : Lives) (ss ts : Vec Slot Global) → PicksOn k c ss d ts → PicksUntil k c ss true d ts
picks_whole k c d ss ts picks = record { lives = d; slots = ts; picks = picks; lives_is = λ e. refl; slots_are = λ e. refl; wanted = λ e. absurd (ok_err e) }

-- memory was wanted
pub picks_stop : (k : ℕ) (c d e : Lives) (ss ts us : Vec Slot Global) → PicksOn k c ss d ts → WantsMemory d e ts.items us.items → PicksUntil k c ss false e us
picks_stop k c d e ss ts us picks wants = record { lives = d; slots = ts; picks = picks; lives_is = λ f. absurd (no_true f); slots_are = λ f. absurd (no_true f); wanted = λ _. wants }

-- for the list of the slots that are ready
pub wants_here : (c : Lives) (ss : List Slot) → WantsMemory c c ss ss
wants_here c ss = record { slot = 0; journal = refl; beside = beside_here 0 c ss }

-- after other picks
pub picks_more : {T E : Type 0} (k : ℕ) (c d e : Lives) (ss ts us : Vec Slot Global) (r : Result T E) → IsErr r → PicksOn k c ss d ts → PicksUntil k d ts false e us → PicksUntil k c ss (is_ok r) e us
picks_more k c d e ss ts us (Ok x) err picks stop = absurd (no_true err)
picks_more k c d e ss ts us (Err x) err picks stop = picks_stop k c stop.lives e ss stop.slots us (picks_then k c ss d ts stop.lives stop.slots picks stop.picks) (stop.wanted refl)
