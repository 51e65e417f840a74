-- The journal, and one pick more.
use Rattle.std.proofs.Common.{◌≡◌, ◌≢◌, ℕ, zero, suc, List, [], ◌∷◌, ◌++◌, drop, Bool, true, false, refl, sym, ap, ◌∙◌, subst, Some, eq-eqb, ◌⊎◌, inl, inr}
use Rattle.std.specs.Prelude.{slice_get, slice_set, nat_eq, if◌then◌else◌}
use Rattle.std.proofs.lemmas.Bool.{ne_eqb}
use Rattle.std.proofs.lemmas.Bool.Decides.{eqb_tells}
use Rattle.life_laws.specs.Life.{Seen, image}
use Rattle.life_laws.specs.declared.entry.PickEntry.{PickEntry}
use Rattle.life_laws.specs.declared.entry.Picked.{Picked}
use Rattle.life_laws.specs.declared.entry.Picked.TheVariants as picked
use Rattle.life_laws.specs.Picks.{Picks}
use Rattle.life_laws.specs.Journal.{Kept, journal_after, entry_of, next_before, Joined, AllJoined}
use Rattle.life_laws.proofs.Crowds.{same_some, get_set}

if_yes : (b : Bool) (x y : ℕ) → b ≡ true → (if b then x else y) ≡ x
if_yes b x y e = rw e refl

if_no : (b : Bool) (x y : ℕ) → b ≡ false → (if b then x else y) ≡ y
if_no b x y e = rw e refl

next_same : (w : ℕ) (js : List PickEntry) (e : PickEntry) (n : ℕ) → e.widget ≡ w → next_before w (js ++ e ∷ []) n ≡ next_before w js e.before
next_same w [] e n h = if_yes (nat_eq e.widget w) e.before n (eq-eqb e.widget w h)
next_same w (x ∷ js) e n h = ap (λ m. if nat_eq x.widget w then x.before else m) (next_same w js e n h)

next_other : (w : ℕ) (js : List PickEntry) (e : PickEntry) (n : ℕ) → (e.widget ≡ w → ⊥) → next_before w (js ++ e ∷ []) n ≡ next_before w js n
next_other w [] e n h = if_no (nat_eq e.widget w) e.before n (ne_eqb e.widget w h)
next_other w (x ∷ js) e n h = ap (λ m. if nat_eq x.widget w then x.before else m) (next_other w js e n h)

joined_same : (w : ℕ) (js : List PickEntry) (e : PickEntry) → e.widget ≡ w → Joined w js e.before → Joined w (js ++ e ∷ []) e.after
joined_same w [] e h j = (λ x. refl, tt)
joined_same w (x ∷ js) e h j = (λ f. j.0 f ∙ sym (next_same w js e e.after h), joined_same w js e h j.1)

joined_other : (w : ℕ) (js : List PickEntry) (e : PickEntry) (n : ℕ) → (e.widget ≡ w → ⊥) → Joined w js n → Joined w (js ++ e ∷ []) n
joined_other w [] e n h j = (λ x. absurd (h x), tt)
joined_other w (x ∷ js) e n h j = (λ f. j.0 f ∙ sym (next_other w js e n h), joined_other w js e n h j.1)

joined_drop : (m w : ℕ) (js : List PickEntry) (n : ℕ) → Joined w js n → Joined w (drop m js) n
joined_drop zero w js n j = j
joined_drop (suc m) w [] n j = j
joined_drop (suc m) w (x ∷ js) n j = joined_drop m w js n j.1

joined_spent : (w : ℕ) (js : List PickEntry) (n m : ℕ) → n ≡ m → Joined w js n → Joined w js m
joined_spent w js n m e j = let P : ℕ → Type 0 = λ x. Joined w js x in subst P e j

at_picked : (w k : ℕ) (r : Picked) (was is : Seen) (js : List PickEntry) → Picks k r was is → Joined w js (image was).spent → Joined w (journal_after r (entry_of w k was is) js) (image is).spent
at_picked w k picked.Idle was is js p j = joined_spent w js _ _ (sym p.spent) j
at_picked w k (picked.Unfinished s) was is js p j = joined_drop _ w _ _ (joined_same w js (entry_of w k was is) refl j)
at_picked w k picked.Ended was is js p j = joined_drop _ w _ _ (joined_same w js (entry_of w k was is) refl j)

at_other : (v w k : ℕ) (r : Picked) (was is : Seen) (js : List PickEntry) (n : ℕ) → (w ≡ v → ⊥) → Joined v js n → Joined v (journal_after r (entry_of w k was is) js) n
at_other v w k picked.Idle was is js n o j = j
at_other v w k (picked.Unfinished s) was is js n o j = joined_drop _ v _ _ (joined_other v js (entry_of w k was is) n o j)
at_other v w k picked.Ended was is js n o j = joined_drop _ v _ _ (joined_other v js (entry_of w k was is) n o j)

get_other : (ss : List Seen) (i j : ℕ) (t : Seen) → (i ≡ j → ⊥) → slice_get (slice_set ss i t) j ≡ slice_get ss j
get_other [] i j t h = refl
get_other (x ∷ ss) zero zero t h = absurd (h refl)
get_other (x ∷ ss) zero (suc j) t h = refl
get_other (x ∷ ss) (suc i) zero t h = refl
get_other (x ∷ ss) (suc i) (suc j) t h = get_other ss i j t (λ e. h (ap suc e))

joined_at : (v w k : ℕ) (r : Picked) (old : List Seen) (was is s : Seen) (js : List PickEntry) → slice_get old w ≡ Some was → Picks k r was is → AllJoined js old → slice_get (slice_set old w is) v ≡ Some s → ((nat_eq w v ≡ true) × (w ≡ v)) ⊎ ((nat_eq w v ≡ false) × (w ≢ v)) → Joined v (journal_after r (entry_of w k was is) js) (image s).spent
joined_at v w k r old was is s js at p j e (inl same) =
    let P : ℕ → Type 0 = λ u. slice_get (slice_set old w is) u ≡ Some s in
    let Q : ℕ → Type 0 = λ u. Joined u (journal_after r (entry_of w k was is) js) (image s).spent in
    let is_s : is ≡ s = same_some _ is s (get_set old w was is at) (subst P (sym same.1) e) in
    subst Q same.1 (joined_spent w _ _ _ (ap (λ (x : Seen). (image x).spent) is_s) (at_picked w k r was is js p (j w was at)))
joined_at v w k r old was is s js at p j e (inr other) = at_other v w k r was is js (image s).spent other.1 (j v s (sym (get_other old w v is other.1) ∙ e))

-- the rule on kept picks
pub joined_after : (w k : ℕ) (r : Picked) (old new : List Seen) (js ks : List PickEntry) → Kept w k r old new js ks → AllJoined js old → AllJoined ks new
joined_after w k r old new js ks h j = λ v s e.
    (let P : List PickEntry → Type 0 = λ xs. Joined v xs (image s).spent in
    subst P (sym h.journal) (joined_at v w k r old h.picked.was h.picked.is s js h.picked.at h.picked.picks j (ap (λ ss. slice_get ss v) (sym h.picked.set) ∙ e) (eqb_tells w v)))
