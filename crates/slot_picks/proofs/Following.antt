-- The loop over the lives of a slot.
use Rattle.std.proofs.Common.{◌≡◌, ◌≢◌, ℕ, zero, suc, ◌<◌, List, [], ◌∷◌, ◌++◌, length, Bool, true, false, sym, ap, ◌∙◌, subst, arith, Some, None, drop, refl, lt-ltb, eq-eqb}
use Rattle.std.specs.Prelude.{slice_get, slice_index_or, slice_set, nat_eq, nat_lt, if◌then◌else◌}
use Rattle.life_laws.specs.Life.{Seen}
use Rattle.life_laws.specs.declared.entry.PickEntry.{PickEntry}
use Rattle.life_laws.specs.declared.entry.Picked.{Picked}
use Rattle.life_laws.specs.declared.entry.Picked.TheVariants as picked
use Rattle.life_laws.specs.Journal.{Kept, journal_after, on_at}
use Rattle.life_laws.specs.Chains.{Chains, IsChain}
use Rattle.life_laws.specs.Slots.{Each, has, Passed, PickedSlot, Rising}
use Rattle.life_laws.proofs.Housing.{chain_in}
use Rattle.life_laws.proofs.Chaining.{out_of}
use Rattle.life_laws.proofs.Passing.{each_mid, has_append, passed_on, slot_picked}
use Rattle.slot_picks.specs.declared.lives.Lives.{Lives}
use Rattle.slot_picks.specs.declared.slots.Slot.{Slot}
use Rattle.slot_picks.specs.Lives.{KeepsBeside, chains_of, seens_of}
use Rattle.slot_picks.proofs.Chained.{chains_length}

pub present_is : (ds cur : List ℕ) (v : ℕ) → ds ≡ cur → slice_get ds 0 ≡ Some v → cur ≡ v ∷ drop 1 cur
present_is ds [] v e f = let g : slice_get ds 0 ≡ None = ap (λ xs. slice_get xs 0) e in cc
present_is ds (x ∷ xs) v e f = let g : slice_get ds 0 ≡ Some x = ap (λ ys. slice_get ys 0) e in let same : x ≡ v = cc in ap (λ u. u ∷ xs) same

pub is_there : (P : ℕ → Type 0) (lives ended cur rest : List ℕ) (v : ℕ) → Each P lives → lives ≡ ended ++ cur → cur ≡ v ∷ rest → P v
is_there P lives ended cur rest v h e f = let Q : List ℕ → Type 0 = λ xs. Each P xs in each_mid P ended v rest (subst Q (e ∙ ap (λ xs. ended ++ xs) f) h)

pub slot_done : (k : ℕ) (r : Picked) (lives : List ℕ) (old mid new : List Seen) (js is ks : List PickEntry) (cur : List ℕ) (v : ℕ) → Rising lives → Passed lives old mid js cur → cur ≡ v ∷ drop 1 cur → is ≡ js → Kept v k r mid new is ks → (r ≡ picked.Idle → drop 1 cur ≡ []) → PickedSlot k r lives old new js ks cur
slot_done k r lives old mid new js is ks cur v rising h e f p last =
    let P : List ℕ → Type 0 = λ xs. Passed lives old mid js xs in
    let Q : List ℕ → Type 0 = λ xs. PickedSlot k r lives old new js ks xs in
    let R : List PickEntry → Type 0 = λ xs. Kept v k r mid new xs ks in
    subst Q (sym e) (slot_picked k r lives old mid new js ks v (drop 1 cur) rising (subst P e h) (subst R f p) last)

pub slot_on : (k : ℕ) (r : Picked) (lives : List ℕ) (old mid new : List Seen) (js is ks : List PickEntry) (cur next : List ℕ) (v : ℕ) → Rising lives → Passed lives old mid js cur → cur ≡ v ∷ drop 1 cur → is ≡ js → Kept v k r mid new is ks → r ≡ picked.Idle → ks ≡ is → next ≡ drop 1 cur → Passed lives old new js next
slot_on k r lives old mid new js is ks cur next v rising h e f p i same n =
    let P : List ℕ → Type 0 = λ xs. Passed lives old mid js xs in
    let Q : List ℕ → Type 0 = λ xs. Passed lives old new js xs in
    let R : List PickEntry → Type 0 = λ xs. Kept v k r mid new xs ks in
    subst Q (sym n) (passed_on k r lives old mid new js ks v (drop 1 cur) rising (subst P e h) (subst R f p) i (same ∙ f))

pub same_journal : (r : Picked) (e : PickEntry) (js ks : List PickEntry) → r ≡ picked.Idle → ks ≡ journal_after r e js → ks ≡ js
same_journal r e js ks i h = h ∙ ap (λ x. journal_after x e js) i

-- ## The lives of a slot

-- the lives of the slot with a number
abbrev pub lives_at : ℕ → List Slot → List ℕ
lives_at w ss = slice_index_or (chains_of ss) w []

pub lives_here : (w : ℕ) (ss : List Slot) (s : Slot) → slice_get ss w ≡ Some s → lives_at w ss ≡ s.lives.items
lives_here w [] s e = cc
lives_here zero (x ∷ ss) s e = let same : x ≡ s = cc in ap (λ (y : Slot). y.lives.items) same
lives_here (suc w) (x ∷ ss) s e = lives_here w ss s e

get_at : (cs : List (List ℕ)) (w : ℕ) → w < length cs → slice_get cs w ≡ Some (slice_index_or cs w [])
get_at [] w lt = absurd (omega (arith, lt))
get_at (c ∷ cs) zero lt = refl
get_at (c ∷ cs) (suc w) lt = get_at cs w (omega (arith, lt))

pub lives_there : (w : ℕ) (ss : List Slot) → w < length ss → slice_get (chains_of ss) w ≡ Some (lives_at w ss)
lives_there w ss lt = get_at (chains_of ss) w (omega (arith, lt, chains_length ss))

set_here : (cs : List (List ℕ)) (w : ℕ) → cs ≡ slice_set cs w (slice_index_or cs w [])
set_here [] w = refl
set_here (c ∷ cs) zero = refl
set_here (c ∷ cs) (suc w) = ap (λ ds. c ∷ ds) (set_here cs w)

pub chain_there : (homes : List ℕ) (born w : ℕ) (ss : List Slot) → w < length ss → Chains homes born 0 (chains_of ss) → IsChain homes born w (lives_at w ss)
chain_there homes born w ss lt h = chain_in homes born 0 w w (chains_of ss) (lives_at w ss) (omega arith) (lives_there w ss lt) h

-- no pick yet
pub chains_here : (w : ℕ) (ss : List Slot) → chains_of ss ≡ slice_set (chains_of ss) w (lives_at w ss)
chains_here w ss = set_here (chains_of ss) w

on_is : (cs : List (List ℕ)) (w : ℕ) → on_at w (drop 1) cs ≡ slice_set cs w (drop 1 (slice_index_or cs w []))
on_is [] w = refl
on_is (c ∷ cs) zero = refl
on_is (c ∷ cs) (suc w) = ap (λ ds. c ∷ ds) (on_is cs w)

set_get : (cs : List (List ℕ)) (w : ℕ) (c : List ℕ) → w < length cs → slice_index_or (slice_set cs w c) w [] ≡ c
set_get [] w c lt = absurd (omega (arith, lt))
set_get (x ∷ cs) zero c lt = refl
set_get (x ∷ cs) (suc w) c lt = set_get cs w c (omega (arith, lt))

set_twice : (cs : List (List ℕ)) (w : ℕ) (c e : List ℕ) → slice_set (slice_set cs w c) w e ≡ slice_set cs w e
set_twice [] w c e = refl
set_twice (x ∷ cs) zero c e = refl
set_twice (x ∷ cs) (suc w) c e = ap (λ ds. x ∷ ds) (set_twice cs w c e)

-- the slot has a life less
pub lives_next : (w : ℕ) (ss ts : List Slot) → w < length ss → chains_of ts ≡ on_at w (drop 1) (chains_of ss) → lives_at w ts ≡ drop 1 (lives_at w ss)
lives_next w ss ts lt e = ap (λ cs. slice_index_or cs w []) (e ∙ on_is (chains_of ss) w) ∙ set_get (chains_of ss) w (drop 1 (lives_at w ss)) (omega (arith, lt, chains_length ss))

pub chains_next : (w : ℕ) (rs ss ts : List Slot) → w < length ss → chains_of ts ≡ on_at w (drop 1) (chains_of ss) → chains_of ss ≡ slice_set (chains_of rs) w (lives_at w ss) → chains_of ts ≡ slice_set (chains_of rs) w (lives_at w ts)
chains_next w rs ss ts lt e f =
    e ∙ on_is (chains_of ss) w ∙ ap (λ cs. slice_set cs w (drop 1 (lives_at w ss))) f ∙ set_twice (chains_of rs) w (lives_at w ss) (drop 1 (lives_at w ss)) ∙ ap (slice_set (chains_of rs) w) (sym (lives_next w ss ts lt e))

pub one_left : (ds cur : List ℕ) (b : Bool) → ds ≡ cur → b ≡ nat_lt 1 (length ds) → b ≡ false → drop 1 cur ≡ []
one_left ds [] b e f g = refl
one_left ds (x ∷ []) b e f g = refl
one_left ds (x ∷ y ∷ zs) b e f g = let n : nat_lt 1 (length ds) ≡ nat_lt 1 (suc (suc (length zs))) = ap (λ xs. nat_lt 1 (length xs)) e in let m : nat_lt 1 (suc (suc (length zs))) ≡ true = lt-ltb 1 (suc (suc (length zs))) (omega arith) in cc

pub more_left : (ds cur next : List ℕ) (b : Bool) → ds ≡ cur → b ≡ nat_lt 1 (length ds) → b ≡ true → next ≡ drop 1 cur → 0 < length next
more_left ds [] next b e f g n = let m : nat_lt 1 (length ds) ≡ false = ap (λ xs. nat_lt 1 (length xs)) e in cc
more_left ds (x ∷ []) next b e f g n = let m : nat_lt 1 (length ds) ≡ false = ap (λ xs. nat_lt 1 (length xs)) e in cc
more_left ds (x ∷ y ∷ zs) next b e f g n = let m : length next ≡ suc (length zs) = ap length n in omega arith

pub two_left : (ds cur : List ℕ) (b : Bool) → ds ≡ cur → b ≡ nat_lt 1 (length ds) → b ≡ true → 1 < length cur
two_left ds [] b e f g = let m : nat_lt 1 (length ds) ≡ false = ap (λ xs. nat_lt 1 (length xs)) e in cc
two_left ds (x ∷ []) b e f g = let m : nat_lt 1 (length ds) ≡ false = ap (λ xs. nat_lt 1 (length xs)) e in cc
two_left ds (x ∷ y ∷ zs) b e f g = omega arith

pub shorter : (xs ys : List ℕ) → ys ≡ drop 1 xs → 0 < length xs → length ys < length xs
shorter [] ys e lt = absurd (omega (arith, lt))
shorter (x ∷ xs) ys e lt = let same : length ys ≡ length xs = ap length e in omega (arith, same)

-- ## Beside the slot

chain_other : (cs : List (List ℕ)) (w u : ℕ) (c : List ℕ) → w ≢ u → slice_get (slice_set cs w c) u ≡ slice_get cs u
chain_other [] w u c ne = refl
chain_other (x ∷ cs) zero zero c ne = absurd (ne refl)
chain_other (x ∷ cs) zero (suc u) c ne = refl
chain_other (x ∷ cs) (suc w) zero c ne = refl
chain_other (x ∷ cs) (suc w) (suc u) c ne = chain_other cs w u c (λ e. ne (ap suc e))

both_no : (a b : Bool) → (if a then true else b) ≡ false → (a ≡ false) × (b ≡ false)
both_no true b e = cc
both_no false b e = (refl, e)

not_it : (v u : ℕ) → has u (v ∷ []) ≡ false → u ≢ v
not_it v u e same =
    let one : nat_eq v u ≡ false = (both_no (nat_eq v u) false e).0 in
    let other : nat_eq v u ≡ true = eq-eqb v u (sym same) in
    cc

-- lives of the slot were ended, and then its present one was picked
pub beside_slot : (w v : ℕ) (c d e : Lives) (ss ts : List Slot) (js : List PickEntry) → Passed (lives_at w ss) (seens_of c) (seens_of d) js (lives_at w ts) → chains_of ts ≡ slice_set (chains_of ss) w (lives_at w ts)
    → lives_at w ts ≡ v ∷ drop 1 (lives_at w ts) → ((u : ℕ) → u ≢ v → slice_get (seens_of e) u ≡ slice_get (seens_of d) u) → KeepsBeside w c e ss ts
beside_slot w v c d e ss ts js passed set here others = record {
  slots = λ u ne. ap (λ cs. slice_get cs u) set ∙ chain_other (chains_of ss) w u (lives_at w ts) (λ e. ne (sym e));
  own = record { ended = passed.ended; are = passed.are };
  lives = λ u out.
      (let none = out_of u (lives_at w ss) passed.ended v (drop 1 (lives_at w ts)) (passed.are ∙ ap (λ xs. passed.ended ++ xs) here) out in
      let parts = both_no (has u passed.ended) (has u (v ∷ [])) (sym (has_append u passed.ended (v ∷ [])) ∙ none) in
      others u (not_it v u parts.1) ∙ passed.others u parts.0);
}

-- nothing was done
pub beside_here : (w : ℕ) (c : Lives) (ss : List Slot) → KeepsBeside w c c ss ss
beside_here w c ss = record { slots = λ u ne. refl; own = record { ended = []; are = refl }; lives = λ v out. refl }
