-- The slots that are ready, as the host finds them.
use Rattle.std.proofs.Common.{◌≡◌, ℕ, zero, suc, ◌+◌, ◌<◌, ◌≤◌, Bool, true, false, if◌then◌else◌, List, [], ◌∷◌, ◌++◌, length, drop, get_or, refl, sym, ap, ◌∙◌, subst, arith, Option, Some}
use Rattle.std.specs.Prelude.{is_some, not, slice_get, slice_set}
use Rattle.life_laws.specs.Life.{IsCut, Seen, image, is_empty, ready}
use Rattle.life_laws.specs.declared.entry.PickEntry.{PickEntry}
use Rattle.life_laws.specs.declared.entry.Picked.{Picked}
use Rattle.life_laws.specs.declared.entry.Picked.TheVariants as picked
use Rattle.life_laws.specs.Picks.{Picks}
use Rattle.life_laws.specs.Journal.{ready_from}
use Rattle.life_laws.proofs.Ready.{below_length}
use Rattle.life_laws.specs.Chains.{Chains, PickedIn}
use Rattle.life_laws.specs.Slots.{Each, ready_of, slot_ready}
use Rattle.life_laws.specs.Settled.{flag, slot_flags}
use Rattle.life_laws.proofs.Passing.{append_cons}
use Rattle.life_laws.proofs.SlotsSettling.{flags_length, ready_flag, set_is, was_at, was_ready}
use Rattle.slot_picks.specs.declared.lives.Lives.{Lives}
use Rattle.slot_picks.specs.declared.slots.Slot.{Slot}
use Rattle.slot_picks.specs.Lives.{chains_of, seens_of}
use Rattle.slot_picks.proofs.Chained.{chains_length}

drop_slot : (ls : List Slot) (i j : ℕ) (l : Slot) → slice_get ls i ≡ Some l → j ≡ suc i → drop i ls ≡ l ∷ drop j ls
drop_slot [] i j l e f = cc
drop_slot (m ∷ ls) zero j l e f = (let same : m ≡ l = cc in ap (λ x. x ∷ ls) same ∙ ap (λ n. l ∷ drop n (m ∷ ls)) (sym f))
drop_slot (m ∷ ls) (suc i) j l e f = drop_slot ls i (suc i) l e refl ∙ ap (λ n. l ∷ drop n (m ∷ ls)) (sym f)

slot_more : (b : Bool) (i : ℕ) (xs ys zs : List ℕ) (all : List ℕ) → ys ≡ (if b then xs ++ i ∷ [] else xs) → xs ++ (if ready (flag b) then i ∷ zs else zs) ≡ all → ys ++ zs ≡ all
slot_more true i xs ys zs all e h = ap (λ ws. ws ++ zs) e ∙ (append_cons xs i zs ∙ h)
slot_more false i xs ys zs all e h = ap (λ ws. ws ++ zs) e ∙ h

-- one slot more
pub slot_step : (ss : List Seen) (sl : List Slot) (i : ℕ) (b : Bool) (s : Slot) (xs ys all : List ℕ) → slice_get sl i ≡ Some s → b ≡ slot_ready ss s.lives.items → ys ≡ (if b then xs ++ i ∷ [] else xs) → xs ++ ready_from i (slot_flags ss (chains_of (drop i sl))) ≡ all → ys ++ ready_from (i + 1) (slot_flags ss (chains_of (drop (i + 1) sl))) ≡ all
slot_step ss sl i b s xs ys all e f g h =
    let d : drop i sl ≡ s ∷ drop (i + 1) sl = drop_slot sl i (i + 1) s e (let n : i + 1 ≡ suc i = omega arith in n) in
    let zs = ready_from (i + 1) (slot_flags ss (chains_of (drop (i + 1) sl))) in
    slot_more b i xs ys zs all g (ap (λ c. xs ++ (if ready (flag c) then i ∷ zs else zs)) f ∙ (ap (λ ts. xs ++ ready_from i (slot_flags ss (chains_of ts))) (sym d) ∙ h))

-- a slot of one life, and one of more
pub single_ready : (ss : List Seen) (xs : List ℕ) (v : ℕ) (s : Seen) (b : Bool) → slice_get xs 0 ≡ Some v → length xs ≤ 1 → slice_get ss v ≡ Some s → b ≡ ready s → b ≡ slot_ready ss xs
single_ready ss [] v s b e l f g = cc
single_ready ss (x ∷ []) v s b e l f g = let same : x ≡ v = cc in g ∙ sym (ap ready_of (ap (slice_get ss) same ∙ f))
single_ready ss (x ∷ y ∷ ys) v s b e l f g = absurd (omega arith)

pub many_ready : (ss : List Seen) (xs : List ℕ) → 1 < length xs → true ≡ slot_ready ss xs
many_ready ss [] l = absurd (omega arith)
many_ready ss (x ∷ []) l = absurd (omega arith)
many_ready ss (x ∷ y ∷ ys) l = refl

-- what is ready is a slot
pub slot_there : (ss : List Seen) (sl : List Slot) (xs : List ℕ) (k x : ℕ) → xs ≡ ready_from 0 (slot_flags ss (chains_of sl)) → slice_get xs k ≡ Some x → x < length sl
slot_there ss sl xs k x e f = let g = below_length (slot_flags ss (chains_of sl)) k x (ap (λ ys. slice_get ys k) (sym e) ∙ f) in omega (arith, g, flags_length ss (chains_of sl), chains_length sl)

pub same_slot : (o : Option Slot) (a b : Slot) → o ≡ Some a → o ≡ Some b → a ≡ b
same_slot o a b e f = let g : Some a ≡ Some b = sym e ∙ f in cc

pub slot_here : (ls : List Slot) (i : ℕ) → i < length ls → (s : Slot) × (slice_get ls i ≡ Some s)
slot_here [] i l = absurd (omega arith)
slot_here (x ∷ ls) zero l = (x, refl)
slot_here (x ∷ ls) (suc i) l = slot_here ls i (omega arith)

pub head_each : (P : ℕ → Type 0) (xs : List ℕ) (v : ℕ) → slice_get xs 0 ≡ Some v → Each P xs → P v
head_each P [] v e h = cc
head_each P (x ∷ xs) v e h = let same : x ≡ v = cc in subst P same h.0

get_read : (xs : List ℕ) (k d : ℕ) → k < length xs → slice_get xs k ≡ Some (get_or xs k d)
get_read [] k d h = absurd (omega arith)
get_read (x ∷ xs) zero d h = refl
get_read (x ∷ xs) (suc k) d h = get_read xs k d (omega arith)

-- and below the owners
pub slots_below : (ss : List Seen) (sl : List Slot) (xs : List ℕ) → xs ≡ ready_from 0 (slot_flags ss (chains_of sl)) → length sl ≤ 16 → (k d : ℕ) → k < length xs → get_or xs k d < 32
slots_below ss sl xs e few k d h = let g = slot_there ss sl xs k (get_or xs k d) e (get_read xs k d h) in omega (arith, g, few)

-- the slots that were found ready, as a list of these slots
pub listed : (c : Lives) (xs : List ℕ) (ss ts : List Slot) → ts ≡ ss → xs ≡ ready_from 0 (slot_flags (seens_of c) (chains_of ts)) → xs ≡ ready_from 0 (slot_flags (seens_of c) (chains_of ss))
listed c xs ss ts e f = f ∙ ap (λ us. ready_from 0 (slot_flags (seens_of c) (chains_of us))) e

-- ## After a pick that left its turn unfinished, the same slots are ready

same_at : (fs : List Seen) (i : ℕ) (f : Seen) → slice_get fs i ≡ Some f → slice_set fs i f ≡ fs
same_at [] i f e = refl
same_at (x ∷ fs) zero f e = let same : x ≡ f = cc in ap (λ y. y ∷ fs) (sym same)
same_at (x ∷ fs) (suc i) f e = ap (λ ys. x ∷ ys) (same_at fs i f e)

-- its slot still is
still_on : (ss : List Seen) (left : List ℕ) (v : ℕ) (waiting : List ℕ) (s : Seen) → left ≡ v ∷ waiting → slice_get ss v ≡ Some s → ready s ≡ true → slot_ready ss left ≡ true
still_on ss left v [] s e at on = ap (slot_ready ss) e ∙ (ap ready_of at ∙ on)
still_on ss left v (x ∷ xs) s e at on = ap (slot_ready ss) e

in_turn : (s : Seen) → is_some s.going ≡ true → ready s ≡ true
in_turn s e = ap (λ b. if b then true else not (is_empty s.queue)) e

pub still_ready : (homes : List ℕ) (born w k n : ℕ) (r : Picked) (cs ds : List (List ℕ)) (old new : List Seen) (js ks : List PickEntry) (xs : List ℕ) (at : ℕ) → w < 32 → Chains homes born 0 cs → r ≡ picked.Unfinished n → PickedIn w k r cs ds old new js ks
    → xs ≡ ready_from 0 (slot_flags old cs) → slice_get xs at ≡ Some w → xs ≡ ready_from 0 (slot_flags new ds)
still_ready homes born w k n r cs ds old new js ks xs at small chains is p list chosen =
    let flags = set_is k w homes born cs cs ds old old new js js ks [] [] [] 0 0 0 xs at small chains r p list chosen in
    let here = was_at k w homes born cs cs ds old old new js js ks [] [] [] 0 0 0 xs at small chains r p list chosen in
    let was : slot_ready old p.lives ≡ true = sym (ready_flag (slot_ready old p.lives)) ∙ was_ready k w homes born cs cs ds old old new js js ks [] [] [] 0 0 0 xs at small chains r p list chosen in
    let cut : IsCut k p.slot.was p.slot.is × (n ≡ (image p.slot.is).spent) = subst (λ (q : Picked). Picks k q p.slot.was p.slot.is) is p.slot.picks in
    let on : slot_ready new p.left ≡ true = still_on new p.left p.slot.life p.slot.waiting p.slot.is p.slot.left_is p.slot.now (in_turn p.slot.is cut.0.going) in
    let same : slot_flags new ds ≡ slot_flags old cs = flags ∙ (ap (λ b. slice_set (slot_flags old cs) w (flag b)) (on ∙ sym was) ∙ same_at (slot_flags old cs) w (flag (slot_ready old p.lives)) here) in
    list ∙ ap (ready_from 0) (sym same)
