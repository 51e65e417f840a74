-- A round that lives are given slot by slot.
use Rattle.std.proofs.Common.{◌≡◌, ◌≢◌, ℕ, zero, suc, ◌+◌, ◌<◌, ◌≤◌, ◌^◌, Bool, true, false, List, [], ◌∷◌, ◌++◌, length, take, slice_set, refl, sym, ap, ◌∙◌, subst, arith, Some, ne_eqb, eq-eqb}
use Rattle.std.specs.Prelude.{slice_get, nat_eq, if◌then◌else◌}
use Rattle.std.proofs.lemmas.List.{append-nil, take_all}
use Rattle.life_laws.specs.Chains.{last_life}
use Rattle.slot_picks.specs.declared.lives.Place.{Place}
use Rattle.slot_picks.specs.Places.{told_of}
use Rattle.slot_picks.specs.Feeding.{counts_for, events_for, sum_of}
use Rattle.slot_picks.specs.Posting.{AreAlike, HasEvents, HasRound, HaveRound, IsAlike}
use Rattle.slot_picks.proofs.More.{some_is}
use Rattle.slot_picks.proofs.Queues.{assoc, has_then, no_events}

-- ## But for queues and taken posts all is as it was

pub alike_here : (ls : List Place) → AreAlike ls ls
alike_here [] = tt
alike_here (l ∷ ls) = (refl, alike_here ls)

one_alike : (l m n : Place) → IsAlike l m → IsAlike m n → IsAlike l n
one_alike l m n a b = b ∙ ap (λ (y : Place). record y { life = record y.life { queue = n.life.queue }; told = n.told }) a

pub alike_then : (ls ms ns : List Place) → AreAlike ls ms → AreAlike ms ns → AreAlike ls ns
alike_then [] [] [] a b = tt
alike_then [] [] (n ∷ ns) a b = absurd b
alike_then [] (m ∷ ms) ns a b = absurd a
alike_then (l ∷ ls) [] ns a b = absurd a
alike_then (l ∷ ls) (m ∷ ms) [] a b = absurd b
alike_then (l ∷ ls) (m ∷ ms) (n ∷ ns) a b = (one_alike l m n a.0 b.0, alike_then ls ms ns a.1 b.1)

pub alike_set : (k : ℕ) (ls : List Place) (l m : Place) → slice_get ls k ≡ Some l → IsAlike l m → AreAlike ls (slice_set ls k m)
alike_set k [] l m at same = tt
alike_set zero (y ∷ ls) l m at same = (subst (λ (z : Place). IsAlike z m) (sym (some_is y l at)) same, alike_here ls)
alike_set (suc k) (y ∷ ls) l m at same = (refl, alike_set k ls l m at same)

-- the others are as they were
pub set_other : (k v : ℕ) (ls : List Place) (m : Place) → k ≢ v → slice_get (slice_set ls k m) v ≡ slice_get ls v
set_other k v [] m ne = refl
set_other zero zero (l ∷ ls) m ne = absurd (ne refl)
set_other zero (suc v) (l ∷ ls) m ne = refl
set_other (suc k) zero (l ∷ ls) m ne = refl
set_other (suc k) (suc v) (l ∷ ls) m ne = set_other k v ls m (λ e. ne (ap suc e))

pub differ : (k v : ℕ) → nat_eq k v ≡ false → k ≢ v
differ k v ne e = let same : nat_eq k v ≡ true = eq-eqb k v e in cc

pub length_alike : (ls ms : List Place) → AreAlike ls ms → length ms ≡ length ls
length_alike [] [] a = refl
length_alike [] (m ∷ ms) a = absurd a
length_alike (l ∷ ls) [] a = absurd a
length_alike (l ∷ ls) (m ∷ ms) a = ap suc (length_alike ls ms a.1)

-- ## One life

nothing : (a : Bool) (vs : List (List ℕ)) (n : ℕ) (l : Place) → vs ≡ [] → n ≡ 0 → HasRound (if a then vs else []) n l l
nothing true vs n l e f = record { events = subst (λ us. HasEvents us l.life.queue.items l.life.queue.items) (sym e) (no_events l.life.queue.items); told = omega (arith, f); alike = refl }
nothing false vs n l e f = record { events = no_events l.life.queue.items; told = omega (arith, f); alike = refl }

one_then : (a : Bool) (vs us : List (List ℕ)) (i j : ℕ) (l m n : Place) → l.life.accepted ≡ a → HasRound (if a then vs else []) i l m → HasRound (if m.life.accepted then us else []) j m n
    → HasRound (if a then vs ++ us else []) (i + j) l n
one_then true vs us i j l m n is f g =
    let e : m.life.accepted ≡ true = ap (λ (y : Place). y.life.accepted) f.alike ∙ is in
    let h : HasRound us j m n = subst (λ (b : Bool). HasRound (if b then us else []) j m n) e g in
    record {
      events = has_then vs us l.life.queue.items m.life.queue.items n.life.queue.items f.events h.events;
      told = omega (arith, f.told, h.told);
      alike = one_alike l m n f.alike h.alike;
    }
one_then false vs us i j l m n is f g =
    let e : m.life.accepted ≡ false = ap (λ (y : Place). y.life.accepted) f.alike ∙ is in
    let h : HasRound [] j m n = subst (λ (b : Bool). HasRound (if b then us else []) j m n) e g in
    record {
      events = has_then [] [] l.life.queue.items m.life.queue.items n.life.queue.items f.events h.events;
      told = omega (arith, f.told, h.told);
      alike = one_alike l m n f.alike h.alike;
    }

-- ## All lives

-- first these and then those
rounds_then : (f g both : ℕ → List (List ℕ)) (i j all : ℕ → ℕ) (v : ℕ) (ls ms ns : List Place) → ((u : ℕ) → both u ≡ f u ++ g u) → ((u : ℕ) → all u ≡ i u + j u)
    → HaveRound f i v ls ms → HaveRound g j v ms ns → HaveRound both all v ls ns
rounds_then f g both i j all v [] [] [] is sum a b = tt
rounds_then f g both i j all v [] [] (n ∷ ns) is sum a b = absurd b
rounds_then f g both i j all v [] (m ∷ ms) ns is sum a b = absurd a
rounds_then f g both i j all v (l ∷ ls) [] ns is sum a b = absurd a
rounds_then f g both i j all v (l ∷ ls) (m ∷ ms) [] is sum a b = absurd b
rounds_then f g both i j all v (l ∷ ls) (m ∷ ms) (n ∷ ns) is sum a b = (
  subst (λ (k : ℕ). HasRound (if l.life.accepted then both v else []) k l n) (sym (sum v))
      (subst (λ (vs : List (List ℕ)). HasRound (if l.life.accepted then vs else []) (i v + j v) l n) (sym (is v)) (one_then l.life.accepted (f v) (g v) (i v) (j v) l m n refl a.0 b.0)),
  rounds_then f g both i j all (v + 1) ls ms ns is sum a.1 b.1,
)

-- where nothing is given nothing changes
no_round : (f : ℕ → List (List ℕ)) (i : ℕ → ℕ) (v : ℕ) (ls : List Place) → ((u : ℕ) → v ≤ u → f u ≡ []) → ((u : ℕ) → v ≤ u → i u ≡ 0) → HaveRound f i v ls ls
no_round f i v [] none zeros = tt
no_round f i v (l ∷ ls) none zeros =
    (nothing l.life.accepted (f v) (i v) l (none v (omega arith)) (zeros v (omega arith)), no_round f i (v + 1) ls (λ u past. none u (omega (arith, past))) (λ u past. zeros u (omega (arith, past))))

-- one life by its number
pub one_round : (vs : List (List ℕ)) (n v w k : ℕ) (ls : List Place) (l m : Place) → w ≡ v + k → slice_get ls k ≡ Some l → HasRound (if l.life.accepted then vs else []) n l m
    → HaveRound (λ u. if nat_eq w u then vs else []) (λ u. if nat_eq w u then n else 0) v ls (slice_set ls k m)
one_round vs n v w k [] l m is at f = cc
one_round vs n v w zero (y ∷ ls) l m is at f =
    let same : l ≡ y = sym (some_is y l at) in
    let here : nat_eq w v ≡ true = eq-eqb w v (omega (arith, is)) in (
      subst (λ (b : Bool). HasRound (if y.life.accepted then (if b then vs else []) else []) (if b then n else 0) y m) (sym here)
          (subst (λ (z : Place). HasRound (if z.life.accepted then vs else []) n z m) same f),
      no_round (λ u. if nat_eq w u then vs else []) (λ u. if nat_eq w u then n else 0) (v + 1) ls
          (λ u past. ap (λ (b : Bool). if b then vs else []) (ne_eqb w u (λ e. absurd (omega (arith, e, past, is)))))
          (λ u past. ap (λ (b : Bool). if b then n else 0) (ne_eqb w u (λ e. absurd (omega (arith, e, past, is))))),
    )
one_round vs n v w (suc k) (y ∷ ls) l m is at f =
    let other : nat_eq w v ≡ false = ne_eqb w v (λ e. absurd (omega (arith, e, is))) in (
      nothing y.life.accepted (if nat_eq w v then vs else []) (if nat_eq w v then n else 0) y (ap (λ (b : Bool). if b then vs else []) other) (ap (λ (b : Bool). if b then n else 0) other),
      one_round vs n (v + 1) w k ls l m (omega (arith, is)) at f,
    )

-- ## One slot more

events_step : (v i : ℕ) (cs : List (List ℕ)) (es : List (List (List ℕ))) (c : List ℕ) (e : List (List ℕ)) → slice_get cs i ≡ Some c → slice_get es i ≡ Some e
    → events_for (take (i + 1) cs) (take (i + 1) es) v ≡ events_for (take i cs) (take i es) v ++ (if nat_eq (last_life c) v then e else [])
events_step v i [] es c e at is = cc
events_step v i (d ∷ cs) [] c e at is = cc
events_step v zero (d ∷ cs) (x ∷ es) c e at is =
    append-nil (if nat_eq (last_life d) v then x else [])
    ∙ (ap (λ (y : List ℕ). if nat_eq (last_life y) v then x else []) (some_is d c at) ∙ ap (λ (y : List (List ℕ)). if nat_eq (last_life c) v then y else []) (some_is x e is))
events_step v (suc i) (d ∷ cs) (x ∷ es) c e at is =
    let g : suc i + 1 ≡ suc (i + 1) = omega arith in
    ap (λ n. events_for (take n (d ∷ cs)) (take n (x ∷ es)) v) g
    ∙ (ap (λ r. (if nat_eq (last_life d) v then x else []) ++ r) (events_step v i cs es c e at is)
    ∙ sym (assoc (if nat_eq (last_life d) v then x else []) (events_for (take i cs) (take i es) v) (if nat_eq (last_life c) v then e else [])))

counts_step : (v i : ℕ) (cs : List (List ℕ)) (ns : List ℕ) (c : List ℕ) (n : ℕ) → slice_get cs i ≡ Some c → slice_get ns i ≡ Some n
    → counts_for (take (i + 1) cs) (take (i + 1) ns) v ≡ counts_for (take i cs) (take i ns) v + (if nat_eq (last_life c) v then n else 0)
counts_step v i [] ns c n at is = cc
counts_step v i (d ∷ cs) [] c n at is = cc
counts_step v zero (d ∷ cs) (x ∷ ns) c n at is =
    let e : (if nat_eq (last_life d) v then x else 0) ≡ (if nat_eq (last_life c) v then n else 0) = ap (λ (y : List ℕ). if nat_eq (last_life y) v then x else 0) (some_is d c at) ∙ ap (λ (y : ℕ). if nat_eq (last_life c) v then y else 0) (some_is x n is) in
    omega (arith, e)
counts_step v (suc i) (d ∷ cs) (x ∷ ns) c n at is =
    let g : suc i + 1 ≡ suc (i + 1) = omega arith in
    let later = counts_step v i cs ns c n at is in
    ap (λ k. counts_for (take k (d ∷ cs)) (take k (x ∷ ns)) v) g ∙ omega (arith, later)

-- of the slots before one, and then of this one
pub slot_round : (i : ℕ) (cs : List (List ℕ)) (es : List (List (List ℕ))) (ns : List ℕ) (c : List ℕ) (e : List (List ℕ)) (n : ℕ) (ls ms ps : List Place)
    → slice_get cs i ≡ Some c → slice_get es i ≡ Some e → slice_get ns i ≡ Some n
    → HaveRound (events_for (take i cs) (take i es)) (counts_for (take i cs) (take i ns)) 0 ls ms → HaveRound (λ u. if nat_eq (last_life c) u then e else []) (λ u. if nat_eq (last_life c) u then n else 0) 0 ms ps
    → HaveRound (events_for (take (i + 1) cs) (take (i + 1) es)) (counts_for (take (i + 1) cs) (take (i + 1) ns)) 0 ls ps
slot_round i cs es ns c e n ls ms ps at is many a b =
    rounds_then (events_for (take i cs) (take i es)) (λ u. if nat_eq (last_life c) u then e else []) (events_for (take (i + 1) cs) (take (i + 1) es))
    (counts_for (take i cs) (take i ns)) (λ u. if nat_eq (last_life c) u then n else 0) (counts_for (take (i + 1) cs) (take (i + 1) ns))
    0 ls ms ps (λ v. events_step v i cs es c e at is) (λ v. counts_step v i cs ns c n at many) a b

-- no slot yet, and all slots
pub no_slot : (ls : List Place) → HaveRound (events_for [] []) (counts_for [] []) 0 ls ls
no_slot ls = no_round (events_for [] []) (counts_for [] []) 0 ls (λ u past. refl) (λ u past. refl)

pub all_slots : (i : ℕ) (cs : List (List ℕ)) (es : List (List (List ℕ))) (ns : List ℕ) (ls ms : List Place) → length cs ≤ i → length es ≤ i → length ns ≤ i
    → HaveRound (events_for (take i cs) (take i es)) (counts_for (take i cs) (take i ns)) 0 ls ms → HaveRound (events_for cs es) (counts_for cs ns) 0 ls ms
all_slots i cs es ns ls ms a b c h =
    subst (λ (xs : List (List ℕ)). HaveRound (events_for xs es) (counts_for xs ns) 0 ls ms) (take_all i cs a)
    (subst (λ (xs : List (List (List ℕ))). HaveRound (events_for (take i cs) xs) (counts_for (take i cs) ns) 0 ls ms) (take_all i es b)
    (subst (λ (xs : List ℕ). HaveRound (events_for (take i cs) (take i es)) (counts_for (take i cs) xs) 0 ls ms) (take_all i ns c) h))

-- ## The room for what is taken

part : (b : Bool) (n x y : ℕ) → x ≤ y → (if b then n else 0) + x ≤ n + y
part true n x y h = omega (arith, h)
part false n x y h = omega (arith, h)

few_for : (cs : List (List ℕ)) (ns : List ℕ) (v : ℕ) → counts_for cs ns v ≤ sum_of ns
few_for [] ns v = omega arith
few_for (c ∷ cs) [] v = omega arith
few_for (c ∷ cs) (n ∷ ns) v = part (nat_eq (last_life c) v) n (counts_for cs ns v) (sum_of ns) (few_for cs ns v)

sum_step : (i n : ℕ) (ns : List ℕ) → slice_get ns i ≡ Some n → sum_of (take i ns) + n ≤ sum_of ns
sum_step i n [] at = cc
sum_step zero n (x ∷ ns) at = let e = some_is x n at in omega (arith, e)
sum_step (suc i) n (x ∷ ns) at = let later = sum_step i n ns at in omega (arith, later)

told_then : (f : ℕ → List (List ℕ)) (i : ℕ → ℕ) (v k : ℕ) (ls ms : List Place) (m : Place) → HaveRound f i v ls ms → slice_get ms k ≡ Some m → (t : ℕ) × (slice_get (told_of ls) k ≡ Some t) × (m.told ≡ t + i (v + k))
told_then f i v k [] [] m h at = absurd (let e = at in cc)
told_then f i v k [] (y ∷ ms) m h at = absurd h
told_then f i v k (l ∷ ls) [] m h at = absurd h
told_then f i v zero (l ∷ ls) (y ∷ ms) m h at =
    let e : v ≡ v + 0 = omega arith in
    (l.told, refl, ap (λ (z : Place). z.told) (sym (some_is y m at)) ∙ subst (λ u. y.told ≡ l.told + i u) e h.0.told)
told_then f i v (suc k) (l ∷ ls) (y ∷ ms) m h at =
    let e : (v + 1) + k ≡ v + suc k = omega arith in
    let was = told_then f i (v + 1) k ls ms m h.1 at in
    (was.0, was.1, subst (λ u. m.told ≡ was.0 + i u) e was.2)

-- there is room for what is taken of the next slot
pub room_then : (f : ℕ → List (List ℕ)) (cs : List (List ℕ)) (ns : List ℕ) (i k n : ℕ) (ls ms : List Place) (m : Place) → ((v t : ℕ) → slice_get (told_of ls) v ≡ Some t → t + sum_of ns < 2 ^ 32)
    → HaveRound f (counts_for (take i cs) (take i ns)) 0 ls ms → slice_get ms k ≡ Some m → slice_get ns i ≡ Some n → m.told + n < 2 ^ 32
room_then f cs ns i k n ls ms m room h at is =
    let was = told_then f (counts_for (take i cs) (take i ns)) 0 k ls ms m h at in
    let few = few_for (take i cs) (take i ns) (0 + k) in
    let step = sum_step i n ns is in
    let bound = room k was.0 was.1 in
    omega (arith, was.2, few, step, bound)

some_told : (ls : List Place) (v : ℕ) → v < length ls → (t : ℕ) × (slice_get (told_of ls) v ≡ Some t)
some_told [] v within = absurd (omega (arith, within))
some_told (l ∷ ls) zero within = (l.told, refl)
some_told (l ∷ ls) (suc v) within = some_told ls v (omega (arith, within))

pub few_here : (ls : List Place) (ns : List ℕ) (i v n : ℕ) → ((v t : ℕ) → slice_get (told_of ls) v ≡ Some t → t + sum_of ns < 2 ^ 32) → v < length ls → slice_get ns i ≡ Some n → n < 2 ^ 32
few_here ls ns i v n room there is =
    let t = some_told ls v there in
    let step = sum_step i n ns is in
    let bound = room v t.0 t.1 in
    omega (arith, step, bound)
