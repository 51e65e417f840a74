-- What lives with works more in their queues are.
use Rattle.std.proofs.Common.{◌≡◌, ℕ, zero, suc, ◌+◌, ◌<◌, ◌≤◌, ◌^◌, List, [], ◌∷◌, ◌++◌, map, length, Bool, true, false, refl, sym, ap, ◌∙◌, subst, arith, take, Some, eq-eqb, ne_eqb}
use Rattle.std.proofs.lemmas.Bool.{eqb-true}
use Rattle.std.specs.Prelude.{slice_get, slice_set, nat_eq, if◌then◌else◌, ◌&&◌, ◌||◌}
use Rattle.std.specs.List.{AllByRecursion, list_any}
use Rattle.std.proofs.lemmas.List.{length-map, map-append, take_all}
use Rattle.js_tree.specs.Forest.{Forest}
use Rattle.widget_meaning.specs.Items.{Item, item}
use Rattle.life_laws.specs.Life as todo
use Rattle.life_laws.specs.Life.{Seen, due, image, potential, potentials}
use Rattle.life_laws.specs.Journal.{queued}
use Rattle.life_laws.proofs.Given.{due_queued}
use Rattle.native_image.specs.declared.handed.Shared.{Shared}
use Rattle.slot_picks.specs.declared.lives.Place.{Place}
use Rattle.slot_picks.specs.life.Work.{Work}
use Rattle.slot_picks.specs.QueueLives.{life_seen, trees_in, work_of, works_of}
use Rattle.slot_picks.specs.Fine.{FineLife, FineWork, tally}
use Rattle.life_laws.specs.Chains.{Chains, last_life}
use Rattle.slot_picks.specs.declared.slots.Slot.{Slot}
use Rattle.slot_picks.specs.Lives.{chains_of}
use Rattle.slot_picks.specs.Places.{FewPlace, FewPlaces, FinePlace, FinePlaces, lent, seen_at, seens_from, told_of}
use Rattle.widget_host.specs.declared.host.Host.{Host}
use Rattle.widget_host.specs.declared.items.HostItem.{HostItem}
use Rattle.widget_host.specs.Housed.{dues_after, item_of, reaches}
use Rattle.widget_host.specs.Feeding.{AreFed, AreSame, HasMore, IsFed, IsSame}
use Rattle.widget_host.proofs.Lasts.{last_each, last_step, no_last_before, slot_chain, some_is}

-- ## One life

-- whether its file was accepted stays
fed_accepted : (b : Bool) (x : Work) (l m : Place) → IsFed b x l m → m.life.accepted ≡ l.life.accepted
fed_accepted true x l m f = ap (λ (n : Place). n.life.accepted) f.same
fed_accepted false x l m f = ap (λ (n : Place). n.life.accepted) f

pub seen_accepted : (h : Shared) (v : ℕ) (l : Place) → l.life.accepted ≡ true → seen_at h v l ≡ life_seen (lent h l) v l.life
seen_accepted h v l is = rw is refl

-- with other works
abbrev queued_in : Place → Place → Place
queued_in l m = record l { life = record l.life { queue = m.life.queue } }

module _ (h : Shared) (v : ℕ) (x : Work) (l m : Place) where
  abbrev own_work : todo.Work
  own_work = work_of (trees_in (lent h l)) x

  works_more : HasMore x l m → works_of (lent h l) v (queued_in l m).life ≡ works_of (lent h l) v l.life ++ own_work ∷ []
  works_more more = ap (map (work_of (trees_in (lent h l)))) more.queue ∙ map-append (work_of (trees_in (lent h l))) l.life.queue.items (x ∷ [])

  seen_more : HasMore x l m → life_seen (lent h m) v m.life ≡ queued own_work (life_seen (lent h l) v l.life)
  seen_more more =
      ap (λ (p : Place). life_seen (lent h p) v p.life) more.same ∙ ap (λ (q : List todo.Work). record (life_seen (lent h l) v l.life) { queue = q }) (works_more more)

  potentials_more : (q : List todo.Work) (y : todo.Work) → potentials (q ++ y ∷ []) ≡ potentials q + potential y
  potentials_more [] y = omega arith
  potentials_more (z ∷ q) y = let e = potentials_more q y in omega (arith, e)

  tally_more : HasMore x l m → tally (lent h l) v (queued_in l m).life ≡ tally (lent h l) v l.life + potential own_work
  tally_more more =
      let e : potentials (works_of (lent h l) v (queued_in l m).life) ≡ potentials (works_of (lent h l) v l.life) + potential own_work = ap potentials (works_more more) ∙ potentials_more (works_of (lent h l) v l.life) own_work in
      omega (arith, e)

  all_more : (fs : List Forest) (q : List Work) → AllByRecursion (FineWork fs) q → FineWork fs x → AllByRecursion (FineWork fs) (q ++ x ∷ [])
  all_more fs [] fine this = (this, tt)
  all_more fs (y ∷ q) fine this = (fine.0, all_more fs q fine.1 this)

  fine_more : HasMore x l m → FineWork (trees_in (lent h l)) x → tally (lent h l) v l.life + potential own_work < 2 ^ 32 → FineLife (lent h l) v l.life → FineLife (lent h m) v m.life
  fine_more more this room fine =
      let counted = tally_more more in
      subst (λ (p : Place). FineLife (lent h p) v p.life) (sym more.same) (record {
        number = fine.number;
        confined = fine.confined;
        sound = fine.sound;
        lib = record { held = fine.lib.held; first = fine.lib.first };
        works = subst (AllByRecursion (FineWork (trees_in (lent h l)))) (sym more.queue) (all_more (trees_in (lent h l)) l.life.queue.items fine.works this);
        turn = fine.turn;
        counts = record { grant = fine.counts.grant; spent = fine.counts.spent; room = omega (arith, room, counted) };
      })

  -- what is seen of it
  seen_fed : (a b : Bool) → l.life.accepted ≡ a → IsFed (a && b) x l m → seen_at h v m ≡ (if a && b then queued own_work (seen_at h v l) else seen_at h v l)
  seen_fed true true is fed =
      seen_accepted h v m (ap (λ (p : Place). p.life.accepted) fed.same ∙ is) ∙ seen_more fed ∙ ap (queued own_work) (sym (seen_accepted h v l is))
  seen_fed true false is fed = ap (seen_at h v) fed
  seen_fed false b is fed = ap (seen_at h v) fed

  fine_fed : (a b : Bool) (n : ℕ) → l.life.accepted ≡ a → IsFed (a && b) x l m → FineWork (trees_in (lent h l)) x → n + potential own_work < 2 ^ 32 → FewPlace h n v l → FinePlace h v l → FinePlace h v m
  fine_fed true true n is fed this room few fine = λ also. (let count = few is in fine_more fed this (omega (arith, room, count)) (fine is))
  fine_fed true false n is fed this room few fine = subst (FinePlace h v) (sym fed) fine
  fine_fed false b n is fed this room few fine = subst (FinePlace h v) (sym fed) fine

  few_same : (n k : ℕ) → m ≡ l → n + potential own_work ≤ k → FewPlace h n v l → FewPlace h k v m
  few_same n k same room few = subst (FewPlace h k v) (sym same) (λ is. let count = few is in omega (arith, room, count))

  few_fed : (a b : Bool) (n k : ℕ) → l.life.accepted ≡ a → IsFed (a && b) x l m → n + potential own_work ≤ k → FewPlace h n v l → FewPlace h k v m
  few_fed true true n k is fed room few = λ also. (let count = few is in let e = tally_more fed in let same : tally (lent h m) v m.life ≡ tally (lent h l) v (queued_in l m).life = ap (λ (p : Place). tally (lent h p) v p.life) fed.same in omega (arith, room, count, e, same))
  few_fed true false n k is fed room few = few_same n k fed room few
  few_fed false b n k is fed room few = few_same n k fed room few

-- ## All lives

module _ (f : ℕ → Bool) (x : Work) where
  pub length_fed : (v : ℕ) (ls ms : List Place) → AreFed f x v ls ms → length ms ≡ length ls
  length_fed v [] [] a = refl
  length_fed v [] (m ∷ ms) a = absurd a
  length_fed v (l ∷ ls) [] a = absurd a
  length_fed v (l ∷ ls) (m ∷ ms) a = ap suc (length_fed (v + 1) ls ms a.1)

  module _ (h : Shared) where
    image_if : (fs : List Forest) (b : Bool) (s : Seen) → image (if b then queued (work_of fs x) s else s) ≡ image s
    image_if fs true s = refl
    image_if fs false s = refl

    pub images_fed : (v : ℕ) (ls ms : List Place) → AreFed f x v ls ms → map image (seens_from h v ms) ≡ map image (seens_from h v ls)
    images_fed v [] [] a = refl
    images_fed v [] (m ∷ ms) a = absurd a
    images_fed v (l ∷ ls) [] a = absurd a
    images_fed v (l ∷ ls) (m ∷ ms) a =
        ap (λ o. o ∷ map image (seens_from h (v + 1) ms)) (ap image (seen_fed h v x l m l.life.accepted (f v) refl a.0) ∙ image_if (trees_in (lent h l)) (l.life.accepted && f v) (seen_at h v l))
        ∙ ap (λ os. image (seen_at h v l) ∷ os) (images_fed (v + 1) ls ms a.1)

    pub places_fed : (v n : ℕ) (ls ms : List Place) → ((fs : List Forest) → FineWork fs x) → ((fs : List Forest) → n + potential (work_of fs x) < 2 ^ 32) → AreFed f x v ls ms → FewPlaces h n v ls → FinePlaces h v ls → FinePlaces h v ms
    places_fed v n [] [] this room a few fine = tt
    places_fed v n [] (m ∷ ms) this room a few fine = absurd a
    places_fed v n (l ∷ ls) [] this room a few fine = absurd a
    places_fed v n (l ∷ ls) (m ∷ ms) this room a few fine =
        (fine_fed h v x l m l.life.accepted (f v) n refl a.0 (this (trees_in (lent h l))) (room (trees_in (lent h l))) few.0 fine.0, places_fed (v + 1) n ls ms this room a.1 few.1 fine.1)

    pub counts_fed : (v n k : ℕ) (ls ms : List Place) → ((fs : List Forest) → n + potential (work_of fs x) ≤ k) → AreFed f x v ls ms → FewPlaces h n v ls → FewPlaces h k v ms
    counts_fed v n k [] [] room a few = tt
    counts_fed v n k [] (m ∷ ms) room a few = absurd a
    counts_fed v n k (l ∷ ls) [] room a few = absurd a
    counts_fed v n k (l ∷ ls) (m ∷ ms) room a few = (few_fed h v x l m l.life.accepted (f v) n k refl a.0 (room (trees_in (lent h l))) few.0, counts_fed (v + 1) n k ls ms room a.1 few.1)

    and_none : (a b : Bool) → b ≡ false → (a && b) ≡ false
    and_none true b e = e
    and_none false b e = refl

    -- a life that is not chosen
    pub other_fed : (v k : ℕ) (ls ms : List Place) → AreFed f x v ls ms → f (v + k) ≡ false → slice_get (seens_from h v ms) k ≡ slice_get (seens_from h v ls) k
    other_fed v k [] [] a out = refl
    other_fed v k [] (m ∷ ms) a out = absurd a
    other_fed v k (l ∷ ls) [] a out = absurd a
    other_fed v zero (l ∷ ls) (m ∷ ms) a out =
        let e : v + 0 ≡ v = omega arith in
        let none : (l.life.accepted && f v) ≡ false = and_none l.life.accepted (f v) (subst (λ n. f n ≡ false) e out) in
        ap (λ n. Some (seen_at h v n)) (subst (λ b. IsFed b x l m) none a.0)
    other_fed v (suc k) (l ∷ ls) (m ∷ ms) a out = let e : v + suc k ≡ (v + 1) + k = omega arith in other_fed (v + 1) k ls ms a.1 (subst (λ n. f n ≡ false) e out)

    due_if : (fs : List Forest) (b c : Bool) (i : Item) (s : Seen) → c ≡ b → work_of fs x ≡ todo.Given i → due (if b then queued (work_of fs x) s else s) ≡ (if c then item (due s) i else due s)
    due_if fs true c i s e is = rw e (due_queued (work_of fs x) s ∙ ap (todo.work (due s)) is)
    due_if fs false c i s e is = rw e refl

    -- what is due, where it is known for whom the item is
    pub dues_fed : (host : Host) (i : HostItem) (v : ℕ) (ls ms : List Place) → ((fs : List Forest) → work_of fs x ≡ todo.Given (item_of i))
        → ((k : ℕ) (l : Place) → slice_get ls k ≡ Some l → reaches host i (v + k) ≡ (l.life.accepted && f (v + k)))
        → AreFed f x v ls ms → map due (seens_from h v ms) ≡ dues_after host i v (map due (seens_from h v ls))
    dues_fed host i v [] [] is for_it a = refl
    dues_fed host i v [] (m ∷ ms) is for_it a = absurd a
    dues_fed host i v (l ∷ ls) [] is for_it a = absurd a
    dues_fed host i v (l ∷ ls) (m ∷ ms) is for_it a =
        let e : v + 0 ≡ v = omega arith in
        let this : reaches host i v ≡ (l.life.accepted && f v) = subst (λ n. reaches host i n ≡ (l.life.accepted && f n)) e (for_it 0 l refl) in
        ap (λ o. o ∷ map due (seens_from h (v + 1) ms)) (ap due (seen_fed h v x l m l.life.accepted (f v) refl a.0) ∙ due_if (trees_in (lent h l)) (l.life.accepted && f v) (reaches host i v) (item_of i) (seen_at h v l) this (is (trees_in (lent h l))))
        ∙ ap (λ os. (if reaches host i v then item (due (seen_at h v l)) (item_of i) else due (seen_at h v l)) ∷ os)
        (dues_fed host i (v + 1) ls ms is (λ k y at. (let g : v + suc k ≡ (v + 1) + k = omega arith in subst (λ n. reaches host i n ≡ (y.life.accepted && f n)) g (for_it (suc k) y at))) a.1)

-- ## But for queues all is as it was

pub same_here : (ls : List Place) → AreSame ls ls
same_here [] = tt
same_here (l ∷ ls) = (refl, same_here ls)

pub same_then : (ls ms ns : List Place) → AreSame ls ms → AreSame ms ns → AreSame ls ns
same_then [] [] [] a b = tt
same_then [] [] (n ∷ ns) a b = absurd b
same_then [] (m ∷ ms) ns a b = absurd a
same_then (l ∷ ls) [] ns a b = absurd a
same_then (l ∷ ls) (m ∷ ms) [] a b = absurd b
same_then (l ∷ ls) (m ∷ ms) (n ∷ ns) a b = (b.0 ∙ ap (λ (y : Place). queued_in y n) a.0, same_then ls ms ns a.1 b.1)

pub same_set : (k : ℕ) (ls : List Place) (l m : Place) → slice_get ls k ≡ Some l → IsSame l m → AreSame ls (slice_set ls k m)
same_set k [] l m at same = tt
same_set zero (y ∷ ls) l m at same = (same ∙ ap (λ (z : Place). queued_in z m) (sym (some_is y l at)), same_here ls)
same_set (suc k) (y ∷ ls) l m at same = (refl, same_set k ls l m at same)

-- how many posts were taken stays
pub told_same : (ls ms : List Place) → AreSame ls ms → told_of ms ≡ told_of ls
told_same [] [] a = refl
told_same [] (m ∷ ms) a = absurd a
told_same (l ∷ ls) [] a = absurd a
told_same (l ∷ ls) (m ∷ ms) a = ap (λ x. x ∷ told_of ms) (ap (λ (p : Place). p.told) a.0) ∙ ap (λ xs. l.told ∷ xs) (told_same ls ms a.1)

-- ## One after the other

either_fed : (a b c : Bool) (x : Work) (l m n : Place) → (c ≡ true → b ≡ false) → l.life.accepted ≡ a → IsFed (a && b) x l m → IsFed (m.life.accepted && c) x m n → IsFed (a && (b || c)) x l n
either_fed true true true x l m n apart is f g = absurd (let e = apart refl in cc)
either_fed true true false x l m n apart is f g =
    let e : m.life.accepted ≡ true = fed_accepted true x l m f ∙ is in
    let same : n ≡ m = subst (λ (b : Bool). IsFed (b && false) x m n) e g in
    subst (HasMore x l) (sym same) f
either_fed true false true x l m n apart is f g =
    let e : l.life.accepted ≡ m.life.accepted = ap (λ (y : Place). y.life.accepted) (sym f) in
    let more : HasMore x m n = subst (λ (b : Bool). IsFed (b && true) x m n) (sym e ∙ is) g in
    subst (λ (y : Place). HasMore x y n) f more
either_fed true false false x l m n apart is f g =
    let e : m.life.accepted ≡ true = ap (λ (y : Place). y.life.accepted) f ∙ is in
    let same : n ≡ m = subst (λ (b : Bool). IsFed (b && false) x m n) e g in
    same ∙ f
either_fed false b c x l m n apart is f g =
    let e : m.life.accepted ≡ false = ap (λ (y : Place). y.life.accepted) f ∙ is in
    let same : n ≡ m = subst (λ (y : Bool). IsFed (y && c) x m n) e g in
    same ∙ f

-- first these, then those, of which none is the same
pub then_fed : (f g both : ℕ → Bool) (x : Work) (v : ℕ) (ls ms ns : List Place) → ((u : ℕ) → both u ≡ (f u || g u)) → ((u : ℕ) → g u ≡ true → f u ≡ false) → AreFed f x v ls ms → AreFed g x v ms ns → AreFed both x v ls ns
then_fed f g both x v [] [] [] is apart a b = tt
then_fed f g both x v [] [] (n ∷ ns) is apart a b = absurd b
then_fed f g both x v [] (m ∷ ms) ns is apart a b = absurd a
then_fed f g both x v (l ∷ ls) [] ns is apart a b = absurd a
then_fed f g both x v (l ∷ ls) (m ∷ ms) [] is apart a b = absurd b
then_fed f g both x v (l ∷ ls) (m ∷ ms) (n ∷ ns) is apart a b =
    (subst (λ c. IsFed (l.life.accepted && c) x l n) (sym (is v)) (either_fed l.life.accepted (f v) (g v) x l m n (apart v) refl a.0 b.0), then_fed f g both x (v + 1) ls ms ns is apart a.1 b.1)

off_fed : (a b : Bool) (x : Work) (l : Place) → b ≡ false → IsFed (a && b) x l l
off_fed true b x l e = rw e refl
off_fed false b x l e = refl

on_fed : (a b : Bool) (x : Work) (l m : Place) → b ≡ true → IsFed a x l m → IsFed (a && b) x l m
on_fed true b x l m e f = rw e f
on_fed false b x l m e f = f

-- where none is chosen nothing changes
pub none_fed : (f : ℕ → Bool) (x : Work) (v : ℕ) (ls : List Place) → ((u : ℕ) → v ≤ u → f u ≡ false) → AreFed f x v ls ls
none_fed f x v [] none = tt
none_fed f x v (l ∷ ls) none = (off_fed l.life.accepted (f v) x l (none v (omega arith)), none_fed f x (v + 1) ls (λ u past. none u (omega (arith, past))))

-- one life by its number
pub one_fed : (x : Work) (v w k : ℕ) (ls : List Place) (l m : Place) → w ≡ v + k → slice_get ls k ≡ Some l → IsFed l.life.accepted x l m → AreFed (nat_eq w) x v ls (slice_set ls k m)
one_fed x v w k [] l m is at f = cc
one_fed x v w zero (y ∷ ls) l m is at f =
    let same : l ≡ y = sym (some_is y l at) in
    let here : nat_eq w v ≡ true = eq-eqb w v (omega (arith, is)) in
    (on_fed y.life.accepted (nat_eq w v) x y m here (subst (λ (z : Place). IsFed z.life.accepted x z m) same f), none_fed (nat_eq w) x (v + 1) ls (λ u past. ne_eqb w u (λ e. absurd (omega (arith, e, past, is)))))
one_fed x v w (suc k) (y ∷ ls) l m is at f =
    (off_fed y.life.accepted (nat_eq w v) x y (ne_eqb w v (λ e. absurd (omega (arith, e, is)))), one_fed x (v + 1) w k ls l m (omega (arith, is)) at f)

-- ## What the calls do

-- the last life of one slot more
pub slot_fed : (x : Work) (homes : List ℕ) (born i : ℕ) (ss : List Slot) (s : Slot) (ls ms ns : List Place) → slice_get ss i ≡ Some s → Chains homes born 0 (chains_of ss)
    → AreFed (λ v. list_any (λ c. nat_eq (last_life c) v) (take i (chains_of ss))) x 0 ls ms → AreFed (nat_eq (last_life s.lives.items)) x 0 ms ns
    → AreFed (λ v. list_any (λ c. nat_eq (last_life c) v) (take (i + 1) (chains_of ss))) x 0 ls ns
slot_fed x homes born i ss s ls ms ns at chains a b =
    then_fed (λ v. list_any (λ c. nat_eq (last_life c) v) (take i (chains_of ss))) (nat_eq (last_life s.lives.items)) (λ v. list_any (λ c. nat_eq (last_life c) v) (take (i + 1) (chains_of ss)))
    x 0 ls ms ns (λ v. last_step v i ss s at) apart a b
  where
    apart : (v : ℕ) → nat_eq (last_life s.lives.items) v ≡ true → list_any (λ c. nat_eq (last_life c) v) (take i (chains_of ss)) ≡ false
    apart v is =
        let chain = slot_chain homes born 0 i ss s at chains in
        let e : 0 + i ≡ i = omega arith in
        let home : slice_get homes (last_life s.lives.items) ≡ Some i = last_each (λ u. slice_get homes u ≡ Some (0 + i)) s.lives.items chain.some chain.home ∙ ap Some e in
        no_last_before homes born 0 i v i (chains_of ss) chains (subst (λ u. slice_get homes u ≡ Some i) (eqb-true (last_life s.lives.items) v is) home) (omega arith)

-- no slot yet, and all slots
pub no_slot_fed : (x : Work) (ss : List Slot) (ls : List Place) → AreFed (λ v. list_any (λ c. nat_eq (last_life c) v) (take 0 (chains_of ss))) x 0 ls ls
no_slot_fed x ss ls = none_fed (λ v. list_any (λ c. nat_eq (last_life c) v) (take 0 (chains_of ss))) x 0 ls (λ u past. none ss u)
  where
    none : (ss : List Slot) (u : ℕ) → list_any (λ c. nat_eq (last_life c) u) (take 0 (chains_of ss)) ≡ false
    none [] u = refl
    none (s ∷ ss) u = refl

pub all_fed : (x : Work) (i : ℕ) (ss : List Slot) (ls ms : List Place) → length ss ≤ i
    → AreFed (λ v. list_any (λ c. nat_eq (last_life c) v) (take i (chains_of ss))) x 0 ls ms → AreFed (λ v. list_any (λ c. nat_eq (last_life c) v) (chains_of ss)) x 0 ls ms
all_fed x i ss ls ms past a =
    let long : length (chains_of ss) ≤ i = omega (arith, past, length-map ss (λ (s : Slot). s.lives.items)) in
    subst (λ (cs : List (List ℕ)). AreFed (λ v. list_any (λ c. nat_eq (last_life c) v) cs) x 0 ls ms) (take_all i (chains_of ss) long) a
