-- Picks one after the other.
use Rattle.std.proofs.Common.{◌≡◌, ℕ, zero, suc, ◌+◌, ◌<◌, List, [], ◌∷◌, ◌++◌, map, length, Bool, true, false, refl, sym, ap, ◌∙◌, subst, arith, Option, Some, None, get_or}
use Rattle.std.specs.Prelude.{slice_get, slice_set, if◌then◌else◌, All}
use Rattle.widget_meaning.specs.OwnState.{OwnState}
use Rattle.life_laws.specs.Life.{Seen, Going, Work, ready, weight, due, image}
use Rattle.life_laws.specs.declared.entry.PickEntry.{PickEntry}
use Rattle.life_laws.specs.declared.entry.Picked.{Picked}
use Rattle.life_laws.specs.declared.entry.Picked.TheVariants as picked
use Rattle.life_laws.specs.Picks.{Picks}
use Rattle.life_laws.specs.Journal.{ready_from, weights, PickedAt, Kept, kept, keeps, entry_of, Went}
use Rattle.life_laws.proofs.Crowds.{same_some}
use Rattle.life_laws.proofs.Ready.{is_ready_at}

pub picks_due : (k : ℕ) (r : Picked) (was is : Seen) → Picks k r was is → due is ≡ due was
picks_due k picked.Idle was is p = p.due
picks_due k (picked.Unfinished s) was is p = p.0.due
picks_due k picked.Ended was is p = p.due

pub dues_set : (ss : List Seen) (w : ℕ) (was is : Seen) → slice_get ss w ≡ Some was → due is ≡ due was → map due (slice_set ss w is) ≡ map due ss
dues_set [] w was is e f = refl
dues_set (s ∷ ss) zero was is e f = let same : s ≡ was = cc in ap (λ o. o ∷ map due ss) (f ∙ ap due (sym same))
dues_set (s ∷ ss) (suc w) was is e f = ap (λ os. due s ∷ os) (dues_set ss w was is e f)

weights_set : (ss : List Seen) (w : ℕ) (was is : Seen) → slice_get ss w ≡ Some was → weight is < weight was → weights (slice_set ss w is) < weights ss
weights_set [] w was is e f = cc
weights_set (s ∷ ss) zero was is e f = let same : weight s ≡ weight was = (let x : s ≡ was = cc in ap weight x) in omega arith
weights_set (s ∷ ss) (suc w) was is e f = let g = weights_set ss w was is e f in omega arith

-- the widget that a chooser took was ready
pub ready_was : (w k at : ℕ) (r : Picked) (old new : List Seen) (xs : List ℕ) → (p : PickedAt w k r old new) → xs ≡ ready_from 0 old → slice_get xs at ≡ Some w → ready p.was ≡ true
ready_was w k at r old new xs p list e =
    let here = is_ready_at 0 old at w (ap (λ ys. slice_get ys at) (sym list) ∙ e) in
    let P : ℕ → Type 0 = λ i. slice_get old i ≡ Some here.1 in
    ap ready (sym (same_some _ here.1 p.was (subst P (let f : here.0 ≡ w = omega (arith, here.2) in f) here.3) p.at)) ∙ here.4

-- what a settle has left falls with the pick of a widget that is ready
pub lighter : (w k at : ℕ) (r : Picked) (old new : List Seen) (js ks : List PickEntry) → Kept w k r old new js ks → slice_get (ready_from 0 old) at ≡ Some w → weights new < weights old
lighter w k at r old new js ks h e =
    let p = h.picked in
    let here = is_ready_at 0 old at w e in
    let P : ℕ → Type 0 = λ i. slice_get old i ≡ Some here.1 in
    let same : here.1 ≡ p.was = same_some _ here.1 p.was (subst P (let f : here.0 ≡ w = omega (arith, here.2) in f) here.3) p.at in
    let Q : List Seen → Type 0 = λ ss. weights ss < weights old in
    subst Q (sym p.set) (weights_set old w p.was p.is p.at (p.lighter (ap ready (sym same) ∙ here.4)))

pub keeps_more : (js es : List PickEntry) (e : PickEntry) → keeps js (es ++ e ∷ []) ≡ kept (keeps js es ++ e ∷ [])
keeps_more js [] e = refl
keeps_more js (x ∷ es) e = keeps_more (kept (js ++ x ∷ [])) es e

one_more : (k : ℕ) (e : PickEntry) → e.slice ≡ k → (n : ℕ) (d : PickEntry) → n < 1 → (get_or (e ∷ []) n d).slice ≡ k
one_more k e f zero d l = f
one_more k e f (suc n) d l = absurd (omega arith)

all_at : (k : ℕ) (x : PickEntry) (es : List PickEntry) → x.slice ≡ k → ((n : ℕ) (d : PickEntry) → n < length es → (get_or es n d).slice ≡ k) → (n : ℕ) (d : PickEntry) → n < length (x ∷ es) → (get_or (x ∷ es) n d).slice ≡ k
all_at k x es f h zero d l = f
all_at k x es f h (suc n) d l = h n d (omega arith)

pub all_more : (k : ℕ) (es : List PickEntry) (e : PickEntry) → All (λ (x : PickEntry). x.slice ≡ k) es → e.slice ≡ k → All (λ (x : PickEntry). x.slice ≡ k) (es ++ e ∷ [])
all_more k [] e h f = one_more k e f
all_more k (x ∷ es) e h f = all_at k x (es ++ e ∷ []) (h 0 x (omega arith)) (all_more k es e (λ m c g. h (suc m) c (omega arith)) f)

abbrev pub went_none : (k : ℕ) (ss : List Seen) (js : List PickEntry) → Went k ss ss js js
went_none k ss js = record { dues = refl; added = []; journal = refl; slices = λ n d l. absurd (omega arith) }

abbrev pub went_idle : (k : ℕ) (r : Picked) (old mid new : List Seen) (js ks ms : List PickEntry) (w : ℕ) → Went k old mid js ks → (p : PickedAt w k r mid new) → ms ≡ ks → Went k old new js ms
went_idle k r old mid new js ks ms w h p e = record {
  dues = ap (map due) p.set ∙ (dues_set mid w p.was p.is p.at (picks_due k r p.was p.is p.picks) ∙ h.dues);
  added = h.added;
  journal = e ∙ h.journal;
  slices = h.slices;
}

abbrev pub went_entry : (k : ℕ) (r : Picked) (old mid new : List Seen) (js ks ms : List PickEntry) (w : ℕ) → Went k old mid js ks → (p : PickedAt w k r mid new) → ms ≡ kept (ks ++ entry_of w k p.was p.is ∷ []) → Went k old new js ms
went_entry k r old mid new js ks ms w h p e = record {
  dues = ap (map due) p.set ∙ (dues_set mid w p.was p.is p.at (picks_due k r p.was p.is p.picks) ∙ h.dues);
  added = h.added ++ entry_of w k p.was p.is ∷ [];
  journal = e ∙ (ap (λ xs. kept (xs ++ entry_of w k p.was p.is ∷ [])) h.journal ∙ sym (keeps_more js h.added (entry_of w k p.was p.is)));
  slices = all_more k h.added (entry_of w k p.was p.is) h.slices refl;
}

-- one pick more
pub went_on : (k : ℕ) (r : Picked) (old mid new : List Seen) (js ks ms : List PickEntry) (w : ℕ) → Went k old mid js ks → Kept w k r mid new ks ms → Went k old new js ms
went_on k picked.Idle old mid new js ks ms w h p = went_idle k picked.Idle old mid new js ks ms w h p.picked p.journal
went_on k (picked.Unfinished s) old mid new js ks ms w h p = went_entry k (picked.Unfinished s) old mid new js ks ms w h p.picked p.journal
went_on k picked.Ended old mid new js ks ms w h p = went_entry k picked.Ended old mid new js ks ms w h p.picked p.journal

-- where no widget is ready, each has done all
not_ready : (o : OwnState) (g : Option Going) (q : List Work) → ready (record { own = o; going = g; queue = q }) ≡ false → image (record { own = o; going = g; queue = q }) ≡ due (record { own = o; going = g; queue = q })
not_ready o (Some t) q e = cc
not_ready o None [] e = refl
not_ready o None (i ∷ q) e = cc

quiet_at : (b : Bool) (v : ℕ) (s : Seen) (ss : List Seen) → ready s ≡ b → (if b then v ∷ ready_from (v + 1) ss else ready_from (v + 1) ss) ≡ [] → (ready_from (v + 1) ss ≡ [] → map image ss ≡ map due ss) → map image (s ∷ ss) ≡ map due (s ∷ ss)
quiet_at true v s ss r e f = cc
quiet_at false v s ss r e f = ap (λ o. o ∷ map image ss) (not_ready s.own s.going s.queue r) ∙ ap (λ os. due s ∷ os) (f e)

pub quiet : (v : ℕ) (ss : List Seen) → ready_from v ss ≡ [] → map image ss ≡ map due ss
quiet v [] e = refl
quiet v (s ∷ ss) e = quiet_at (ready s) v s ss refl e (quiet (v + 1) ss)
