-- Facts of many widgets.
use Rattle.std.proofs.Common.{◌≡◌, ℕ, zero, suc, List, [], ◌∷◌, ◌++◌, refl, sym, ap, ◌∙◌, Option, Some}
use Rattle.std.specs.Prelude.{slice_get, slice_set}
use Rattle.life_laws.specs.Life.{Seen, image}
use Rattle.life_laws.specs.declared.entry.PickEntry.{PickEntry}
use Rattle.life_laws.specs.declared.entry.Picked.{Picked}
use Rattle.life_laws.specs.declared.entry.Picked.TheVariants as picked
use Rattle.life_laws.specs.Journal.{PickedAt, Kept, kept, journal_after, entry_of}

pub same_some : (o : Option Seen) (a b : Seen) → o ≡ Some a → o ≡ Some b → a ≡ b
same_some o a b e f = let g : Some a ≡ Some b = sym e ∙ f in cc

pub get_set : (ss : List Seen) (i : ℕ) (s t : Seen) → slice_get ss i ≡ Some s → slice_get (slice_set ss i t) i ≡ Some t
get_set [] i s t e = cc
get_set (x ∷ ss) zero s t e = refl
get_set (x ∷ ss) (suc i) s t e = get_set ss i s t e

pub journal_more : (r : Picked) (e : PickEntry) (js : List PickEntry) → (r ≡ picked.Idle → ⊥) → kept (js ++ e ∷ []) ≡ journal_after r e js
journal_more picked.Idle e js h = absurd (h refl)
journal_more (picked.Unfinished s) e js h = refl
journal_more picked.Ended e js h = refl

-- a pick with its entry
pub kept_with : (w k : ℕ) (r : Picked) (old new : List Seen) (js ks : List PickEntry) (b a : ℕ) → PickedAt w k r old new → ((s : Seen) → slice_get old w ≡ Some s → b ≡ (image s).spent) → ((s : Seen) → slice_get new w ≡ Some s → a ≡ (image s).spent) → (r ≡ picked.Idle → ⊥) → ks ≡ kept (js ++ record { widget = w; before = b; after = a; slice = k } ∷ []) → Kept w k r old new js ks
kept_with w k r old new js ks b a p before after idle e =
    let was = before p.was p.at in
    let is = after p.is (ap (λ ss. slice_get ss w) p.set ∙ get_set old w p.was p.is p.at) in
    record {
      picked = p;
      journal = e ∙ (ap (λ n. kept (js ++ record { widget = w; before = n; after = a; slice = k } ∷ [])) was ∙ (ap (λ n. kept (js ++ record { widget = w; before = (image p.was).spent; after = n; slice = k } ∷ [])) is ∙ journal_more r (entry_of w k p.was p.is) js idle));
    }
