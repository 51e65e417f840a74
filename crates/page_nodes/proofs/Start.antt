-- The arena of `body` alone.
use Rattle.std.proofs.Common.{◌≡◌, ℕ, zero, suc, [], ◌∷◌, List, refl, ◌∙◌, subst, sym, ap, true, arith, length, Option, Some, None, ◌++◌}
use Rattle.std.specs.Prelude.{codes}
use Rattle.code_units.specs.declared.owner.Owner.TheVariants as owner
use Rattle.plain_tree.specs.Trees.{ElementOf}
use Rattle.std.specs.Str.{chars}
use Rattle.code_units.specs.Utf8.{units_of}
use Rattle.page_nodes.specs.declared.rows.Row.{Row}
use Rattle.page_nodes.specs.Entries.{Entry, entries, at, listed, distinct, fits, IsSound, limit, body_entry}

pub body_units : units_of (codes "body") ≡ codes "body"
unfolding units_of chars
body_units = refl

no_children : (n : ℕ) → (at (body_entry ∷ []) n).children ≡ []
no_children zero = refl
no_children (suc n) = refl

pub no_parent : (n : ℕ) → (at (body_entry ∷ []) n).parent ≡ None
no_parent zero = refl
no_parent (suc n) = refl

pub none_some : (p : ℕ) → ◌≡◌ {A = Option ℕ} None (Some p) → ⊥
none_some p h = cc

none_listed : (c : ℕ) → listed c [] ≡ true → ⊥
none_listed c h = cc

fits_body : (n : ℕ) → fits (body_entry ∷ []) limit (n ∷ []) ≡ true
unfolding limit
fits_body zero = refl
fits_body (suc n) = refl

sound_body : IsSound (body_entry ∷ [])
sound_body = record {
  some = omega arith;
  few = omega arith;
  top = refl;
  host = refl;
  element = refl;
  fit = λ n ne. fits_body n;
  down = λ n c h. absurd (none_listed c (ap (listed c) (sym (no_children n)) ∙ h));
  upward = λ n p h. absurd (none_some p (sym (no_parent n) ∙ h));
  owned = λ n p h. absurd (none_some p (sym (no_parent n) ∙ h));
  once = λ n. ap distinct (no_children n);
  texts = λ n h. ap length (no_children n);
}

pub sound_start : (k : List Entry) → k ≡ body_entry ∷ [] → IsSound k
sound_start k e = subst IsSound (sym e) sound_body

-- the first node
pub first_made : (rows : List Row) (k : List Entry) (tag : List ℕ) (attributes : List (List ℕ × List ℕ)) → k ≡ entries rows ++ (record { owner = owner.Host; parent = None; children = []; label = ElementOf tag attributes }) ∷ [] → rows ≡ [] → tag ≡ units_of (codes "body") → attributes ≡ [] → k ≡ body_entry ∷ []
first_made rows k tag attributes e f g h = e ∙ ap (λ y. entries y ++ (record { owner = owner.Host; parent = None; children = []; label = ElementOf tag attributes }) ∷ []) f
    ∙ ap (λ y. (record { owner = owner.Host; parent = None; children = []; label = ElementOf y attributes }) ∷ []) (g ∙ body_units)
    ∙ ap (λ y. (record { owner = owner.Host; parent = None; children = []; label = ElementOf (codes "body") y }) ∷ []) h
