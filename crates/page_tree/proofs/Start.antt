-- The page of `body` alone.
use Rattle.std.proofs.Common.{◌≡◌, ℕ, zero, suc, [], ◌∷◌, List, refl, ◌∙◌, subst, sym, ap, true, arith, Option, Some, None, set, get_or, ◌<◌}
use Rattle.std.specs.Prelude.{replicate}
use Rattle.std.proofs.lemmas.List.{get_or-set_other}
use Rattle.std.proofs.lemmas.Bool.{ltb-true}
use Rattle.code_units.specs.declared.owner.Owner.{Owner}
use Rattle.code_units.specs.declared.owner.Owner.TheVariants as owner
use Rattle.page_nodes.specs.Owners.{is_owner, same_owner, root_in}
use Rattle.page_nodes.specs.Entries.{Entry, at, body, body_entry}
use Rattle.page_nodes.proofs.Start.{no_parent, none_some}
use Rattle.page_tree.specs.Roots.{IsRooted}

-- the roots at first
abbrev pub first_roots : List (Option ℕ)
first_roots = set (replicate 33 None) 32 (Some body)

replicate_none : (n w : ℕ) → get_or (replicate {A = Option ℕ} n None) w None ≡ None
replicate_none zero w = refl
replicate_none (suc n) zero = refl
replicate_none (suc n) (suc w) = replicate_none n w

pub no_root_first : (w : ℕ) → w < 32 → root_in first_roots (owner.Widget w) ≡ None
no_root_first w lt = get_or-set_other (replicate 33 None) 32 w (Some body) None (λ e. omega (arith, lt, e)) ∙ replicate_none 33 w

only_body : (o : Owner) (r : ℕ) → is_owner o ≡ true → root_in first_roots o ≡ Some r → (o ≡ owner.Host) × (r ≡ body)
only_body owner.Host r i e = (refl, some_is r body (sym e))
  where
    some_is : (a b : ℕ) → Some a ≡ Some b → a ≡ b
    some_is a b h = cc
only_body (owner.Widget w) r i e = absurd (none_some r (sym (no_root_first w (ltb-true w 32 i)) ∙ e))

owner_first : (n : ℕ) → (at (body_entry ∷ []) n).owner ≡ owner.Host
owner_first zero = refl
owner_first (suc n) = refl

rooted_first : IsRooted (body_entry ∷ []) first_roots
rooted_first = record {
  host = refl;
  owners = λ n. ap is_owner (owner_first n);
  is_in = λ o r i e. omega (arith, (only_body o r i e).1);
  own = λ o r i e. ap (λ p. same_owner p o) (owner_first r) ∙ ap (same_owner owner.Host) ((only_body o r i e).0);
  high = λ o r p i e u. absurd (none_some p (sym (no_parent r) ∙ u));
  under = λ n u w. absurd (none_some body (sym (no_parent n) ∙ u));
}

pub rooted_start : (k : List Entry) (roots : List (Option ℕ)) → k ≡ body_entry ∷ [] → roots ≡ first_roots → IsRooted k roots
rooted_start k roots e f = subst (λ y. IsRooted y roots) (sym e) (subst (IsRooted (body_entry ∷ [])) (sym f) rooted_first)
