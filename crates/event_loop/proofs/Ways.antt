-- Ways down and up a page.
use Rattle.std.proofs.Common.{◌≡◌, ℕ, zero, suc, List, [], ◌∷◌, Bool, true, false, refl, sym, ap, ◌∙◌, length, eqb, eq-eqb, ◌||◌, arith, Option, Some, None, Result, Ok, Err, ⊎_elim, slice_get}
use Rattle.std.proofs.lemmas.Bool.{cases_lt}
use Rattle.std.proofs.lemmas.List.{get_or_past}
use Rattle.page_nodes.specs.Entries.{Entry, at, listed, no_entry}
use Rattle.page_tree.specs.Documents.{parent_within}
use Rattle.std.specs.Prelude.{IfOk}
use Rattle.std.specs.declared.vec.Vec.{Vec}
use Rattle.std.specs.declared.alloc.Global.{Global}
use Rattle.event_loop.specs.declared.around.Loop.{Loop}
use Rattle.event_loop.specs.declared.delivery.Delivered.{Delivered}
use Rattle.event_loop.specs.Kept.{listening}
use Rattle.event_loop.specs.Around.{kept}
use Rattle.event_loop.specs.Deliveries.{IsNodeOf, here_or, nearest, most, Goes, delivered_of}

none_some : (p : ℕ) → ◌≡◌ {A = Option ℕ} None (Some p) → ⊥
none_some p h = cc

no_true : false ≡ true → ⊥
no_true h = cc

pub got_listed : (xs : List ℕ) (i x : ℕ) → slice_get xs i ≡ Some x → listed x xs ≡ true
got_listed [] i x h = cc
got_listed (y ∷ xs) zero x h = let e : y ≡ x = cc in ap (λ b. b || listed x xs) (eq-eqb y x e)
got_listed (y ∷ xs) (suc i) x h = right (eqb y x) (listed x xs) (got_listed xs i x h)
  where
    right : (a b : Bool) → b ≡ true → (a || b) ≡ true
    right true b g = refl
    right false b g = g

pub child_in_page : (k : List Entry) → ((n c : ℕ) → listed c (at k n).children ≡ true → (at k c).parent ≡ Some n) → (n i : ℕ) (u : Option ℕ) → u ≡ slice_get (at k n).children i → IsNodeOf k u
child_in_page k down n i None e = tt
child_in_page k down n i (Some c) e = ⊎_elim (λ lt. lt)
    (λ le. absurd (none_some n (sym (ap (λ (x : Entry). x.parent) (get_or_past k c no_entry le)) ∙ down n c (got_listed (at k n).children i c (sym e)))))
    (cases_lt c (length k))

pub parent_in_page : (k : List Entry) → ((n p : ℕ) → (at k n).parent ≡ Some p → listed n (at k p).children ≡ true) → (n : ℕ) (u : Option ℕ) → u ≡ (at k n).parent → IsNodeOf k u
parent_in_page k upward n None e = tt
parent_in_page k upward n (Some p) e = ⊎_elim (λ lt. lt)
    (λ le. absurd (no_true (sym (ap (λ (x : Entry). listed n x.children) (get_or_past k p no_entry le)) ∙ upward n p (sym e))))
    (cases_lt p (length k))

module _ (k : List Entry) (r : ℕ) (l : Loop) (kind : List ℕ) where
  pub near_step : (f g n : ℕ) → f ≡ suc g → listening (kept l n) kind ≡ [] → nearest f k r l (Some n) kind ≡ nearest g k r l (parent_within k (Some r) n) kind
  near_step f g n e h = ap (λ x. nearest x k r l (Some n) kind) e ∙ ap (λ fs. here_or n fs (nearest g k r l (parent_within k (Some r) n) kind)) h

  pub near_found : (f g n : ℕ) → f ≡ suc g → (fs : List ℕ) → fs ≡ listening (kept l n) kind → (length fs ≡ 0 → ⊥) → nearest f k r l (Some n) kind ≡ Some (n, fs)
  near_found f g n e fs h some = ap (λ x. nearest x k r l (Some n) kind) e ∙ ap (λ fs. here_or n fs (nearest g k r l (parent_within k (Some r) n) kind)) (sym h) ∙ first fs some
    where
      first : (fs : List ℕ) → (length fs ≡ 0 → ⊥) → here_or n fs (nearest g k r l (parent_within k (Some r) n) kind) ≡ Some (n, fs)
      first [] s = absurd (s refl)
      first (x ∷ fs) s = refl

  pub near_out : (f : ℕ) (o : Option ℕ) → f ≡ 0 → nearest f k r l o kind ≡ None
  near_out f None e = refl
  near_out f (Some n) e = ap (λ x. nearest x k r l (Some n) kind) e

pub empty : (xs : List ℕ) → length xs ≡ 0 → xs ≡ []
empty [] h = refl
empty (x ∷ xs) h = absurd (omega (arith, h))

pub most_is : most ≡ 201
unfolding most
most_is = refl

pub ok_goes : {E : Type 0} (r : Result Delivered E) (x y : Goes) → x ≡ y → IfOk r (λ d. delivered_of d ≡ x) → IfOk r (λ d. delivered_of d ≡ y)
ok_goes (Ok d) x y e h = h ∙ e
ok_goes (Err d) x y e h = tt

pub ok_items : {E : Type 0} (r : Result (Vec ℕ Global) E) (x y : List ℕ) → x ≡ y → IfOk r (λ v. v.items ≡ x) → IfOk r (λ v. v.items ≡ y)
ok_items (Ok v) x y e h = h ∙ e
ok_items (Err v) x y e h = tt
