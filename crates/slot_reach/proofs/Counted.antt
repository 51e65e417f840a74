-- How many nodes a page has, by their owners.
use Rattle.std.proofs.Common.{◌≡◌, ℕ, zero, suc, ◌+◌, ◌<◌, ◌≤◌, List, [], ◌∷◌, Bool, true, false, refl, ap, ◌∙◌, length, ne_eqb, eq-eqb, arith, if◌then◌else◌}
use Rattle.std.specs.Prelude.{nat_lt}
use Rattle.std.proofs.lemmas.Bool.{ltb-true}
use Rattle.std.proofs.lemmas.Bool.Decides.{nat_tests}
use Rattle.code_units.specs.declared.owner.Owner.{Owner}
use Rattle.code_units.specs.declared.owner.Owner.TheVariants as owner
use Rattle.page_nodes.specs.Entries.{Entry, at}
use Rattle.page_nodes.specs.Owners.{is_owner, same_owner}
use Rattle.page_tree.specs.Counts.{count_of}

-- the nodes of the host and of the first so many widgets
abbrev pub counted : ℕ → List Entry → ℕ
counted zero k = count_of owner.Host k
counted (suc w) k = counted w k + count_of (owner.Widget w) k

-- one node
abbrev one_of : ℕ → Owner → ℕ
one_of zero o = if same_owner o owner.Host then 1 else 0
one_of (suc w) o = one_of w o + (if same_owner o (owner.Widget w) then 1 else 0)

counted_none : (w : ℕ) → counted w [] ≡ 0
counted_none zero = refl
counted_none (suc w) = omega (arith, counted_none w)

counted_first : (w : ℕ) (e : Entry) (k : List Entry) → counted w (e ∷ k) ≡ one_of w e.owner + counted w k
counted_first zero e k = refl
counted_first (suc w) e k = omega (arith, counted_first w e k)

host_once : (w : ℕ) → one_of w owner.Host ≡ 1
host_once zero = refl
host_once (suc w) = omega (arith, host_once w)

later_none : (w v : ℕ) → w ≤ v → one_of w (owner.Widget v) ≡ 0
later_none zero v le = refl
later_none (suc w) v le =
    let rest = later_none w v (omega (arith, le)) in
    ap (λ b. one_of w (owner.Widget v) + (if b then 1 else 0)) (ne_eqb v w (λ e. omega (arith, e, le))) ∙ (let n : one_of w (owner.Widget v) + 0 ≡ 0 = omega (arith, rest) in n)

widget_once : (w v : ℕ) → v < w → one_of w (owner.Widget v) ≡ 1
widget_once zero v lt = absurd (omega (arith, lt))
widget_once (suc w) v lt = by (nat_lt v w) refl (widget_once w v)
  where
    by : (b : Bool) → nat_lt v w ≡ b → (v < w → one_of w (owner.Widget v) ≡ 1) → one_of (suc w) (owner.Widget v) ≡ 1
    by true e f =
        let low : v < w = grind (arith, nat_tests, e) in
        let rest = f low in
        ap (λ b. one_of w (owner.Widget v) + (if b then 1 else 0)) (ne_eqb v w (λ g. omega (arith, g, low))) ∙ (let n : one_of w (owner.Widget v) + 0 ≡ 1 = omega (arith, rest) in n)
    by false e f =
        let same : v ≡ w = grind (arith, nat_tests, e, lt) in
        let rest = later_none w v (omega (arith, same)) in
        ap (λ b. one_of w (owner.Widget v) + (if b then 1 else 0)) (eq-eqb v w same) ∙ (let n : one_of w (owner.Widget v) + 1 ≡ 1 = omega (arith, rest) in n)

once : (o : Owner) → is_owner o ≡ true → one_of 32 o ≡ 1
once owner.Host h = host_once 32
once (owner.Widget v) h = widget_once 32 v (ltb-true v 32 h)

-- all nodes
pub counted_all : (k : List Entry) → ((n : ℕ) → n < length k → is_owner (at k n).owner ≡ true) → counted 32 k ≡ length k
counted_all [] h = counted_none 32
counted_all (e ∷ k) h =
    let first = once e.owner (h 0 (omega arith)) in
    let rest = counted_all k (λ n lt. h (suc n) (omega (arith, lt))) in
    counted_first 32 e k ∙ (let n : one_of 32 e.owner + counted 32 k ≡ suc (length k) = omega (arith, first, rest) in n)
