-- The chains of the host's cells are short.
use Rattle.std.proofs.Common.{◌≡◌, ℕ, zero, suc, ◌<◌, ◌≤◌, List, [], ◌∷◌, length, drop, refl, sym, ap, ◌∙◌, Option, Some, None, arith, Bool, true, false, eqb, if◌then◌else◌, slice_get}
use Rattle.std.specs.Prelude.{◌||◌, not, IfSome}
use Rattle.std.specs.List.{list_all}
use Rattle.std.specs.Option.{option_map, option_map_or}
use Rattle.std.proofs.lemmas.Option.{slice_get-map}
use Rattle.std.proofs.lemmas.List.{length-map}
use Rattle.std.proofs.lemmas.Bool.Decides.{nat_tests}
use Rattle.store_cells.specs.declared.cell.Head.{Head}
use Rattle.store_cells.specs.Cells.{PlainCell, is_bunch, is_bunch_at, is_scope, is_scope_at, prototypes}
use Rattle.store_cells.specs.Numbered.{NumberedCell, plain, cells_of, heads}
use Rattle.store_cells.specs.Host.{AreHost, host_cells, host_count, is_permitted_cell, leads_on}
use Rattle.store_cells.specs.Shape.{AreOrdered, links_at}
use Rattle.store_cells.proofs.Heads.{head_at, some_at, links_are}
use Rattle.store_table.proofs.Gifts.{all_at}

abbrev short_up : Option ℕ → Bool
short_up None = true
short_up (Some j) = eqb j 2 || eqb j 4

all_short : list_all (λ c. short_up c.up) host_cells ≡ true
unfolding host_cells
all_short = refl

all_open : list_all (λ c. not (is_bunch c.form)) host_cells ≡ true
unfolding host_cells
all_open = refl

all_objects : list_all (λ c. not (is_scope c.form)) host_cells ≡ true
unfolding host_cells
all_objects = refl

second_up : option_map (λ (c : PlainCell). c.up) (slice_get host_cells 2) ≡ Some None
unfolding host_cells
second_up = refl

fourth_up : option_map (λ (c : PlainCell). c.up) (slice_get host_cells 4) ≡ Some (Some 2)
unfolding host_cells
fourth_up = refl

not_true : (b : Bool) → not b ≡ true → b ≡ false
not_true true e = sym e
not_true false e = refl

some_up : (a b : Option ℕ) → Some a ≡ Some b → a ≡ b
some_up a b e = cc

is_two : (j : ℕ) → eqb j 2 ≡ true → j ≡ 2
is_two j e = grind (arith, nat_tests, e)

is_four : (j : ℕ) → eqb j 4 ≡ true → j ≡ 4
is_four j e = grind (arith, nat_tests, e)

module _ (names : List (List ℕ)) (cs : List NumberedCell) (ordered : AreOrdered (heads cs)) (h : AreHost (cells_of names cs)) where
  within : (i : ℕ) → i < host_count → i < length cs
  within i lt = omega (arith, lt, h.enough, length-map cs (plain names))

  stands : (i : ℕ) → i < host_count → (c : NumberedCell) → slice_get cs i ≡ Some c → slice_get host_cells i ≡ Some (plain names c)
  stands i lt c at = sym (h.same i lt) ∙ slice_get-map (plain names) cs i ∙ ap (option_map (plain names)) at

  pub host_object : (i : ℕ) → i < host_count → is_scope_at (cells_of names cs) i ≡ false
  host_object i lt =
      let k = some_at cs i (within i lt) in
      let e = stands i lt k.0 k.1 in
      ap (λ (o : Option PlainCell). option_map_or (λ c. is_scope c.form) o false) (h.same i lt ∙ e) ∙ not_true (is_scope k.0.head.form) (all_at (λ c. not (is_scope c.form)) host_cells i (plain names k.0) all_objects e)

  pub host_open : (i : ℕ) → i < host_count → is_bunch_at (cells_of names cs) i ≡ false
  host_open i lt =
      let k = some_at cs i (within i lt) in
      let e = stands i lt k.0 k.1 in
      ap (λ (o : Option PlainCell). option_map_or (λ c. is_bunch c.form) o false) (h.same i lt ∙ e) ∙ not_true (is_bunch k.0.head.form) (all_at (λ c. not (is_bunch c.form)) host_cells i (plain names k.0) all_open e)

  links_of : (i : ℕ) → i < host_count → (c : NumberedCell) → slice_get cs i ≡ Some c → c.head.links ≡ option_map_or (λ j. suc (links_at (heads cs) j)) c.head.up 0
  links_of i lt c at =
      (ordered.each i c.head (head_at cs i c at)).links
      ∙ ap (λ b. if b then 0 else option_map_or (λ j. suc (links_at (heads cs) j)) c.head.up 0) (not_true (is_scope c.head.form) (all_at (λ c. not (is_scope c.form)) host_cells i (plain names c) all_objects (stands i lt c at)))

  up_at : (i : ℕ) → i < host_count → (u : Option ℕ) → option_map (λ (c : PlainCell). c.up) (slice_get host_cells i) ≡ Some u → links_at (heads cs) i ≡ option_map_or (λ j. suc (links_at (heads cs) j)) u 0
  up_at i lt u e =
      let k = some_at cs i (within i lt) in
      let up : k.0.head.up ≡ u = some_up k.0.head.up u (sym (ap (option_map (λ (c : PlainCell). c.up)) (stands i lt k.0 k.1)) ∙ e) in
      ap (λ (p : Option Head). option_map_or (λ h. h.links) p 0) (head_at cs i k.0 k.1) ∙ links_of i lt k.0 k.1 ∙ ap (λ (o : Option ℕ). option_map_or (λ j. suc (links_at (heads cs) j)) o 0) up

  second : links_at (heads cs) 2 ≡ 0
  second = up_at 2 (omega arith) None second_up

  fourth : links_at (heads cs) 4 ≡ 1
  fourth = up_at 4 (omega arith) (Some 2) fourth_up ∙ ap suc second

  short : (u : Option ℕ) → short_up u ≡ true → option_map_or (λ j. suc (links_at (heads cs) j)) u 0 ≤ 2
  short None e = omega arith
  short (Some j) e = by (eqb j 2) refl e
    where
      by : (b : Bool) → eqb j 2 ≡ b → (b || eqb j 4) ≡ true → suc (links_at (heads cs) j) ≤ 2
      by true g f = omega (arith, ap (links_at (heads cs)) (is_two j g), second)
      by false g f = omega (arith, ap (links_at (heads cs)) (is_four j f), fourth)

  pub host_chain : (i : ℕ) → i < host_count → prototypes (cells_of names cs) i ≤ 2
  host_chain i lt =
      let k = some_at cs i (within i lt) in
      let s = short k.0.head.up (all_at (λ c. short_up c.up) host_cells i (plain names k.0) all_short (stands i lt k.0 k.1)) in
      omega (arith, links_are names cs ordered i k.0 k.1, links_of i lt k.0 k.1, s)

-- the permitted table leads to itself
all_lead : list_all leads_on (drop 2 host_cells) ≡ true
unfolding host_cells
all_lead = refl

from_two : (cells : List PlainCell) (i : ℕ) (c : PlainCell) → slice_get cells (suc (suc i)) ≡ Some c → slice_get (drop 2 cells) i ≡ Some c
from_two [] i c e = e
from_two (x ∷ []) i c e = e
from_two (x ∷ (y ∷ cells)) i c e = e

pub permitted_leads : (cells : List PlainCell) → AreHost cells → (i : ℕ) → is_permitted_cell i ≡ true → IfSome (slice_get cells i) (λ c. leads_on c ≡ true)
permitted_leads cells h zero e = absurd (false_true e)
  where
    false_true : false ≡ true → ⊥
    false_true g = cc
permitted_leads cells h (suc zero) e = absurd (false_true e)
  where
    false_true : false ≡ true → ⊥
    false_true g = cc
permitted_leads cells h (suc (suc i)) e = by (slice_get cells (suc (suc i))) refl
  where
    below : suc (suc i) < host_count
    below = grind (arith, nat_tests, e)

    by : (o : Option PlainCell) → slice_get cells (suc (suc i)) ≡ o → IfSome o (λ c. leads_on c ≡ true)
    by None g = tt
    by (Some c) g = all_at leads_on (drop 2 host_cells) i c all_lead (from_two host_cells i c (sym (h.same (suc (suc i)) below) ∙ g))
