-- The cells of a store are those of the host and those of its widgets.
use Rattle.std.proofs.Common.{◌≡◌, ℕ, zero, suc, ◌+◌, ◌<◌, ◌≤◌, List, [], ◌∷◌, length, Bool, true, false, refl, sym, ap, ◌∙◌, arith, eqb, eqb-true, eq-eqb, ne_eqb, leb, leb-true, leb-false, if◌then◌else◌}
use Rattle.std.specs.Prelude.{filter, is_some, not, ◌&&◌, ◌||◌}
use Rattle.std.proofs.lemmas.List.{length-map}
use Rattle.code_units.specs.declared.owner.Owner.{Owner}
use Rattle.code_units.specs.declared.owner.Owner.TheVariants as whose
use Rattle.store_cells.specs.declared.kind.Form.{Form}
use Rattle.store_cells.specs.declared.kind.Form.TheVariants as form
use Rattle.store_cells.specs.Cells.{Cells, PlainCell, is_own, is_scope, is_visible, is_visible_form, widget_of}
use Rattle.object_store.specs.Owned.{is_of, is_own_scope, own_cell, own_scope, owned}
use Rattle.page_load.specs.Laying.{HasNoCells}
use Rattle.widget_host.specs.Shapes.{cells_of_widget, cells_of_host, is_widgets, cells_of_widgets}

-- 1 where it is so
abbrev unit : Bool → ℕ
unit b = if b then 1 else 0

abbrev many : (PlainCell → Bool) → List PlainCell → ℕ
many p cs = length (filter p cs)

many_more : (p : PlainCell → Bool) (c : PlainCell) (cs : List PlainCell) → many p (c ∷ cs) ≡ unit (p c) + many p cs
many_more p c cs = by (p c)
  where
    by : (b : Bool) → length (if b then c ∷ filter p cs else filter p cs) ≡ unit b + length (filter p cs)
    by true = omega arith
    by false = omega arith

-- a cell as one of a widget's
abbrev counts : ℕ → PlainCell → ℕ
counts v c = unit (is_visible v c) + unit (is_own_scope v c)

abbrev all_of : ℕ → List PlainCell → ℕ
all_of v cs = many (is_visible v) cs + many (is_own_scope v) cs

-- and as one of the first so many widgets'
abbrev counts_to : ℕ → PlainCell → ℕ
counts_to zero c = 0
counts_to (suc v) c = counts_to v c + counts v c

abbrev all_to : ℕ → List PlainCell → ℕ
all_to zero cs = 0
all_to (suc v) cs = all_to v cs + all_of v cs

all_none : (n : ℕ) → all_to n [] ≡ 0
all_none zero = refl
all_none (suc v) = let e = all_none v in omega (arith, e)

all_of_more : (v : ℕ) (c : PlainCell) (cs : List PlainCell) → all_of v (c ∷ cs) ≡ counts v c + all_of v cs
all_of_more v c cs = let f = many_more (is_visible v) c cs in let g = many_more (is_own_scope v) c cs in omega (arith, f, g)

all_more : (n : ℕ) (c : PlainCell) (cs : List PlainCell) → all_to n (c ∷ cs) ≡ counts_to n c + all_to n cs
all_more zero c cs = refl
all_more (suc v) c cs = let e = all_more v c cs in let f = all_of_more v c cs in omega (arith, e, f)

-- ## One cell

-- what a widget has is seen or a scope, and not both
one_form : (f : Form) → unit (is_visible_form f) + unit (is_scope f) ≡ unit (is_visible_form f || is_scope f)
one_form form.Object = refl
one_form form.Array = refl
one_form (form.Function p) = refl
one_form (form.Native n) = refl
one_form form.Scope = refl
one_form form.Bunch = refl
one_form (form.RawNode n) = refl
one_form form.Global = refl

split : (b : Bool) → unit (not b) + unit b ≡ 1
split true = refl
split false = refl

module _ (c : PlainCell) where
  -- as a widget's
  abbrev one : ℕ
  one = unit (is_visible_form c.form || is_scope c.form)

  -- the host's
  host_counts : c.owner ≡ whose.Host → (n : ℕ) → counts_to n c ≡ 0
  host_counts is zero = refl
  host_counts is (suc v) =
      let e = host_counts is v in
      let f : counts v c ≡ 0 = ap (λ (o : Owner). unit (is_own v o c.form) + unit (is_of v o && is_scope c.form)) is in
      omega (arith, e, f)

  module _ (u : ℕ) (is : c.owner ≡ whose.Widget u) where
    by_number : (b : Bool) → unit (b && is_visible_form c.form) + unit (b && is_scope c.form) ≡ (if b then one else 0)
    by_number true = one_form c.form
    by_number false = refl

    counts_is : (v : ℕ) → counts v c ≡ (if eqb u v then one else 0)
    counts_is v = ap (λ (o : Owner). unit (is_own v o c.form) + unit (is_of v o && is_scope c.form)) is ∙ by_number (eqb u v)

    counts_here : (v : ℕ) → eqb u v ≡ true → counts v c ≡ one
    counts_here v e = counts_is v ∙ ap (λ b. if b then one else 0) e

    counts_other : (v : ℕ) → eqb u v ≡ false → counts v c ≡ 0
    counts_other v e = counts_is v ∙ ap (λ b. if b then one else 0) e

    above : (n : ℕ) → n ≤ u → counts_to n c ≡ 0
    above zero le = refl
    above (suc v) le =
        let e = above v (omega (arith, le)) in
        let f = counts_other v (ne_eqb u v (λ g. absurd (omega (arith, g, le)))) in
        omega (arith, e, f)

    below : (n : ℕ) → u < n → counts_to n c ≡ one
    below zero lt = absurd (omega (arith, lt))
    below (suc v) lt = by (eqb u v) refl (λ less. below v less)
      where
        by : (b : Bool) → eqb u v ≡ b → (u < v → counts_to v c ≡ one) → counts_to v c + counts v c ≡ one
        by true e h =
            let same = eqb-true u v e in
            let f = above v (omega (arith, same)) in
            let g = counts_here v e in
            omega (arith, f, g)
        by false e h =
            let ne : (u ≡ v → ⊥) = λ g. (let both : true ≡ false = sym (eq-eqb u v g) ∙ e in cc) in
            let f = h (omega (arith, lt, ne)) in
            let g = counts_other v e in
            omega (arith, f, g)

module _ (n : ℕ) (c : PlainCell) (none : (v : ℕ) → n ≤ v → counts v c ≡ 0) where
  host_cell : c.owner ≡ whose.Host → unit (not (is_widgets c)) + counts_to n c ≡ 1
  host_cell is =
      let e : unit (not (is_widgets c)) ≡ 1 = ap (λ (o : Owner). unit (not (is_some (widget_of o) && (is_visible_form c.form || is_scope c.form)))) is in
      let f = host_counts c is n in
      omega (arith, e, f)

  widget_cell : (u : ℕ) → c.owner ≡ whose.Widget u → (b : Bool) → leb n u ≡ b → unit (not (is_widgets c)) + counts_to n c ≡ 1
  widget_cell u is true g =
      let le = leb-true n u g in
      let e : unit (not (is_widgets c)) ≡ unit (not (is_visible_form c.form || is_scope c.form)) = ap (λ (o : Owner). unit (not (is_some (widget_of o) && (is_visible_form c.form || is_scope c.form)))) is in
      let f = above c u is n le in
      let h = sym (counts_here c u is u (eq-eqb u u refl)) ∙ none u le in
      let s = split (is_visible_form c.form || is_scope c.form) in
      omega (arith, e, f, h, s)
  widget_cell u is false g =
      let e : unit (not (is_widgets c)) ≡ unit (not (is_visible_form c.form || is_scope c.form)) = ap (λ (o : Owner). unit (not (is_some (widget_of o) && (is_visible_form c.form || is_scope c.form)))) is in
      let f = below c u is n (leb-false n u g) in
      let s = split (is_visible_form c.form || is_scope c.form) in
      omega (arith, e, f, s)

  -- it is the host's or one of the first so many widgets', where no other widget has it
  cell_counts : unit (not (is_widgets c)) + counts_to n c ≡ 1
  cell_counts = by c.owner refl
    where
      by : (o : Owner) → c.owner ≡ o → unit (not (is_widgets c)) + counts_to n c ≡ 1
      by whose.Host is = host_cell is
      by (whose.Widget u) is = widget_cell u is (leb n u) refl

-- ## All cells

cells_count : (n : ℕ) (cs : List PlainCell) → ((v : ℕ) → n ≤ v → all_of v cs ≡ 0) → length cs ≡ many (λ c. not (is_widgets c)) cs + all_to n cs
cells_count n [] none = let e = all_none n in omega (arith, e)
cells_count n (c ∷ cs) none =
    let here = cell_counts n c (λ v le. let e = none v le in let f = all_of_more v c cs in omega (arith, e, f)) in
    let rest = cells_count n cs (λ v le. let e = none v le in let f = all_of_more v c cs in omega (arith, e, f)) in
    let f = many_more (λ d. not (is_widgets d)) c cs in
    let g = all_more n c cs in
    omega (arith, here, rest, f, g)

module _ (s : Cells) where
  all_owned : (v : ℕ) → cells_of_widget s v ≡ all_of v s.cells
  unfolding owned
  all_owned v = λ j. length-map (filter (is_visible v) s.cells) (own_cell v s.cells) j + length-map (filter (is_own_scope v) s.cells) (own_scope v s.cells) j

  to_owned : (n : ℕ) → cells_of_widgets s n ≡ all_to n s.cells
  to_owned zero = refl
  to_owned (suc v) = λ j. to_owned v j + all_owned v j

  -- where nobody from a number on has a cell
  pub cells_counted : (n : ℕ) → ((v : ℕ) → n ≤ v → HasNoCells v s) → length s.cells ≡ cells_of_host s + cells_of_widgets s n
  cells_counted n none =
      cells_count n s.cells (λ v le. sym (all_owned v) ∙ (λ j. length ((none v le).heap j) + length ((none v le).scopes j)))
      ∙ ap (λ m. cells_of_host s + m) (sym (to_owned n))
