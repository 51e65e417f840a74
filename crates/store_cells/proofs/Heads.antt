-- What the cells' fixed parts say: chains, numbers, scopes.
use Rattle.std.proofs.Common.{◌≡◌, ℕ, zero, suc, ◌-◌, ◌<◌, ◌≤◌, List, [], ◌∷◌, length, refl, sym, ap, ◌∙◌, subst, Option, Some, None, arith, Bool, true, false, eqb, if◌then◌else◌, true≢false, slice_get}
use Rattle.std.specs.Prelude.{IfSome, ◌&&◌}
use Rattle.std.specs.Option.{option_map, option_map_or, option_and_then}
use Rattle.std.proofs.lemmas.Option.{slice_get-map}
use Rattle.std.proofs.lemmas.List.{length-map}
use Rattle.std.proofs.lemmas.Bool.Decides.{nat_tests}
use Rattle.store_cells.specs.declared.value.Value.{Value}
use Rattle.store_cells.specs.declared.cell.Head.{Head}
use Rattle.store_cells.specs.declared.kind.Form.{Form}
use Rattle.store_cells.specs.declared.kind.Form.TheVariants as form
use Rattle.store_cells.specs.Lists.{links, climb, count_before}
use Rattle.store_cells.specs.Cells.{PlainCell, is_scope, is_array, is_bunch, is_bunch_at, is_scope_at, prototypes, chain, is_visible, is_visible_form, own_count, widget_of}
use Rattle.store_cells.specs.Numbered.{NumberedCell, plain, cells_of, named, heads, own_head, numbered_has, numbered_holder}
use Rattle.store_cells.specs.Shape.{AreOrdered, IsOrdered, bunch_at, scope_at, links_at}
use Rattle.store_cells.specs.Cells.{own_number_of}
use Rattle.store_cells.proofs.Lists.{none_some, some_same, get_within, count_before-map}

pub head_at : (cs : List NumberedCell) (i : ℕ) (c : NumberedCell) → slice_get cs i ≡ Some c → slice_get (heads cs) i ≡ Some c.head
head_at cs i c at = slice_get-map (λ c. c.head) cs i ∙ ap (option_map (λ (d : NumberedCell). d.head)) at

-- a place within a list
pub some_at : {X : Type 0} (xs : List X) (i : ℕ) → i < length xs → (x : X) × (slice_get xs i ≡ Some x)
some_at [] i lt = absurd (omega (arith, lt))
some_at (x ∷ xs) zero lt = (x, refl)
some_at (x ∷ xs) (suc i) lt = some_at xs i (omega (arith, lt))

module _ (names : List (List ℕ)) (cs : List NumberedCell) (ordered : AreOrdered (heads cs)) where
  of_at : (i : ℕ) (c : NumberedCell) → slice_get cs i ≡ Some c → IsOrdered (heads cs) i c.head
  of_at i c at = ordered.each i c.head (head_at cs i c at)

  plain_at : (i : ℕ) (c : NumberedCell) → slice_get cs i ≡ Some c → slice_get (cells_of names cs) i ≡ Some (plain names c)
  plain_at i c at = slice_get-map (plain names) cs i ∙ ap (option_map (plain names)) at

  chain_links : (f i : ℕ) (c : NumberedCell) → slice_get cs i ≡ Some c → c.head.links < f → is_scope c.head.form ≡ false → length (links (λ d. d.up) f (cells_of names cs) (Some i)) ≡ suc c.head.links
  chain_links zero i c at lt no_scope = absurd (omega (arith, lt))
  chain_links (suc f) i c at lt no_scope =
      let o = of_at i c at in
      ap (λ (p : Option PlainCell). length (option_map_or (λ x. x ∷ links (λ d. d.up) f (cells_of names cs) x.up) p [])) (plain_at i c at)
      ∙ ap suc (by c.head.up o.up (o.links ∙ ap (λ b. if b then 0 else option_map_or (λ j. suc (links_at (heads cs) j)) c.head.up 0) no_scope) (λ j d g l s. chain_links f j d g l s))
    where
      none : (f : ℕ) → length (links (λ d. d.up) f (cells_of names cs) None) ≡ 0
      none zero = refl
      none (suc f) = refl

      by : (up : Option ℕ) → IfSome up (λ j. (j < i) × (scope_at (heads cs) j ≡ is_scope c.head.form)) → c.head.links ≡ option_map_or (λ j. suc (links_at (heads cs) j)) up 0
          → ((j : ℕ) (d : NumberedCell) → slice_get cs j ≡ Some d → d.head.links < f → is_scope d.head.form ≡ false → length (links (λ d. d.up) f (cells_of names cs) (Some j)) ≡ suc d.head.links)
          → length (links (λ d. d.up) f (cells_of names cs) up) ≡ c.head.links
      by None h e rest = none f ∙ sym e
      by (Some j) h e rest =
          let k = some_at cs j (omega (arith, h.0, get_within cs i c at)) in
          let g = head_at cs j k.0 k.1 in
          let n : links_at (heads cs) j ≡ k.0.head.links = ap (λ (p : Option Head). option_map_or (λ h. h.links) p 0) g in
          let s : is_scope k.0.head.form ≡ false = sym (ap (λ (p : Option Head). option_map_or (λ h. is_scope h.form) p false) g) ∙ h.1 ∙ no_scope in
          rest j k.0 k.1 (omega (arith, lt, e, n)) s ∙ sym (e ∙ ap suc n)

  pub links_are : (i : ℕ) (c : NumberedCell) → slice_get cs i ≡ Some c → c.head.links ≡ prototypes (cells_of names cs) i
  links_are i c at = by (is_scope c.head.form) refl
    where
      here : (b : Bool) → is_scope c.head.form ≡ b → is_scope_at (cells_of names cs) i ≡ b
      here b e = ap (λ (p : Option PlainCell). option_map_or (λ d. is_scope d.form) p false) (plain_at i c at) ∙ e

      by : (b : Bool) → is_scope c.head.form ≡ b → c.head.links ≡ prototypes (cells_of names cs) i
      by true e =
          let o = of_at i c at in
          o.links ∙ ap (λ d. if d then 0 else option_map_or (λ j. suc (links_at (heads cs) j)) c.head.up 0) e ∙ sym (ap (λ d. if d then 0 else length (chain (cells_of names cs) i) - 1) (here true e))
      by false e =
          let o = of_at i c at in
          let lt : c.head.links < length (cells_of names cs) = omega (arith, o.below, get_within cs i c at, length-map cs (plain names)) in
          let n = chain_links (length (cells_of names cs)) i c at lt e in
          let m : c.head.links ≡ length (chain (cells_of names cs) i) - 1 = omega (arith, n) in
          m ∙ sym (ap (λ d. if d then 0 else length (chain (cells_of names cs) i) - 1) (here false e))

  pub links_few : (i : ℕ) (c : NumberedCell) → slice_get cs i ≡ Some c → c.head.links ≤ 100
  links_few i c at = (of_at i c at).few

  -- a cell's number is its place among its owner's
  own_counts : (w i : ℕ) → own_count w (cells_of names cs) i ≡ count_before (own_head w) (heads cs) i
  own_counts w i = count_before-map (is_visible w) (plain names) cs i ∙ sym (count_before-map (own_head w) (λ c. c.head) cs i)

  pub number_is : (i : ℕ) (c : NumberedCell) → slice_get cs i ≡ Some c → option_and_then (λ w. if is_visible_form c.head.form then Some c.head.number else None) (widget_of c.head.owner) ≡ own_number_of (cells_of names cs) i (plain names c)
  number_is i c at = by (widget_of c.head.owner) refl (is_visible_form c.head.form) refl
    where
      self : (w : ℕ) → eqb w w ≡ true
      self w = grind (arith, nat_tests)

      own : (w : ℕ) → widget_of c.head.owner ≡ Some w → is_visible_form c.head.form ≡ true → own_head w c.head ≡ true
      own w e g = ap (λ (o : Option ℕ). option_map_or (λ v. eqb v w && is_visible_form c.head.form) o false) e ∙ ap (λ b. b && is_visible_form c.head.form) (self w) ∙ g

      by : (o : Option ℕ) → widget_of c.head.owner ≡ o → (b : Bool) → is_visible_form c.head.form ≡ b → option_and_then (λ w. if b then Some c.head.number else None) o ≡ option_and_then (λ w. if b then Some (own_count w (cells_of names cs) i) else None) o
      by None e b g = refl
      by (Some w) e false g = refl
      by (Some w) e true g = ap Some ((of_at i c at).number w (own w e g) ∙ sym (own_counts w i))

  -- a climb among scopes stays there
  pub climb_scope : (n f : ℕ) (at : Option ℕ) → IfSome at (λ i. scope_at (heads cs) i ≡ true) → (h : ℕ) → climb (numbered_has n) (λ c. c.head.up) f cs at ≡ Some h → scope_at (heads cs) h ≡ true
  climb_scope n zero at s h e = absurd (none_some e)
  climb_scope n (suc f) None s h e = absurd (none_some e)
  climb_scope n (suc f) (Some i) s h e = by (slice_get cs i) refl (λ o r g. climb_scope n f o r h g) e
    where
      up_scope : (x : NumberedCell) → slice_get cs i ≡ Some x → (o : Option ℕ) → IfSome o (λ j. (j < i) × (scope_at (heads cs) j ≡ is_scope x.head.form)) → IfSome o (λ j. scope_at (heads cs) j ≡ true)
      up_scope x at None r = tt
      up_scope x at (Some j) r = r.1 ∙ sym (ap (λ (p : Option Head). option_map_or (λ h. is_scope h.form) p false) (head_at cs i x at)) ∙ s

      by : (o : Option NumberedCell) → slice_get cs i ≡ o → ((o : Option ℕ) → IfSome o (λ j. scope_at (heads cs) j ≡ true) → climb (numbered_has n) (λ c. c.head.up) f cs o ≡ Some h → scope_at (heads cs) h ≡ true)
          → option_map_or (λ x. if numbered_has n x then Some i else climb (numbered_has n) (λ c. c.head.up) f cs x.head.up) o None ≡ Some h → scope_at (heads cs) h ≡ true
      by None at rest g = absurd (none_some g)
      by (Some x) at rest g = pick (numbered_has n x) g
        where
          pick : (b : Bool) → (if b then Some i else climb (numbered_has n) (λ c. c.head.up) f cs x.head.up) ≡ Some h → scope_at (heads cs) h ≡ true
          pick true g = subst (λ k. scope_at (heads cs) k ≡ true) (some_same i h g) s
          pick false g = rest x.head.up (up_scope x at x.head.up (of_at i x at).up) g

  pub holder_scope : (n from i : ℕ) → scope_at (heads cs) from ≡ true → numbered_holder cs from n ≡ Some i → scope_at (heads cs) i ≡ true
  holder_scope n from i s e = climb_scope n (length cs) (Some from) s i e

  pub scope_form : (i : ℕ) (c : NumberedCell) → slice_get cs i ≡ Some c → scope_at (heads cs) i ≡ true → is_scope c.head.form ≡ true
  scope_form i c at s = sym (ap (λ (p : Option Head). option_map_or (λ h. is_scope h.form) p false) (head_at cs i c at)) ∙ s

pub scope_no_array : (f : Form) → is_scope f ≡ true → is_array f ≡ true → ⊥
scope_no_array form.Object s a = true≢false (sym s)
scope_no_array form.Array s a = true≢false (sym s)
scope_no_array (form.Function p) s a = true≢false (sym s)
scope_no_array (form.Native p) s a = true≢false (sym s)
scope_no_array form.Scope s a = true≢false (sym a)
scope_no_array form.Bunch s a = true≢false (sym s)
scope_no_array (form.RawNode p) s a = true≢false (sym s)
scope_no_array form.Global s a = true≢false (sym s)

pub scope_no_bunch : (f : Form) → is_scope f ≡ true → is_bunch f ≡ false
scope_no_bunch form.Object e = refl
scope_no_bunch form.Array e = refl
scope_no_bunch (form.Function p) e = refl
scope_no_bunch (form.Native p) e = refl
scope_no_bunch form.Scope e = refl
scope_no_bunch form.Bunch e = absurd (true≢false (sym e))
scope_no_bunch (form.RawNode p) e = refl
scope_no_bunch form.Global e = refl

-- a scope of plain data, and of heads
pub scope_same : (names : List (List ℕ)) (cs : List NumberedCell) (i : ℕ) → is_scope_at (cells_of names cs) i ≡ scope_at (heads cs) i
scope_same names [] i = refl
scope_same names (c ∷ cs) zero = refl
scope_same names (c ∷ cs) (suc i) = scope_same names cs i

-- a Bunch of plain data, and of heads
pub bunch_same : (names : List (List ℕ)) (cs : List NumberedCell) (i : ℕ) → is_bunch_at (cells_of names cs) i ≡ bunch_at (heads cs) i
bunch_same names [] i = refl
bunch_same names (c ∷ cs) zero = refl
bunch_same names (c ∷ cs) (suc i) = bunch_same names cs i

-- the value at a place of a cell's names
pub value_place : (names : List (List ℕ)) (es : List (ℕ × Value)) (k : ℕ) → option_map (λ (e : ℕ × Value). e.1) (slice_get es k) ≡ option_map (λ (p : List ℕ × Value). p.1) (slice_get (named names es) k)
value_place names [] k = refl
value_place names (e ∷ es) zero = refl
value_place names (e ∷ es) (suc k) = value_place names es k
