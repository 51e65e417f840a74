-- The host's cells before they have properties.
use Rattle.std.proofs.Common.{◌≡◌, ℕ, zero, suc, ◌<◌, ◌≤◌, List, [], ◌∷◌, ◌++◌, length, map, refl, sym, ap, ◌∙◌, subst, Option, Some, None, arith, Bool, true, false, if◌then◌else◌, length-append, append_assoc}
use Rattle.std.specs.Prelude.{◌&&◌, not, IfSome, replicate}
use Rattle.std.specs.List.{list_all}
use Rattle.std.specs.Option.{option_map_or}
use Rattle.store_cells.specs.declared.value.Value.{Value}
use Rattle.store_cells.specs.declared.kind.Form.{Form}
use Rattle.store_cells.specs.declared.kind.Form.TheVariants as form
use Rattle.store_cells.specs.declared.cell.Head.{Head}
use Rattle.store_cells.specs.Cells.{is_bunch, is_scope, is_array, node_in, kept_cells}
use Rattle.store_cells.specs.Numbered.{NumberedCell}
use Rattle.store_cells.specs.Host.{nothing_paid}
use Rattle.store_cells.specs.Shape.{AreEntries, AreWellFormed, AreOrdered, IsOrdered, AreRaws, AreWithin, bunch_at, scope_at, links_at, scope_in}
use Rattle.store_table.specs.Bare.{host_head, is_host_form}
use Rattle.store_cells.proofs.Lists.{get_older}
use Rattle.store_cells.proofs.Adds.{ordered_push, raws_push}

false_true : false ≡ true → ⊥
false_true g = cc

-- what a form of the host is
no_scope : (f : Form) → is_host_form f ≡ true → is_scope f ≡ false
no_scope form.Object e = refl
no_scope form.Array e = absurd (false_true e)
no_scope (form.Function p) e = absurd (false_true e)
no_scope (form.Native p) e = refl
no_scope form.Scope e = absurd (false_true e)
no_scope form.Bunch e = absurd (false_true e)
no_scope (form.RawNode p) e = absurd (false_true e)
no_scope form.Global e = refl

no_parts : (f : Form) → is_host_form f ≡ true → scope_in f ≡ None
no_parts form.Object e = refl
no_parts form.Array e = absurd (false_true e)
no_parts (form.Function p) e = absurd (false_true e)
no_parts (form.Native p) e = refl
no_parts form.Scope e = absurd (false_true e)
no_parts form.Bunch e = absurd (false_true e)
no_parts (form.RawNode p) e = absurd (false_true e)
no_parts form.Global e = refl

no_node : (f : Form) → is_host_form f ≡ true → node_in f ≡ None
no_node form.Object e = refl
no_node form.Array e = absurd (false_true e)
no_node (form.Function p) e = absurd (false_true e)
no_node (form.Native p) e = refl
no_node form.Scope e = absurd (false_true e)
no_node form.Bunch e = absurd (false_true e)
no_node (form.RawNode p) e = absurd (false_true e)
no_node form.Global e = refl

first_and : (a b : Bool) → (a && b) ≡ true → a ≡ true
first_and true b e = refl
first_and false b e = e

second_and : (a b : Bool) → (a && b) ≡ true → b ≡ true
second_and true b e = e
second_and false b e = absurd (false_true e)

-- what the prototype of a group has to be
abbrev pub Fits : List Head → Option ℕ → ℕ → Type 0
Fits hs None links = links ≡ 0
Fits hs (Some j) links = (j < length hs) × (scope_at hs j ≡ false) × (links ≡ suc (links_at hs j)) × (links ≤ 100) × (links ≤ length hs) × (bunch_at hs j ≡ false)

fits_push : (hs : List Head) (x : Head) (up : Option ℕ) (links : ℕ) → Fits hs up links → Fits (hs ++ x ∷ []) up links
fits_push hs x None links h = h
fits_push hs x (Some j) links h = (
  omega (arith, h.0, length-append hs (x ∷ [])),
  ap (λ (p : Option Head). option_map_or (λ h. is_scope h.form) p false) (get_older hs x j h.0) ∙ h.1,
  h.2 ∙ sym (ap (λ (p : Option Head). suc (option_map_or (λ h. h.links) p 0)) (get_older hs x j h.0)),
  h.3,
  omega (arith, h.4, length-append hs (x ∷ [])),
  ap (λ (p : Option Head). option_map_or (λ h. is_bunch h.form) p false) (get_older hs x j h.0) ∙ h.5,
)

host_ordered : (hs : List Head) (up : Option ℕ) (links : ℕ) (f : Form) → is_host_form f ≡ true → Fits hs up links → IsOrdered hs (length hs) (host_head up links f)
host_ordered hs None links f e fits = record {
  up = tt;
  scope = subst (λ o. IfSome o (λ j. (j < length hs) × (scope_at hs j ≡ true))) (sym (no_parts f e)) tt;
  links = fits ∙ sym (ap (λ b. if b then 0 else 0) (no_scope f e));
  few = omega (arith, fits);
  below = omega (arith, fits);
  owned = λ g. absurd (false_true (sym (no_scope f e) ∙ g));
  based = λ g k. absurd (false_true g);
  unbunched = λ g. tt;
  number = λ w g. absurd (false_true g);
}
host_ordered hs (Some j) links f e fits = record {
  up = (fits.0, fits.1 ∙ sym (no_scope f e));
  scope = subst (λ o. IfSome o (λ j. (j < length hs) × (scope_at hs j ≡ true))) (sym (no_parts f e)) tt;
  links = fits.2 ∙ sym (ap (λ b. if b then 0 else suc (links_at hs j)) (no_scope f e));
  few = fits.3;
  below = fits.4;
  owned = λ g. absurd (false_true (sym (no_scope f e) ∙ g));
  based = λ g k. absurd (false_true g);
  unbunched = λ g. fits.5;
  number = λ w g. absurd (false_true g);
}

-- a group of cells on one prototype
pub ordered_group : (hs : List Head) (up : Option ℕ) (links : ℕ) (fs : List Form) → AreOrdered hs → list_all is_host_form fs ≡ true → Fits hs up links → AreOrdered (hs ++ map (host_head up links) fs)
ordered_group hs up links [] h e fits = subst AreOrdered (sym (append_nil hs)) h
  where
    append_nil : (xs : List Head) → xs ++ [] ≡ xs
    append_nil [] = refl
    append_nil (x ∷ xs) = ap (λ l. x ∷ l) (append_nil xs)
ordered_group hs up links (f ∷ fs) h e fits =
    let x = host_head up links f in
    let one = ordered_push hs x h (host_ordered hs up links f (first_and (is_host_form f) (list_all is_host_form fs) e) fits) in
    subst AreOrdered (append_assoc hs (x ∷ []) (map (host_head up links) fs)) (ordered_group (hs ++ x ∷ []) up links fs one (second_and (is_host_form f) (list_all is_host_form fs) e) (fits_push hs x up links fits))

pub raws_group : (hs : List Head) (raws : List (ℕ × ℕ)) (up : Option ℕ) (links : ℕ) (fs : List Form) → AreRaws hs raws → list_all is_host_form fs ≡ true → AreRaws (hs ++ map (host_head up links) fs) raws
raws_group hs raws up links [] h e = subst (λ (l : List Head). AreRaws l raws) (sym (append_nil hs)) h
  where
    append_nil : (xs : List Head) → xs ++ [] ≡ xs
    append_nil [] = refl
    append_nil (x ∷ xs) = ap (λ l. x ∷ l) (append_nil xs)
raws_group hs raws up links (f ∷ fs) h e =
    let x = host_head up links f in
    let one = raws_push hs raws x h (no_node f (first_and (is_host_form f) (list_all is_host_form fs) e)) in
    subst (λ (l : List Head). AreRaws l raws) (append_assoc hs (x ∷ []) (map (host_head up links) fs)) (raws_group (hs ++ x ∷ []) raws up links fs one (second_and (is_host_form f) (list_all is_host_form fs) e))

-- cells without entries, none of which is an Array
abbrev pub AreEmpty : List NumberedCell → Type 0
AreEmpty [] = Unit {0}
AreEmpty (c ∷ cs) = (c.entries ≡ []) × (is_array c.head.form ≡ false) × AreEmpty cs

abbrev pub is_nil : List (ℕ × Value) → Bool
is_nil [] = true
is_nil (x ∷ xs) = false

abbrev pub is_empty_cell : NumberedCell → Bool
is_empty_cell c = is_nil c.entries && not (is_array c.head.form)

nil_is : (es : List (ℕ × Value)) → is_nil es ≡ true → es ≡ []
nil_is [] h = refl
nil_is (e ∷ es) h = absurd (false_true h)

not_is : (b : Bool) → not b ≡ true → b ≡ false
not_is true h = sym h
not_is false h = refl

pub are_empty : (cs : List NumberedCell) → list_all is_empty_cell cs ≡ true → AreEmpty cs
are_empty [] h = tt
are_empty (c ∷ cs) h =
    let one = first_and (is_empty_cell c) (list_all is_empty_cell cs) h in
    (nil_is c.entries (first_and (is_nil c.entries) (not (is_array c.head.form)) one), not_is (is_array c.head.form) (second_and (is_nil c.entries) (not (is_array c.head.form)) one), are_empty cs (second_and (is_empty_cell c) (list_all is_empty_cell cs) h))

pub empty_fine : (names : List (List ℕ)) (size : ℕ) (cs : List NumberedCell) → AreEmpty cs → AreWellFormed names size cs
empty_fine names size [] h = tt
empty_fine names size (c ∷ cs) h = (
  record {
    entries = subst (λ es. AreEntries (length names) size es) (sym h.0) tt;
    array = λ a. absurd (false_true (sym h.1 ∙ a));
  },
  empty_fine names size cs h.2,
)

-- nothing is paid
pub none_paid : (n w : ℕ) → kept_cells (replicate n nothing_paid) w ≡ 0
none_paid zero w = refl
none_paid (suc n) zero = refl
none_paid (suc n) (suc w) = none_paid n w

pub within_none : (n : ℕ) → AreWithin (replicate n nothing_paid)
within_none zero = tt
within_none (suc n) = ((omega arith, omega arith, omega arith), within_none n)
