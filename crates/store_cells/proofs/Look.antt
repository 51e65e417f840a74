-- Cells by number, and by name.
use Rattle.std.proofs.Common.{◌≡◌, ℕ, zero, suc, ◌<◌, List, [], ◌∷◌, length, get_or, refl, sym, ap, ◌∙◌, subst, Option, Some, None, arith, Bool, true, false, eqb, cond, if◌then◌else◌, slice_get, is_some, true≢false}
use Rattle.std.specs.Option.{option_map, option_map_or, option_and_then}
use Rattle.std.specs.List.{list_any}
use Rattle.std.specs.Prelude.{IfSome}
use Rattle.std.specs.Map.{lookup, remove_entry}
use Rattle.std.specs.Str.{bytes_eq}
use Rattle.std.proofs.lemmas.Option.{slice_get-map}
use Rattle.std.proofs.lemmas.List.{length-map}
use Rattle.indexmap.specs.IndexMap.{insert_entry}
use Rattle.keyed_names.proofs.Interning.{same_test, none_test}
use Rattle.store_cells.specs.declared.value.Value.{Value}
use Rattle.store_cells.specs.declared.counts.Counts.{Counts}
use Rattle.store_cells.specs.Lists.{climb}
use Rattle.store_cells.specs.Cells.{PlainCell, Cells, has_own, own_value_at, holder, value_along}
use Rattle.store_cells.specs.Numbered.{NumberedCell, named, name_at, plain, cells_of, numbered_has, numbered_own, numbered_holder, numbered_along, numbered_has_at}
use Rattle.store_cells.specs.Shape.{Known, AreKnown, AreEntries, AreWellFormed, IsShape}
use Rattle.store_cells.proofs.Lists.{none_some, some_same}

pub known_at : (n : ℕ) (cs : List NumberedCell) (i : ℕ) (c : NumberedCell) → AreKnown n cs → slice_get cs i ≡ Some c → Known n c.entries
known_at n [] i c h e = absurd (none_some e)
known_at n (x ∷ cs) zero c h e = subst (λ (y : NumberedCell). Known n y.entries) (some_same x c e) h.0
known_at n (x ∷ cs) (suc i) c h e = known_at n cs i c h.1 e

pub known_entries : (n size : ℕ) (es : List (ℕ × Value)) → AreEntries n size es → Known n es
known_entries n size [] h = tt
known_entries n size (e ∷ es) h = (h.0.0, known_entries n size es h.1)

pub known_cells : (names : List (List ℕ)) (size : ℕ) (cs : List NumberedCell) → AreWellFormed names size cs → AreKnown (length names) cs
known_cells names size [] h = tt
known_cells names size (c ∷ cs) h = (known_entries (length names) size c.entries h.0.entries, known_cells names size cs h.1)

-- a name and its number
module _ (names : List (List ℕ)) (name : List ℕ) (n : ℕ) (same : (k : ℕ) → k < length names → eqb n k ≡ bytes_eq name (get_or names k [])) where
  pub look : (es : List (ℕ × Value)) → Known (length names) es → lookup (eqb n) es ≡ lookup (bytes_eq name) (named names es)
  look [] h = refl
  look (e ∷ es) h = λ j. cond (same e.0 h.0 j) (Some e.1) (look es h.1 j)

  pub has_same : (c : NumberedCell) → Known (length names) c.entries → numbered_has n c ≡ has_own name (plain names c)
  has_same c h = ap is_some (look c.entries h)

  pub insert_named : (es : List (ℕ × Value)) (v : Value) → Known (length names) es → name_at names n ≡ name → named names (insert_entry eqb es n v) ≡ insert_entry bytes_eq (named names es) name v
  insert_named [] v h here = ap (λ t. (t, v) ∷ []) here
  insert_named (e ∷ es) v h here = step (insert_named es v h.1 here) (eqb n e.0) ∙ ap (λ b. if b then (name_at names e.0, v) ∷ named names es else (name_at names e.0, e.1) ∷ insert_entry bytes_eq (named names es) name v) (same e.0 h.0)
    where
      step : named names (insert_entry eqb es n v) ≡ insert_entry bytes_eq (named names es) name v → (b : Bool) → named names (if b then (e.0, v) ∷ es else e ∷ insert_entry eqb es n v) ≡ (if b then (name_at names e.0, v) ∷ named names es else (name_at names e.0, e.1) ∷ insert_entry bytes_eq (named names es) name v)
      step rest true = refl
      step rest false = ap (λ l. (name_at names e.0, e.1) ∷ l) rest

  pub remove_named : (es : List (ℕ × Value)) → Known (length names) es → named names (remove_entry (eqb n) es) ≡ remove_entry (bytes_eq name) (named names es)
  remove_named [] h = refl
  remove_named (e ∷ es) h = step (remove_named es h.1) (eqb n e.0) ∙ ap (λ b. cond b (named names es) ((name_at names e.0, e.1) ∷ remove_entry (bytes_eq name) (named names es))) (same e.0 h.0)
    where
      step : named names (remove_entry (eqb n) es) ≡ remove_entry (bytes_eq name) (named names es) → (b : Bool) → named names (cond b es (e ∷ remove_entry (eqb n) es)) ≡ cond b (named names es) ((name_at names e.0, e.1) ∷ remove_entry (bytes_eq name) (named names es))
      step rest true = refl
      step rest false = ap (λ l. (name_at names e.0, e.1) ∷ l) rest

  module _ (cs : List NumberedCell) (fine : AreKnown (length names) cs) where
    climb_same : (f : ℕ) (at : Option ℕ) → climb (numbered_has n) (λ c. c.head.up) f cs at ≡ climb (has_own name) (λ c. c.up) f (cells_of names cs) at
    climb_same zero at = refl
    climb_same (suc f) None = refl
    climb_same (suc f) (Some i) = by (λ o. climb_same f o) (slice_get cs i) refl ∙ ap (λ (o : Option PlainCell). option_map_or (λ x. if has_own name x then Some i else climb (has_own name) (λ c. c.up) f (cells_of names cs) x.up) o None) (sym (slice_get-map (plain names) cs i))
      where
        by : ((o : Option ℕ) → climb (numbered_has n) (λ c. c.head.up) f cs o ≡ climb (has_own name) (λ c. c.up) f (cells_of names cs) o) → (o : Option NumberedCell) → slice_get cs i ≡ o → option_map_or (λ x. if numbered_has n x then Some i else climb (numbered_has n) (λ c. c.head.up) f cs x.head.up) o None ≡ option_map_or (λ x. if has_own name x then Some i else climb (has_own name) (λ c. c.up) f (cells_of names cs) x.up) (option_map (plain names) o) None
        by rest None e = refl
        by rest (Some x) e = let s = has_same x (known_at (length names) cs i x fine e) in λ j. if s j then Some i else rest x.head.up j

    pub holder_same : (i : ℕ) → numbered_holder cs i n ≡ holder (cells_of names cs) i name
    holder_same i = climb_same (length cs) (Some i) ∙ ap (λ f. climb (has_own name) (λ c. c.up) f (cells_of names cs) (Some i)) (sym (length-map cs (plain names)))

    own_same : (i : ℕ) → numbered_own cs n i ≡ own_value_at (cells_of names cs) name i
    own_same i = by (slice_get cs i) refl ∙ ap (λ (o : Option PlainCell). option_and_then (λ c. lookup (bytes_eq name) c.pairs) o) (sym (slice_get-map (plain names) cs i))
      where
        by : (o : Option NumberedCell) → slice_get cs i ≡ o → option_and_then (λ c. lookup (eqb n) c.entries) o ≡ option_and_then (λ c. lookup (bytes_eq name) c.pairs) (option_map (plain names) o)
        by None e = refl
        by (Some x) e = look x.entries (known_at (length names) cs i x fine e)

    pub along_same : (i : ℕ) → numbered_along cs i n ≡ value_along (cells_of names cs) i name
    along_same i = ap (λ o. option_and_then (numbered_own cs n) o) (holder_same i) ∙ by (holder (cells_of names cs) i name)
      where
        by : (o : Option ℕ) → option_and_then (numbered_own cs n) o ≡ option_and_then (own_value_at (cells_of names cs) name) o
        by None = refl
        by (Some k) = own_same k

-- a name that is not interned
module _ (names : List (List ℕ)) (name : List ℕ) (none : (k : ℕ) → k < length names → bytes_eq name (get_or names k []) ≡ false) where
  pub look_none : (es : List (ℕ × Value)) → Known (length names) es → lookup (bytes_eq name) (named names es) ≡ None
  look_none [] h = refl
  look_none (e ∷ es) h = λ j. cond (none e.0 h.0 j) (Some e.1) (look_none es h.1 j)

  pub remove_never : (es : List (ℕ × Value)) → Known (length names) es → remove_entry (bytes_eq name) (named names es) ≡ named names es
  remove_never [] h = refl
  remove_never (e ∷ es) h = ap (λ b. cond b (named names es) ((name_at names e.0, e.1) ∷ remove_entry (bytes_eq name) (named names es))) (none e.0 h.0) ∙ ap (λ l. (name_at names e.0, e.1) ∷ l) (remove_never es h.1)

  module _ (cs : List NumberedCell) (fine : AreKnown (length names) cs) where
    climb_never : (f : ℕ) (at : Option ℕ) → climb (has_own name) (λ c. c.up) f (cells_of names cs) at ≡ None
    climb_never zero at = refl
    climb_never (suc f) None = refl
    climb_never (suc f) (Some i) = ap (λ (o : Option PlainCell). option_map_or (λ x. if has_own name x then Some i else climb (has_own name) (λ c. c.up) f (cells_of names cs) x.up) o None) (slice_get-map (plain names) cs i) ∙ by (λ o. climb_never f o) (slice_get cs i) refl
      where
        by : ((o : Option ℕ) → climb (has_own name) (λ c. c.up) f (cells_of names cs) o ≡ None) → (o : Option NumberedCell) → slice_get cs i ≡ o → option_map_or (λ x. if has_own name x then Some i else climb (has_own name) (λ c. c.up) f (cells_of names cs) x.up) (option_map (plain names) o) None ≡ None
        by rest None e = refl
        by rest (Some x) e = let s = ap is_some (look_none x.entries (known_at (length names) cs i x fine e)) in λ j. if s j then Some i else rest x.head.up j

    pub holder_never : (i : ℕ) → holder (cells_of names cs) i name ≡ None
    holder_never i = climb_never (length (cells_of names cs)) (Some i)

    pub along_never : (i : ℕ) → value_along (cells_of names cs) i name ≡ None
    along_never i = ap (λ o. option_and_then (own_value_at (cells_of names cs) name) o) (holder_never i)

-- what `get` finds
module _ (s : Cells) (names : List (List ℕ)) (cs : List NumberedCell) (kept : List Counts) (view : (let c : Cells = record { cells = cells_of names cs; kept = kept } in c ≡ s)) {raws : List (ℕ × ℕ)} (shape : IsShape names cs raws kept) (name : List ℕ) (i : ℕ) where
  pub get_found : (n : ℕ) → slice_get names n ≡ Some name → numbered_along cs i n ≡ value_along s.cells i name
  get_found n at = along_same names name n (same_test names name n shape.base.table at) cs (known_cells names (length cs) cs shape.base.fine) i ∙ ap (λ (t : Cells). value_along t.cells i name) view

  pub get_none : list_any (bytes_eq name) names ≡ false → None ≡ value_along s.cells i name
  get_none none = sym (sym (ap (λ (t : Cells). value_along t.cells i name) view) ∙ along_never names name (none_test names name none) cs (known_cells names (length cs) cs shape.base.fine) i)

-- the holder has the name
pub climb_has : (n f : ℕ) (cs : List NumberedCell) (at : Option ℕ) (h : ℕ) → climb (numbered_has n) (λ c. c.head.up) f cs at ≡ Some h → numbered_has_at cs h (Some n) ≡ true
climb_has n zero cs at h e = absurd (none_some e)
climb_has n (suc f) cs None h e = absurd (none_some e)
climb_has n (suc f) cs (Some i) h e = by (λ o g. climb_has n f cs o h g) (slice_get cs i) refl e
  where
    by : ((o : Option ℕ) → climb (numbered_has n) (λ c. c.head.up) f cs o ≡ Some h → numbered_has_at cs h (Some n) ≡ true) → (o : Option NumberedCell) → slice_get cs i ≡ o → option_map_or (λ x. if numbered_has n x then Some i else climb (numbered_has n) (λ c. c.head.up) f cs x.head.up) o None ≡ Some h → numbered_has_at cs h (Some n) ≡ true
    by rest None s e = absurd (none_some e)
    by rest (Some x) s e =
        let P : Bool → Type 0 = λ b. numbered_has n x ≡ b → (if b then Some i else climb (numbered_has n) (λ c. c.head.up) f cs x.head.up) ≡ Some h → numbered_has_at cs h (Some n) ≡ true in
        (elim (numbered_has n x) as (λ b. P b) [
          | true ↦ λ g e. subst (λ k. numbered_has_at cs k (Some n) ≡ true) (some_same i h e) (ap (λ (o : Option NumberedCell). option_map_or (numbered_has n) o false) s ∙ g)
          | false ↦ λ g e. rest x.head.up e
        ]) refl e

pub within_cells : (n : ℕ) (cs : List NumberedCell) (h : ℕ) → numbered_has_at cs h (Some n) ≡ true → h < length cs
within_cells n [] h e = absurd (true≢false (sym e))
within_cells n (c ∷ cs) zero e = omega arith
within_cells n (c ∷ cs) (suc h) e = omega (arith, within_cells n cs h e)

pub holder_held : (cs : List NumberedCell) (i n : ℕ) (o : Option ℕ) → o ≡ numbered_holder cs i n → IfSome o (λ h. numbered_has_at cs h (Some n) ≡ true)
holder_held cs i n None e = tt
holder_held cs i n (Some h) e = climb_has n (length cs) cs (Some i) h (sym e)

pub holder_within : (cs : List NumberedCell) (i n m : ℕ) (o : Option ℕ) → o ≡ numbered_holder cs i n → m ≡ length cs → IfSome o (λ h. h < m)
holder_within cs i n m None e len = tt
holder_within cs i n m (Some h) e len = omega (arith, len, within_cells n cs h (climb_has n (length cs) cs (Some i) h (sym e)))
