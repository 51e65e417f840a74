-- The numbers of the names of a scope, one by one.
use Rattle.std.proofs.Common.{◌≡◌, ℕ, ◌+◌, ◌<◌, List, [], ◌∷◌, ◌++◌, length, map, refl, sym, ap, ◌∙◌, subst, take, get_or, arith, Bool, true, false, eqb}
use Rattle.std.specs.List.{AllByRecursion, IsDistinct}
use Rattle.std.specs.Map.{keys_of}
use Rattle.std.specs.Str.{bytes_eq}
use Rattle.std.proofs.lemmas.Bool.Decides.{nat_tests}
use Rattle.std.proofs.lemmas.List.{map-append, take_more}
use Rattle.std.proofs.lemmas.Map.Keys.{IsDistinct-cons, IsDistinct-head, IsDistinct-tail}
use Rattle.std.proofs.lemmas.Option.{get_or_from_slice_get}
use Rattle.std.proofs.lemmas.Slice.Eq.{bytes_eq-Decides}
use Rattle.js_tree.specs.declared.nodes.ScopeName.{ScopeName}
use Rattle.keyed_names.specs.Interned.{Interns, IsTable}
use Rattle.keyed_names.proofs.Interning.{longer, stays}
use Rattle.store_cells.specs.declared.pairs.TheConstants.{FIRST_HOLE}
use Rattle.store_cells.specs.declared.value.Value.{Value}
use Rattle.store_cells.specs.First.{first_value, placed_values}
use Rattle.store_cells.specs.declared.cell.Head.{Head}
use Rattle.store_cells.specs.Born.{filled_cell}
use Rattle.store_cells.specs.Numbered.{NumberedCell, name_at, named, plain}
use Rattle.store_cells.specs.Shape.{Known}
use Rattle.store_cells.proofs.Elements.{known_longer}
use Rattle.store_cells.proofs.Writes.{named_stay}

false_true : false ≡ true → ⊥
false_true g = cc

known_push : (m n : ℕ) (v : Value) (es : List (ℕ × Value)) → Known m es → n < m → Known m (es ++ (n, v) ∷ [])
known_push m n v [] h lt = (lt, tt)
known_push m n v (e ∷ es) h lt = (h.0, known_push m n v es h.1 lt)

-- one name more
module _ (old new : List (List ℕ)) (name : List ℕ) (n : ℕ) (is : Interns old new name n) (es after : List (ℕ × Value)) (v : Value) (known : Known (length old) es) (push : after ≡ es ++ (n, v) ∷ []) where
  pub known_one : Known (length new) after
  known_one = subst (Known (length new)) (sym push) (known_push (length new) n v es (known_longer (length old) (length new) es (longer old new name is.table) known) is.within)

  pub named_one : named new after ≡ named old es ++ (name, v) ∷ []
  named_one =
      ap (named new) push ∙ map-append (λ (e : ℕ × Value). (name_at new e.0, e.1)) es ((n, v) ∷ [])
      ∙ (λ j. named_stay old new (longer old new name is.table) (stays old new name is.table) es known j ++ (get_or_from_slice_get new n name [] is.found j, v) ∷ [])

-- one pair more
pub placed_more : (names : List ScopeName) (vs : List Value) (i : ℕ) (n : ScopeName) (ps qs : List (List ℕ × Value)) (x : List ℕ) (v : Value)
    → i < length names → n ≡ get_or names i n → qs ≡ ps ++ (x, v) ∷ [] → x ≡ n.text → v ≡ first_value n.argument vs
    → ps ≡ placed_values (take i names) vs → qs ≡ placed_values (take (i + 1) names) vs
placed_more names vs i n ps qs x v lt is push same value h =
    push
    ∙ (λ j. h j ++ (same j, value j) ∷ [])
    ∙ sym (map-append (λ (m : ScopeName). (m.text, first_value m.argument vs)) (take i names) (n ∷ []))
    ∙ ap (λ l. placed_values l vs) (ap (λ m. take i names ++ m ∷ []) is ∙ sym (take_more names i n lt))

none_apart : IsDistinct eqb []
unfolding IsDistinct
none_apart = tt

-- names that differ have numbers that differ
module _ (names : List (List ℕ)) where
  apart : (n : ℕ) (es : List (ℕ × Value)) → AllByRecursion (λ y. bytes_eq (name_at names n) y ≡ false) (map (λ p. p.0) (named names es)) → AllByRecursion (λ m. eqb n m ≡ false) (keys_of es)
  apart n [] h = tt
  apart n (e ∷ es) h = (by (eqb n e.0) refl, apart n es h.1)
    where
      by : (b : Bool) → eqb n e.0 ≡ b → b ≡ false
      by false g = refl
      by true g =
          let same : n ≡ e.0 = grind (arith, nat_tests, g) in
          absurd (false_true (sym h.0 ∙ (bytes_eq-Decides (name_at names n) (name_at names e.0)).1 (ap (name_at names) same)))

  numbers_apart : (es : List (ℕ × Value)) → IsDistinct bytes_eq (map (λ p. p.0) (named names es)) → IsDistinct eqb (keys_of es)
  numbers_apart [] d = none_apart
  numbers_apart (e ∷ es) d =
      let xs = map (λ (p : List ℕ × Value). p.0) (named names es) in
      IsDistinct-cons eqb e.0 (keys_of es) (apart e.0 es (IsDistinct-head bytes_eq (name_at names e.0) xs d)) (numbers_apart es (IsDistinct-tail bytes_eq (name_at names e.0) xs d))

pub numbers_differ : (names : List (List ℕ)) (es : List (ℕ × Value)) (pairs : List (List ℕ × Value)) → named names es ≡ pairs → IsDistinct bytes_eq (map (λ p. p.0) pairs) → IsDistinct eqb (keys_of es)
numbers_differ names es pairs is d = numbers_apart names es (subst (λ (ps : List (List ℕ × Value)). IsDistinct bytes_eq (map (λ p. p.0) ps)) (sym is) d)

-- the names of a table have numbers below those of holes
pub known_names : (names : List (List ℕ)) (es : List (ℕ × Value)) → IsTable names → Known (length names) es → Known FIRST_HOLE es
known_names names es table known = known_longer (length names) FIRST_HOLE es (omega (arith, table.small)) known

-- a cell of few pairs
abbrev pub few_cell : Head → List (ℕ × Value) → NumberedCell
few_cell h es = record { head = h; elements = []; references = 0; entries = es }

pub few_plain : (names : List (List ℕ)) (h : Head) (es : List (ℕ × Value)) (pairs : List (List ℕ × Value)) → named names es ≡ pairs → plain names (few_cell h es) ≡ filled_cell h pairs
few_plain names h es pairs is = λ j. record { owner = h.owner; form = h.form; up = h.up; pairs = is j }
