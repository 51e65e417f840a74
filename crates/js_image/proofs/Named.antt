-- Names that are permitted.
use Rattle.std.proofs.Common.{◌≡◌, ℕ, suc, List, [], ◌∷◌, refl, Bool, true, false, if◌then◌else◌}
use Rattle.std.specs.Prelude.{◌&&◌}
use Rattle.std.specs.Fmt.{decimal}
use Rattle.std.specs.List.{list_all}
use Rattle.std.specs.Str.{bytes_eq}
use Rattle.indexmap.specs.IndexMap.{insert_entry}
use Rattle.code_units.specs.Permitted.{IsPermitted, has_edge_underscore, is_banned, is_permitted}
use Rattle.property_names.proofs.Digits.{listed_index}
use Rattle.store_cells.specs.declared.value.Value.{Value}
use Rattle.store_cells.specs.Arrays.{length_name}
use Rattle.store_cells.specs.Bunches.{elements}
use Rattle.js_image.specs.Held.{ArePermitted}

-- ## The name `length`, and the names of elements

pub length_permitted : IsPermitted length_name
unfolding is_banned has_edge_underscore
length_permitted = refl

both_first : (a b : Bool) → (a && b) ≡ true → a ≡ true
both_first true b h = refl
both_first false b h = h

pub decimal_permitted : (n : ℕ) → IsPermitted (decimal n)
decimal_permitted n = both_first (is_permitted (decimal n)) true (listed_index false n)

pub elements_permitted : (k : ℕ) (vs : List Value) → ArePermitted (elements k vs)
elements_permitted k [] = tt
elements_permitted k (v ∷ vs) = (decimal_permitted k, elements_permitted (suc k) vs)

-- ## Names in pairs

pub all_permitted : (ps : List (List ℕ × Value)) → list_all (λ p. is_permitted p.0) ps ≡ true → ArePermitted ps
all_permitted [] h = tt
all_permitted (p ∷ ps) h = let b = both (is_permitted p.0) h in (b.0, all_permitted ps b.1)
  where
    both : (a : Bool) {b : Bool} → (a && b) ≡ true → (a ≡ true) × (b ≡ true)
    both true h = (refl, h)
    both false h = absurd (no_true h)
      where
        no_true : false ≡ true → ⊥
        no_true e = cc

-- a name that is written
pub insert_permitted : (ps : List (List ℕ × Value)) (x : List ℕ) (v : Value) → ArePermitted ps → IsPermitted x → ArePermitted (insert_entry bytes_eq ps x v)
insert_permitted [] x v h f = (f, tt)
insert_permitted (p ∷ ps) x v h f = by (bytes_eq x p.0) (insert_permitted ps x v h.1 f)
  where
    by : (b : Bool) → ArePermitted (insert_entry bytes_eq ps x v) → ArePermitted (if b then (p.0, v) ∷ ps else p ∷ insert_entry bytes_eq ps x v)
    by true g = (h.0, h.1)
    by false g = (h.0, g)
