-- How the parts of an object or an array are written one after the other.
use Rattle.std.proofs.Common.{◌≡◌, ℕ, zero, suc, ◌+◌, List, [], ◌∷◌, ◌++◌, refl, sym, ap, ◌∙◌, Option, Some, None, Bool, false, arith, slice_get, drop, map, unwrap_or}
use Rattle.std.specs.Prelude.{codes}
use Rattle.std.specs.Option.{option_map}
use Rattle.store_cells.specs.declared.value.Value.{Value as StoreValue}
use Rattle.store_cells.specs.Cells.{PlainCell}
use Rattle.widget_meaning.specs.Values.{Value, Undefined}
use Rattle.widget_meaning.specs.OwnState.{Pairs, lookup}
use Rattle.widget_meaning.specs.Properties.{index_name}
use Rattle.widget_meaning.specs.NativeForms.{element}
use Rattle.widget_meaning.specs.JsonTexts.{Written, Wrote, NoJson, TooLong, Writer, and_write, element_text, elements_text, members_text, quoted_text, write}
use Rattle.object_store.specs.Owned.{OwnValue, own_pairs, own_value}
use Rattle.js_image.specs.Image.{meant, seen, seen_pairs}
use Rattle.json_text.specs.Names.{comma, name_text}

-- one after the other
and_then_write : (x : Written) (f g : List ℕ → Written) → and_write (and_write x f) g ≡ and_write x (λ t. and_write (f t) g)
and_then_write (Wrote t) f g = refl
and_then_write NoJson f g = refl
and_then_write TooLong f g = refl

module _ (one : Writer) where
  -- a member, and then the others
  pub member_then : (before x : List ℕ) (v : Value) (ps : Pairs) (t : List ℕ) → members_text one before ((x, v) ∷ ps) t ≡ and_write (and_write (write t (before ++ (quoted_text x ++ codes ":"))) (one v)) (members_text one (codes ",") ps)
  member_then before x v ps t = sym (and_then_write (write t (before ++ (quoted_text x ++ codes ":"))) (one v) (members_text one (codes ",") ps))

  -- a missing element is written as undefined is
  element_is : (o : Option Value) (t : List ℕ) → ((u : List ℕ) → one Undefined u ≡ NoJson) → element_text one o t ≡ one (unwrap_or o Undefined) t
  element_is None t h = sym (h t)
  element_is (Some v) t h = refl

  -- an element, and then the others
  pub element_then : (ps : Pairs) (before : List ℕ) (i n : ℕ) (t : List ℕ) → ((u : List ℕ) → one Undefined u ≡ NoJson) → elements_text one ps before i (suc n) t ≡ and_write (and_write (write t before) (one (element ps i))) (elements_text one ps (codes ",") (i + 1) n)
  element_then ps before i n t h =
      ap (and_write (write t before)) (λ j u. and_write (element_is (lookup ps (index_name i)) u h j) (elements_text one ps (codes ",") (i + 1) n))
      ∙ sym (and_then_write (write t before) (one (element ps i)) (elements_text one ps (codes ",") (i + 1) n))

-- the pairs from a place on
pub drop_there : {X : Type 0} (xs : List X) (i : ℕ) (x : X) → slice_get xs i ≡ Some x → drop i xs ≡ x ∷ drop (i + 1) xs
drop_there [] i x e = cc
drop_there (y ∷ xs) zero x e = let h : y ≡ x = cc in ap (λ z. z ∷ xs) h
drop_there (y ∷ xs) (suc i) x e = drop_there xs i x e ∙ ap (λ n. x ∷ drop n (y ∷ xs)) (next i)
  where
    next : (i : ℕ) → suc (i + 1) ≡ suc i + 1
    next i = omega arith

pub drop_past : {X : Type 0} (xs : List X) (i : ℕ) → slice_get xs i ≡ None → drop i xs ≡ []
drop_past [] zero e = refl
drop_past [] (suc i) e = refl
drop_past (y ∷ xs) zero e = cc
drop_past (y ∷ xs) (suc i) e = drop_past xs i e

pub got_mapped : {X Y : Type 0} (f : X → Y) (xs : List X) (i : ℕ) → slice_get (map f xs) i ≡ option_map f (slice_get xs i)
got_mapped f [] i = refl
got_mapped f (x ∷ xs) zero = refl
got_mapped f (x ∷ xs) (suc i) = got_mapped f xs i

-- the pairs that are written, one at a time
module _ (w : ℕ) (cells : List PlainCell) (one : Writer) (ps : List (List ℕ × StoreValue)) where
  abbrev pub rest : Bool → ℕ → List ℕ → Written
  rest first i t = members_text one (comma first) (drop i (seen_pairs w cells ps)) t

  abbrev pair : List ℕ × StoreValue → List ℕ × Value
  pair p = (p.0, seen w cells p.1)

  -- what stands at a place
  shown : (i : ℕ) → slice_get (seen_pairs w cells ps) i ≡ option_map pair (slice_get ps i)
  shown i = got_mapped (λ (p : List ℕ × OwnValue). (p.0, meant p.1)) (own_pairs w cells ps) i ∙ ap (option_map (λ (p : List ℕ × OwnValue). (p.0, meant p.1))) (got_mapped (λ (p : List ℕ × StoreValue). (p.0, own_value w cells p.1)) ps i) ∙ by (slice_get ps i)
    where
      by : (o : Option (List ℕ × StoreValue)) → option_map (λ (p : List ℕ × OwnValue). (p.0, meant p.1)) (option_map (λ (p : List ℕ × StoreValue). (p.0, own_value w cells p.1)) o) ≡ option_map pair o
      by None = refl
      by (Some p) = refl

  -- a member is written
  pub written : (first : Bool) (i : ℕ) (p : List ℕ × StoreValue) (t : List ℕ) (x : Written) → slice_get ps i ≡ Some p → x ≡ and_write (write t (name_text first p.0)) (one (seen w cells p.1))
      → rest first i t ≡ and_write x (rest false (i + 1))
  written first i p t x e h =
      ap (λ l. members_text one (comma first) l t) (drop_there (seen_pairs w cells ps) i (p.0, seen w cells p.1) (shown i ∙ ap (option_map pair) e))
      ∙ member_then one (comma first) p.0 (seen w cells p.1) (drop (i + 1) (seen_pairs w cells ps)) t
      ∙ ap (λ y. and_write y (rest false (i + 1))) (sym h)

  -- no pair is left
  pub ended : (first : Bool) (i : ℕ) (t : List ℕ) → slice_get ps i ≡ None → rest first i t ≡ write t (codes "}")
  ended first i t e = ap (λ l. members_text one (comma first) l t) (drop_past (seen_pairs w cells ps) i (shown i ∙ ap (option_map pair) e))
