-- The host's cells are given their properties.
use Rattle.std.proofs.Common.{◌≡◌, ℕ, zero, suc, ◌+◌, ◌<◌, List, [], ◌∷◌, length, map, get_or, take, refl, sym, ap, ◌∙◌, subst, Some, arith, Bool, true, false, if◌then◌else◌, slice_get}
use Rattle.std.specs.Prelude.{◌&&◌, not, nat_lt, Result, Ok, Err, OnErr, OnOk}
use Rattle.std.specs.List.{list_all, fold}
use Rattle.std.specs.Str.{bytes_eq}
use Rattle.std.specs.Option.{option_map}
use Rattle.std.proofs.lemmas.List.{length-map}
use Rattle.std.proofs.lemmas.Bool.Decides.{nat_tests}
use Rattle.store_cells.specs.declared.value.Value.{Value}
use Rattle.store_cells.specs.declared.cell.Head.{Head}
use Rattle.store_cells.specs.declared.cell.Write.TheVariants as write
use Rattle.code_units.specs.Indices.{index_of}
use Rattle.store_cells.specs.Cells.{PlainCell, is_array}
use Rattle.store_cells.specs.Arrays.{length_name, length_in}
use Rattle.property_names.specs.Seen.{HasWords}
use Rattle.store_cells.specs.Shape.{AreWords, IsBase, Kept}
use Rattle.store_cells.specs.Numbered.{Grown, NumberedCell, heads, plan_of, element_plan, numbered_length}
use Rattle.store_table.specs.Bare.{no_arrays, with_gifts}
use Rattle.store_table.specs.Bare.{Gift}
use Rattle.store_cells.proofs.Lists.{none_some, some_same}
use Rattle.store_cells.proofs.Heads.{head_at}

false_true : false ≡ true → ⊥
false_true g = cc

pub first_and : (a b : Bool) → (a && b) ≡ true → a ≡ true
first_and true b e = refl
first_and false b e = e

pub second_and : (a b : Bool) → (a && b) ≡ true → b ≡ true
second_and true b e = e
second_and false b e = absurd (false_true e)

-- what holds of all holds of each
pub all_at : {X : Type 0} (p : X → Bool) (xs : List X) (i : ℕ) (x : X) → list_all p xs ≡ true → slice_get xs i ≡ Some x → p x ≡ true
all_at p [] i x h e = absurd (none_some e)
all_at p (y ∷ xs) zero x h e = subst (λ z. p z ≡ true) (some_same y x e) (first_and (p y) (list_all p xs) h)
all_at p (y ∷ xs) (suc i) x h e = all_at p xs i x (second_and (p y) (list_all p xs) h) e

pub all_get : {X : Type 0} (p : X → Bool) (xs : List X) (i : ℕ) (d : X) → list_all p xs ≡ true → i < length xs → p (get_or xs i d) ≡ true
all_get p [] i d h lt = absurd (omega (arith, lt))
all_get p (y ∷ xs) zero d h lt = first_and (p y) (list_all p xs) h
all_get p (y ∷ xs) (suc i) d h lt = all_get p xs i d (second_and (p y) (list_all p xs) h) (omega (arith, lt))

not_true : (b : Bool) → not b ≡ true → b ≡ false
not_true true e = sym e
not_true false e = refl

-- a write to a cell that is no Array
pub plain_plan : (cs : List NumberedCell) (name : List ℕ) (v : Value) → no_arrays (heads cs) ≡ true → (i : ℕ) (c : NumberedCell) → slice_get cs i ≡ Some c → plan_of name v c ≡ Some (write.Own 0)
plain_plan cs name v h i c at =
    let e : is_array c.head.form ≡ false = not_true (is_array c.head.form) (all_at (λ (x : Head). not (is_array x.form)) (heads cs) i c.head h (head_at cs i c at)) in
    ap (λ b. if b then (if bytes_eq name length_name then option_map (λ n. write.Length n) (length_in v) else Some (element_plan (numbered_length c.entries) (index_of name))) else Some (write.Own 0)) e

pub lt_true : (m n : ℕ) → nat_lt m n ≡ true → m < n
lt_true m n e = grind (arith, nat_tests, e)

-- the first two names
pub are_words : (names : List (List ℕ)) → HasWords names → AreWords names
are_words names has = record { length = has.0; nodes = has.1 }

-- rows that fit
pub pairs_fit : {X : Type 0} (f g : X → ℕ) (n : ℕ) (xs : List X) → list_all (λ x. nat_lt (f x) n && nat_lt (g x) n) xs ≡ true → (k : ℕ) (d : X) → k < length xs → (f (get_or xs k d) < n) × (g (get_or xs k d) < n)
pairs_fit f g n xs h k d lt =
    let e = all_get (λ x. nat_lt (f x) n && nat_lt (g x) n) xs k d h lt in
    (lt_true (f (get_or xs k d)) n (first_and (nat_lt (f (get_or xs k d)) n) (nat_lt (g (get_or xs k d)) n) e), lt_true (g (get_or xs k d)) n (second_and (nat_lt (f (get_or xs k d)) n) (nat_lt (g (get_or xs k d)) n) e))

pub same_length : (a b : List NumberedCell) → heads a ≡ heads b → length a ≡ length b
same_length a b e = sym (length-map a (λ c. c.head)) ∙ ap length e ∙ length-map b (λ c. c.head)

fold_suc : {X Y Z : Type 0} (g : Z → Y → Z) (f : X → Y) (z : Z) (xs : List X) (k : ℕ) (d : X) → k < length xs → fold g z (map f (take (suc k) xs)) ≡ g (fold g z (map f (take k xs))) (f (get_or xs k d))
fold_suc g f z [] k d lt = absurd (omega (arith, lt))
fold_suc g f z (x ∷ xs) zero d lt = refl
fold_suc g f z (x ∷ xs) (suc k) d lt = fold_suc g f (g z (f x)) xs k d (omega (arith, lt))

pub fold_more : {X Y Z : Type 0} (g : Z → Y → Z) (f : X → Y) (z : Z) (xs : List X) (k : ℕ) (d : X) → k < length xs → fold g z (map f (take (k + 1) xs)) ≡ g (fold g z (map f (take k xs))) (f (get_or xs k d))
fold_more g f z xs k d lt = let e : k + 1 ≡ suc k = omega arith in ap (λ n. fold g z (map f (take n xs))) e ∙ fold_suc g f z xs k d lt

-- an answer, further on
pub on_ok_then : {X E Y : Type 0} (r : Result X E) (a b d : Y) → OnOk r (a ≡ b) → b ≡ d → OnOk r (a ≡ d)
on_ok_then (Ok x) a b d e g = e ∙ g
on_ok_then (Err x) a b d e g = tt

-- an answer whose premise holds
pub on_ok_given : {X E A : Type 0} (B : Type 0) (r : Result X E) → A → OnOk r (A → B) → OnOk r B
on_ok_given B (Ok x) a f = f a
on_ok_given B (Err e) a f = tt

-- what holds in any case, where it is asked of a refusal
pub on_err : {X E Y : Type 0} (r : Result X E) → Y → OnErr r Y
on_err (Ok x) y = tt
on_err (Err e) y = y

-- nothing is done
pub kept_as_is : (names : List (List ℕ)) (cs : List NumberedCell) → IsBase names cs → Kept names cs names cs
kept_as_is names cs base = record { done = refl; base = base; heads = refl }

pub grown_same : (names : List (List ℕ)) → Grown names names
grown_same names = record {
  longer = omega arith;
  kept = λ k lt. refl;
}

-- gifts to the same cells
pub gifts_then : (x : List PlainCell) (a b : List Gift) (y z : List PlainCell) → x ≡ with_gifts a b y → y ≡ z → x ≡ with_gifts a b z
gifts_then x a b y z e g = e ∙ ap (with_gifts a b) g

pub rows_fit : {X : Type 0} (f g : X → ℕ) (xs : List X) (m n : ℕ) → m ≡ n → list_all (λ x. nat_lt (f x) n && nat_lt (g x) n) xs ≡ true → list_all (λ x. nat_lt (f x) m && nat_lt (g x) m) xs ≡ true
rows_fit f g xs m n e h = subst (λ k. list_all (λ x. nat_lt (f x) k && nat_lt (g x) k) xs ≡ true) (sym e) h
