-- The decimal text of a number is a name that is listed.
use Rattle.std.proofs.Common.{◌≡◌, ℕ, zero, suc, ◌+◌, ◌-◌, ◌/◌, ◌%◌, ◌<◌, ◌≤◌, List, [], ◌∷◌, refl, sym, ap, ◌∙◌, subst, arith, Bool, true, false, if◌then◌else◌, length, take, drop, not, slice_get, lt-ltb}
use Rattle.std.specs.Prelude.{IfSome, codes, nat_eq, ◌&&◌, ◌||◌, ◌==◌}
use Rattle.std.specs.Fmt.{decimal, digit_glyph, digits, digits_onto}
use Rattle.std.specs.List.{AllByRecursion, list_any}
use Rattle.std.specs.Str.{bytes_eq}
use Rattle.std.proofs.lemmas.Bool.Decides.{nat_tests}
use Rattle.code_units.specs.Permitted.{banned_names, has_edge_underscore, is_banned, is_permitted}

-- units that are digits
abbrev AreDigits : List ℕ → Type 0
AreDigits us = AllByRecursion (λ u. u ≤ 57) us

glyph : (d : ℕ) → d < 10 → digit_glyph false d ≤ 57
glyph d small = subst (λ g. g ≤ 57) (sym is) (omega (arith, small))
  where
    is : digit_glyph false d ≡ 48 + d
    is = λ j. if lt-ltb d 10 small j then 48 + d else 87 + d

onto : (k n : ℕ) (acc : List ℕ) → AreDigits acc → AreDigits (digits_onto k 10 false n acc)
onto zero n acc h = h
onto (suc k) n acc h =
    let more : AreDigits (digit_glyph false (n % 10) ∷ acc) = (glyph (n % 10) (omega arith), h) in
    either (n / 10 == 0) _ _ more (onto k (n / 10) _ more)
  where
    either : (b : Bool) (xs ys : List ℕ) → AreDigits xs → AreDigits ys → AreDigits (if b then xs else ys)
    either true xs ys p q = p
    either false xs ys p q = q

digits_are : (n : ℕ) → AreDigits (decimal n)
unfolding digits
digits_are n = onto 64 n [] tt

taken : (k : ℕ) (us : List ℕ) → AreDigits us → AreDigits (take k us)
taken zero us h = tt
taken (suc k) [] h = tt
taken (suc k) (u ∷ us) h = (h.0, taken k us h.1)

dropped : (k : ℕ) (us : List ℕ) → AreDigits us → AreDigits (drop k us)
dropped zero us h = h
dropped (suc k) [] h = tt
dropped (suc k) (u ∷ us) h = dropped k us h.1

-- it is no banned name, since these begin with letters
abbrev BeginsAbove : List ℕ → Type 0
BeginsAbove w = IfSome (slice_get w 0) (λ u. 57 < u)

above : AllByRecursion BeginsAbove banned_names
above = (omega arith, (omega arith, (omega arith, (omega arith, (omega arith, (omega arith, (omega arith, (omega arith, (omega arith, (omega arith, tt))))))))))

other : (d u : ℕ) → d ≤ 57 → 57 < u → nat_eq d u ≡ false
other d u low high = grind (arith, nat_tests, low, high)

apart : (d : ℕ) (ds w : List ℕ) → d ≤ 57 → BeginsAbove w → bytes_eq (d ∷ ds) w ≡ false
apart d ds [] low h = refl
apart d ds (u ∷ us) low h = ap (λ b. b && bytes_eq ds us) (other d u low h)

none_of : (d : ℕ) (ds : List ℕ) (ws : List (List ℕ)) → d ≤ 57 → AllByRecursion BeginsAbove ws → list_any (bytes_eq (d ∷ ds)) ws ≡ false
none_of d ds [] low h = refl
none_of d ds (w ∷ ws) low h = ap (λ b. b || list_any (bytes_eq (d ∷ ds)) ws) (apart d ds w low h.0) ∙ none_of d ds ws low h.1

no_word : (us : List ℕ) → AreDigits us → is_banned us ≡ false
unfolding is_banned
no_word [] h = refl
no_word (u ∷ us) h = none_of u us banned_names h.0 above

-- and has no `_`
no_line : (us : List ℕ) → AreDigits us → bytes_eq (codes "_") us ≡ false
no_line [] h = refl
no_line (u ∷ us) h = ap (λ b. b && bytes_eq [] us) (line u h.0)
  where
    line : (u : ℕ) → u ≤ 57 → nat_eq 95 u ≡ false
    line u low = grind (arith, nat_tests, low)

no_edge : (us : List ℕ) → AreDigits us → has_edge_underscore us ≡ false
unfolding has_edge_underscore
no_edge us h =
    ap (λ b. b || bytes_eq (codes "_") (drop (length us - 1) us)) (no_line (take 1 us) (taken 1 us h))
    ∙ no_line (drop (length us - 1) us) (dropped (length us - 1) us h)

permitted_index : (n : ℕ) → is_permitted (decimal n) ≡ true
permitted_index n = λ j. not (no_word (decimal n) (digits_are n) j) && not (no_edge (decimal n) (digits_are n) j)

-- nor is it `length`
no_length : (us : List ℕ) → AreDigits us → bytes_eq us (codes "length") ≡ false
no_length [] h = refl
no_length (u ∷ us) h = apart u us (codes "length") h.0 (omega arith)

pub index_no_length : (n : ℕ) → bytes_eq (decimal n) (codes "length") ≡ false
index_no_length n = no_length (decimal n) (digits_are n)

pub listed_index : (array : Bool) (n : ℕ) → (is_permitted (decimal n) && not (array && bytes_eq (decimal n) (codes "length"))) ≡ true
listed_index array n = (λ j. permitted_index n j && not (array && no_length (decimal n) (digits_are n) j)) ∙ by array
  where
    by : (b : Bool) → (true && not (b && false)) ≡ true
    by true = refl
    by false = refl
