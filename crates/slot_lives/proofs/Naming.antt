-- Slots by their names.
use Rattle.std.proofs.Common.{◌≡◌, ℕ, zero, suc, ◌<◌, Bool, true, false, if◌then◌else◌, nat_eq, List, [], ◌∷◌, ◌++◌, map, length, get_or, slice_get, Some, refl, sym, ◌∙◌, ap, arith}
use Rattle.std.specs.Str.{bytes_eq}
use Rattle.std.proofs.lemmas.Bool.Decides.{nat_tests}
use Rattle.std.proofs.lemmas.List.Elements.{All-head, All-tail}
use Rattle.std.proofs.lemmas.Slice.Eq.{bytes_eq-Decides}
use Rattle.trace_reader.specs.Said.{an_event, an_advance, a_swap}
use Rattle.widget_meaning.specs.Items.{Item, Occurs, Advance, Event}
use Rattle.widget_meaning.specs.Alone.{delivered}
use Rattle.slot_lives.specs.Lives.{given_to}
use Rattle.slot_lives.specs.Names.{given_by, AreApart, IsWithin, SameDelivered}

name_there : (names : List (List ℕ)) (v : ℕ) → v < length names → slice_get names v ≡ Some (get_or names v [])
name_there [] v within = absurd (omega (arith, within))
name_there (n ∷ ns) zero within = refl
name_there (n ∷ ns) (suc v) within = name_there ns v (omega (arith, within))

same_test : (a b : Bool) → (a ≡ true → b ≡ true) → (b ≡ true → a ≡ true) → a ≡ b
same_test true b there back = sym (there refl)
same_test false true there back = back refl
same_test false false there back = refl

some_name : (x y : List ℕ) → Some x ≡ Some y → x ≡ y
some_name x y e = cc

test_same : (v w : ℕ) → v ≡ w → nat_eq v w ≡ true
test_same v w same = grind (arith, nat_tests)

same_tested : (v w : ℕ) → nat_eq v w ≡ true → v ≡ w
same_tested v w on = grind (arith, nat_tests)

-- the name of a slot is that of another exactly where the slots are the same
by_name : (names : List (List ℕ)) (v w : ℕ) (x : List ℕ) → AreApart names → v < length names → slice_get names w ≡ Some x → bytes_eq (get_or names v []) x ≡ nat_eq v w
by_name names v w x apart within there =
    let y : List ℕ = get_or names v [] in
    let here : slice_get names v ≡ Some y = name_there names v within in
    same_test (bytes_eq y x) (nat_eq v w)
    (λ on. test_same v w (apart v w x (here ∙ ap Some ((bytes_eq-Decides y x).0 on)) there))
    (λ on. (bytes_eq-Decides y x).1 (some_name y x (sym here ∙ ap (slice_get names) (same_tested v w on) ∙ there)))

one_event : (b c : Bool) (e : Event) (is js : List Item) → b ≡ c → is ≡ js → (if b then Occurs e ∷ is else is) ≡ (if c then Occurs e ∷ [] else []) ++ js
one_event true true e is js same rest = ap (λ (xs : List Item). Occurs e ∷ xs) rest
one_event false false e is js same rest = rest
one_event true false e is js same rest = cc
one_event false true e is js same rest = cc

pub same_delivered : SameDelivered
same_delivered names [] w x apart all there = refl
same_delivered names (an_event to kind path value ∷ items) w x apart all there =
    one_event (bytes_eq (get_or names to []) x) (nat_eq to w) (record { kind = kind; path = path; value = value }) (delivered (map (given_by names) items) x) (given_to w items)
    (by_name names to w x apart (All-head (IsWithin (length names)) (an_event to kind path value) items all) there)
    (same_delivered names items w x apart (All-tail (IsWithin (length names)) (an_event to kind path value) items all) there)
same_delivered names (an_advance ms ∷ items) w x apart all there =
    ap (λ (xs : List Item). Advance ms ∷ xs) (same_delivered names items w x apart (All-tail (IsWithin (length names)) (an_advance ms) items all) there)
same_delivered names (a_swap to file ∷ items) w x apart all there = same_delivered names items w x apart (All-tail (IsWithin (length names)) (a_swap to file) items all) there
