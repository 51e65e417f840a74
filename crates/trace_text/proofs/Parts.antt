-- Texts of which a part was appended.
use Rattle.std.proofs.Common.{◌≡◌, ℕ, ◌+◌, ◌<◌, ◌≤◌, List, [], ◌++◌, length, take, drop, get_or, refl, sym, ap, subst, ◌∙◌, append_assoc, append-nil, arith}
use Rattle.std.proofs.lemmas.List.{drop_more, flat_map_more, take_more, take_all, take-append-drop}
use Rattle.std.proofs.lemmas.Grind.{flat_map-append}
use Rattle.std.specs.List.{flat_map}
use Rattle.std.specs.Prelude.{Result, Ok, Err, OnOk}
use Rattle.code_units.specs.declared.memory.Memory.{Memory}
use Rattle.trace_text.specs.Report.{AppendsPart}

-- nothing is a part
pub no_part : (old new text : List ℕ) → new ≡ old → AppendsPart old new text
no_part old new text same = record { part = []; rest = text; whole = refl; appended = same ∙ sym (append-nil old) }

-- the texts of some items are those before one, its own, and those after it
split_at : {X : Type 0} (f : X → List ℕ) (xs : List X) (i : ℕ) (d : X) → i < length xs → flat_map f xs ≡ flat_map f (take i xs) ++ (f (get_or xs i d) ++ flat_map f (drop (i + 1) xs))
split_at f xs i d within =
    ap (flat_map f) (sym (take-append-drop i xs)) ∙ flat_map-append f (take i xs) (drop i xs)
    ∙ ap (λ rest. flat_map f (take i xs) ++ flat_map f rest) (drop_more xs i d within)

-- a part of the text of one item, after those before it, is a part of the texts of all
pub part_so_far : {X : Type 0} (f : X → List ℕ) (xs : List X) (i : ℕ) (d : X) (old mid new : List ℕ) → i < length xs → mid ≡ old ++ flat_map f (take i xs) → AppendsPart mid new (f (get_or xs i d)) → AppendsPart old new (flat_map f xs)
part_so_far f xs i d old mid new within before part =
    record {
      part = flat_map f (take i xs) ++ part.part;
      rest = part.rest ++ flat_map f (drop (i + 1) xs);
      whole = split_at f xs i d within ∙ grind (arith, append_assoc, part.whole);
      appended = part.appended ∙ ap (λ held. held ++ part.part) before ∙ append_assoc old (flat_map f (take i xs)) part.part;
    }

-- a part of what comes first is a part of the whole
pub first_part : (old new a b : List ℕ) → AppendsPart old new a → AppendsPart old new (a ++ b)
first_part old new a b part =
    record {
      part = part.part;
      rest = part.rest ++ b;
      whole = grind (arith, append_assoc, part.whole);
      appended = part.appended;
    }

-- what comes first, and a part of what follows, is a part of the whole
pub later_part : (old mid new a b : List ℕ) → mid ≡ old ++ a → AppendsPart mid new b → AppendsPart old new (a ++ b)
later_part old mid new a b before part =
    record {
      part = a ++ part.part;
      rest = part.rest;
      whole = grind (arith, append_assoc, part.whole);
      appended = part.appended ∙ ap (λ held. held ++ part.part) before ∙ append_assoc old a part.part;
    }

-- the same where the item is named
pub part_item : {X : Type 0} (f : X → List ℕ) (xs : List X) (i : ℕ) (x : X) (old mid new : List ℕ) → i < length xs → x ≡ get_or xs i x → mid ≡ old ++ flat_map f (take i xs) → AppendsPart mid new (f x) → AppendsPart old new (flat_map f xs)
part_item f xs i x old mid new within is before part = part_so_far f xs i x old mid new within before (subst (λ y. AppendsPart mid new (f y)) is part)

-- the text of one item more
pub more_so_far : {X : Type 0} (f : X → List ℕ) (xs : List X) (i : ℕ) (d : X) (old mid new : List ℕ) → i < length xs → mid ≡ old ++ flat_map f (take i xs) → new ≡ mid ++ f (get_or xs i d) → new ≡ old ++ flat_map f (take (i + 1) xs)
more_so_far f xs i d old mid new within before more =
    more ∙ ap (λ held. held ++ f (get_or xs i d)) before ∙ flat_map_more f old (take i xs) (get_or xs i d)
    ∙ ap (λ front. old ++ flat_map f front) (sym (take_more xs i d within))

-- the same where the item is named
pub more_item : {X : Type 0} (f : X → List ℕ) (xs : List X) (i : ℕ) (x : X) (old mid new : List ℕ) → i < length xs → x ≡ get_or xs i x → mid ≡ old ++ flat_map f (take i xs) → new ≡ mid ++ f x → new ≡ old ++ flat_map f (take (i + 1) xs)
more_item f xs i x old mid new within is before more = more_so_far f xs i x old mid new within before (subst (λ y. new ≡ mid ++ f y) is more)

-- the text of all items
pub all_so_far : {X : Type 0} (f : X → List ℕ) (xs : List X) (i : ℕ) (old new : List ℕ) → length xs ≤ i → new ≡ old ++ flat_map f (take i xs) → new ≡ old ++ flat_map f xs
all_so_far f xs i old new past before = before ∙ ap (λ front. old ++ flat_map f front) (take_all i xs past)

-- the whole text is a part
pub whole_part : (old new text : List ℕ) → new ≡ old ++ text → AppendsPart old new text
whole_part old new text same = record { part = text; rest = []; whole = sym (append-nil text); appended = same }

-- a text and the one behind it
pub both_parts : (old mid new a b : List ℕ) (result : Result (Unit {0}) Memory) → mid ≡ old ++ a → OnOk result (new ≡ mid ++ b) → OnOk result (new ≡ old ++ (a ++ b))
both_parts old mid new a b (Ok x) before then = then ∙ ap (λ held. held ++ b) before ∙ append_assoc old a b
both_parts old mid new a b (Err e) before then = then
