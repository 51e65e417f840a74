-- Bytes that grow, item by item.
use Rattle.std.proofs.Common.{◌≡◌, ℕ, ◌+◌, ◌<◌, ◌≤◌, List, ◌++◌, length, take, get_or, sym, ap, subst, ◌∙◌, append_assoc}
use Rattle.std.proofs.lemmas.List.{flat_map_more, take_more, take_all}
use Rattle.std.specs.List.{flat_map}
use Rattle.std.specs.Prelude.{Result, Ok, Err, OnErr}
use Rattle.reach_cert.specs.Appended.{Grows}

-- what holds after an error
pub on_err : {A E P : Type 0} (r : Result A E) → P → OnErr r P
on_err (Ok x) p = tt
on_err (Err e) p = p

-- what was appended to bytes that grew
pub grown : (old mid new text : List ℕ) → mid ≡ old ++ text → Grows mid new → Grows old new
grown old mid new text e g = record { made = text ++ g.made; appended = g.appended ∙ ap (λ l. l ++ g.made) e ∙ append_assoc old text g.made }

-- the text of one item more
pub more_item : {X : Type 0} (f : X → List ℕ) (xs : List X) (i : ℕ) (x : X) (old mid new : List ℕ) → i < length xs → x ≡ get_or xs i x → mid ≡ old ++ flat_map f (take i xs) → new ≡ mid ++ f x → new ≡ old ++ flat_map f (take (i + 1) xs)
more_item f xs i x old mid new within is before more =
    subst (λ y. new ≡ mid ++ f y) is more ∙ ap (λ l. l ++ f (get_or xs i x)) before ∙ flat_map_more f old (take i xs) (get_or xs i x)
    ∙ ap (λ l. old ++ flat_map f l) (sym (take_more xs i x within))

-- the text of all items
pub all_items : {X : Type 0} (f : X → List ℕ) (xs : List X) (i : ℕ) (old new : List ℕ) → length xs ≤ i → new ≡ old ++ flat_map f (take i xs) → new ≡ old ++ flat_map f xs
all_items f xs i old new past before = before ∙ ap (λ l. old ++ flat_map f l) (take_all i xs past)
