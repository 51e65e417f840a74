-- Names each once, and which of them are listed.
use Rattle.std.proofs.Common.{◌≡◌, ℕ, Bool, true, false, ◌||◌, not, List, [], ◌∷◌, ◌++◌, refl, sym, ap, ◌∙◌, subst, cond, append-nil, true≢false}
use Rattle.std.specs.List.{AllByRecursion, IsDistinct, filter}
use Rattle.std.specs.Str.{bytes_eq}
use Rattle.std.proofs.lemmas.List.Folds.{list_any-append}
use Rattle.std.proofs.lemmas.Slice.Eq.{bytes_eq-Decides}
use Rattle.std.specs.Cmp.Lexicographic.{nat_list_eq_equiv}
use Rattle.widget_meaning.specs.Properties.{is_listed, listed}
use Rattle.widget_meaning.specs.Scopes.{distinct}

-- tests
or_none : (b : Bool) → (b || false) ≡ b
or_none true = refl
or_none false = refl

or_assoc : (a b c : Bool) → ((a || b) || c) ≡ (a || (b || c))
or_assoc true b c = refl
or_assoc false b c = refl

pub same_text : (x y : List ℕ) → bytes_eq x y ≡ true → x ≡ y
same_text x y e = (bytes_eq-Decides x y).0 e

pub eq_self : (x : List ℕ) → bytes_eq x x ≡ true
eq_self x = (bytes_eq-Decides x x).1 refl

pub eq_turned : (x y : List ℕ) → bytes_eq x y ≡ bytes_eq y x
eq_turned x y = nat_list_eq_equiv.symm x y

-- a name more, where it is new
pub one_more : (seen : List (List ℕ)) (x t : List ℕ) → is_listed (listed seen (x ∷ [])) t ≡ (is_listed seen t || bytes_eq t x)
one_more seen x t = list_any-append (bytes_eq t) seen (filter (λ y. not (is_listed seen y)) (x ∷ [])) ∙ by (is_listed seen x) refl (bytes_eq t x) refl
  where
    by : (l : Bool) → is_listed seen x ≡ l → (b : Bool) → bytes_eq t x ≡ b
        → (is_listed seen t || is_listed (cond (not l) (x ∷ []) []) t) ≡ (is_listed seen t || b)
    by false e b d = ap (λ q. is_listed seen t || q) (or_none (bytes_eq t x) ∙ d)
    by true e false d = refl
    by true e true d =
        let f : is_listed seen t ≡ true = ap (is_listed seen) (same_text t x d) ∙ e in
        ap (λ q. q || false) f ∙ sym (ap (λ q. q || true) f)

-- what is listed among names each once is what is listed among all
pub listed_once : (seen xs : List (List ℕ)) (t : List ℕ) → is_listed (distinct seen xs) t ≡ (is_listed seen t || is_listed xs t)
listed_once seen [] t = sym (or_none (is_listed seen t))
listed_once seen (x ∷ xs) t =
    listed_once (listed seen (x ∷ [])) xs t
    ∙ ap (λ q. q || is_listed xs t) (one_more seen x t)
    ∙ or_assoc (is_listed seen t) (bytes_eq t x) (is_listed xs t)

-- each of a list is listed
either_way : (a b : Bool) → b ≡ true → (a || b) ≡ true
either_way true b e = refl
either_way false b e = e

more_listed : (x : List ℕ) (xs ys : List (List ℕ)) → AllByRecursion (λ y. is_listed xs y ≡ true) ys → AllByRecursion (λ y. is_listed (x ∷ xs) y ≡ true) ys
more_listed x xs [] h = tt
more_listed x xs (y ∷ ys) h = (either_way (bytes_eq y x) (is_listed xs y) h.0, more_listed x xs ys h.1)

pub each_listed : (xs : List (List ℕ)) → AllByRecursion (λ y. is_listed xs y ≡ true) xs
each_listed [] = tt
each_listed (x ∷ xs) = (ap (λ q. q || is_listed xs x) (eq_self x), more_listed x xs xs (each_listed xs))

-- one list after another
pub distinct_append : (seen xs ys : List (List ℕ)) → distinct seen (xs ++ ys) ≡ distinct (distinct seen xs) ys
distinct_append seen [] ys = refl
distinct_append seen (x ∷ xs) ys = distinct_append (listed seen (x ∷ [])) xs ys

-- names each once differ
unlike_case : (x y : List ℕ) (ys : List (List ℕ)) (a : Bool) → bytes_eq x y ≡ a → (a || is_listed ys x) ≡ false
    → (is_listed ys x ≡ false → AllByRecursion (λ z. bytes_eq z x ≡ false) ys) → (bytes_eq y x ≡ false) × AllByRecursion (λ z. bytes_eq z x ≡ false) ys
unlike_case x y ys true e h r = absurd (true≢false h)
unlike_case x y ys false e h r = (eq_turned y x ∙ e, r h)

unlike : (x : List ℕ) (xs : List (List ℕ)) → is_listed xs x ≡ false → AllByRecursion (λ y. bytes_eq y x ≡ false) xs
unlike x [] h = tt
unlike x (y ∷ ys) h = unlike_case x y ys (bytes_eq x y) refl h (unlike x ys)

all_push : (y x : List ℕ) (xs : List (List ℕ)) → AllByRecursion (λ z. bytes_eq y z ≡ false) xs → bytes_eq y x ≡ false → AllByRecursion (λ z. bytes_eq y z ≡ false) (xs ++ x ∷ [])
all_push y x [] h e = (e, tt)
all_push y x (z ∷ xs) h e = (h.0, all_push y x xs h.1 e)

one_apart : (x : List ℕ) (xs : List (List ℕ)) → IsDistinct bytes_eq xs → AllByRecursion (λ y. bytes_eq y x ≡ false) xs → IsDistinct bytes_eq (xs ++ x ∷ [])
unfolding IsDistinct
one_apart x [] h k = (tt, tt)
one_apart x (y ∷ xs) h k = (all_push y x xs h.0 k.0, one_apart x xs h.1 k.1)

new_apart : (seen : List (List ℕ)) (x : List ℕ) → IsDistinct bytes_eq seen → IsDistinct bytes_eq (listed seen (x ∷ []))
new_apart seen x h = by (is_listed seen x) refl
  where
    by : (l : Bool) → is_listed seen x ≡ l → IsDistinct bytes_eq (seen ++ cond (not l) (x ∷ []) [])
    by true e = subst (IsDistinct bytes_eq) (sym (append-nil seen)) h
    by false e = one_apart x seen h (unlike x seen e)

pub apart : (seen xs : List (List ℕ)) → IsDistinct bytes_eq seen → IsDistinct bytes_eq (distinct seen xs)
apart seen [] h = h
apart seen (x ∷ xs) h = apart (listed seen (x ∷ [])) xs (new_apart seen x h)

pub none_apart : IsDistinct bytes_eq []
unfolding IsDistinct
none_apart = tt
