-- Lists with an element changed, or with one more.
use Rattle.std.proofs.Common.{◌≡◌, ℕ, zero, suc, ◌+◌, ◌<◌, ◌≤◌, List, [], ◌∷◌, ◌++◌, length, map, refl, sym, ap, ◌∙◌, subst, Some, None, arith, Bool, true, false, if◌then◌else◌, slice_get, slice_set, cond, filter, take}
use Rattle.std.specs.Prelude.{Result, Ok, Err, OnOk}
use Rattle.std.specs.Option.{option_map}
use Rattle.std.specs.List.{count_by}
use Rattle.std.proofs.lemmas.List.Sums.{length-filter}
use Rattle.store_cells.specs.Lists.{changed, count_before}

pub none_some : {X : Type 0} {x : X} → None ≡ Some x → ⊥
none_some e = cc

pub some_same : {X : Type 0} (x y : X) → Some x ≡ Some y → x ≡ y
some_same x y e = cc

-- a change of an element that is read
pub changed_here : {X : Type 0} (xs : List X) (i : ℕ) (f : X → X) → slice_get (changed xs i f) i ≡ option_map f (slice_get xs i)
changed_here [] i f = refl
changed_here (x ∷ xs) zero f = refl
changed_here (x ∷ xs) (suc i) f = changed_here xs i f

pub changed-set : {X : Type 0} (xs : List X) (i : ℕ) (x : X) (f : X → X) → slice_get xs i ≡ Some x → slice_set xs i (f x) ≡ changed xs i f
changed-set [] i x f e = refl
changed-set (y ∷ xs) zero x f e = ap (λ z. f z ∷ xs) (sym (some_same y x e))
changed-set (y ∷ xs) (suc i) x f e = ap (λ l. y ∷ l) (changed-set xs i x f e)

pub changed_past : {X : Type 0} (xs : List X) (i : ℕ) (f : X → X) → slice_get xs i ≡ None → changed xs i f ≡ xs
changed_past [] i f e = refl
changed_past (y ∷ xs) zero f e = absurd (none_some (sym e))
changed_past (y ∷ xs) (suc i) f e = ap (λ l. y ∷ l) (changed_past xs i f e)

pub write_ok : {X E : Type 0} (r : Result (Unit {0}) E) (xs : List X) (i : ℕ) (x y : X) (f : X → X) → slice_get xs i ≡ Some x → OnOk r (y ≡ f x) → OnOk r (slice_set xs i y ≡ changed xs i f)
write_ok (Ok u) xs i x y f at e = ap (λ z. slice_set xs i z) e ∙ changed-set xs i x f at
write_ok (Err u) xs i x y f at e = tt

pub set_is : {X : Type 0} (xs : List X) (i : ℕ) (x y : X) (f : X → X) → slice_get xs i ≡ Some x → y ≡ f x → slice_set xs i y ≡ changed xs i f
set_is xs i x y f at e = ap (λ z. slice_set xs i z) e ∙ changed-set xs i x f at

pub length-changed : {X : Type 0} (xs : List X) (i : ℕ) (f : X → X) → length (changed xs i f) ≡ length xs
length-changed [] i f = refl
length-changed (x ∷ xs) zero f = refl
length-changed (x ∷ xs) (suc i) f = ap suc (length-changed xs i f)

pub changed_twice : {X : Type 0} (xs : List X) (i : ℕ) (f g : X → X) → changed (changed xs i f) i g ≡ changed xs i (λ x. g (f x))
changed_twice [] i f g = refl
changed_twice (x ∷ xs) zero f g = refl
changed_twice (x ∷ xs) (suc i) f g = ap (λ l. x ∷ l) (changed_twice xs i f g)

-- two changes that do the same to the element
pub changed_alike : {X : Type 0} (xs : List X) (i : ℕ) (f g : X → X) → ((x : X) → slice_get xs i ≡ Some x → f x ≡ g x) → changed xs i f ≡ changed xs i g
changed_alike [] i f g h = refl
changed_alike (x ∷ xs) zero f g h = ap (λ y. y ∷ xs) (h x refl)
changed_alike (x ∷ xs) (suc i) f g h = ap (λ l. x ∷ l) (changed_alike xs i f g h)

pub map-changed : {X Y : Type 0} (m : X → Y) (xs : List X) (i : ℕ) (f : X → X) (g : Y → Y) → ((x : X) → slice_get xs i ≡ Some x → m (f x) ≡ g (m x)) → map m (changed xs i f) ≡ changed (map m xs) i g
map-changed m [] i f g h = refl
map-changed m (x ∷ xs) zero f g h = ap (λ y. y ∷ map m xs) (h x refl)
map-changed m (x ∷ xs) (suc i) f g h = ap (λ l. m x ∷ l) (map-changed m xs i f g h)

-- a change that a map does not show
pub map-unchanged : {X Y : Type 0} (m : X → Y) (xs : List X) (i : ℕ) (f : X → X) → ((x : X) → m (f x) ≡ m x) → map m (changed xs i f) ≡ map m xs
map-unchanged m [] i f h = refl
map-unchanged m (x ∷ xs) zero f h = ap (λ y. y ∷ map m xs) (h x)
map-unchanged m (x ∷ xs) (suc i) f h = ap (λ l. m x ∷ l) (map-unchanged m xs i f h)

-- one more element
pub get_older : {X : Type 0} (xs : List X) (x : X) (i : ℕ) → i < length xs → slice_get (xs ++ x ∷ []) i ≡ slice_get xs i
get_older [] x i lt = absurd (omega (arith, lt))
get_older (y ∷ xs) x zero lt = refl
get_older (y ∷ xs) x (suc i) lt = get_older xs x i (omega (arith, lt))

pub get_within : {X : Type 0} (xs : List X) (i : ℕ) (x : X) → slice_get xs i ≡ Some x → i < length xs
get_within [] i x e = absurd (none_some e)
get_within (y ∷ xs) zero x e = omega arith
get_within (y ∷ xs) (suc i) x e = omega (arith, get_within xs i x e)

-- an element of the longer list is one of the shorter, or the new one
pub by_push : {X : Type 0} (xs : List X) (x : X) (P : ℕ → X → Type 0) → ((i : ℕ) (y : X) → slice_get xs i ≡ Some y → P i y) → P (length xs) x → (i : ℕ) (y : X) → slice_get (xs ++ x ∷ []) i ≡ Some y → P i y
by_push [] x P old new zero y e = subst (λ z. P 0 z) (some_same x y e) new
by_push [] x P old new (suc i) y e = absurd (none_some e)
by_push (z ∷ xs) x P old new zero y e = old zero y e
by_push (z ∷ xs) x P old new (suc i) y e = by_push xs x (λ k w. P (suc k) w) (λ k w g. old (suc k) w g) new i y e

-- what a map gives of the elements that pass, with one more element before them
pub same_rest : {X Y : Type 0} (g : X → Y) (p : X → Bool) (x : X) (xs ys : List X) → map g (filter p xs) ≡ map g (filter p ys) → map g (filter p (x ∷ xs)) ≡ map g (filter p (x ∷ ys))
same_rest g p x xs ys e = by (p x)
  where
    by : (b : Bool) → map g (cond b (x ∷ filter p xs) (filter p xs)) ≡ map g (cond b (x ∷ filter p ys) (filter p ys))
    by true = ap (λ l. g x ∷ l) e
    by false = e

-- a count of one more element
pub count_step : {X : Type 0} (p : X → Bool) (x : X) (xs : List X) → count_by p (x ∷ xs) ≡ (if p x then suc (count_by p xs) else count_by p xs)
count_step p x xs = sym (length-filter p (x ∷ xs)) ∙ by (p x) ∙ ap (λ n. if p x then suc n else n) (length-filter p xs)
  where
    by : (b : Bool) → length (cond b (x ∷ filter p xs) (filter p xs)) ≡ (if b then suc (length (filter p xs)) else length (filter p xs))
    by true = refl
    by false = refl

pub count_more : {X Y : Type 0} (p : X → Bool) (q : Y → Bool) (x : X) (y : Y) (xs : List X) (ys : List Y) → p x ≡ q y → count_by p xs ≡ count_by q ys → count_by p (x ∷ xs) ≡ count_by q (y ∷ ys)
count_more p q x y xs ys e h = count_step p x xs ∙ (λ j. if e j then suc (h j) else h j) ∙ sym (count_step q y ys)

pub count_before-push : {X : Type 0} (p : X → Bool) (xs : List X) (x : X) (i : ℕ) → i ≤ length xs → count_before p (xs ++ x ∷ []) i ≡ count_before p xs i
count_before-push p [] x zero le = refl
count_before-push p [] x (suc i) le = absurd (omega (arith, le))
count_before-push p (y ∷ xs) x zero le = refl
count_before-push p (y ∷ xs) x (suc i) le = count_more p p y y (take i (xs ++ x ∷ [])) (take i xs) refl (count_before-push p xs x i (omega (arith, le)))

pub count_before-all : {X : Type 0} (p : X → Bool) (xs : List X) → count_before p xs (length xs) ≡ count_by p xs
count_before-all p [] = refl
count_before-all p (x ∷ xs) = count_more p p x x (take (length xs) xs) xs refl (count_before-all p xs)

pub count_before-map : {X Y : Type 0} (p : Y → Bool) (m : X → Y) (xs : List X) (i : ℕ) → count_before p (map m xs) i ≡ count_before (λ x. p (m x)) xs i
count_before-map p m [] zero = refl
count_before-map p m [] (suc i) = refl
count_before-map p m (x ∷ xs) zero = refl
count_before-map p m (x ∷ xs) (suc i) = count_more p (λ y. p (m y)) (m x) x (take i (map m xs)) (take i xs) refl (count_before-map p m xs i)

pub count_by-push : {X : Type 0} (p : X → Bool) (xs : List X) (x : X) → count_by p (xs ++ x ∷ []) ≡ count_by p xs + (if p x then 1 else 0)
count_by-push p [] x = refl
count_by-push p (y ∷ xs) x = count_step p y (xs ++ x ∷ []) ∙ by (p y) (if p x then 1 else 0) (count_by-push p xs x) ∙ ap (λ n. n + (if p x then 1 else 0)) (sym (count_step p y xs))
  where
    by : (b : Bool) (n : ℕ) → count_by p (xs ++ x ∷ []) ≡ count_by p xs + n → (if b then suc (count_by p (xs ++ x ∷ [])) else count_by p (xs ++ x ∷ [])) ≡ (if b then suc (count_by p xs) else count_by p xs) + n
    by true n e = omega (arith, e)
    by false n e = e

-- more elements
pub get_first : {X : Type 0} (xs ys : List X) (i : ℕ) → i < length xs → slice_get (xs ++ ys) i ≡ slice_get xs i
get_first [] ys i lt = absurd (omega (arith, lt))
get_first (x ∷ xs) ys zero lt = refl
get_first (x ∷ xs) ys (suc i) lt = get_first xs ys i (omega (arith, lt))

pub count_before-append : {X : Type 0} (p : X → Bool) (xs ys : List X) (i : ℕ) → i ≤ length xs → count_before p (xs ++ ys) i ≡ count_before p xs i
count_before-append p [] [] zero le = refl
count_before-append p [] (y ∷ ys) zero le = refl
count_before-append p [] ys (suc i) le = absurd (omega (arith, le))
count_before-append p (x ∷ xs) ys zero le = refl
count_before-append p (x ∷ xs) ys (suc i) le = count_more p p x x (take i (xs ++ ys)) (take i xs) refl (count_before-append p xs ys i (omega (arith, le)))
