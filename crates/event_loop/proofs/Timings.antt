-- Timers, handlers and walks, one by one.
use Rattle.std.proofs.Common.{◌≡◌, ℕ, zero, suc, ◌<◌, ◌≤◌, List, [], ◌∷◌, Bool, true, false, refl, sym, ap, ◌∙◌, length, get_or, cond, eqb, not, arith}
use Rattle.std.specs.Prelude.{remove, insert}
use Rattle.std.specs.List.{filter}
use Rattle.std.specs.List.Retain.{IsFiltered}
use Rattle.std.specs.Str.{bytes_eq}
use Rattle.std.proofs.lemmas.Bool.{le-leb, lt-leb}
use Rattle.std.proofs.lemmas.Fn.{filter_same}
use Rattle.event_loop.specs.declared.timers.Timer.{Timer}
use Rattle.event_loop.specs.Timers.{without_due, put_by_due}

pub left_retained : {F : Type 0} (R : F → List ℕ × ℕ → Bool → F → Type 0) (kind : List ℕ) (f : F) → ((x : List ℕ × ℕ) (b : Bool) (g : F) → R f x b g → (b ≡ not (bytes_eq (x.0) kind)) × (g ≡ f)) → (xs ys : List (List ℕ × ℕ)) → IsFiltered R f xs ys → ys ≡ filter (λ h. not (bytes_eq (h.0) kind)) xs
left_retained R kind f says xs ys h = filter_same R (λ h. not (bytes_eq (h.0) kind)) f says xs ys h

-- the first that is due then
pub first_due : (d : ℕ) (xs : List Timer) (i : ℕ) (x : Timer) → i < length xs → x ≡ get_or xs i x → ((j : ℕ) → j < i → (y : Timer) → eqb (get_or xs j y).at d ≡ false) → eqb x.at d ≡ true → remove xs i ≡ without_due d xs
first_due d [] i x lt e none h = absurd (omega (arith, lt))
first_due d (y ∷ xs) zero x lt e none h = sym (ap (λ b. cond b xs (y ∷ without_due d xs)) (ap (λ (z : Timer). eqb z.at d) (sym e) ∙ h))
first_due d (y ∷ xs) (suc i) x lt e none h =
    ap (λ l. y ∷ l) (first_due d xs i x (omega (arith, lt)) e (λ j lj z. none (suc j) (omega (arith, lj)) z) h)
    ∙ sym (ap (λ b. cond b xs (y ∷ without_due d xs)) (none 0 (omega arith) y))

pub none_due : (d : ℕ) (xs : List Timer) → ((j : ℕ) → j < length xs → (y : Timer) → eqb (get_or xs j y).at d ≡ false) → xs ≡ without_due d xs
none_due d [] none = refl
none_due d (y ∷ xs) none =
    ap (λ l. y ∷ l) (none_due d xs (λ j lj z. none (suc j) (omega (arith, lj)) z))
    ∙ sym (ap (λ b. cond b xs (y ∷ without_due d xs)) (none 0 (omega arith) y))

pub without_fewer : (d : ℕ) (xs : List Timer) → length (without_due d xs) ≤ length xs
without_fewer d [] = omega arith
without_fewer d (x ∷ xs) = by_test (eqb x.at d) (without_fewer d xs)
  where
    by_test : (b : Bool) → length (without_due d xs) ≤ length xs → length (cond b xs (x ∷ without_due d xs)) ≤ length (x ∷ xs)
    by_test true h = omega arith
    by_test false h = omega (arith, h)

-- ## In order

-- a timer is put at the first place where one is not due earlier
pub put_at : (t : Timer) (xs : List Timer) (i : ℕ) → i ≤ length xs → ((j : ℕ) → j < i → (y : Timer) → (get_or xs j y).at < t.at) → (i < length xs → (y : Timer) → t.at ≤ (get_or xs i y).at) → put_by_due t xs ≡ insert xs i t
put_at t [] zero le before here = refl
put_at t [] (suc i) le before here = absurd (omega (arith, le))
put_at t (x ∷ xs) zero le before here = ap (λ b. cond b (t ∷ x ∷ xs) (x ∷ put_by_due t xs)) (le-leb t.at x.at (here (omega arith) t))
put_at t (x ∷ xs) (suc i) le before here =
    ap (λ b. cond b (t ∷ x ∷ xs) (x ∷ put_by_due t xs)) (lt-leb t.at x.at (before 0 (omega arith) t))
    ∙ ap (λ l. x ∷ l) (put_at t xs i (omega (arith, le)) (λ j lt. before (suc j) (omega (arith, lt))) (λ lt. here (omega (arith, lt))))

-- an element is the same by any default
pub any_default : (xs : List Timer) (i : ℕ) (x y : Timer) → i < length xs → get_or xs i x ≡ get_or xs i y
any_default [] i x y lt = absurd (omega (arith, lt))
any_default (z ∷ xs) zero x y lt = refl
any_default (z ∷ xs) (suc i) x y lt = any_default xs i x y (omega (arith, lt))
