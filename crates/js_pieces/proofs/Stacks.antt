-- Pieces on a stack.
use Rattle.std.proofs.Common.{◌≡◌, ℕ, zero, suc, ◌+◌, ◌-◌, ◌<◌, ◌≤◌, List, [], ◌∷◌, ◌++◌, length, get_or, drop, refl, sym, ap, ◌∙◌, subst, arith, append_assoc, append-nil}
use Rattle.js_tree.specs.Forest.{Forest}
use Rattle.js_pieces.specs.declared.work.Work.{Work}
use Rattle.js_pieces.specs.Tidy.{Tokens}
use Rattle.js_pieces.specs.Todo.{work_tokens, work_cost, IsWork, row, row_cost, AreWork, todo, Pushes}

pub todo-push : (f : Forest) (ws : List Work) (w : Work) → todo f (ws ++ w ∷ []) ≡ work_tokens f w ++ todo f ws
todo-push f [] w = sym (append-nil (work_tokens f w))
todo-push f (v ∷ ws) w = ap (λ l. l ++ work_tokens f v) (todo-push f ws w) ∙ append_assoc (work_tokens f w) (todo f ws) (work_tokens f v)

pub row_cost-push : (f : Forest) (ws : List Work) (w : Work) → row_cost f (ws ++ w ∷ []) ≡ work_cost f w + row_cost f ws
row_cost-push f [] w = refl
row_cost-push f (v ∷ ws) w = omega (arith, row_cost-push f ws w)

pub are_push : (f : Forest) (ws : List Work) (w : Work) → AreWork f ws → IsWork f w → AreWork f (ws ++ w ∷ [])
are_push f [] w h g = (g, tt)
are_push f (v ∷ ws) w h g = (h.0, are_push f ws w h.1 g)

pub are_front : (f : Forest) (ws : List Work) (w : Work) → AreWork f (ws ++ w ∷ []) → AreWork f ws
are_front f [] w h = tt
are_front f (v ∷ ws) w h = (h.0, are_front f ws w h.1)

pub are_last : (f : Forest) (ws : List Work) (w : Work) → AreWork f (ws ++ w ∷ []) → IsWork f w
are_last f [] w h = h.0
are_last f (v ∷ ws) w h = are_last f ws w h.1

pub are_at : (f : Forest) (ws : List Work) (k : ℕ) (d : Work) → AreWork f ws → k < length ws → IsWork f (get_or ws k d)
are_at f [] k d h lt = absurd (omega arith)
are_at f (w ∷ ws) zero d h lt = h.0
are_at f (w ∷ ws) (suc k) d h lt = are_at f ws k d h.1 (omega arith)

pub pushes_none : (f : Forest) (ws : List Work) (n : ℕ) → Pushes f [] n ws ws
pushes_none f ws n = record { tokens = refl; steps = omega arith; valid = λ h. h }

pub pushes_one : (f : Forest) (ws : List Work) (w : Work) → IsWork f w → Pushes f (work_tokens f w) (work_cost f w) ws (ws ++ w ∷ [])
pushes_one f ws w h = record { tokens = todo-push f ws w; steps = omega (arith, row_cost-push f ws w); valid = λ a. are_push f ws w a h }

-- what is pushed later comes first
pub pushes_then : (f : Forest) (a b : Tokens) (m n : ℕ) (old mid new : List Work) → Pushes f b n old mid → Pushes f a m mid new → Pushes f (a ++ b) (m + n) old new
pushes_then f a b m n old mid new h g = record {
  tokens = g.tokens ∙ ap (λ l. a ++ l) h.tokens ∙ sym (append_assoc a b (todo f old));
  steps = omega (arith, h.steps, g.steps);
  valid = λ x. g.valid (h.valid x);
}

pub pushes_less : (f : Forest) (ts : Tokens) (n m : ℕ) (old new : List Work) → n ≤ m → Pushes f ts n old new → Pushes f ts m old new
pushes_less f ts n m old new le h = record { tokens = h.tokens; steps = omega (arith, le, h.steps); valid = h.valid }

pub cost_at : (f : Forest) (ws : List Work) (k : ℕ) (d : Work) → k < length ws → row_cost f (drop k ws) ≡ work_cost f (get_or ws k d) + row_cost f (drop (suc k) ws)
cost_at f [] k d lt = absurd (omega arith)
cost_at f (w ∷ ws) zero d lt = refl
cost_at f (w ∷ ws) (suc k) d lt = cost_at f ws k d (omega arith)

pub row_at : (f : Forest) (ws : List Work) (k : ℕ) (d : Work) → k < length ws → row f (drop k ws) ≡ work_tokens f (get_or ws k d) ++ row f (drop (suc k) ws)
row_at f [] k d lt = absurd (omega arith)
row_at f (w ∷ ws) zero d lt = refl
row_at f (w ∷ ws) (suc k) d lt = row_at f ws k d (omega arith)

pub row_end : (f : Forest) (ws : List Work) → row f (drop (length ws) ws) ≡ []
row_end f [] = refl
row_end f (w ∷ ws) = row_end f ws

-- one piece more of a row that is pushed from its end
pub row_pushed : (f : Forest) (ws : List Work) (left : ℕ) (w : Work) (old mid new : List Work) → 0 < left → left ≤ length ws → w ≡ get_or ws (left - 1) w → AreWork f ws → Pushes f (row f (drop left ws)) (row_cost f (drop left ws)) old mid → new ≡ mid ++ w ∷ [] → Pushes f (row f (drop (left - 1) ws)) (row_cost f (drop (left - 1) ws)) old new
row_pushed f ws left w old mid new pos le is a h e =
    let lt : left - 1 < length ws = omega arith in
    let z : suc (left - 1) ≡ left = omega arith in
    let here : row f (drop (left - 1) ws) ≡ work_tokens f w ++ row f (drop left ws) =
    row_at f ws (left - 1) w lt
    ∙ ap (λ n. work_tokens f (get_or ws (left - 1) w) ++ row f (drop n ws)) z
    ∙ ap (λ x. work_tokens f x ++ row f (drop left ws)) (sym is) in
    let cost : row_cost f (drop (left - 1) ws) ≡ work_cost f w + row_cost f (drop left ws) =
    cost_at f ws (left - 1) w lt
    ∙ ap (λ n. work_cost f (get_or ws (left - 1) w) + row_cost f (drop n ws)) z
    ∙ ap (λ x. work_cost f x + row_cost f (drop left ws)) (sym is) in
    let valid : IsWork f w = subst (IsWork f) (sym is) (are_at f ws (left - 1) w a lt) in
    rw (here, cost, e) (pushes_then f (work_tokens f w) (row f (drop left ws)) (work_cost f w) (row_cost f (drop left ws)) old mid (mid ++ w ∷ []) h (pushes_one f mid w valid))
