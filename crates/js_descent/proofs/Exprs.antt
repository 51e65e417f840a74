-- What each function for expressions has read, from what its calls read.
use Rattle.std.proofs.Common.{◌≡◌, ℕ, suc, ◌+◌, ◌<◌, ◌≤◌, List, [], ◌∷◌, Bool, true, false, Option, Some, None, refl, ap, sym, subst, ◌∙◌, ltb, length, arith}
use Rattle.std.specs.Prelude.{Result, Ok, Err, ◌≢◌}
use Rattle.std.proofs.lemmas.Bool.Decides.{nat_tests}
use Rattle.exact_refusals.specs.Judge.{judge}
use Rattle.exact_refusals.specs.Judge.Outcome.{Refused}
use Rattle.js_tree.specs.declared.nodes.ExprId.{ExprId}
use Rattle.js_tree.specs.declared.nodes.FunId.{FunId}
use Rattle.js_tree.specs.declared.nodes.StepOp.{StepOp}
use Rattle.js_tree.specs.declared.nodes.AssignOp.{AssignOp}
use Rattle.js_tree.specs.Plain.{Expr, ExprForm, ExprAt, Exprs, Array, Function, Sub, Call, New, Step as StepOf, Cond, Assign, Comma, NoExprs, expr_place}
use Rattle.js_tree.specs.Forest.{Forest, IsExpr, expr_at, fun_at, exprs_at}
use Rattle.js_grammar.specs.declared.Sign.{Sign}
use Rattle.js_grammar.specs.declared.Sign.TheVariants as sign
use Rattle.js_grammar.specs.declared.Infix.{Infix}
use Rattle.js_grammar.specs.declared.Prefix.{Prefix}
use Rattle.js_grammar.specs.Tables.{infix_of, level_of, joined, prefix_of, prefixed, step_of, assign_of}
use Rattle.js_grammar.specs.Grammar.{Token, Lexeme}
use Rattle.js_grammar.specs.Machine.{Frame, State, Step, step, finished, primary, left_hand, listed, expr, whole, Wants, Gives, PrimaryAt, UnaryAt, DotName, ItemsAt, FunName, FunOpen, FunExpr, Paren, Tail, NewTail, Index, Target, Prefixed, Rest, Right, Choice, Second, Third, Assigned, Commas, CommaRight, ArrayEnd, CallEnd, NewEnd}
use Rattle.js_cursor.specs.declared.refusal.Refusal.{Refusal}
use Rattle.js_cursor.specs.declared.refusal.Refusal.TheVariants as refusal
use Rattle.js_cursor.specs.Reads.{from, goes, lexeme_at, Next, IsOther, Refuses, MadeExpr, IsNext}
use Rattle.js_descent.specs.Rows.{IsReady, Reads, ReadsExpr, ReadsFun}
use Rattle.js_cursor.specs.Named.{IsHead, own_at}
use Rattle.js_descent.specs.Forms.{ReadsOn, GoesOn, IsTail, IsOperand, ReadsOperand, ReadsOperandOf}
use Rattle.js_descent.specs.Walks.{goes_by, ReadsItems}
use Rattle.js_cursor.proofs.Reading.{take_one, take_to, refuse_one, deep_one, same_one, other_refused}
use Rattle.js_descent.proofs.Joins.{keeps_same, keeps_then, refuses_before, reads_then, refuses_then, reads_in, ends_made}

-- ## One token after a list, and other steps

pub by_one : (ts : List Token) (f : Token → Step) (st : State) (at d : ℕ) (s : Sign) → Next ts at s → ◌≡◌ {A = Step} (f (s, lexeme_at ts at)) (Some (d, st)) → d ≤ 200 → goes_by ts f at ≡ goes ts st (at + 1)
by_one ts f st at d s here is le =
    let shallow : ltb 200 d ≡ false = grind (arith, nat_tests) in
    rw (here, is, shallow) refl

pub by_to : (ts : List Token) (f : Token → Step) (st : State) (at n d : ℕ) (s : Sign) → Next ts at s → ◌≡◌ {A = Step} (f (s, lexeme_at ts at)) (Some (d, st)) → d ≤ 200 → n ≡ at + 1 → goes_by ts f at ≡ goes ts st n
by_to ts f st at n d s here is le to = by_one ts f st at d s here is le ∙ ap (goes ts st) (sym to)

pub by_refuse : (ts : List Token) (f : Token → Step) (at : ℕ) (s : Sign) → Next ts at s → ◌≡◌ {A = Step} (f (s, lexeme_at ts at)) None → goes_by ts f at ≡ Refused (length (from ts at))
by_refuse ts f at s here is = rw (here, is) refl

-- a state whose next step is this
pub as_by : (ts : List Token) (a : State) (f : Token → Step) (at : ℕ) (s : Sign) → Next ts at s → step a (s, lexeme_at ts at) ≡ f (s, lexeme_at ts at) → goes ts a at ≡ goes_by ts f at
as_by ts a f at s here is = rw (here, is) refl

-- the next token is not the one that ends the list
by_refused : (start : List Frame → State) (ts : List Token) (at place : ℕ) (want : Sign) (f : List Frame → Token → Step) → place < length ts → IsOther ts place want → ((k : List Frame) → goes ts (start k) at ≡ goes_by ts (f k) place) → ((k : List Frame) (s : Sign) (x : Lexeme) → s ≢ want → ◌≡◌ {A = Step} (f k (s, x)) None) → Refuses start ts at (refusal.Syntax place)
by_refused start ts at place want f lt other go none = (lt, λ k. go k ∙ by_refuse ts (f k) place (other.0) (other.1) (none k (other.0) (lexeme_at ts place) (other.2)))

-- the next token has one sign
pub same_sign : (ts : List Token) (at : ℕ) (s t : Sign) → Next ts at s → Next ts at t → s ≡ t
same_sign ts at s t here there =
    let both : (s, lexeme_at ts at) ∷ from ts (at + 1) ≡ (t, lexeme_at ts at) ∷ from ts (at + 1) = sym here ∙ there in
    let pair : ◌≡◌ {A = Token} (s, lexeme_at ts at) (t, lexeme_at ts at) = cc in
    ap (λ z. z.0) pair

-- ## Readings one after the other

pub reads_on_then : {start : List Frame → State} {left left' : List Frame → List Frame} {ts : List Token} {at mid next : ℕ} {a b c : Forest} {x y : ExprId} → Reads start left ts at a b x mid → ReadsOn (λ k. Gives (expr_at b x) (left k)) left' ts mid b c y next → Reads start left' ts at a c y next
reads_on_then {a} {b} {c} h g = record {
  in_text = g.in_text;
  later = omega (arith, h.later, g.later);
  few = omega (arith, h.few, g.few);
  kept = keeps_then a b c h.kept g.kept;
  is_in = g.is_in;
  leads = λ k. h.leads k ∙ g.leads k;
}

pub on_reads_then : {start : List Frame → State} {left left' : List Frame → List Frame} {ts : List Token} {at mid next : ℕ} {a b c : Forest} {x y : ExprId} → ReadsOn start left ts at a b x mid → Reads (λ k. Gives (expr_at b x) (left k)) left' ts mid b c y next → ReadsOn start left' ts at a c y next
on_reads_then {a} {b} {c} h g = record {
  in_text = g.in_text;
  later = omega (arith, h.later, g.later);
  few = omega (arith, h.few, g.few);
  kept = keeps_then a b c h.kept g.kept;
  is_in = g.is_in;
  leads = λ k. h.leads k ∙ g.leads k;
}

pub on_in : {start : List Frame → State} {left : List Frame → List Frame} {ts : List Token} {at next : ℕ} {a b : Forest} {x : ExprId} (g : List Frame → List Frame) → ReadsOn start left ts at a b x next → ReadsOn (λ k. start (g k)) (λ k. left (g k)) ts at a b x next
on_in g h = record { in_text = h.in_text; later = h.later; few = h.few; kept = h.kept; is_in = h.is_in; leads = λ k. h.leads (g k) }

pub refuses_on : {start : List Frame → State} {left : List Frame → List Frame} {ts : List Token} {at mid : ℕ} {a b : Forest} {x : ExprId} (e : Refusal) → ReadsOn start left ts at a b x mid → Refuses (λ k. Gives (expr_at b x) (left k)) ts mid e → Refuses start ts at e
refuses_on {start} {left} {ts} {at} {mid} {a} {b} {x} e h g = refuses_before start (λ k. Gives (expr_at b x) (left k)) (λ k. k) ts at mid e h.leads g

-- more to come after a refusal
pub refuses_in : (start : List Frame → State) (ts : List Token) (at : ℕ) (g : List Frame → List Frame) (e : Refusal) → Refuses start ts at e → Refuses (λ k. start (g k)) ts at e
refuses_in start ts at g e h = refuses_before (λ k. start (g k)) start g ts at at e (λ k. refl) h

pub expr_in : (start : List Frame → State) (left : List Frame → List Frame) (ts : List Token) (at : ℕ) (a b : Forest) (g : List Frame → List Frame) (result : Result (ExprId × ℕ) Refusal) → ReadsExpr start left ts at a b result → ReadsExpr (λ k. start (g k)) (λ k. left (g k)) ts at a b result
expr_in start left ts at a b g (Ok x) h = reads_in g h
expr_in start left ts at a b g (Err e) h = refuses_in start ts at g e h

pub ends_on : {start : List Frame → State} {left : List Frame → List Frame} {ts : List Token} {at mid : ℕ} {a b : Forest} {x : ExprId} (left' : List Frame → List Frame) (c : Forest) (result : Result (ExprId × ℕ) Refusal) → Reads start left ts at a b x mid → GoesOn (λ k. Gives (expr_at b x) (left k)) left' ts mid b c result → ReadsExpr start left' ts at a c result
ends_on left' c (Ok y) h g = reads_on_then h g
ends_on left' c (Err e) h g = refuses_then e h g

pub ends_with : {start : List Frame → State} {left : List Frame → List Frame} {ts : List Token} {at mid : ℕ} {a b : Forest} {x : ExprId} (left' : List Frame → List Frame) (c : Forest) (result : Result (ExprId × ℕ) Refusal) → Reads start left ts at a b x mid → ReadsExpr (λ k. Gives (expr_at b x) (left k)) left' ts mid b c result → ReadsExpr start left' ts at a c result
ends_with left' c (Ok y) h g = reads_then h g
ends_with left' c (Err e) h g = refuses_then e h g

pub on_with : {start : List Frame → State} {left : List Frame → List Frame} {ts : List Token} {at mid : ℕ} {a b : Forest} {x : ExprId} (left' : List Frame → List Frame) (c : Forest) (result : Result (ExprId × ℕ) Refusal) → ReadsOn start left ts at a b x mid → ReadsExpr (λ k. Gives (expr_at b x) (left k)) left' ts mid b c result → GoesOn start left' ts at a c result
on_with left' c (Ok y) h g = on_reads_then h g
on_with left' c (Err e) h g = refuses_on e h g

pub ready_next : {start : List Frame → State} {left : List Frame → List Frame} {ts : List Token} {at next : ℕ} {a b : Forest} {x : ExprId} (d : ℕ) → IsReady ts at d a → Reads start left ts at a b x next → IsReady ts next d b
ready_next d h g = record { in_text = g.in_text; shallow = h.shallow; short = h.short; few = omega (arith, h.few, g.few) }

-- ## Primaries

-- parentheses
no_close : (e : Expr) (d : ℕ) (k : List Frame) (s : Sign) (x : Lexeme) → s ≢ sign.Close → ◌≡◌ {A = Step} (step (Gives e (Paren d ∷ k)) (s, x)) None
no_close e d k sign.Close x h = absurd (h refl)
no_close e d k _ x h = refl

module _ (ts : List Token) (at d inner : ℕ) (a : Forest) (is : inner ≡ suc d) (le : inner ≤ 200) where
  module _ (here : Next ts at sign.Open) where
    paren_opens : (k : List Frame) → goes ts (Wants (PrimaryAt d ∷ k)) at ≡ goes ts (Wants (whole inner (Paren d ∷ k))) (at + 1)
    paren_opens k = take_one ts (Wants (PrimaryAt d ∷ k)) (Wants (whole inner (Paren d ∷ k))) at inner sign.Open here (rw is refl) le

    pub paren_ends : (close next : ℕ) (b : Forest) (id : ExprId) → Reads (λ k. Wants (whole inner k)) (λ k. k) ts (at + 1) a b id close → Next ts close sign.Close → next ≡ close + 1 → next < length ts → Reads (λ k. Wants (PrimaryAt d ∷ k)) (λ k. k) ts at a b id next
    paren_ends close next b id h mark to inside = record {
      in_text = inside;
      later = omega (arith, h.later, to);
      few = omega (arith, h.few, to);
      kept = h.kept;
      is_in = h.is_in;
      leads = λ k. paren_opens k ∙ h.leads (Paren d ∷ k) ∙ take_to ts (Gives (expr_at b id) (Paren d ∷ k)) (Gives (expr_at b id) k) close next inner sign.Close mark (rw is refl) le to;
    }

    pub paren_refused : (e : Refusal) → Refuses (λ k. Wants (whole inner k)) ts (at + 1) e → Refuses (λ k. Wants (PrimaryAt d ∷ k)) ts at e
    paren_refused e h = refuses_before _ (λ k. Wants (whole inner k)) (λ k. Paren d ∷ k) ts at (at + 1) e paren_opens h

    pub paren_unclosed : (close : ℕ) (b : Forest) (id : ExprId) → Reads (λ k. Wants (whole inner k)) (λ k. k) ts (at + 1) a b id close → IsOther ts close sign.Close → Refuses (λ k. Wants (PrimaryAt d ∷ k)) ts at (refusal.Syntax close)
    paren_unclosed close b id h other = other_refused _ ts at close sign.Close (λ k. Gives (expr_at b id) (Paren d ∷ k)) h.in_text other (λ k. paren_opens k ∙ h.leads (Paren d ∷ k)) (no_close (expr_at b id) d)

  -- an array literal
  module _ (here : Next ts at sign.OpenSquare) where
    array_opens : (k : List Frame) → goes ts (Wants (PrimaryAt d ∷ k)) at ≡ goes ts (Wants (ItemsAt false inner ∷ ArrayEnd d (lexeme_at ts at) ∷ k)) (at + 1)
    array_opens k = take_one ts (Wants (PrimaryAt d ∷ k)) (Wants (ItemsAt false inner ∷ ArrayEnd d (lexeme_at ts at) ∷ k)) at inner sign.OpenSquare here (rw is refl) le

    pub array_refused : (e : Refusal) → Refuses (λ k. Wants (ItemsAt false inner ∷ k)) ts (at + 1) e → Refuses (λ k. Wants (PrimaryAt d ∷ k)) ts at e
    array_refused e h = refuses_before _ (λ k. Wants (ItemsAt false inner ∷ k)) (λ k. ArrayEnd d (lexeme_at ts at) ∷ k) ts at (at + 1) e array_opens h

    no_square : (xs : Exprs) (w : Lexeme) (k : List Frame) (s : Sign) (x : Lexeme) → s ≢ sign.CloseSquare → ◌≡◌ {A = Step} (listed xs (ArrayEnd d w ∷ k) (s, x)) None
    no_square xs w k sign.CloseSquare x h = absurd (h refl)
    no_square xs w k _ x h = refl

    pub array_unclosed : (close : ℕ) (b : Forest) (ids : List ExprId) → ReadsItems false inner ts (at + 1) a b ids close → IsOther ts close sign.CloseSquare → Refuses (λ k. Wants (PrimaryAt d ∷ k)) ts at (refusal.Syntax close)
    array_unclosed close b ids h other = by_refused _ ts at close sign.CloseSquare (λ k. listed (exprs_at b ids) (ArrayEnd d (lexeme_at ts at) ∷ k)) h.walks.in_text other
        (λ k. array_opens k ∙ h.leads (ArrayEnd d (lexeme_at ts at) ∷ k)) (no_square (exprs_at b ids) (lexeme_at ts at))

    pub array_ends : (close next : ℕ) (b c : Forest) (ids : List ExprId) (place : ℕ) (result : Result (ExprId × ℕ) Refusal) → ReadsItems false inner ts (at + 1) a b ids close → Next ts close sign.CloseSquare → next ≡ close + 1 → next < length ts → place ≡ (lexeme_at ts at).at → MadeExpr b c (ExprAt place [] (Array (exprs_at b ids))) next result → ReadsExpr (λ k. Wants (PrimaryAt d ∷ k)) (λ k. k) ts at a c result
    array_ends close next b c ids place result h mark to inside place_is made =
        let w = lexeme_at ts at in
        ends_made _ _ ts at next a b c _ result inside (omega (arith, h.walks.later, to)) (omega (arith, h.walks.few, to)) h.walks.kept
        (λ k. rw place_is (array_opens k ∙ h.leads (ArrayEnd d w ∷ k) ∙ by_to ts (listed (exprs_at b ids) (ArrayEnd d w ∷ k)) (Gives (ExprAt w.at [] (Array (exprs_at b ids))) k) close next inner sign.CloseSquare mark (rw is refl) le to)) made

-- a function expression
head_leads : (ts : List Token) (at bracket d : ℕ) (own : Option ℕ) (w : Lexeme) → d ≤ 200 → IsHead ts at own bracket → (k : List Frame) → goes ts (Wants (FunName d w ∷ k)) at ≡ goes ts (Wants (FunOpen d w (own_at ts own) ∷ FunExpr w ∷ k)) bracket
head_leads ts at bracket d None w le h k =
    same_one ts (Wants (FunName d w ∷ k)) (Wants (FunOpen d w None ∷ FunExpr w ∷ k)) at (h.1.0) (h.1.1) (same (h.1.0) (lexeme_at ts at) (h.1.2))
    ∙ ap (goes ts (Wants (FunOpen d w None ∷ FunExpr w ∷ k))) (sym (h.0))
  where
    same : (s : Sign) (x : Lexeme) → s ≢ sign.Name → step (Wants (FunName d w ∷ k)) (s, x) ≡ step (Wants (FunOpen d w None ∷ FunExpr w ∷ k)) (s, x)
    same sign.Name x p = absurd (p refl)
    same _ x p = refl
head_leads ts at bracket d (Some o) w le h k =
    take_to ts (Wants (FunName d w ∷ k)) (Wants (FunOpen d w (Some (lexeme_at ts at)) ∷ FunExpr w ∷ k)) at bracket d sign.Name (h.1) refl le (h.2)
    ∙ ap (λ i. goes ts (Wants (FunOpen d w (Some (lexeme_at ts i)) ∷ FunExpr w ∷ k)) bracket) (sym (h.0))

module _ (ts : List Token) (at bracket d : ℕ) (own : Option ℕ) (a : Forest) (ready : IsReady ts at d a) (word : Next ts at sign.Function) (head : IsHead ts (at + 1) own bracket) where
  function_begins : (k : List Frame) → goes ts (Wants (PrimaryAt d ∷ k)) at ≡ goes ts (Wants (FunOpen d (lexeme_at ts at) (own_at ts own) ∷ FunExpr (lexeme_at ts at) ∷ k)) bracket
  function_begins k = take_one ts (Wants (PrimaryAt d ∷ k)) (Wants (FunName d (lexeme_at ts at) ∷ k)) at d sign.Function word refl ready.shallow ∙ head_leads ts (at + 1) bracket d own (lexeme_at ts at) ready.shallow head k

  pub function_refused : (e : Refusal) → Refuses (λ k. Wants (FunOpen d (lexeme_at ts at) (own_at ts own) ∷ k)) ts bracket e → Refuses (λ k. Wants (PrimaryAt d ∷ k)) ts at e
  function_refused e h = refuses_before _ (λ k. Wants (FunOpen d (lexeme_at ts at) (own_at ts own) ∷ k)) (λ k. FunExpr (lexeme_at ts at) ∷ k) ts at bracket e function_begins h

  bracket_later : (o : Option ℕ) → IsHead ts (at + 1) o bracket → at + 1 ≤ bracket
  bracket_later None h = omega (arith, h.0)
  bracket_later (Some o) h = omega (arith, h.2)

  pub function_ends : (next : ℕ) (b c : Forest) (fun : FunId) (place : ℕ) (result : Result (ExprId × ℕ) Refusal) → ReadsFun (λ k. Wants (FunOpen d (lexeme_at ts at) (own_at ts own) ∷ k)) (lexeme_at ts at) d ts bracket a b fun next → place ≡ (lexeme_at ts at).at → MadeExpr b c (ExprAt place [] (Function (fun_at b fun))) next result → ReadsExpr (λ k. Wants (PrimaryAt d ∷ k)) (λ k. k) ts at a c result
  function_ends next b c fun place result h place_is made =
      let w = lexeme_at ts at in
      let f = fun_at b fun in
      let behind : at + 1 ≤ bracket = bracket_later own head in
      ends_made _ _ ts at next a b c _ result h.in_text (omega (arith, h.later, behind)) (omega (arith, h.few, behind)) h.kept
      (λ k. rw place_is (function_begins k ∙ h.leads (FunExpr w ∷ k) (Gives (ExprAt w.at [] (Function f)) k) refl)) made

-- ## Properties, subscripts and arguments

no_name : (e : Expr) (d : ℕ) (k : List Frame) (s : Sign) (x : Lexeme) → s ≢ sign.Name → ◌≡◌ {A = Step} (step (Wants (DotName d e ∷ k)) (s, x)) None
no_name e d k sign.Name x h = absurd (h refl)
no_name e d k _ x h = refl

-- a tail begins at its mark
point_step : (d : ℕ) (f : Frame) (e : Expr) (k : List Frame) (x : Lexeme) → IsTail d f → ◌≡◌ {A = Step} (step (Gives e (f ∷ k)) (sign.Point, x)) (Some (d, Wants (DotName d e ∷ f ∷ k)))
point_step d (Tail n) e k x h = rw h refl
point_step d (NewTail n w) e k x h = rw h refl
point_step d _ e k x h = absurd h

square_step : (d : ℕ) (f : Frame) (e : Expr) (k : List Frame) (x : Lexeme) → IsTail d f → ◌≡◌ {A = Step} (step (Gives e (f ∷ k)) (sign.OpenSquare, x)) (Some (suc d, Wants (whole (suc d) (Index d e ∷ f ∷ k))))
square_step d (Tail n) e k x h = rw h refl
square_step d (NewTail n w) e k x h = rw h refl
square_step d _ e k x h = absurd h

module _ (ts : List Token) (at d : ℕ) (f : Frame) (e : Expr) (tail : IsTail d f) (le : d ≤ 200) (here : Next ts at sign.Point) where
  point_leads : (k : List Frame) → goes ts (Gives e (f ∷ k)) at ≡ goes ts (Wants (DotName d e ∷ f ∷ k)) (at + 1)
  point_leads k = take_one ts (Gives e (f ∷ k)) (Wants (DotName d e ∷ f ∷ k)) at d sign.Point here (point_step d f e k (lexeme_at ts at) tail) le

  pub point_reads : (b c : Forest) (id : ExprId) (next : ℕ) → Reads (λ k. Wants (DotName d e ∷ k)) (λ k. k) ts (at + 1) b c id next → Reads (λ k. Gives e (f ∷ k)) (λ k. f ∷ k) ts at b c id next
  point_reads b c id next h = record {
    in_text = h.in_text;
    later = omega (arith, h.later);
    few = omega (arith, h.few);
    kept = h.kept;
    is_in = h.is_in;
    leads = λ k. point_leads k ∙ h.leads (f ∷ k);
  }

  pub point_refused : (r : Refusal) → Refuses (λ k. Wants (DotName d e ∷ k)) ts (at + 1) r → Refuses (λ k. Gives e (f ∷ k)) ts at r
  point_refused r h = refuses_before _ (λ k. Wants (DotName d e ∷ k)) (λ k. f ∷ k) ts at (at + 1) r point_leads h

no_index : (a e : Expr) (d : ℕ) (k : List Frame) (s : Sign) (x : Lexeme) → s ≢ sign.CloseSquare → ◌≡◌ {A = Step} (step (Gives e (Index d a ∷ k)) (s, x)) None
no_index a e d k sign.CloseSquare x h = absurd (h refl)
no_index a e d k _ x h = refl

-- a subscript is too deep
pub square_deep : (ts : List Token) (at d : ℕ) (e : Expr) → at < length ts → d ≡ 200 → Next ts at sign.OpenSquare → (f : Frame) → IsTail d f → Refuses (λ k. Gives e (f ∷ k)) ts at (refusal.TooDeep at)
square_deep ts at d e lt is here f tail = (lt, λ k. deep_one ts (Gives e (f ∷ k)) (Wants (whole (suc d) (Index d e ∷ f ∷ k))) at (suc d) sign.OpenSquare here (square_step d f e k (lexeme_at ts at) tail) (omega arith))

module _ (ts : List Token) (at d inner : ℕ) (e : Expr) (here : Next ts at sign.OpenSquare) (is : inner ≡ suc d) (le : inner ≤ 200) (f : Frame) (tail : IsTail d f) where
  square_leads : (k : List Frame) → goes ts (Gives e (f ∷ k)) at ≡ goes ts (Wants (whole inner (Index d e ∷ f ∷ k))) (at + 1)
  square_leads k = take_one ts (Gives e (f ∷ k)) (Wants (whole inner (Index d e ∷ f ∷ k))) at inner sign.OpenSquare here (subst (λ i. ◌≡◌ {A = Step} (step (Gives e (f ∷ k)) (sign.OpenSquare, lexeme_at ts at)) (Some (i, Wants (whole i (Index d e ∷ f ∷ k))))) (sym is) (square_step d f e k (lexeme_at ts at) tail)) le

  pub square_refused : (r : Refusal) → Refuses (λ k. Wants (whole inner k)) ts (at + 1) r → Refuses (λ k. Gives e (f ∷ k)) ts at r
  square_refused r h = refuses_before _ (λ k. Wants (whole inner k)) (λ k. Index d e ∷ f ∷ k) ts at (at + 1) r square_leads h

  pub square_unclosed : (close : ℕ) (a b : Forest) (i : ExprId) → Reads (λ k. Wants (whole inner k)) (λ k. k) ts (at + 1) a b i close → IsOther ts close sign.CloseSquare → Refuses (λ k. Gives e (f ∷ k)) ts at (refusal.Syntax close)
  square_unclosed close a b i h other = other_refused _ ts at close sign.CloseSquare (λ k. Gives (expr_at b i) (Index d e ∷ f ∷ k)) h.in_text other (λ k. square_leads k ∙ h.leads (Index d e ∷ f ∷ k)) (λ k. no_index e (expr_at b i) d (f ∷ k))

pub square_ends : (ts : List Token) (at close next d inner : ℕ) (a b c : Forest) (l i : ExprId) (place : ℕ) (result : Result (ExprId × ℕ) Refusal) → IsExpr a l → Next ts at sign.OpenSquare → inner ≡ suc d → inner ≤ 200 → Reads (λ k. Wants (whole inner k)) (λ k. k) ts (at + 1) a b i close → Next ts close sign.CloseSquare → next ≡ close + 1 → next < length ts → place ≡ expr_place (expr_at b l) → MadeExpr b c (ExprAt place [] (Sub (expr_at b l) (expr_at b i))) next result → (f : Frame) → IsTail d f → ReadsExpr (λ k. Gives (expr_at a l) (f ∷ k)) (λ k. f ∷ k) ts at a c result
square_ends ts at close next d inner a b c l i place result is_left here is le h mark to inside place_is made f tail =
    let e = expr_at a l in
    let same : expr_at b l ≡ e = (h.kept.exprs l is_left).1 in
    let go : (k : List Frame) → goes ts (Gives e (f ∷ k)) at ≡ goes ts (Gives (ExprAt (expr_place e) [] (Sub e (expr_at b i))) (f ∷ k)) next = λ k.
    square_leads ts at d inner e here is le f tail k ∙ h.leads (Index d e ∷ f ∷ k)
    ∙ take_to ts (Gives (expr_at b i) (Index d e ∷ f ∷ k)) (Gives (ExprAt (expr_place e) [] (Sub e (expr_at b i))) (f ∷ k)) close next inner sign.CloseSquare mark (rw is refl) le to in
    ends_made _ _ ts at next a b c _ result inside (omega (arith, h.later, to)) (omega (arith, h.few, to)) h.kept
    (λ k. rw place_is (subst (λ z. goes ts (Gives e (f ∷ k)) at ≡ goes ts (Gives (ExprAt (expr_place z) [] (Sub z (expr_at b i))) (f ∷ k)) next) (sym same) (go k))) made

no_call : (xs : Exprs) (f : Expr) (d : ℕ) (k : List Frame) (s : Sign) (x : Lexeme) → s ≢ sign.Close → ◌≡◌ {A = Step} (listed xs (CallEnd d f ∷ k) (s, x)) None
no_call xs f d k sign.Close x h = absurd (h refl)
no_call xs f d k _ x h = refl

module _ (ts : List Token) (at d inner : ℕ) (e : Expr) (here : Next ts at sign.Open) (is : inner ≡ suc d) (le : inner ≤ 200) where
  call_opens : (k : List Frame) → goes ts (Gives e (Tail d ∷ k)) at ≡ goes ts (Wants (ItemsAt false inner ∷ CallEnd d e ∷ Tail d ∷ k)) (at + 1)
  call_opens k = take_one ts (Gives e (Tail d ∷ k)) (Wants (ItemsAt false inner ∷ CallEnd d e ∷ Tail d ∷ k)) at inner sign.Open here (rw is refl) le

  pub call_refused : (r : Refusal) → Refuses (λ k. Wants (ItemsAt false inner ∷ k)) ts (at + 1) r → Refuses (λ k. Gives e (Tail d ∷ k)) ts at r
  call_refused r h = refuses_before _ (λ k. Wants (ItemsAt false inner ∷ k)) (λ k. CallEnd d e ∷ Tail d ∷ k) ts at (at + 1) r call_opens h

  pub call_unclosed : (close : ℕ) (a b : Forest) (ids : List ExprId) → ReadsItems false inner ts (at + 1) a b ids close → IsOther ts close sign.Close → Refuses (λ k. Gives e (Tail d ∷ k)) ts at (refusal.Syntax close)
  call_unclosed close a b ids h other = by_refused _ ts at close sign.Close (λ k. listed (exprs_at b ids) (CallEnd d e ∷ Tail d ∷ k)) h.walks.in_text other
      (λ k. call_opens k ∙ h.leads (CallEnd d e ∷ Tail d ∷ k)) (λ k. no_call (exprs_at b ids) e d (Tail d ∷ k))

  -- the list behind a `new`
  no_new : (xs : Exprs) (w : Lexeme) (k : List Frame) (s : Sign) (x : Lexeme) → s ≢ sign.Close → ◌≡◌ {A = Step} (listed xs (NewEnd d w e ∷ k) (s, x)) None
  no_new xs w k sign.Close x h = absurd (h refl)
  no_new xs w k _ x h = refl

  new_opens : (w : Lexeme) (k : List Frame) → goes ts (Gives e (NewTail d w ∷ k)) at ≡ goes ts (Wants (ItemsAt false inner ∷ NewEnd d w e ∷ k)) (at + 1)
  new_opens w k = take_one ts (Gives e (NewTail d w ∷ k)) (Wants (ItemsAt false inner ∷ NewEnd d w e ∷ k)) at inner sign.Open here (rw is refl) le

  pub new_refused : (w : Lexeme) (r : Refusal) → Refuses (λ k. Wants (ItemsAt false inner ∷ k)) ts (at + 1) r → Refuses (λ k. Gives e (NewTail d w ∷ k)) ts at r
  new_refused w r h = refuses_before _ (λ k. Wants (ItemsAt false inner ∷ k)) (λ k. NewEnd d w e ∷ k) ts at (at + 1) r (new_opens w) h

  pub new_unclosed : (w : Lexeme) (close : ℕ) (a b : Forest) (ids : List ExprId) → ReadsItems false inner ts (at + 1) a b ids close → IsOther ts close sign.Close → Refuses (λ k. Gives e (NewTail d w ∷ k)) ts at (refusal.Syntax close)
  new_unclosed w close a b ids h other = by_refused _ ts at close sign.Close (λ k. listed (exprs_at b ids) (NewEnd d w e ∷ k)) h.walks.in_text other
      (λ k. new_opens w k ∙ h.leads (NewEnd d w e ∷ k)) (no_new (exprs_at b ids) w)

module _ (ts : List Token) (at close next d inner : ℕ) (a b c : Forest) (l : ExprId) (ids : List ExprId) (place : ℕ) (result : Result (ExprId × ℕ) Refusal) (is_left : IsExpr a l) (here : Next ts at sign.Open) (is : inner ≡ suc d) (le : inner ≤ 200) (h : ReadsItems false inner ts (at + 1) a b ids close) (mark : Next ts close sign.Close) (to : next ≡ close + 1) (inside : next < length ts) where
  pub call_ends : place ≡ expr_place (expr_at b l) → MadeExpr b c (ExprAt place [] (Call (expr_at b l) (exprs_at b ids))) next result → ReadsExpr (λ k. Gives (expr_at a l) (Tail d ∷ k)) (λ k. Tail d ∷ k) ts at a c result
  call_ends place_is made =
      let e = expr_at a l in
      let xs = exprs_at b ids in
      let same : expr_at b l ≡ e = (h.walks.kept.exprs l is_left).1 in
      let go : (k : List Frame) → goes ts (Gives e (Tail d ∷ k)) at ≡ goes ts (Gives (ExprAt (expr_place e) [] (Call e xs)) (Tail d ∷ k)) next = λ k.
      call_opens ts at d inner e here is le k ∙ h.leads (CallEnd d e ∷ Tail d ∷ k)
      ∙ by_to ts (listed xs (CallEnd d e ∷ Tail d ∷ k)) (Gives (ExprAt (expr_place e) [] (Call e xs)) (Tail d ∷ k)) close next inner sign.Close mark (rw is refl) le to in
      ends_made _ _ ts at next a b c _ result inside (omega (arith, h.walks.later, to)) (omega (arith, h.walks.few, to)) h.walks.kept
      (λ k. rw place_is (subst (λ z. goes ts (Gives e (Tail d ∷ k)) at ≡ goes ts (Gives (ExprAt (expr_place z) [] (Call z xs)) (Tail d ∷ k)) next) (sym same) (go k))) made

  pub new_ends : (w : Lexeme) → place ≡ w.at → MadeExpr b c (ExprAt place [] (New (expr_at b l) (exprs_at b ids))) next result → ReadsExpr (λ k. Gives (expr_at a l) (NewTail d w ∷ k)) (λ k. k) ts at a c result
  new_ends w place_is made =
      let e = expr_at a l in
      let xs = exprs_at b ids in
      let same : expr_at b l ≡ e = (h.walks.kept.exprs l is_left).1 in
      let go : (k : List Frame) → goes ts (Gives e (NewTail d w ∷ k)) at ≡ goes ts (Gives (ExprAt w.at [] (New e xs)) k) next = λ k.
      new_opens ts at d inner e here is le w k ∙ h.leads (NewEnd d w e ∷ k)
      ∙ by_to ts (listed xs (NewEnd d w e ∷ k)) (Gives (ExprAt w.at [] (New e xs)) k) close next inner sign.Close mark (rw is refl) le to in
      ends_made _ _ ts at next a b c _ result inside (omega (arith, h.walks.later, to)) (omega (arith, h.walks.few, to)) h.walks.kept
      (λ k. rw place_is (subst (λ z. goes ts (Gives e (NewTail d w ∷ k)) at ≡ goes ts (Gives (ExprAt w.at [] (New z xs)) k) next) (sym same) (go k))) made

-- ## `new` and left-hand forms

module _ (ts : List Token) (at d : ℕ) (a : Forest) (ready : IsReady ts at d a) (here : Next ts at sign.New) where
  new_begins : (k : List Frame) → goes ts (Wants (UnaryAt d ∷ k)) at ≡ goes ts (Wants (PrimaryAt d ∷ NewTail d (lexeme_at ts at) ∷ Tail d ∷ Target d ∷ k)) (at + 1)
  new_begins k = take_one ts (Wants (UnaryAt d ∷ k)) (Wants (PrimaryAt d ∷ NewTail d (lexeme_at ts at) ∷ Tail d ∷ Target d ∷ k)) at d sign.New here refl ready.shallow

  pub new_operand_refused : (r : Refusal) → Refuses (λ k. Wants (PrimaryAt d ∷ NewTail d (lexeme_at ts at) ∷ k)) ts (at + 1) r → Refuses (λ k. Wants (UnaryAt d ∷ k)) ts at r
  new_operand_refused r h = refuses_before _ (λ k. Wants (PrimaryAt d ∷ NewTail d (lexeme_at ts at) ∷ k)) (λ k. Tail d ∷ Target d ∷ k) ts at (at + 1) r new_begins h

  new_operand : (b : Forest) (l : ExprId) (mid : ℕ) → Reads (λ k. Wants (PrimaryAt d ∷ NewTail d (lexeme_at ts at) ∷ k)) (λ k. NewTail d (lexeme_at ts at) ∷ k) ts (at + 1) a b l mid → Reads (λ k. Wants (UnaryAt d ∷ k)) (λ k. NewTail d (lexeme_at ts at) ∷ Tail d ∷ Target d ∷ k) ts at a b l mid
  new_operand b l mid h = record {
    in_text = h.in_text;
    later = omega (arith, h.later);
    few = omega (arith, h.few);
    kept = h.kept;
    is_in = h.is_in;
    leads = λ k. new_begins k ∙ h.leads (Tail d ∷ Target d ∷ k);
  }

  pub new_with_ends : (b c : Forest) (l : ExprId) (mid : ℕ) (result : Result (ExprId × ℕ) Refusal) → ReadsOperandOf d (lexeme_at ts at) ts (at + 1) a b l mid → ReadsExpr (λ k. Gives (expr_at b l) (NewTail d (lexeme_at ts at) ∷ k)) (λ k. k) ts mid b c result → ReadsExpr (λ k. Wants (UnaryAt d ∷ k)) (λ k. Tail d ∷ Target d ∷ k) ts at a c result
  new_with_ends b c l mid result h made = ends_with _ c result (new_operand b l mid h.read) (expr_in (λ k. Gives (expr_at b l) (NewTail d (lexeme_at ts at) ∷ k)) (λ k. k) ts mid b c (λ k. Tail d ∷ Target d ∷ k) result made)

  new_passes : (e : Expr) (w : Lexeme) (k : List Frame) (s : Sign) (x : Lexeme) → s ≢ sign.Point → s ≢ sign.OpenSquare → s ≢ sign.Open → step (Gives e (NewTail d w ∷ k)) (s, x) ≡ step (Gives (ExprAt w.at [] (New e NoExprs)) k) (s, x)
  new_passes e w k sign.Point x p q r = absurd (p refl)
  new_passes e w k sign.OpenSquare x p q r = absurd (q refl)
  new_passes e w k sign.Open x p q r = absurd (r refl)
  new_passes e w k _ x p q r = refl

  pub new_alone_ends : (b c : Forest) (l : ExprId) (mid place : ℕ) (none : List ExprId) (s : Sign) (result : Result (ExprId × ℕ) Refusal) → ReadsOperandOf d (lexeme_at ts at) ts (at + 1) a b l mid → Next ts mid s → s ≢ sign.Open → none ≡ [] → place ≡ (lexeme_at ts at).at → MadeExpr b c (ExprAt place [] (New (expr_at b l) (exprs_at b none))) mid result → ReadsExpr (λ k. Wants (UnaryAt d ∷ k)) (λ k. Tail d ∷ Target d ∷ k) ts at a c result
  new_alone_ends b c l mid place none s result h next not_open none_is place_is made =
      let w = lexeme_at ts at in
      let e = expr_at b l in
      let read = new_operand b l mid h.read in
      let stop = h.stops in
      let same : stop.0 ≡ s = same_sign ts mid (stop.0) s (stop.1) next in
      let not_point : s ≢ sign.Point = λ i. stop.2.0 (same ∙ i) in
      let not_square : s ≢ sign.OpenSquare = λ i. stop.2.1 (same ∙ i) in
      ends_made _ _ ts at mid a b c _ result h.read.in_text (omega (arith, h.read.later)) (omega (arith, h.read.few, h.read.later)) h.read.kept
      (λ k. rw (place_is, none_is) (read.leads k ∙ same_one ts _ _ mid s next (new_passes e w (Tail d ∷ Target d ∷ k) s (lexeme_at ts mid) not_point not_square not_open))) made

-- another first part of a left-hand form
head_step : (d : ℕ) (k : List Frame) (s : Sign) (x : Lexeme) → prefix_of s ≡ None → s ≢ sign.New → step (Wants (UnaryAt d ∷ k)) (s, x) ≡ step (Wants (PrimaryAt d ∷ Tail d ∷ Target d ∷ k)) (s, x)
head_step d k s x bare not_new = rw bare (same s not_new)
  where
    same : (s : Sign) → s ≢ sign.New → left_hand d (Target d ∷ k) (s, x) ≡ primary d (Tail d ∷ Target d ∷ k) (s, x)
    same sign.New p = absurd (p refl)
    same _ p = refl

pub head_ends : (ts : List Token) (at d : ℕ) (a c : Forest) (s : Sign) (result : Result (ExprId × ℕ) Refusal) → Next ts at s → prefix_of s ≡ None → s ≢ sign.New → ReadsExpr (λ k. Wants (PrimaryAt d ∷ k)) (λ k. k) ts at a c result → ReadsExpr (λ k. Wants (UnaryAt d ∷ k)) (λ k. Tail d ∷ Target d ∷ k) ts at a c result
head_ends ts at d a c s (Ok x) here bare not_new h = record {
  in_text = h.in_text;
  later = h.later;
  few = h.few;
  kept = h.kept;
  is_in = h.is_in;
  leads = λ k. same_one ts (Wants (UnaryAt d ∷ k)) (Wants (PrimaryAt d ∷ Tail d ∷ Target d ∷ k)) at s here (head_step d k s (lexeme_at ts at) bare not_new) ∙ h.leads (Tail d ∷ Target d ∷ k);
}
head_ends ts at d a c s (Err e) here bare not_new h = refuses_before _ (λ k. Wants (PrimaryAt d ∷ k)) (λ k. Tail d ∷ Target d ∷ k) ts at at e (λ k. same_one ts (Wants (UnaryAt d ∷ k)) (Wants (PrimaryAt d ∷ Tail d ∷ Target d ∷ k)) at s here (head_step d k s (lexeme_at ts at) bare not_new)) h

-- no tail goes on
tail_passes : (e : Expr) (d : ℕ) (k : List Frame) (s : Sign) (x : Lexeme) → s ≢ sign.Point → s ≢ sign.OpenSquare → s ≢ sign.Open → step (Gives e (Tail d ∷ k)) (s, x) ≡ step (Gives e k) (s, x)
tail_passes e d k sign.Point x p q r = absurd (p refl)
tail_passes e d k sign.OpenSquare x p q r = absurd (q refl)
tail_passes e d k sign.Open x p q r = absurd (r refl)
tail_passes e d k _ x p q r = refl

pub tails_end : (start : List Frame → State) (ts : List Token) (at place d : ℕ) (a b : Forest) (id : ExprId) (s : Sign) → Reads start (λ k. Tail d ∷ Target d ∷ k) ts at a b id place → Next ts place s → s ≢ sign.Point → s ≢ sign.OpenSquare → s ≢ sign.Open → Reads start (λ k. Target d ∷ k) ts at a b id place
tails_end start ts at place d a b id s h here p q r = record {
  in_text = h.in_text;
  later = h.later;
  few = h.few;
  kept = h.kept;
  is_in = h.is_in;
  leads = λ k. h.leads k ∙ same_one ts (Gives (expr_at b id) (Tail d ∷ Target d ∷ k)) (Gives (expr_at b id) (Target d ∷ k)) place s here (tail_passes (expr_at b id) d (Target d ∷ k) s (lexeme_at ts place) p q r);
}

-- ## Steps and prefix operators

step_is : (e : Expr) (d : ℕ) (k : List Frame) (s : Sign) (x : Lexeme) (o : StepOp) (place : ℕ) → step_of s ≡ Some o → place ≡ expr_place e → ◌≡◌ {A = Step} (step (Gives e (Target d ∷ k)) (s, x)) (Some (d, Gives (ExprAt place [] (StepOf o e)) k))
step_is e d k s x o place is place_is = rw (is, place_is) refl

pub step_ends : (ts : List Token) (at d : ℕ) (a c : Forest) (l : ExprId) (o : StepOp) (s : Sign) (place : ℕ) (result : Result (ExprId × ℕ) Refusal) → IsReady ts at d a → Next ts at s → Some o ≡ step_of s → at + 1 < length ts → place ≡ expr_place (expr_at a l) → MadeExpr a c (ExprAt place [] (StepOf o (expr_at a l))) (at + 1) result → GoesOn (λ k. Gives (expr_at a l) (Target d ∷ k)) (λ k. k) ts at a c result
step_ends ts at d a c l o s place result ready here is inside place_is made =
    let e = expr_at a l in
    let step_there : (k : List Frame) → ◌≡◌ {A = Step} (step (Gives e (Target d ∷ k)) (s, lexeme_at ts at)) (Some (d, Gives (ExprAt place [] (StepOf o e)) k)) = λ k. step_is e d k s (lexeme_at ts at) o place (sym is) place_is in
    let go : (k : List Frame) → goes ts (Gives e (Target d ∷ k)) at ≡ goes ts (Gives (ExprAt place [] (StepOf o e)) k) (at + 1) = λ k.
    take_one ts (Gives e (Target d ∷ k)) (Gives (ExprAt place [] (StepOf o e)) k) at d s here (step_there k) ready.shallow in
    on_made result (ends_made _ _ ts at (at + 1) a a c _ result inside (omega arith) (omega arith) (keeps_same a) go made)
  where
    on_made : (result : Result (ExprId × ℕ) Refusal) → ReadsExpr (λ k. Gives (expr_at a l) (Target d ∷ k)) (λ k. k) ts at a c result → GoesOn (λ k. Gives (expr_at a l) (Target d ∷ k)) (λ k. k) ts at a c result
    on_made (Ok x) h = record { in_text = h.in_text; later = omega (arith, h.later); few = h.few; kept = h.kept; is_in = h.is_in; leads = h.leads }
    on_made (Err e) h = h

pub no_step : (ts : List Token) (at d : ℕ) (a : Forest) (l : ExprId) (s : Sign) → IsReady ts at d a → IsExpr a l → Next ts at s → None ≡ step_of s → IsNext ts at (λ t. assign_of t ≡ None) → ReadsOn (λ k. Gives (expr_at a l) (Target d ∷ k)) (λ k. k) ts at a a l at
no_step ts at d a l s ready is_in here is unassigned = record {
  in_text = ready.in_text;
  later = omega arith;
  few = omega arith;
  kept = keeps_same a;
  is_in = is_in;
  leads = λ k. same_one ts (Gives (expr_at a l) (Target d ∷ k)) (Gives (expr_at a l) k) at (unassigned.0) (unassigned.1) (rw (subst (λ t. step_of t ≡ None) (same_sign ts at s (unassigned.0) here (unassigned.1)) (sym is), unassigned.2) refl);
}

pass_prefix : (ts : List Token) (at : ℕ) (w : Lexeme) (o : Prefix) (e : Expr) (k : List Frame) → goes ts (Gives e (Prefixed w o ∷ k)) at ≡ goes ts (Gives (ExprAt w.at [] (prefixed o e)) k) at
pass_prefix ts at w o e k = passes (from ts at)
  where
    passes : (l : List Token) → judge step finished 200 (Gives e (Prefixed w o ∷ k)) l ≡ judge step finished 200 (Gives (ExprAt w.at [] (prefixed o e)) k) l
    passes [] = refl
    passes (t ∷ l) = refl

module _ (ts : List Token) (at d inner : ℕ) (o : Prefix) (here : IsNext ts at (λ s. prefix_of s ≡ Some o)) where
  pub prefix_deep : at < length ts → d ≡ 200 → Refuses (λ k. Wants (UnaryAt d ∷ k)) ts at (refusal.TooDeep at)
  prefix_deep lt is = (lt, λ k. deep_one ts (Wants (UnaryAt d ∷ k)) (Wants (UnaryAt (suc d) ∷ Prefixed (lexeme_at ts at) o ∷ k)) at (suc d) (here.0) (here.1) (rw (here.2) refl) (omega arith))

  module _ (is : inner ≡ suc d) (le : inner ≤ 200) where
    prefix_opens : (k : List Frame) → goes ts (Wants (UnaryAt d ∷ k)) at ≡ goes ts (Wants (UnaryAt inner ∷ Prefixed (lexeme_at ts at) o ∷ k)) (at + 1)
    prefix_opens k = take_one ts (Wants (UnaryAt d ∷ k)) (Wants (UnaryAt inner ∷ Prefixed (lexeme_at ts at) o ∷ k)) at inner (here.0) (here.1) (rw (here.2, is) refl) le

    pub prefix_refused : (a b : Forest) (e : Refusal) → ((g : List Frame → List Frame) → ((k : List Frame) → IsOperand (g k)) → Refuses (λ k. Wants (UnaryAt inner ∷ g k)) ts (at + 1) e) → Refuses (λ k. Wants (UnaryAt d ∷ k)) ts at e
    prefix_refused a b e h = refuses_before _ (λ k. Wants (UnaryAt inner ∷ Prefixed (lexeme_at ts at) o ∷ k)) (λ k. k) ts at (at + 1) e prefix_opens (h (λ k. Prefixed (lexeme_at ts at) o ∷ k) (λ k p d e. refl))

    pub prefix_ends : (a b c : Forest) (id : ExprId) (next place : ℕ) (form : ExprForm) (result : Result (ExprId × ℕ) Refusal) → ((g : List Frame → List Frame) → ((k : List Frame) → IsOperand (g k)) → Reads (λ k. Wants (UnaryAt inner ∷ g k)) g ts (at + 1) a b id next) → place ≡ (lexeme_at ts at).at → form ≡ prefixed o (expr_at b id) → MadeExpr b c (ExprAt place [] form) next result → ReadsExpr (λ k. Wants (UnaryAt d ∷ k)) (λ k. k) ts at a c result
    prefix_ends a b c id next place form result h place_is form_is made =
        let w = lexeme_at ts at in
        let read = h (λ k. Prefixed w o ∷ k) (λ k p d e. refl) in
        ends_made _ _ ts at next a b c _ result read.in_text (omega (arith, read.later)) (omega (arith, read.few)) read.kept
        (λ k. rw (place_is, form_is) (prefix_opens k ∙ read.leads k ∙ pass_prefix ts next w o (expr_at b id) k)) made

-- an operand
pub operand_prefixed : (ts : List Token) (at d : ℕ) (a c : Forest) (result : Result (ExprId × ℕ) Refusal) → ReadsExpr (λ k. Wants (UnaryAt d ∷ k)) (λ k. k) ts at a c result → ReadsOperand d ts at a c result
operand_prefixed ts at d a c result h g ok = expr_in (λ k. Wants (UnaryAt d ∷ k)) (λ k. k) ts at a c g result h

unstepped : (s : Sign) (o : AssignOp) → assign_of s ≡ Some o → step_of s ≡ None
unstepped sign.PlusPlus o h = cc
unstepped sign.MinusMinus o h = cc
unstepped _ o h = refl

pub operand_assigned : (ts : List Token) (at next d : ℕ) (a b : Forest) (l : ExprId) (o : AssignOp) (s : Sign) → Reads (λ k. Wants (UnaryAt d ∷ k)) (λ k. Target d ∷ k) ts at a b l next → Next ts next s → Some o ≡ assign_of s → (g : List Frame → List Frame) → ((k : List Frame) → IsOperand (g k)) → Refuses (λ k. Wants (UnaryAt d ∷ g k)) ts at (refusal.Syntax next)
operand_assigned ts at next d a b l o s h here is g ok =
    let e = expr_at b l in
    let none : (k : List Frame) → ◌≡◌ {A = Step} (step (Gives e (Target d ∷ g k)) (s, lexeme_at ts next)) None = λ k. rw (unstepped s o (sym is), sym is, ok k o d e) refl in
    (h.in_text, λ k. h.leads (g k) ∙ refuse_one ts (Gives e (Target d ∷ g k)) next s here (none k))

pub operand_ends : (ts : List Token) (at next d : ℕ) (a b c : Forest) (l : ExprId) (result : Result (ExprId × ℕ) Refusal) → Reads (λ k. Wants (UnaryAt d ∷ k)) (λ k. Target d ∷ k) ts at a b l next → GoesOn (λ k. Gives (expr_at b l) (Target d ∷ k)) (λ k. k) ts next b c result → ReadsOperand d ts at a c result
operand_ends ts at next d a b c l result h on g ok = expr_in (λ k. Wants (UnaryAt d ∷ k)) (λ k. k) ts at a c g result (ends_on _ c result h on)

pub operand_refused : (ts : List Token) (at d : ℕ) (e : Refusal) → Refuses (λ k. Wants (UnaryAt d ∷ k)) ts at e → (g : List Frame → List Frame) → ((k : List Frame) → IsOperand (g k)) → Refuses (λ k. Wants (UnaryAt d ∷ g k)) ts at e
operand_refused ts at d e h g ok = refuses_in (λ k. Wants (UnaryAt d ∷ k)) ts at g e h

-- ## Operators between operands

-- the right operand
pub operators_refused : (ts : List Token) (at d n : ℕ) (b : Bool) (e : Refusal) → ((g : List Frame → List Frame) → ((k : List Frame) → IsOperand (g k)) → Refuses (λ k. Wants (UnaryAt d ∷ g k)) ts at e) → (o : Infix) (x : Expr) → Refuses (λ k. Wants (UnaryAt d ∷ Rest b n d ∷ Right o x ∷ k)) ts at e
operators_refused ts at d n b e h o x = h (λ k. Rest b n d ∷ Right o x ∷ k) (λ k p m y. refl)

pub operators_ends : (ts : List Token) (at next d n : ℕ) (b : Bool) (a m c : Forest) (l : ExprId) (result : Result (ExprId × ℕ) Refusal) → ((g : List Frame → List Frame) → ((k : List Frame) → IsOperand (g k)) → Reads (λ k. Wants (UnaryAt d ∷ g k)) g ts at a m l next) → GoesOn (λ k. Gives (expr_at m l) (Rest b n d ∷ k)) (λ k. k) ts next m c result → (o : Infix) (x : Expr) → ReadsExpr (λ k. Wants (UnaryAt d ∷ Rest b n d ∷ Right o x ∷ k)) (λ k. Right o x ∷ k) ts at a c result
operators_ends ts at next d n b a m c l (Ok y) h on o x = reads_on_then (h (λ k. Rest b n d ∷ Right o x ∷ k) (λ k p m y. refl)) (on_in (λ k. Right o x ∷ k) on)
operators_ends ts at next d n b a m c l (Err e) h on o x = refuses_then e (h (λ k. Rest b n d ∷ Right o x ∷ k) (λ k p m y. refl)) (refuses_in (λ k. Gives (expr_at m l) (Rest b n d ∷ k)) ts next (λ k. Right o x ∷ k) e on)

pass_right : (ts : List Token) (at : ℕ) (o : Infix) (a b : Expr) (k : List Frame) → goes ts (Gives b (Right o a ∷ k)) at ≡ goes ts (Gives (ExprAt (expr_place a) [] (joined o a b)) k) at
pass_right ts at o a b k = passes (from ts at)
  where
    passes : (l : List Token) → judge step finished 200 (Gives b (Right o a ∷ k)) l ≡ judge step finished 200 (Gives (ExprAt (expr_place a) [] (joined o a b)) k) l
    passes [] = refl
    passes (t ∷ l) = refl

infix_step : (b : Bool) (n d : ℕ) (e : Expr) (k : List Frame) (o : Infix) (s : Sign) (x : Lexeme) → infix_of s b ≡ Some o → level_of o < n → ◌≡◌ {A = Step} (step (Gives e (Rest b n d ∷ k)) (s, x)) (Some (d, Wants (UnaryAt d ∷ Rest b (level_of o) d ∷ Right o e ∷ Rest b n d ∷ k)))
infix_step b n d e k o s x is lt =
    let below : ltb (level_of o) n ≡ true = grind (arith, nat_tests) in
    rw (is, below) refl

module _ (ts : List Token) (at d : ℕ) (b : Bool) (o : Infix) (here : IsNext ts at (λ s. infix_of s b ≡ Some o)) (le : d ≤ 200) (n : ℕ) (lt : level_of o < n) (e : Expr) where
  infix_opens : (k : List Frame) → goes ts (Gives e (Rest b n d ∷ k)) at ≡ goes ts (Wants (UnaryAt d ∷ Rest b (level_of o) d ∷ Right o e ∷ Rest b n d ∷ k)) (at + 1)
  infix_opens k = take_one ts (Gives e (Rest b n d ∷ k)) (Wants (UnaryAt d ∷ Rest b (level_of o) d ∷ Right o e ∷ Rest b n d ∷ k)) at d (here.0) (here.1) (infix_step b n d e k o (here.0) (lexeme_at ts at) (here.2) lt) le

  pub joined_refused : (limit : ℕ) (r : Refusal) → limit ≡ level_of o → ((p : Infix) (x : Expr) → Refuses (λ k. Wants (UnaryAt d ∷ Rest b limit d ∷ Right p x ∷ k)) ts (at + 1) r) → Refuses (λ k. Gives e (Rest b n d ∷ k)) ts at r
  joined_refused limit r is h = refuses_before _ (λ k. Wants (UnaryAt d ∷ Rest b (level_of o) d ∷ Right o e ∷ k)) (λ k. Rest b n d ∷ k) ts at (at + 1) r infix_opens (subst (λ m. Refuses (λ k. Wants (UnaryAt d ∷ Rest b m d ∷ Right o e ∷ k)) ts (at + 1) r) is (h o e))

pub joined_ends : (ts : List Token) (at next d limit : ℕ) (b : Bool) (o : Infix) (a m c : Forest) (l r : ExprId) (place : ℕ) (form : ExprForm) (result : Result (ExprId × ℕ) Refusal) → IsExpr a l → IsNext ts at (λ s. infix_of s b ≡ Some o) → d ≤ 200 → limit ≡ level_of o → ((p : Infix) (x : Expr) → Reads (λ k. Wants (UnaryAt d ∷ Rest b limit d ∷ Right p x ∷ k)) (λ k. Right p x ∷ k) ts (at + 1) a m r next) → place ≡ expr_place (expr_at m l) → form ≡ joined o (expr_at m l) (expr_at m r) → MadeExpr m c (ExprAt place [] form) next result → (n : ℕ) → level_of o < n → ReadsExpr (λ k. Gives (expr_at a l) (Rest b n d ∷ k)) (λ k. Rest b n d ∷ k) ts at a c result
joined_ends ts at next d limit b o a m c l r place form result is_left here le is h place_is form_is made n lt =
    let e = expr_at a l in
    let read = subst (λ i. Reads (λ k. Wants (UnaryAt d ∷ Rest b i d ∷ Right o e ∷ k)) (λ k. Right o e ∷ k) ts (at + 1) a m r next) is (h o e) in
    let same : expr_at m l ≡ e = (read.kept.exprs l is_left).1 in
    let go : (k : List Frame) → goes ts (Gives e (Rest b n d ∷ k)) at ≡ goes ts (Gives (ExprAt (expr_place e) [] (joined o e (expr_at m r))) (Rest b n d ∷ k)) next = λ k.
    infix_opens ts at d b o here le n lt e k ∙ read.leads (Rest b n d ∷ k) ∙ pass_right ts next o e (expr_at m r) (Rest b n d ∷ k) in
    ends_made _ _ ts at next a m c _ result read.in_text (omega (arith, read.later)) (omega (arith, read.few)) read.kept
    (λ k. rw (place_is, form_is) (subst (λ z. goes ts (Gives e (Rest b n d ∷ k)) at ≡ goes ts (Gives (ExprAt (expr_place z) [] (joined o z (expr_at m r))) (Rest b n d ∷ k)) next) (sym same) (go k))) made

-- the operators so far
pub record ChainSoFar (start : List Frame → State) (b : Bool) (n d : ℕ) (ts : List Token) (at place : ℕ) (a m : Forest) (l : ExprId) : Type 0 where
  pub read : ReadsOn start (λ k. Rest b n d ∷ k) ts at a m l place
  pub ready : IsReady ts place d m

pub chain_begin : (b : Bool) (n d : ℕ) (ts : List Token) (at : ℕ) (a : Forest) (l : ExprId) → IsReady ts at d a → IsExpr a l → ChainSoFar (λ k. Gives (expr_at a l) (Rest b n d ∷ k)) b n d ts at at a a l
chain_begin b n d ts at a l ready is_in = record {
  read = record { in_text = ready.in_text; later = omega arith; few = omega arith; kept = keeps_same a; is_in = is_in; leads = λ k. refl };
  ready = ready;
}

no_infix : (b : Bool) (n d : ℕ) (e : Expr) (k : List Frame) (s : Sign) (x : Lexeme) (r : Option Infix) → infix_of s b ≡ r → ((o : Infix) → r ≡ Some o → n ≤ level_of o) → step (Gives e (Rest b n d ∷ k)) (s, x) ≡ step (Gives e k) (s, x)
no_infix b n d e k s x None is none = rw is refl
no_infix b n d e k s x (Some o) is none =
    let le : n ≤ level_of o = none o refl in
    let above : ltb (level_of o) n ≡ false = grind (arith, nat_tests) in
    rw (is, above) refl

module _ (start : List Frame → State) (b : Bool) (n d : ℕ) (ts : List Token) (at place : ℕ) (a m : Forest) (l : ExprId) (so_far : ChainSoFar start b n d ts at place a m l) where
  pub chain_ends : (s : Sign) → Next ts place s → ((o : Infix) → infix_of s b ≡ Some o → n ≤ level_of o) → ReadsOn start (λ k. k) ts at a m l place
  chain_ends s here none = record {
    in_text = so_far.read.in_text;
    later = so_far.read.later;
    few = so_far.read.few;
    kept = so_far.read.kept;
    is_in = so_far.read.is_in;
    leads = λ k. so_far.read.leads k ∙ same_one ts (Gives (expr_at m l) (Rest b n d ∷ k)) (Gives (expr_at m l) k) place s here (no_infix b n d (expr_at m l) k s (lexeme_at ts place) (infix_of s b) refl none);
  }

  pub chain_more : (c : Forest) (id : ExprId) (next : ℕ) → Reads (λ k. Gives (expr_at m l) (Rest b n d ∷ k)) (λ k. Rest b n d ∷ k) ts place m c id next → ChainSoFar start b n d ts at next a c id
  chain_more c id next h = record { read = on_reads_then so_far.read h; ready = ready_next d so_far.ready h }

  pub chain_refused : (e : Refusal) → Refuses (λ k. Gives (expr_at m l) (Rest b n d ∷ k)) ts place e → Refuses start ts at e
  chain_refused e h = refuses_on e so_far.read h

-- ## Conditions and assignments

no_colon : (a e : Expr) (b : Bool) (d : ℕ) (k : List Frame) (s : Sign) (x : Lexeme) → s ≢ sign.Colon → ◌≡◌ {A = Step} (step (Gives e (Second b d a ∷ k)) (s, x)) None
no_colon a e b d k sign.Colon x h = absurd (h refl)
no_colon a e b d k _ x h = refl

pass_third : (ts : List Token) (at : ℕ) (a b c : Expr) (k : List Frame) → goes ts (Gives c (Third a b ∷ k)) at ≡ goes ts (Gives (ExprAt (expr_place a) [] (Cond a b c)) k) at
pass_third ts at a b c k = passes (from ts at)
  where
    passes : (l : List Token) → judge step finished 200 (Gives c (Third a b ∷ k)) l ≡ judge step finished 200 (Gives (ExprAt (expr_place a) [] (Cond a b c)) k) l
    passes [] = refl
    passes (t ∷ l) = refl

module _ (ts : List Token) (at d inner : ℕ) (b : Bool) (e : Expr) (here : Next ts at sign.Question) (is : inner ≡ suc d) (le : inner ≤ 200) where
  choice_opens : (k : List Frame) → goes ts (Gives e (Choice b d ∷ k)) at ≡ goes ts (Wants (expr b inner (Second b d e ∷ k))) (at + 1)
  choice_opens k = take_one ts (Gives e (Choice b d ∷ k)) (Wants (expr b inner (Second b d e ∷ k))) at inner sign.Question here (rw is refl) le

  pub choice_refused : (r : Refusal) → Refuses (λ k. Wants (expr b inner k)) ts (at + 1) r → Refuses (λ k. Gives e (Choice b d ∷ k)) ts at r
  choice_refused r h = refuses_before _ (λ k. Wants (expr b inner k)) (λ k. Second b d e ∷ k) ts at (at + 1) r choice_opens h

  module _ (a m : Forest) (chosen : ExprId) (colon : ℕ) (h : Reads (λ k. Wants (expr b inner k)) (λ k. k) ts (at + 1) a m chosen colon) where
    pub choice_unmarked : IsOther ts colon sign.Colon → Refuses (λ k. Gives e (Choice b d ∷ k)) ts at (refusal.Syntax colon)
    choice_unmarked other = other_refused _ ts at colon sign.Colon (λ k. Gives (expr_at m chosen) (Second b d e ∷ k)) h.in_text other (λ k. choice_opens k ∙ h.leads (Second b d e ∷ k)) (no_colon e (expr_at m chosen) b d)

    choice_third : (first : ℕ) → Next ts colon sign.Colon → first ≡ colon + 1 → (k : List Frame) → goes ts (Gives e (Choice b d ∷ k)) at ≡ goes ts (Wants (expr b inner (Third e (expr_at m chosen) ∷ k))) first
    choice_third first mark to k = choice_opens k ∙ h.leads (Second b d e ∷ k) ∙ take_to ts (Gives (expr_at m chosen) (Second b d e ∷ k)) (Wants (expr b inner (Third e (expr_at m chosen) ∷ k))) colon first inner sign.Colon mark (rw is refl) le to

    pub choice_third_refused : (first : ℕ) (r : Refusal) → Next ts colon sign.Colon → first ≡ colon + 1 → Refuses (λ k. Wants (expr b inner k)) ts first r → Refuses (λ k. Gives e (Choice b d ∷ k)) ts at r
    choice_third_refused first r mark to g = refuses_before _ (λ k. Wants (expr b inner k)) (λ k. Third e (expr_at m chosen) ∷ k) ts at first r (choice_third first mark to) g

pub choice_ends : (ts : List Token) (at colon first next d inner : ℕ) (b : Bool) (a m n c : Forest) (l chosen r : ExprId) (place : ℕ) (result : Result (ExprId × ℕ) Refusal) → IsExpr a l → Next ts at sign.Question → inner ≡ suc d → inner ≤ 200 → Reads (λ k. Wants (expr b inner k)) (λ k. k) ts (at + 1) a m chosen colon → Next ts colon sign.Colon → first ≡ colon + 1 → Reads (λ k. Wants (expr b inner k)) (λ k. k) ts first m n r next → place ≡ expr_place (expr_at n l) → MadeExpr n c (ExprAt place [] (Cond (expr_at n l) (expr_at n chosen) (expr_at n r))) next result → ReadsExpr (λ k. Gives (expr_at a l) (Choice b d ∷ k)) (λ k. k) ts at a c result
choice_ends ts at colon first next d inner b a m n c l chosen r place result is_left here is le h mark to g place_is made =
    let e = expr_at a l in
    let y = expr_at m chosen in
    let kept = keeps_then a m n h.kept g.kept in
    let same : expr_at n l ≡ e = (kept.exprs l is_left).1 in
    let same_chosen : expr_at n chosen ≡ y = (g.kept.exprs chosen h.is_in).1 in
    let go : (k : List Frame) → goes ts (Gives e (Choice b d ∷ k)) at ≡ goes ts (Gives (ExprAt (expr_place e) [] (Cond e y (expr_at n r))) k) next = λ k.
    choice_third ts at d inner b e here is le a m chosen colon h first mark to k ∙ g.leads (Third e y ∷ k) ∙ pass_third ts next e y (expr_at n r) k in
    ends_made _ _ ts at next a n c _ result g.in_text (omega (arith, h.later, g.later, to)) (omega (arith, h.few, g.few, to)) kept
    (λ k. rw place_is (subst (λ z. goes ts (Gives e (Choice b d ∷ k)) at ≡ goes ts (Gives (ExprAt (expr_place z) [] (Cond z (expr_at n chosen) (expr_at n r))) k) next) (sym same)
    (subst (λ z. goes ts (Gives e (Choice b d ∷ k)) at ≡ goes ts (Gives (ExprAt (expr_place e) [] (Cond e z (expr_at n r))) k) next) (sym same_chosen) (go k)))) made

-- no condition begins
pub no_choice : (start : List Frame → State) (ts : List Token) (at place d : ℕ) (b : Bool) (a m : Forest) (id : ExprId) (s : Sign) → ReadsOn start (λ k. Choice b d ∷ k) ts at a m id place → Next ts place s → s ≢ sign.Question → ReadsOn start (λ k. k) ts at a m id place
no_choice start ts at place d b a m id s h here other = record {
  in_text = h.in_text;
  later = h.later;
  few = h.few;
  kept = h.kept;
  is_in = h.is_in;
  leads = λ k. h.leads k ∙ same_one ts (Gives (expr_at m id) (Choice b d ∷ k)) (Gives (expr_at m id) k) place s here (past (expr_at m id) k s (lexeme_at ts place) other);
}
  where
    past : (e : Expr) (k : List Frame) (s : Sign) (x : Lexeme) → s ≢ sign.Question → step (Gives e (Choice b d ∷ k)) (s, x) ≡ step (Gives e k) (s, x)
    past e k sign.Question x p = absurd (p refl)
    past e k _ x p = refl

pass_assigned : (ts : List Token) (at : ℕ) (o : AssignOp) (a b : Expr) (k : List Frame) → goes ts (Gives b (Assigned o a ∷ k)) at ≡ goes ts (Gives (ExprAt (expr_place a) [] (Assign o a b)) k) at
pass_assigned ts at o a b k = passes (from ts at)
  where
    passes : (l : List Token) → judge step finished 200 (Gives b (Assigned o a ∷ k)) l ≡ judge step finished 200 (Gives (ExprAt (expr_place a) [] (Assign o a b)) k) l
    passes [] = refl
    passes (t ∷ l) = refl

assign_step : (b : Bool) (d : ℕ) (e : Expr) (k : List Frame) (o : AssignOp) (s : Sign) (x : Lexeme) → assign_of s ≡ Some o → ◌≡◌ {A = Step} (step (Gives e (Target d ∷ Rest b 10 d ∷ Choice b d ∷ k)) (s, x)) (Some (suc d, Wants (expr b (suc d) (Assigned o e ∷ k))))
assign_step b d e k o s x is = rw (unstepped s o is, is) refl

module _ (ts : List Token) (at d inner : ℕ) (b : Bool) (e : Expr) (o : AssignOp) (here : IsNext ts at (λ s. assign_of s ≡ Some o)) where
  pub assign_deep : at < length ts → d ≡ 200 → Refuses (λ k. Gives e (Target d ∷ Rest b 10 d ∷ Choice b d ∷ k)) ts at (refusal.TooDeep at)
  assign_deep lt is = (lt, λ k. deep_one ts (Gives e (Target d ∷ Rest b 10 d ∷ Choice b d ∷ k)) (Wants (expr b (suc d) (Assigned o e ∷ k))) at (suc d) (here.0) (here.1) (assign_step b d e k o (here.0) (lexeme_at ts at) (here.2)) (omega arith))

  module _ (is : inner ≡ suc d) (le : inner ≤ 200) where
    assign_opens : (k : List Frame) → goes ts (Gives e (Target d ∷ Rest b 10 d ∷ Choice b d ∷ k)) at ≡ goes ts (Wants (expr b inner (Assigned o e ∷ k))) (at + 1)
    assign_opens k = take_one ts (Gives e (Target d ∷ Rest b 10 d ∷ Choice b d ∷ k)) (Wants (expr b inner (Assigned o e ∷ k))) at inner (here.0) (here.1) (subst (λ i. ◌≡◌ {A = Step} (step (Gives e (Target d ∷ Rest b 10 d ∷ Choice b d ∷ k)) (here.0, lexeme_at ts at)) (Some (i, Wants (expr b i (Assigned o e ∷ k))))) (sym is) (assign_step b d e k o (here.0) (lexeme_at ts at) (here.2))) le

    pub assign_refused : (r : Refusal) → Refuses (λ k. Wants (expr b inner k)) ts (at + 1) r → Refuses (λ k. Gives e (Target d ∷ Rest b 10 d ∷ Choice b d ∷ k)) ts at r
    assign_refused r h = refuses_before _ (λ k. Wants (expr b inner k)) (λ k. Assigned o e ∷ k) ts at (at + 1) r assign_opens h

pub assign_ends : (ts : List Token) (at next d inner : ℕ) (b : Bool) (o : AssignOp) (a m c : Forest) (l r : ExprId) (place : ℕ) (result : Result (ExprId × ℕ) Refusal) → IsExpr a l → IsNext ts at (λ s. assign_of s ≡ Some o) → inner ≡ suc d → inner ≤ 200 → Reads (λ k. Wants (expr b inner k)) (λ k. k) ts (at + 1) a m r next → place ≡ expr_place (expr_at m l) → MadeExpr m c (ExprAt place [] (Assign o (expr_at m l) (expr_at m r))) next result → ReadsExpr (λ k. Gives (expr_at a l) (Target d ∷ Rest b 10 d ∷ Choice b d ∷ k)) (λ k. k) ts at a c result
assign_ends ts at next d inner b o a m c l r place result is_left here is le h place_is made =
    let e = expr_at a l in
    let same : expr_at m l ≡ e = (h.kept.exprs l is_left).1 in
    let go : (k : List Frame) → goes ts (Gives e (Target d ∷ Rest b 10 d ∷ Choice b d ∷ k)) at ≡ goes ts (Gives (ExprAt (expr_place e) [] (Assign o e (expr_at m r))) k) next = λ k.
    assign_opens ts at d inner b e o here is le k ∙ h.leads (Assigned o e ∷ k) ∙ pass_assigned ts next o e (expr_at m r) k in
    ends_made _ _ ts at next a m c _ result h.in_text (omega (arith, h.later)) (omega (arith, h.few)) h.kept
    (λ k. rw place_is (subst (λ z. goes ts (Gives e (Target d ∷ Rest b 10 d ∷ Choice b d ∷ k)) at ≡ goes ts (Gives (ExprAt (expr_place z) [] (Assign o z (expr_at m r))) k) next) (sym same) (go k))) made

-- an assignment expression, from its parts
pub assignment_prefixed : (ts : List Token) (at mid d : ℕ) (b : Bool) (a m c : Forest) (x : ExprId) (result : Result (ExprId × ℕ) Refusal) → Reads (λ k. Wants (UnaryAt d ∷ k)) (λ k. k) ts at a m x mid → GoesOn (λ k. Gives (expr_at m x) (Rest b 10 d ∷ Choice b d ∷ k)) (λ k. k) ts mid m c result → ReadsExpr (λ k. Wants (expr b d k)) (λ k. k) ts at a c result
assignment_prefixed ts at mid d b a m c x result h on = ends_on _ c result (reads_in (λ k. Rest b 10 d ∷ Choice b d ∷ k) h) on

pub assignment_assigned : (ts : List Token) (at mid d : ℕ) (b : Bool) (a m c : Forest) (x : ExprId) (result : Result (ExprId × ℕ) Refusal) → Reads (λ k. Wants (UnaryAt d ∷ k)) (λ k. Target d ∷ k) ts at a m x mid → ReadsExpr (λ k. Gives (expr_at m x) (Target d ∷ Rest b 10 d ∷ Choice b d ∷ k)) (λ k. k) ts mid m c result → ReadsExpr (λ k. Wants (expr b d k)) (λ k. k) ts at a c result
assignment_assigned ts at mid d b a m c x result h on = ends_with _ c result (reads_in (λ k. Rest b 10 d ∷ Choice b d ∷ k) h) on

pub assignment_stepped : (ts : List Token) (at mid next d : ℕ) (b : Bool) (a m n c : Forest) (x y : ExprId) (result : Result (ExprId × ℕ) Refusal) → Reads (λ k. Wants (UnaryAt d ∷ k)) (λ k. Target d ∷ k) ts at a m x mid → ReadsOn (λ k. Gives (expr_at m x) (Target d ∷ k)) (λ k. k) ts mid m n y next → GoesOn (λ k. Gives (expr_at n y) (Rest b 10 d ∷ Choice b d ∷ k)) (λ k. k) ts next n c result → ReadsExpr (λ k. Wants (expr b d k)) (λ k. k) ts at a c result
assignment_stepped ts at mid next d b a m n c x y result h step on = assignment_prefixed ts at next d b a n c y result (reads_on_then h step) on

pub assignment_unstepped : (ts : List Token) (at mid d : ℕ) (b : Bool) (a m : Forest) (x : ExprId) (e : Refusal) → Reads (λ k. Wants (UnaryAt d ∷ k)) (λ k. Target d ∷ k) ts at a m x mid → Refuses (λ k. Gives (expr_at m x) (Target d ∷ k)) ts mid e → Refuses (λ k. Wants (expr b d k)) ts at e
assignment_unstepped ts at mid d b a m x e h r = refuses_in (λ k. Wants (UnaryAt d ∷ k)) ts at (λ k. Rest b 10 d ∷ Choice b d ∷ k) e (refuses_then e h r)

pub assignment_refused : (ts : List Token) (at d : ℕ) (b : Bool) (e : Refusal) → Refuses (λ k. Wants (UnaryAt d ∷ k)) ts at e → Refuses (λ k. Wants (expr b d k)) ts at e
assignment_refused ts at d b e h = refuses_in (λ k. Wants (UnaryAt d ∷ k)) ts at (λ k. Rest b 10 d ∷ Choice b d ∷ k) e h

-- ## Commas

pass_comma : (ts : List Token) (at : ℕ) (a b : Expr) (k : List Frame) → goes ts (Gives b (CommaRight a ∷ k)) at ≡ goes ts (Gives (ExprAt (expr_place a) [] (Comma a b)) k) at
pass_comma ts at a b k = passes (from ts at)
  where
    passes : (l : List Token) → judge step finished 200 (Gives b (CommaRight a ∷ k)) l ≡ judge step finished 200 (Gives (ExprAt (expr_place a) [] (Comma a b)) k) l
    passes [] = refl
    passes (t ∷ l) = refl

comma_opens : (ts : List Token) (at d : ℕ) (e : Expr) → Next ts at sign.Comma → d ≤ 200 → (k : List Frame) → goes ts (Gives e (Commas d ∷ k)) at ≡ goes ts (Wants (expr false d (CommaRight e ∷ Commas d ∷ k))) (at + 1)
comma_opens ts at d e here le k = take_one ts (Gives e (Commas d ∷ k)) (Wants (expr false d (CommaRight e ∷ Commas d ∷ k))) at d sign.Comma here refl le

pub comma_refused : (ts : List Token) (at d : ℕ) (e : Expr) (r : Refusal) → Next ts at sign.Comma → d ≤ 200 → Refuses (λ k. Wants (expr false d k)) ts (at + 1) r → Refuses (λ k. Gives e (Commas d ∷ k)) ts at r
comma_refused ts at d e r here le h = refuses_before _ (λ k. Wants (expr false d k)) (λ k. CommaRight e ∷ Commas d ∷ k) ts at (at + 1) r (comma_opens ts at d e here le) h

pub comma_ends : (ts : List Token) (at next d : ℕ) (a m c : Forest) (l r : ExprId) (place : ℕ) (result : Result (ExprId × ℕ) Refusal) → IsExpr a l → Next ts at sign.Comma → d ≤ 200 → Reads (λ k. Wants (expr false d k)) (λ k. k) ts (at + 1) a m r next → place ≡ expr_place (expr_at m l) → MadeExpr m c (ExprAt place [] (Comma (expr_at m l) (expr_at m r))) next result → ReadsExpr (λ k. Gives (expr_at a l) (Commas d ∷ k)) (λ k. Commas d ∷ k) ts at a c result
comma_ends ts at next d a m c l r place result is_left here le h place_is made =
    let e = expr_at a l in
    let same : expr_at m l ≡ e = (h.kept.exprs l is_left).1 in
    let go : (k : List Frame) → goes ts (Gives e (Commas d ∷ k)) at ≡ goes ts (Gives (ExprAt (expr_place e) [] (Comma e (expr_at m r))) (Commas d ∷ k)) next = λ k.
    comma_opens ts at d e here le k ∙ h.leads (CommaRight e ∷ Commas d ∷ k) ∙ pass_comma ts next e (expr_at m r) (Commas d ∷ k) in
    ends_made _ _ ts at next a m c _ result h.in_text (omega (arith, h.later)) (omega (arith, h.few)) h.kept
    (λ k. rw place_is (subst (λ z. goes ts (Gives e (Commas d ∷ k)) at ≡ goes ts (Gives (ExprAt (expr_place z) [] (Comma z (expr_at m r))) (Commas d ∷ k)) next) (sym same) (go k))) made

-- no comma goes on
pub commas_end : (ts : List Token) (at place d : ℕ) (a b : Forest) (id : ExprId) (s : Sign) → Reads (λ k. Wants (whole d k)) (λ k. Commas d ∷ k) ts at a b id place → Next ts place s → s ≢ sign.Comma → Reads (λ k. Wants (whole d k)) (λ k. k) ts at a b id place
commas_end ts at place d a b id s h here other = record {
  in_text = h.in_text;
  later = h.later;
  few = h.few;
  kept = h.kept;
  is_in = h.is_in;
  leads = λ k. h.leads k ∙ same_one ts (Gives (expr_at b id) (Commas d ∷ k)) (Gives (expr_at b id) k) place s here (past (expr_at b id) k s (lexeme_at ts place) other);
}
  where
    past : (e : Expr) (k : List Frame) (s : Sign) (x : Lexeme) → s ≢ sign.Comma → step (Gives e (Commas d ∷ k)) (s, x) ≡ step (Gives e k) (s, x)
    past e k sign.Comma x p = absurd (p refl)
    past e k _ x p = refl

-- ## No operator is the end of the text

pub step_inside : (s : Sign) (o : StepOp) → Some o ≡ step_of s → s ≢ sign.End
step_inside s o is e = let none = ap step_of e in cc
