-- Each text has an answer, and what the places of refusals say of the fronts of programs.
use Rattle.std.proofs.Common.{◌≡◌, ℕ, zero, suc, ◌-◌, ◌<◌, ◌≤◌, ◌⊎◌, inl, inr, List, [], ◌∷◌, ◌++◌, Bool, true, false, Option, Some, None, refl, ap, sym, subst, ◌∙◌, length, take, arith, nat_lt, if◌then◌else◌, append_assoc}
use Rattle.js_grammar.specs.declared.Sign.TheVariants as sign
use Rattle.js_grammar.specs.Grammar.{Lexeme, Token, Deep, IsProgram, Begins}
use Rattle.js_grammar.specs.Machine as machine
use Rattle.js_grammar.specs.Machine.{Frame, State, Wants, Gives, Did, Done, Step, step, begin, finished, judged}
use Rattle.js_grammar.specs.Machine.{ArrayEnd, CallEnd, NewEnd, ForItemsEnd, ForEnd, VarEnd, ForVarEnd, InBlock, InBody, Labelled, ElseIf}
use Rattle.js_grammar.proofs.Complete.{complete}
use Rattle.js_grammar.proofs.Laws.{read_means, refused_means, deeper_means}
use Rattle.js_tree.specs.Plain.{Stmts, Stmt, Expr, Exprs, Decls}
use Rattle.exact_refusals.specs.Places.{signs, Within, HasTree, IsSyntaxAt, IsTooDeepAt}
use Rattle.exact_refusals.specs.Judge as judge
use Rattle.exact_refusals.specs.Judge.{Outcome, Read, Refused, Deeper}

-- ## Each text has an answer

-- no more tokens are left than there are
abbrev Left : ℕ → Outcome Stmts → Type 0
Left m (Read p) = Unit {0}
Left m (Refused n) = n ≤ m
Left m (Deeper n) = n ≤ m

left_more : (m : ℕ) (o : Outcome Stmts) → Left m o → Left (suc m) o
left_more m (Read p) h = tt
left_more m (Refused n) h = omega (arith, h)
left_more m (Deeper n) h = omega (arith, h)

left_end : (r : Option Stmts) → Left 0 (judge.ended r)
left_end (Some p) = tt
left_end None = omega arith

left_depth : (c : Bool) (m : ℕ) (o : Outcome Stmts) → Left m o → Left (suc m) (if c then Deeper (suc m) else o)
left_depth true m o h = omega arith
left_depth false m o h = left_more m o h

left_step : (limit m : ℕ) (r : Step) (next : State → Outcome Stmts) → ((st : State) → Left m (next st)) → Left (suc m) (judge.judge_step limit r (suc m) next)
left_step limit m None next h = omega arith
left_step limit m (Some (d, st)) next h = left_depth (nat_lt limit d) m (next st) (h st)

left_in : (limit : ℕ) (ts : List Token) (st : State) → Left (length ts) (judge.judge step finished limit st ts)
left_in limit [] st = left_end (finished st)
left_in limit (t ∷ ts) st = left_step limit (length ts) (step st t) (λ next. judge.judge step finished limit next ts) (λ next. left_in limit ts next)

answer_of : (limit : ℕ) (input : List Token) (o : Outcome Stmts) → judged limit input ≡ o → Left (length input) o → ((p : Stmts) × HasTree IsProgram limit input p) ⊎ ((at : ℕ) × IsSyntaxAt IsProgram limit input at) ⊎ ((at : ℕ) × IsTooDeepAt IsProgram limit input at)
answer_of limit input (Read p) is h = inl (p, read_means limit input p is)
answer_of limit input (Refused n) is h = inr (inl (length input - n, refused_means limit input n (length input - n) is (omega (arith, h))))
answer_of limit input (Deeper n) is h = inr (inr (length input - n, deeper_means limit input n (length input - n) is (omega (arith, h))))

pub answer : (limit : ℕ) (input : List Token) → ((p : Stmts) × HasTree IsProgram limit input p) ⊎ ((at : ℕ) × IsSyntaxAt IsProgram limit input at) ⊎ ((at : ℕ) × IsTooDeepAt IsProgram limit input at)
answer limit input = answer_of limit input (judged limit input) refl (left_in limit input begin)

-- ## The end of the text ends the machine

abbrev EndsIt : Step → Type 0
EndsIt None = Unit {0}
EndsIt (Some (d, Done p)) = Unit {0}
EndsIt (Some (d, _)) = ⊥

listed_end : (k : List Frame) (xs : Exprs) (x : Lexeme) → EndsIt (machine.listed xs k (sign.End, x))
listed_end [] xs x = tt
listed_end (ArrayEnd d w ∷ k) xs x = tt
listed_end (CallEnd d f ∷ k) xs x = tt
listed_end (NewEnd d w f ∷ k) xs x = tt
listed_end (ForItemsEnd d w ∷ k) xs x = tt
listed_end (ForEnd d w i test ∷ k) xs x = tt
listed_end (_ ∷ k) xs x = tt

declared_end : (k : List Frame) (ds : Decls) (x : Lexeme) → EndsIt (machine.declared ds k (sign.End, x))
declared_end [] ds x = tt
declared_end (VarEnd d w ∷ k) ds x = tt
declared_end (ForVarEnd d w ∷ k) ds x = tt
declared_end (_ ∷ k) ds x = tt

finishes_end : (d : ℕ) (ss : Stmts) (k : List Frame) → EndsIt (machine.finishes d ss k)
finishes_end d ss [] = tt
finishes_end d ss (f ∷ k) = tt

after_end : (k : List Frame) (e : Expr) (x : Lexeme) → EndsIt (machine.after e k (sign.End, x))
after_end [] e x = tt
after_end (machine.Tail d ∷ k) e x = after_end k e x
after_end (machine.NewTail d w ∷ k) e x = after_end k _ x
after_end (machine.Target d ∷ k) e x = after_end k e x
after_end (machine.Prefixed w o ∷ k) e x = after_end k _ x
after_end (machine.Rest b n d ∷ k) e x = after_end k e x
after_end (machine.Right o a ∷ k) e x = after_end k _ x
after_end (machine.Choice b d ∷ k) e x = after_end k e x
after_end (machine.Third a c ∷ k) e x = after_end k _ x
after_end (machine.Assigned o a ∷ k) e x = after_end k _ x
after_end (machine.Commas d ∷ k) e x = after_end k e x
after_end (machine.CommaRight a ∷ k) e x = after_end k _ x
after_end (machine.MoreItems b d xs ∷ k) e x = listed_end k _ x
after_end (machine.VarInit b d ds y ∷ k) e x = declared_end k _ x
after_end (_ ∷ k) e x = tt

statement_end : (k : List Frame) (s : Stmt) (x : Lexeme) → EndsIt (machine.after_statement s k (sign.End, x))
statement_end [] s x = tt
statement_end (InBlock d ss ∷ k) s x = finishes_end d _ k
statement_end (InBody d ss fs ∷ k) s x = tt
statement_end (Labelled y ∷ k) s x = statement_end k _ x
statement_end (ElseIf w e ss ∷ k) s x = statement_end k _ x
statement_end (_ ∷ k) s x = tt

wants_end : (k : List Frame) (x : Lexeme) → EndsIt (machine.wants k (sign.End, x))
wants_end [] x = tt
wants_end (machine.VarTail b d ds y ∷ k) x = declared_end k _ x
wants_end (machine.AfterIf d w e ss ∷ k) x = statement_end k _ x
wants_end (machine.AfterCatch d w ss y cs ∷ k) x = statement_end k _ x
wants_end (InBlock d ss ∷ k) x = finishes_end d ss k
wants_end (_ ∷ k) x = tt

step_end : (st : State) (x : Lexeme) → EndsIt (step st (sign.End, x))
step_end (Wants k) x = wants_end k x
step_end (Gives e k) x = after_end k e x
step_end (Did s k) x = statement_end k s x
step_end (Done p) x = tt

-- ## Fronts

abbrev Takes : State → List Deep → Stmts → Type 0
Takes st ts p = judge.Takes step finished st ts p

-- nothing comes after the end
nothing_after : (m : ℕ) (next : State) (ts : List Deep) (p : Stmts) → EndsIt (Some (m, next)) → Takes next ts p → ts ≡ []
nothing_after m (Done q) [] p e h = refl
nothing_after m (Done q) (t ∷ ts) p e h = cc
nothing_after m (Wants k) ts p e h = absurd e
nothing_after m (Gives x k) ts p e h = absurd e
nothing_after m (Did s k) ts p e h = absurd e

ends_all : (us : List Token) (x : Lexeme) (ts : List Deep) (st : State) (p : Stmts) → Takes st ts p → take (suc (length us)) (signs ts) ≡ us ++ (sign.End, x) ∷ [] → signs ts ≡ us ++ (sign.End, x) ∷ []
ends_all [] x [] st p h e = cc
ends_all [] x (t ∷ ts) st p h e =
    let head : t.0 ≡ (sign.End, x) = cc in
    let ends : EndsIt (Some (t.1, h.0)) = subst EndsIt (h.1) (subst (λ y. EndsIt (step st y)) (sym head) (step_end st x)) in
    let none : ts ≡ [] = nothing_after (t.1) (h.0) ts p ends (h.2) in
    subst (λ l. t.0 ∷ signs l ≡ (sign.End, x) ∷ []) (sym none) e
ends_all (u ∷ us) x [] st p h e = cc
ends_all (u ∷ us) x (t ∷ ts) st p h e =
    let head : t.0 ≡ u = cc in
    let tail : signs ts ≡ us ++ (sign.End, x) ∷ [] = ends_all us x ts (h.0) p (h.2) cc in
    cc

take_all : (us : List Token) (t : Token) → take (suc (length us)) (us ++ t ∷ []) ≡ us ++ t ∷ []
take_all [] t = refl
take_all (u ∷ us) t = ap (λ l. u ∷ l) (take_all us t)

take_before : (us : List Token) (t : Token) → take (length us) (us ++ t ∷ []) ≡ us
take_before [] t = refl
take_before (u ∷ us) t = ap (λ l. u ∷ l) (take_before us t)

length_signs : (ts : List Deep) → length (signs ts) ≡ length ts
length_signs [] = refl
length_signs (t ∷ ts) = ap suc (length_signs ts)

length_one_more : (us : List Token) (t : Token) → length (us ++ t ∷ []) ≡ suc (length us)
length_one_more [] t = refl
length_one_more (u ∷ us) t = ap suc (length_one_more us t)

-- tokens that begin a program and are none are refused at the end of the text
pub cut_short : (limit : ℕ) (front more : List Deep) (p : Stmts) (end : Lexeme) → IsProgram (front ++ more) p → Within limit front → ((us : List Deep) (q : Stmts) → IsProgram us q → signs us ≡ signs front ++ (sign.End, end) ∷ [] → ⊥) → IsSyntaxAt IsProgram limit (signs front ++ (sign.End, end) ∷ []) (length front)
cut_short limit front more p end begins within none =
    let same = length_signs front in
    record {
      front = front;
      more = more;
      tree = p;
      begins = begins;
      taken = sym (subst (λ n. take n (signs front ++ (sign.End, end) ∷ []) ≡ signs front) same (take_before (signs front) (sign.End, end)));
      within = within;
      inside = omega (arith, length_one_more (signs front) (sign.End, end), same);
      refused = λ ts q spelled agree.
          none ts q spelled (ends_all (signs front) end ts begin q (complete ts q spelled)
          (subst (λ n. take (suc n) (signs ts) ≡ take (suc n) (signs front ++ (sign.End, end) ∷ [])) (sym same) agree ∙ take_all (signs front) (sign.End, end)));
    }

agree_front : (front more : List Deep) (n : ℕ) (input : List Token) → signs front ≡ take n input → n ≤ length input → take n (signs (front ++ more)) ≡ take n input
agree_front front more zero input e le = refl
agree_front [] more (suc n) [] e le = let none : ⊥ = omega (arith, le) in absurd none
agree_front [] more (suc n) (x ∷ input) e le = cc
agree_front (t ∷ front) more (suc n) [] e le = let none : ⊥ = omega (arith, le) in absurd none
agree_front (t ∷ front) more (suc n) (x ∷ input) e le =
    let head : t.0 ≡ x = cc in
    let tail : take n (signs (front ++ more)) ≡ take n input = (let inner : n ≤ length input = omega (arith, le) in let same : signs front ≡ take n input = cc in agree_front front more n input same inner) in
    cc

-- the tokens before a refused one begin a program, and with it they do not
pub syntax_begins : (limit : ℕ) (input : List Token) (at : ℕ) → IsSyntaxAt IsProgram limit input at → Begins (take at input)
syntax_begins limit input at h = (h.front, h.more, h.tree, h.taken, h.begins)

pub syntax_ends : (limit : ℕ) (input : List Token) (at : ℕ) → IsSyntaxAt IsProgram limit input at → at < length input → Begins (take (suc at) input) → ⊥
syntax_ends limit input at h lt b = h.refused (b.0 ++ b.1) (b.2) (b.4) (agree_front (b.0) (b.1) (suc at) input (b.3) (omega (arith, lt)))

-- the tokens up to one that is too deep begin a program
pub deep_begins : (limit : ℕ) (input : List Token) (at : ℕ) → IsTooDeepAt IsProgram limit input at → Begins (take (suc at) input)
deep_begins limit input at h = (h.front ++ h.token ∷ [], h.more, h.tree, h.taken, subst (λ l. IsProgram l h.tree) (sym (append_assoc h.front (h.token ∷ []) h.more)) h.begins)
