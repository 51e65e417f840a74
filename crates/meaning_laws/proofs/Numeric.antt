-- Forms whose value is a number: each end of what is to be done is one.
use Rattle.std.specs.Prelude.{ℕ, zero, suc, ℤ, pos, negsuc, int_rem, int_div, not, nat_le, is_some, ◌+ℤ◌, ◌-ℤ◌, ◌*ℤ◌, neg_ℤ, unsigned_abs, length, List, [], ◌∷◌, ◌++◌, Bool, true, false, Option, Some, None, nat_lt, if◌then◌else◌}
use Rattle.js_tree.specs.Plain as tree
use Rattle.js_tree.specs.Plain.{Expr, ExprForm}
use Rattle.js_tree.specs.declared.nodes.UnOp.{UnOp}
use Rattle.js_tree.specs.declared.nodes.UnOp.TheVariants as un
use Rattle.js_tree.specs.declared.nodes.BinOp.{BinOp}
use Rattle.js_tree.specs.declared.nodes.BinOp.TheVariants as bin
use Rattle.js_tree.specs.declared.nodes.StepOp.{StepOp}
use Rattle.js_tree.specs.declared.nodes.StepOp.TheVariants as step
use Rattle.code_units.specs.declared.whole.WholeRead.{WholeRead}
use Rattle.code_units.specs.declared.whole.WholeRead.TheVariants as read
use Rattle.code_units.specs.Whole.{number_in}
use Rattle.widget_meaning.specs.Limits.{max_units, max_cells, max_slots, max_nodes, max_length, past_numbers}
use Rattle.widget_meaning.specs.Values.{Value, Undefined, Null, Truth, NaN, Num, Text, Own, Host, Reference, Variable, Property, Found, Completion, Normal, Is, Refers, Return, Break, Continue, Throw, Fault, E1, E5, E7, StopCause, Units, Cells, Slots, Nodes, Number, LongText, to_number, to_text, is_nothing}
use Rattle.widget_meaning.specs.OwnState.{Amounts, State, Cell, Kind, Object, Array, Function, Bunch, cell_at, replaced, plain_object, lookup, with_cell, with_new_cell}
use Rattle.widget_meaning.specs.Plan.{Job, Eval, Target, Exec, Pass, Call, RunNative, Hear, Plan, Ret, Halt, Need, Tick, Do, Place, Out, OutOfFuel, and_then, after, on_value, on_reference}
use Rattle.widget_meaning.specs.Costs.{pay, sum, with_counts, throw, slots_cost, object_cost, fault_pairs}
use Rattle.widget_meaning.specs.Operators.{OpOut, Gives, Leaves, TooLong, number, of_numbers, is_zero, remainder, quotient, binary, as_number, unary}
use Rattle.widget_meaning.specs.Properties.{index_of, put_pair, put_index, put_length, put_own, put, is_length, cut_to}
use Rattle.widget_meaning.specs.Calls.{to_primitive}
use Rattle.widget_meaning.specs.Expressions.{result, literal, stepped, is_post, step_write, step_number, step_converted, step_target, write, refer, target, is_converting, converted_left, operate, unary_on, prefix_form, expression, referred}
use Rattle.widget_meaning.specs.Scopes.{assign}
use Rattle.widget_meaning.specs.Meaning.{body, run_plan}
use Rattle.meaning_laws.specs.NumberLaws.{IsNumber, OfNumber, EndsInNumber, IsSign, IsArithmetic, IsNumeric, NumberLaws}

-- no value: an end of a target
abbrev NoValue : Completion → Type 0
NoValue (Is v) = ⊥
NoValue o = Unit {0}

-- how a job ends: a target with no value
abbrev EndOf : Job → Completion → Type 0
EndOf (Target e p) o = NoValue o
EndOf j o = Unit {0}

-- each end is of a kind, where the jobs that are asked for end as they do
unfoldable pub Ends : (Completion → Type 0) → Plan → Type 0
Ends Q (Ret o s) = Q o
Ends Q (Halt c s) = Unit {0}
Ends Q (Need c s p) = Ends Q p
Ends Q (Tick s p) = Ends Q p
Ends Q (Do j s k) = (o : Completion) (t : State) → EndOf j o → Ends Q (k o t)

module _ (Q : Completion → Type 0) where
  ended : (o : Completion) (s : State) → Q o → Ends Q (Ret o s)
  unfolding Ends
  ended o s h = h

  asked : (j : Job) (s : State) (k : Completion → State → Plan) → ((o : Completion) (t : State) → EndOf j o → Ends Q (k o t)) → Ends Q (Do j s k)
  unfolding Ends
  asked j s k h = h

  halted : (c : StopCause) (s : State) → Ends Q (Halt c s)
  unfolding Ends
  halted c s = tt

  -- whatever comes first
  then_any : (p : Plan) (k : Completion → State → Plan) → ((o : Completion) (t : State) → Ends Q (k o t)) → Ends Q (and_then p k)
  unfolding Ends
  then_any (Ret o s) k h = h o s
  then_any (Halt c s) k h = tt
  then_any (Need c s p) k h = then_any p k h
  then_any (Tick s p) k h = then_any p k h
  then_any (Do j s m) k h = λ o t e. then_any (m o t) k h

  -- what comes first ends so
  then_so : (R : Completion → Type 0) (p : Plan) (k : Completion → State → Plan) → Ends R p → ((o : Completion) (t : State) → R o → Ends Q (k o t)) → Ends Q (and_then p k)
  unfolding Ends
  then_so R (Ret o s) k q h = h o s q
  then_so R (Halt c s) k q h = tt
  then_so R (Need c s p) k q h = then_so R p k q h
  then_so R (Tick s p) k q h = then_so R p k q h
  then_so R (Do j s m) k q h = λ o t e. then_so R (m o t) k (q o t e) h

  by_either : (b : Bool) (p q : Plan) → Ends Q p → Ends Q q → Ends Q (if b then p else q)
  by_either true p q h k = h
  by_either false p q h k = k

  -- any end but one with a value
  module _ (other : (o : Completion) → NoValue o → Q o) where
    on_value_ends : (o : Completion) (s : State) (k : Value → Plan) → ((v : Value) → Ends Q (k v)) → Ends Q (on_value o s k)
    on_value_ends (Is v) s k h = h v
    on_value_ends Normal s k h = ended Normal s (other Normal tt)
    on_value_ends (Refers r) s k h = ended (Refers r) s (other (Refers r) tt)
    on_value_ends (Return v) s k h = ended (Return v) s (other (Return v) tt)
    on_value_ends Break s k h = ended Break s (other Break tt)
    on_value_ends Continue s k h = ended Continue s (other Continue tt)
    on_value_ends (Throw v) s k h = ended (Throw v) s (other (Throw v) tt)

    on_reference_ends : (o : Completion) (s : State) (k : Reference → Plan) → NoValue o → ((r : Reference) → Ends Q (k r)) → Ends Q (on_reference o s k)
    on_reference_ends (Refers r) s k q h = h r
    on_reference_ends (Is v) s k q h = absurd q
    on_reference_ends Normal s k q h = ended Normal s (other Normal tt)
    on_reference_ends (Return v) s k q h = ended (Return v) s (other (Return v) tt)
    on_reference_ends Break s k q h = ended Break s (other Break tt)
    on_reference_ends Continue s k q h = ended Continue s (other Continue tt)
    on_reference_ends (Throw v) s k q h = ended (Throw v) s (other (Throw v) tt)

    paid : (c : Amounts) (s : State) (k : State → Plan) → ((t : State) → Ends Q (k t)) → Ends Q (pay c s k)
    paid c s k h =
        let b : Amounts = sum s.own.counts c in
        by_either (nat_lt max_units b.units) _ _ (halted Units s)
        (by_either (nat_lt max_cells b.cells) _ _ (halted Cells s)
        (by_either (nat_lt max_slots b.slots) _ _ (halted Slots s)
        (by_either (nat_lt max_nodes b.nodes) _ _ (halted Nodes s) (h (with_counts s b)))))

    thrown : (e : Fault) (s : State) → Ends Q (throw e s)
    thrown e s = paid (object_cost 2) s (λ t. Ret (Throw (Own (length t.own.heap))) (with_new_cell t (plain_object (fault_pairs e)))) (λ t. ended (Throw (Own (length t.own.heap))) _ (other (Throw (Own (length t.own.heap))) tt))

    -- a write, and what is done then
    put_pair_ends : (c : Cell) (n : ℕ) (x : List ℕ) (v : Value) (s : State) (k : State → Plan) → ((t : State) → Ends Q (k t)) → Ends Q (put_pair c n x v s k)
    put_pair_ends c n x v s k h = by_either (is_some (lookup c.pairs x)) _ _ (h (with_cell s n (record c { pairs = replaced c.pairs x v })))
        (paid (slots_cost 1) s (λ t. k (with_cell t n (record c { pairs = c.pairs ++ (x, v) ∷ [] }))) (λ t. h (with_cell t n (record c { pairs = c.pairs ++ (x, v) ∷ [] }))))

    put_index_ends : (o : Option ℕ) (c : Cell) (len n : ℕ) (x : List ℕ) (v : Value) (s : State) (k : State → Plan) → ((t : State) → Ends Q (k t)) → Ends Q (put_index o c len n x v s k)
    put_index_ends None c len n x v s k h = put_pair_ends c n x v s k h
    put_index_ends (Some i) c len n x v s k h = put_pair_ends _ n x v s k h

    put_length_ends : (v : Value) (c : Cell) (n : ℕ) (s : State) (k : State → Plan) → ((t : State) → Ends Q (k t)) → Ends Q (put_length v c n s k)
    put_length_ends (Num (pos len)) c n s k h = by_either (nat_le len max_length) _ _ (h (with_cell s n (cut_to c len))) (thrown E7 s)
    put_length_ends (Num (negsuc z)) c n s k h = thrown E7 s
    put_length_ends Undefined c n s k h = thrown E7 s
    put_length_ends Null c n s k h = thrown E7 s
    put_length_ends (Truth b) c n s k h = thrown E7 s
    put_length_ends NaN c n s k h = thrown E7 s
    put_length_ends (Text t) c n s k h = thrown E7 s
    put_length_ends (Own i) c n s k h = thrown E7 s
    put_length_ends (Host e) c n s k h = thrown E7 s

    put_own_ends : (i : Kind) (c : Cell) (n : ℕ) (x : List ℕ) (v : Value) (s : State) (k : State → Plan) → ((t : State) → Ends Q (k t)) → Ends Q (put_own i c n x v s k)
    put_own_ends Object c n x v s k h = put_pair_ends c n x v s k h
    put_own_ends (Function f o) c n x v s k h = put_pair_ends c n x v s k h
    put_own_ends (Array len) c n x v s k h = by_either (is_length x) _ _ (put_length_ends v c n s k h) (put_index_ends (index_of x) c len n x v s k h)
    put_own_ends (Bunch ns) c n x v s k h = thrown E5 s

    put_ends : (b : Value) (x : List ℕ) (v : Value) (s : State) (k : State → Plan) → ((t : State) → Ends Q (k t)) → Ends Q (put b x v s k)
    put_ends (Own n) x v s k h = put_own_ends (cell_at s n).kind (cell_at s n) n x v s k h
    put_ends (Host e) x v s k h = thrown E5 s
    put_ends Undefined x v s k h = h s
    put_ends Null x v s k h = h s
    put_ends (Truth b) x v s k h = h s
    put_ends NaN x v s k h = h s
    put_ends (Num z) x v s k h = h s
    put_ends (Text t) x v s k h = h s

    write_ends : (r : Reference) (p : Place) (v : Value) (s : State) (k : State → Plan) → ((t : State) → Ends Q (k t)) → Ends Q (write r p v s k)
    write_ends (Variable x) p v s k h = h (assign s p x v)
    write_ends (Property b x) p v s k h = put_ends b x v s k h
    write_ends (Found w) p v s k h = h s

    refer_ends : (b : Value) (x : List ℕ) (s : State) → Ends Q (refer b x s)
    refer_ends b x s = by_either (not (is_nothing b)) _ _ (ended (Refers (Property b x)) s (other (Refers (Property b x)) tt)) (thrown E1 s)

-- ## Targets

no_other : (o : Completion) → NoValue o → NoValue o
no_other o h = h

target_ends : (form : ExprForm) (p : Place) (s : State) → Ends NoValue (target form p s)
target_ends (tree.Name x) p s = ended NoValue (Refers (Variable x)) s tt
target_ends (tree.Dot e x) p s = asked NoValue _ s _ (λ o t q. on_value_ends NoValue no_other o t _ (λ b. refer_ends NoValue no_other b x t))
target_ends (tree.Sub e i) p s = asked NoValue _ s _ (λ o t q. on_value_ends NoValue no_other o t _ (λ b. asked NoValue _ t _ (λ u y z. on_value_ends NoValue no_other u y _ (λ v. refer_ends NoValue no_other b (to_text v) y))))
target_ends form p s = then_any NoValue (expression form p s) (after (λ v t. Ret (Refers (Found v)) t)) (λ o t. on_value_ends NoValue no_other o t (λ v. Ret (Refers (Found v)) t) (λ v. ended NoValue (Refers (Found v)) t tt))

any_ends : (p : Plan) → Ends (λ o. Unit {0}) p
unfolding Ends
any_ends (Ret o s) = tt
any_ends (Halt c s) = tt
any_ends (Need c s p) = any_ends p
any_ends (Tick s p) = any_ends p
any_ends (Do j s m) = λ o t e. any_ends (m o t)

body_ends : (j : Job) (s : State) → Ends (EndOf j) (body j s)
body_ends (Target (tree.ExprAt at names form) p) s = target_ends form p s
body_ends (Eval e p) s = any_ends (body (Eval e p) s)
body_ends (Exec i p) s = any_ends (body (Exec i p) s)
body_ends (Pass l p) s = any_ends (body (Pass l p) s)
body_ends (Call f this vs d) s = any_ends (body (Call f this vs d) s)
body_ends (RunNative w this vs d) s = any_ends (body (RunNative w this vs d) s)
body_ends (Hear x) s = any_ends (body (Hear x) s)

-- ## Numbers

number_other : (o : Completion) → NoValue o → OfNumber o
number_other (Is v) h = absurd h
number_other Normal h = tt
number_other (Refers r) h = tt
number_other (Return v) h = tt
number_other Break h = tt
number_other Continue h = tt
number_other (Throw v) h = tt

either_end : (b : Bool) (r q : Out) → EndsInNumber r.how → EndsInNumber q.how → EndsInNumber (if b then r else q).how
either_end true r q h k = h
either_end false r q h k = k

run_ends : (g : ℕ) (p : Plan) → Ends OfNumber p → EndsInNumber (run_plan g p).how
unfolding Ends
run_ends g (Ret o s) h = h
run_ends g (Halt c s) h = tt
run_ends g (Need c s p) h = either_end (nat_lt g c) (record { how = OutOfFuel; state = s; left = g }) (run_plan g p) tt (run_ends g p h)
run_ends zero (Tick s p) h = tt
run_ends (suc f) (Tick s p) h = run_ends f p h
run_ends zero (Do j s k) h = tt
run_ends (suc f) (Do j s k) h = run_ends f (and_then (body j s) k) (then_so OfNumber (EndOf j) (body j s) k (body_ends j s) h)

-- an operator that gives a number, or none
abbrev OfOut : OpOut → Type 0
OfOut (Gives v) = IsNumber v
OfOut o = Unit {0}

either_out : (b : Bool) (x y : OpOut) → OfOut x → OfOut y → OfOut (if b then x else y)
either_out true x y h k = h
either_out false x y h k = k

number_out : (z : ℤ) → OfOut (number z)
number_out z = either_out (nat_lt (unsigned_abs z) past_numbers) (Gives (Num z)) Leaves tt tt

numbers_out : (f : ℤ → ℤ → OpOut) (a b : WholeRead) → ((x y : ℤ) → OfOut (f x y)) → OfOut (of_numbers Leaves (Gives NaN) f a b)
numbers_out f read.Left b k = tt
numbers_out f read.NotNumber read.Left k = tt
numbers_out f read.NotNumber read.NotNumber k = tt
numbers_out f read.NotNumber (read.Whole y) k = tt
numbers_out f (read.Whole x) read.Left k = tt
numbers_out f (read.Whole x) read.NotNumber k = tt
numbers_out f (read.Whole x) (read.Whole y) k = k x y

remainder_out : (x y : ℤ) → OfOut (remainder x y)
remainder_out x y = either_out (is_zero y) (Gives NaN) (Gives (Num (int_rem x y))) tt tt

quotient_out : (x y : ℤ) → OfOut (quotient x y)
quotient_out x y = either_out (is_zero y) _ _ (either_out (is_zero x) (Gives NaN) Leaves tt tt) (either_out (is_zero (int_rem x y)) (Gives (Num (int_div x y))) Leaves tt tt)

binary_out : (op : BinOp) (a b : Value) → IsArithmetic op → OfOut (binary op a b)
binary_out bin.Sub a b h = numbers_out (λ x y. number (x -ℤ y)) (to_number a) (to_number b) (λ x y. number_out (x -ℤ y))
binary_out bin.Mul a b h = numbers_out (λ x y. number (x *ℤ y)) (to_number a) (to_number b) (λ x y. number_out (x *ℤ y))
binary_out bin.Rem a b h = numbers_out remainder (to_number a) (to_number b) remainder_out
binary_out bin.Div a b h = numbers_out quotient (to_number a) (to_number b) quotient_out
binary_out op a b h = absurd h

as_number_out : (r : WholeRead) (f : ℤ → ℤ) → OfOut (as_number r f)
as_number_out read.NotNumber f = tt
as_number_out (read.Whole z) f = tt
as_number_out read.Left f = tt

unary_out : (op : UnOp) (a : Value) → IsSign op → OfOut (unary op a)
unary_out un.Plus a h = as_number_out (to_number a) (λ z. z)
unary_out un.Minus a h = as_number_out (to_number a) neg_ℤ
unary_out op a h = absurd h

result_ends : (o : OpOut) (s : State) → OfOut o → Ends OfNumber (result o s)
result_ends (Gives NaN) s h = ended OfNumber (Is NaN) s tt
result_ends (Gives (Num z)) s h = ended OfNumber (Is (Num z)) s tt
result_ends (Gives Undefined) s h = absurd h
result_ends (Gives Null) s h = absurd h
result_ends (Gives (Truth b)) s h = absurd h
result_ends (Gives (Text t)) s h = absurd h
result_ends (Gives (Own n)) s h = absurd h
result_ends (Gives (Host e)) s h = absurd h
result_ends Leaves s h = halted OfNumber Number s
result_ends TooLong s h = halted OfNumber LongText s

-- ## The forms

values : (o : Completion) (s : State) (k : Value → Plan) → ((v : Value) → Ends OfNumber (k v)) → Ends OfNumber (on_value o s k)
values o s k h = on_value_ends OfNumber number_other o s k h

operate_ends : (op : BinOp) (v w : Value) (d : ℕ) (s : State) → IsArithmetic op → Ends OfNumber (operate op v w d s)
operate_ends op v w d s h = by_either OfNumber (is_converting op) _ _
    (then_any OfNumber (to_primitive v d s) (converted_left op w d) (λ o t. values o t _ (λ x. then_any OfNumber (to_primitive w d t) _ (λ u y. values u y _ (λ z. result_ends (binary op x z) y (binary_out op x z h))))))
    (result_ends (binary op v w) s (binary_out op v w h))

sign_ends : (op : UnOp) (v : Value) (p : Place) (s : State) → IsSign op → Ends OfNumber (unary_on op v p s)
sign_ends un.Plus v p s h = then_any OfNumber (to_primitive v p.depth s) _ (λ o t. values o t _ (λ w. result_ends (unary un.Plus w) t (unary_out un.Plus w h)))
sign_ends un.Minus v p s h = then_any OfNumber (to_primitive v p.depth s) _ (λ o t. values o t _ (λ w. result_ends (unary un.Minus w) t (unary_out un.Minus w h)))
sign_ends op v p s h = absurd h

prefix_ends : (op : UnOp) (e : Expr) (p : Place) (s : State) → IsSign op → Ends OfNumber (prefix_form op e p s)
prefix_ends un.Plus e p s h = asked OfNumber _ s _ (λ o t q. values o t _ (λ v. sign_ends un.Plus v p t h))
prefix_ends un.Minus e p s h = asked OfNumber _ s _ (λ o t q. values o t _ (λ v. sign_ends un.Minus v p t h))
prefix_ends op e p s h = absurd h

pick : (b : Bool) (v w : Value) → IsNumber v → IsNumber w → IsNumber (if b then v else w)
pick true v w h k = h
pick false v w h k = k

step_write_ends : (o : OpOut) (op : StepOp) (v : Value) (r : Reference) (p : Place) (s : State) → OfOut o → IsNumber v → Ends OfNumber (step_write o op v r p s)
step_write_ends (Gives w) op v r p s h k = write_ends OfNumber number_other r p w s _ (λ t. ended OfNumber _ t (pick (is_post op) v w k h))
step_write_ends Leaves op v r p s h k = halted OfNumber Number s
step_write_ends TooLong op v r p s h k = halted OfNumber LongText s

stepped_out : (op : StepOp) (z : ℤ) → OfOut (stepped op z)
stepped_out step.PreInc z = number_out (z +ℤ pos 1)
stepped_out step.PostInc z = number_out (z +ℤ pos 1)
stepped_out step.PreDec z = number_out (z -ℤ pos 1)
stepped_out step.PostDec z = number_out (z -ℤ pos 1)

step_number_ends : (r : WholeRead) (op : StepOp) (x : Reference) (p : Place) (s : State) → Ends OfNumber (step_number r op x p s)
step_number_ends (read.Whole z) op x p s = step_write_ends (stepped op z) op (Num z) x p s (stepped_out op z) tt
step_number_ends read.NotNumber op x p s = step_write_ends (Gives NaN) op NaN x p s tt tt
step_number_ends read.Left op x p s = halted OfNumber Number s

step_ends : (op : StepOp) (p : Place) (o : Completion) (s : State) → NoValue o → Ends OfNumber (step_target op p o s)
step_ends op p o s q = on_reference_ends OfNumber number_other o s _ q
    (λ r. then_any OfNumber (to_primitive (referred r p s) p.depth s) (step_converted op r p) (λ u t. values u t _ (λ v. step_number_ends (to_number v) op r p t)))

literal_is : (r : WholeRead) → IsNumber (literal r)
literal_is (read.Whole z) = tt
literal_is read.NotNumber = tt
literal_is read.Left = tt

form_ends : (form : ExprForm) (p : Place) (s : State) → IsNumeric form → Ends OfNumber (expression form p s)
form_ends (tree.Num t) p s h = ended OfNumber (Is (literal (number_in t))) s (literal_is (number_in t))
form_ends (tree.Step op e) p s h = asked OfNumber _ s _ (λ o t q. step_ends op p o t q)
form_ends (tree.Unary op e) p s h = prefix_ends op e p s h
form_ends (tree.Binary op a b) p s h = asked OfNumber _ s _ (λ o t q. values o t _ (λ v. asked OfNumber _ t _ (λ u y z. values u y _ (λ w. operate_ends op v w p.depth y h))))
form_ends form p s h = absurd h

then_done : (p : Plan) → Ends OfNumber p → Ends OfNumber (and_then p Ret)
then_done p h = then_so OfNumber OfNumber p Ret h (λ o t q. ended OfNumber o t q)

pub number_laws : NumberLaws
number_laws at names form p s zero h = tt
number_laws at names form p s (suc g) h = run_ends g (and_then (expression form p s) Ret) (then_done (expression form p s) (form_ends form p s h))
