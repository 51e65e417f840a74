-- Expressions: what each form does after its unit, one level deep. A longer continuation has a name.
use Rattle.std.specs.Prelude.{ℕ, ◌+◌, ◌-ℤ◌, ◌+ℤ◌, ℤ, pos, List, [], ◌∷◌, ◌++◌, Bool, true, false, if◌then◌else◌, Option, Some, None, not}
use Rattle.js_tree.specs.declared.nodes.Word.{Word}
use Rattle.js_tree.specs.declared.nodes.Word.TheVariants as word
use Rattle.js_tree.specs.declared.nodes.StepOp.{StepOp}
use Rattle.js_tree.specs.declared.nodes.StepOp.TheVariants as step
use Rattle.js_tree.specs.declared.nodes.UnOp.{UnOp}
use Rattle.js_tree.specs.declared.nodes.UnOp.TheVariants as un
use Rattle.js_tree.specs.declared.nodes.BinOp.{BinOp}
use Rattle.js_tree.specs.declared.nodes.BinOp.TheVariants as bin
use Rattle.js_tree.specs.declared.nodes.AssignOp.{AssignOp}
use Rattle.js_tree.specs.declared.nodes.AssignOp.TheVariants as assignment
pub use Rattle.js_tree.specs.Lists.{expr_list, property_list}
use Rattle.js_tree.specs.Plain as tree
use Rattle.js_tree.specs.Plain.{Expr, ExprForm, Properties}
use Rattle.code_units.specs.declared.whole.WholeRead.{WholeRead}
use Rattle.code_units.specs.declared.whole.WholeRead.TheVariants as read_as
use Rattle.code_units.specs.Whole.{number_in}
use Rattle.widget_meaning.specs.Values.{Value, Undefined, Null, Truth, NaN, Num, Text, Reference, Variable, Property, Found, Completion, Refers, E1, Number, LongText, is_true, is_nothing, to_text, to_number}
use Rattle.widget_meaning.specs.Operators.{OpOut, Gives, Leaves, TooLong, number, binary, unary, type_name}
use Rattle.widget_meaning.specs.OwnState.{State, plain_object, new_array, new_function}
use Rattle.widget_meaning.specs.Plan.{Place, Plan, Ret, Halt, Do, Eval, Target, and_then, on_value, on_reference, after}
use Rattle.widget_meaning.specs.Costs.{make, make_text, give, want}
use Rattle.widget_meaning.specs.Properties.{get, read, put, delete, index_name, is_function}
use Rattle.widget_meaning.specs.Scopes.{variable, assign}
use Rattle.widget_meaning.specs.Calls.{invoke, to_primitive}

-- the value of a number literal
abbrev pub literal : WholeRead → Value
literal (read_as.Whole z) = Num z
literal read_as.NotNumber = NaN
literal read_as.Left = NaN

-- the value of a word
abbrev pub word_value : Word → Value
word_value word.Null = Null
word_value word.True = Truth true
word_value word.False = Truth false
-- no accepted tree has `this`
word_value word.This = Undefined

-- ## Arrays and objects: born before their parts, of which each is written as soon as it has its value

-- the elements of an array literal from an index on
abbrev pub array_parts : Value → ℕ → List Expr → Place → State → Plan
array_parts a i [] p s = give a s
array_parts a i (e ∷ es) p s = Do (Eval e p) s (after (λ v t. put a (index_name i) v t (array_parts a (i + 1) es p)))

-- the properties of an object literal
abbrev pub object_parts : Value → List (List ℕ × Expr) → Place → State → Plan
object_parts a [] p s = give a s
object_parts a (q ∷ qs) p s = Do (Eval q.1 p) s (after (λ v t. put a q.0 v t (object_parts a qs p)))

-- ## Properties and targets

-- after a base: its subscript, and then the read
abbrev pub subscript_read : Expr → Place → Completion → State → Plan
subscript_read i p o s = on_value o s (λ b. Do (Eval i p) s (after (λ v t. read b (to_text v) t)))

-- a property as a target; undefined and null have none
abbrev pub refer : Value → List ℕ → State → Plan
refer b x s = want E1 (not (is_nothing b)) s (Ret (Refers (Property b x)) s)

-- after the base of a target with a subscript
abbrev pub subscript_target : Expr → Place → Completion → State → Plan
subscript_target i p o s = on_value o s (λ b. Do (Eval i p) s (after (λ v t. refer b (to_text v) t)))

-- what a reference has
abbrev pub referred : Reference → Place → State → Value
referred (Variable x) p s = variable s p x
referred (Property b x) p s = get s b x
referred (Found v) p s = v

-- what a call of a reference is a method of
abbrev pub base_of : Reference → Option Value
base_of (Variable x) = None
base_of (Property b x) = Some b
base_of (Found v) = None

-- a write to a reference, and what is done then
abbrev pub write : Reference → Place → Value → State → (State → Plan) → Plan
write (Variable x) p v s k = k (assign s p x v)
write (Property b x) p v s k = put b x v s k
write (Found w) p v s k = k s

-- ## Calls

-- the arguments from left to right, behind those that are there; then the function is read and called
abbrev pub arguments_then : Reference → List Value → List Expr → Place → State → Plan
arguments_then r vs [] p s = invoke (referred r p s) (base_of r) vs p.depth s
arguments_then r vs (e ∷ es) p s = Do (Eval e p) s (after (λ v t. arguments_then r (vs ++ v ∷ []) es p t))

-- after the target of a call: its arguments
abbrev pub callee : List Expr → Place → Completion → State → Plan
callee es p o s = on_reference o s (λ r. arguments_then r [] es p s)

-- ## Operators

-- what an operator gives: a joined text costs its units
abbrev pub result : OpOut → State → Plan
result (Gives (Text t)) s = make_text t s (give (Text t))
result (Gives v) s = give v s
result Leaves s = Halt Number s
result TooLong s = Halt LongText s

-- whether an operator converts objects: `===` and `!==` do not
abbrev pub is_converting : BinOp → Bool
is_converting bin.Same = false
is_converting bin.NotSame = false
is_converting _ = true

-- after the left operand's conversion: that of the right
abbrev pub converted_left : BinOp → Value → ℕ → Completion → State → Plan
converted_left op w d o s = on_value o s (λ v. and_then (to_primitive w d s) (after (λ w t. result (binary op v w) t)))

-- an operator on two values, by a caller at this depth: objects are converted, left before right
abbrev pub operate : BinOp → Value → Value → ℕ → State → Plan
operate op v w d s =
    if is_converting op
    then and_then (to_primitive v d s) (converted_left op w d)
    else result (binary op v w) s

-- after the left operand
abbrev pub binary_right : BinOp → Expr → Place → Completion → State → Plan
binary_right op b p o s = on_value o s (λ v. Do (Eval b p) s (after (λ w t. operate op v w p.depth t)))

-- a prefix operator on a value: `+` and `-` convert an object, `!` and `typeof` do not
abbrev pub unary_on : UnOp → Value → Place → State → Plan
unary_on un.TypeOf v p s = give (Text (type_name (is_function s v) v)) s
unary_on un.Not v p s = result (unary un.Not v) s
unary_on op v p s = and_then (to_primitive v p.depth s) (after (λ v t. result (unary op v) t))

-- `delete` takes a property out
abbrev pub delete_at : Reference → State → Plan
delete_at (Property b x) s = delete b x s (λ b t. give (Truth b) t)
delete_at (Variable x) s = give (Truth true) s
delete_at (Found v) s = give (Truth true) s

-- after the target of `delete`
abbrev pub delete_target : Completion → State → Plan
delete_target o s = on_reference o s (λ r. delete_at r s)

-- ## Steps and assignments

-- the number after a step
abbrev pub stepped : StepOp → ℤ → OpOut
stepped step.PreInc z = number (z +ℤ pos 1)
stepped step.PostInc z = number (z +ℤ pos 1)
stepped step.PreDec z = number (z -ℤ pos 1)
stepped step.PostDec z = number (z -ℤ pos 1)

-- whether a step gives the number before
abbrev pub is_post : StepOp → Bool
is_post step.PostInc = true
is_post step.PostDec = true
is_post step.PreInc = false
is_post step.PreDec = false

-- the new number is written, and the one before or after it is given
abbrev pub step_write : OpOut → StepOp → Value → Reference → Place → State → Plan
step_write (Gives w) op v r p s = write r p w s (give (if is_post op then v else w))
step_write Leaves op v r p s = Halt Number s
step_write TooLong op v r p s = Halt LongText s

-- a step of a number; one that leaves the numbers stops
abbrev pub step_number : WholeRead → StepOp → Reference → Place → State → Plan
step_number (read_as.Whole z) op r p s = step_write (stepped op z) op (Num z) r p s
step_number read_as.NotNumber op r p s = step_write (Gives NaN) op NaN r p s
step_number read_as.Left op r p s = Halt Number s

-- after the conversion of what is stepped
abbrev pub step_converted : StepOp → Reference → Place → Completion → State → Plan
step_converted op r p o s = on_value o s (λ v. step_number (to_number v) op r p s)

-- after the target of a step
abbrev pub step_target : StepOp → Place → Completion → State → Plan
step_target op p o s =
    on_reference o s (λ r. and_then (to_primitive (referred r p s) p.depth s) (step_converted op r p))

-- what a compound assignment computes
abbrev pub compound : AssignOp → Value → Value → ℕ → State → Plan
compound assignment.Add v w d s = operate bin.Add v w d s
compound assignment.Sub v w d s = operate bin.Sub v w d s
compound assignment.Mul v w d s = operate bin.Mul v w d s
compound assignment.Div v w d s = operate bin.Div v w d s
compound assignment.Rem v w d s = operate bin.Rem v w d s
-- `=` has nothing to compute; no accepted tree has the others
compound op v w d s = give w s

-- after the right side of an assignment
abbrev pub assign_with : AssignOp → Reference → Value → Place → Completion → State → Plan
assign_with op r v p o s =
    on_value o s (λ w. and_then (compound op v w p.depth s) (after (λ v t. write r p v t (give v))))

-- after the target of an assignment
abbrev pub assign_target : AssignOp → Expr → Place → Completion → State → Plan
assign_target op e p o s = on_reference o s (λ r. Do (Eval e p) s (assign_with op r (referred r p s) p))

-- ## Choices by the truth of a first part

-- after the left of `&&`
abbrev pub and_right : Expr → Place → Completion → State → Plan
and_right b p o s = on_value o s (λ v. if is_true v then Do (Eval b p) s Ret else give v s)

-- after the left of `||`
abbrev pub or_right : Expr → Place → Completion → State → Plan
or_right b p o s = on_value o s (λ v. if is_true v then give v s else Do (Eval b p) s Ret)

-- after the condition of `? :`
abbrev pub choose : Expr → Expr → Place → Completion → State → Plan
choose b c p o s = on_value o s (λ v. if is_true v then Do (Eval b p) s Ret else Do (Eval c p) s Ret)

-- ## The forms

-- a prefix operator: `delete` takes a target, the others a value
abbrev pub prefix_form : UnOp → Expr → Place → State → Plan
prefix_form un.Delete e p s = Do (Target e p) s delete_target
prefix_form op e p s = Do (Eval e p) s (after (λ v t. unary_on op v p t))

-- what each expression does
abbrev pub expression : ExprForm → Place → State → Plan
expression (tree.Num t) p s = give (literal (number_in t)) s
expression (tree.Str t) p s = give (Text t) s
expression (tree.Name x) p s = give (variable s p x) s
expression (tree.Constant w) p s = give (word_value w) s
expression (tree.Array es) p s = make (new_array 0 []) 0 s (λ a t. array_parts a 0 (expr_list es) p t)
expression (tree.Object qs) p s = make (plain_object []) 0 s (λ a t. object_parts a (property_list qs) p t)
expression (tree.Function f) p s = make (new_function f p.scope) 0 s (λ v t. give v t)
expression (tree.Dot e x) p s = Do (Eval e p) s (after (λ b t. read b x t))
expression (tree.Sub e i) p s = Do (Eval e p) s (subscript_read i p)
expression (tree.Call e es) p s = Do (Target e p) s (callee (expr_list es) p)
expression (tree.Step op e) p s = Do (Target e p) s (step_target op p)
expression (tree.Unary op e) p s = prefix_form op e p s
expression (tree.Binary op a b) p s = Do (Eval a p) s (binary_right op b p)
expression (tree.And a b) p s = Do (Eval a p) s (and_right b p)
expression (tree.Or a b) p s = Do (Eval a p) s (or_right b p)
expression (tree.Cond a b c) p s = Do (Eval a p) s (choose b c p)
expression (tree.Assign op e v) p s = Do (Target e p) s (assign_target op v p)
-- no accepted tree has the others
expression (tree.New e es) p s = give Undefined s
expression (tree.Comma a b) p s = give Undefined s

-- what each target does
abbrev pub target : ExprForm → Place → State → Plan
target (tree.Name x) p s = Ret (Refers (Variable x)) s
target (tree.Dot e x) p s = Do (Eval e p) s (after (λ b t. refer b x t))
target (tree.Sub e i) p s = Do (Eval e p) s (subscript_target i p)
target form p s = and_then (expression form p s) (after (λ v t. Ret (Refers (Found v)) t))
