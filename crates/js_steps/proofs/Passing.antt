-- A frame that does not take an abrupt end passes it on.
use Rattle.std.proofs.Common.{◌≡◌, ℕ, List, [], ◌∷◌, true, false, refl, drop}
use Rattle.js_tree.specs.Forest.{Forest, stmt_at}
use Rattle.js_tree.specs.Plain as tree
use Rattle.store_cells.specs.Cells.{PlainCell}
use Rattle.widget_meaning.specs.Values as meaning
use Rattle.widget_meaning.specs.OwnState.{State}
use Rattle.widget_meaning.specs.Plan as plan
use Rattle.widget_meaning.specs.Plan.{Plan, Ret, on_normal, on_reference, on_value}
use Rattle.widget_meaning.specs.Statements.{Case, caught, loop_end, switch_end}
use Rattle.js_image.specs.Image.{seen}
use Rattle.js_flow.specs.declared.job.Completion.{Completion}
use Rattle.js_flow.specs.declared.job.Completion.TheVariants as completion
use Rattle.js_flow.specs.declared.frame.StatementFrame.{StatementFrame}
use Rattle.js_flow.specs.declared.frame.StatementFrame.TheVariants as statement
use Rattle.js_flow.specs.declared.frame.CallFrame.{CallFrame}
use Rattle.js_flow.specs.declared.frame.CallFrame.TheVariants as call
use Rattle.js_flow.specs.declared.frame.Frame.{Frame}
use Rattle.js_flow.specs.declared.frame.Frame.TheVariants as frame
use Rattle.js_flow.specs.Parts.{catch_of, clauses_of, forest_at, loop_of}
use Rattle.js_flow.specs.Views.{completion_of, place_of}
use Rattle.js_flow.specs.Statements.{clause_tested, loop_again, loop_next, statement_taken}
use Rattle.js_flow.specs.Calls.{call_taken}
use Rattle.js_flow.specs.Frames.{taken}
use Rattle.js_expressions.proofs.Passing as forms
use Rattle.js_steps.specs.Unwinding.{IsAbrupt, call_takes, ends_pass, is_break, is_throw, statement_takes, takes}

-- ## Ends of the meaning

-- a return, a break, a continue or a throw
abbrev Leaves : meaning.Completion → Type 0
Leaves meaning.Normal = ⊥
Leaves (meaning.Is v) = ⊥
Leaves (meaning.Refers r) = ⊥
Leaves _ = Unit {0}

-- a return or a throw
abbrev LeavesLoop : meaning.Completion → Type 0
LeavesLoop (meaning.Return v) = Unit {0}
LeavesLoop (meaning.Throw v) = Unit {0}
LeavesLoop _ = ⊥

abbrev LeavesSwitch : meaning.Completion → Type 0
LeavesSwitch (meaning.Return v) = Unit {0}
LeavesSwitch meaning.Continue = Unit {0}
LeavesSwitch (meaning.Throw v) = Unit {0}
LeavesSwitch _ = ⊥

abbrev LeavesCatch : meaning.Completion → Type 0
LeavesCatch (meaning.Return v) = Unit {0}
LeavesCatch meaning.Break = Unit {0}
LeavesCatch meaning.Continue = Unit {0}
LeavesCatch _ = ⊥

no_value : (o : meaning.Completion) (s : State) (k : meaning.Value → Plan) → Leaves o → Ret o s ≡ on_value o s k
no_value meaning.Normal s k h = absurd h
no_value (meaning.Is v) s k h = absurd h
no_value (meaning.Refers r) s k h = absurd h
no_value (meaning.Return v) s k h = refl
no_value meaning.Break s k h = refl
no_value meaning.Continue s k h = refl
no_value (meaning.Throw v) s k h = refl

no_reference : (o : meaning.Completion) (s : State) (k : meaning.Reference → Plan) → Leaves o → Ret o s ≡ on_reference o s k
no_reference meaning.Normal s k h = absurd h
no_reference (meaning.Is v) s k h = absurd h
no_reference (meaning.Refers r) s k h = absurd h
no_reference (meaning.Return v) s k h = refl
no_reference meaning.Break s k h = refl
no_reference meaning.Continue s k h = refl
no_reference (meaning.Throw v) s k h = refl

not_normal : (o : meaning.Completion) (s : State) (p : Plan) → Leaves o → Ret o s ≡ on_normal o s p
not_normal meaning.Normal s p h = absurd h
not_normal (meaning.Is v) s p h = absurd h
not_normal (meaning.Refers r) s p h = absurd h
not_normal (meaning.Return v) s p h = refl
not_normal meaning.Break s p h = refl
not_normal meaning.Continue s p h = refl
not_normal (meaning.Throw v) s p h = refl

past_loop : (o : meaning.Completion) (s : State) (p : Plan) → LeavesLoop o → Ret o s ≡ loop_end o s p
past_loop meaning.Normal s p h = absurd h
past_loop (meaning.Is v) s p h = absurd h
past_loop (meaning.Refers r) s p h = absurd h
past_loop (meaning.Return v) s p h = refl
past_loop meaning.Break s p h = absurd h
past_loop meaning.Continue s p h = absurd h
past_loop (meaning.Throw v) s p h = refl

past_switch : (o : meaning.Completion) (s : State) → LeavesSwitch o → Ret o s ≡ switch_end o s
past_switch meaning.Normal s h = absurd h
past_switch (meaning.Is v) s h = absurd h
past_switch (meaning.Refers r) s h = absurd h
past_switch (meaning.Return v) s h = refl
past_switch meaning.Break s h = absurd h
past_switch meaning.Continue s h = refl
past_switch (meaning.Throw v) s h = refl

past_catch : (c : tree.Catch) (p : plan.Place) (o : meaning.Completion) (s : State) → LeavesCatch o → Ret o s ≡ caught c p o s
past_catch tree.NoCatch p o s h = refl
past_catch (tree.CatchAs x b) p meaning.Normal s h = absurd h
past_catch (tree.CatchAs x b) p (meaning.Is v) s h = absurd h
past_catch (tree.CatchAs x b) p (meaning.Refers r) s h = absurd h
past_catch (tree.CatchAs x b) p (meaning.Return v) s h = refl
past_catch (tree.CatchAs x b) p meaning.Break s h = refl
past_catch (tree.CatchAs x b) p meaning.Continue s h = refl
past_catch (tree.CatchAs x b) p (meaning.Throw v) s h = absurd h

past_next : (l : plan.Loop) (p : plan.Place) (o : meaning.Completion) (s : State) → LeavesLoop o → Ret o s ≡ loop_next l p o s
past_next (plan.WhileLoop e b) p o s h = past_loop o s _ h
past_next (plan.DoLoop b e) p o s h = past_loop o s _ h
past_next (plan.ForLoop test next b) p o s h = past_loop o s _ h
past_next (plan.ForInLoop v x y ys b) p o s h = past_loop o s _ h

past_again : (l : plan.Loop) (p : plan.Place) (o : meaning.Completion) (s : State) → Leaves o → Ret o s ≡ loop_again l p o s
past_again (plan.WhileLoop e b) p o s h = not_normal o s _ h
past_again (plan.DoLoop b e) p o s h = not_normal o s _ h
past_again (plan.ForLoop test next b) p o s h = not_normal o s _ h
past_again (plan.ForInLoop v x y ys b) p o s h = refl

past_case : (v : meaning.Value) (all cs : List Case) (p : plan.Place) (o : meaning.Completion) (s : State) → Leaves o → Ret o s ≡ clause_tested v all cs p o s
past_case v all [] p o s h = refl
past_case v all (c ∷ cs) p o s h = no_value o s _ h

-- ## Ends and frames of a task

no_bool : {A : Type 0} → true ≡ false → A
no_bool e = absurd (differ e)
  where
    differ : true ≡ false → ⊥
    differ h = cc

module _ (w : ℕ) (cells : List PlainCell) where
  leaves : (o : Completion) → IsAbrupt o → Leaves (completion_of w cells o)
  leaves completion.Normal h = h
  leaves (completion.Is v) h = h
  leaves (completion.Refers r) h = h
  leaves (completion.Return v) h = tt
  leaves completion.Break h = tt
  leaves completion.Continue h = tt
  leaves (completion.Throw v) h = tt

  abrupt : (o : Completion) → IsAbrupt o → forms.IsAbrupt (completion_of w cells o)
  abrupt completion.Normal h = tt
  abrupt (completion.Is v) h = h
  abrupt (completion.Refers r) h = h
  abrupt (completion.Return v) h = tt
  abrupt completion.Break h = tt
  abrupt completion.Continue h = tt
  abrupt (completion.Throw v) h = tt

  leaves_loop : (o : Completion) → IsAbrupt o → ends_pass o ≡ false → LeavesLoop (completion_of w cells o)
  leaves_loop completion.Normal h t = h
  leaves_loop (completion.Is v) h t = h
  leaves_loop (completion.Refers r) h t = h
  leaves_loop (completion.Return v) h t = tt
  leaves_loop completion.Break h t = no_bool t
  leaves_loop completion.Continue h t = no_bool t
  leaves_loop (completion.Throw v) h t = tt

  leaves_switch : (o : Completion) → IsAbrupt o → is_break o ≡ false → LeavesSwitch (completion_of w cells o)
  leaves_switch completion.Normal h t = h
  leaves_switch (completion.Is v) h t = h
  leaves_switch (completion.Refers r) h t = h
  leaves_switch (completion.Return v) h t = tt
  leaves_switch completion.Break h t = no_bool t
  leaves_switch completion.Continue h t = tt
  leaves_switch (completion.Throw v) h t = tt

  leaves_catch : (o : Completion) → IsAbrupt o → is_throw o ≡ false → LeavesCatch (completion_of w cells o)
  leaves_catch completion.Normal h t = h
  leaves_catch (completion.Is v) h t = h
  leaves_catch (completion.Refers r) h t = h
  leaves_catch (completion.Return v) h t = tt
  leaves_catch completion.Break h t = tt
  leaves_catch completion.Continue h t = tt
  leaves_catch (completion.Throw v) h t = no_bool t

module _ (fs : List Forest) (w : ℕ) (cells : List PlainCell) (s : State) (o : Completion) (h : IsAbrupt o) where
  past_statement : (f : StatementFrame) → statement_takes f o ≡ false → Ret (completion_of w cells o) s ≡ statement_taken fs w cells f (completion_of w cells o) s
  past_statement (statement.Seq b n p) t = not_normal _ s _ (leaves w cells o h)
  past_statement statement.Only t = no_value _ s _ (leaves w cells o h)
  past_statement (statement.Declared i n p) t = no_value _ s _ (leaves w cells o h)
  past_statement (statement.First i n p) t = no_value _ s _ (leaves w cells o h)
  past_statement (statement.Last i n p) t = no_value _ s _ (leaves w cells o h)
  past_statement (statement.Branch i p) t = no_value _ s _ (leaves w cells o h)
  past_statement (statement.Test i p) t = no_value _ s _ (leaves w cells o h)
  past_statement (statement.LoopNext i p) t = past_next (loop_of (stmt_at (forest_at fs p.code) i)) (place_of w cells p) _ s (leaves_loop w cells o h t)
  past_statement (statement.ForAgain i p) t = past_again (loop_of (stmt_at (forest_at fs p.code) i)) (place_of w cells p) _ s (leaves w cells o h)
  past_statement (statement.ForInOver i p) t = no_value _ s _ (leaves w cells o h)
  past_statement (statement.ForInNext l p) t = past_loop _ s _ (leaves_loop w cells o h t)
  past_statement statement.ToReturn t = no_value _ s _ (leaves w cells o h)
  past_statement statement.ToThrow t = no_value _ s _ (leaves w cells o h)
  past_statement (statement.Switch i p) t = no_value _ s _ (leaves w cells o h)
  past_statement (statement.Case v i n p) t =
      past_case (seen w cells v) (clauses_of (stmt_at (forest_at fs p.code) i)) (drop n (clauses_of (stmt_at (forest_at fs p.code) i))) (place_of w cells p) _ s (leaves w cells o h)
  past_statement statement.SwitchEnd t = past_switch _ s (leaves_switch w cells o h t)
  past_statement (statement.Caught i p) t = past_catch (catch_of (stmt_at (forest_at fs p.code) i)) (place_of w cells p) _ s (leaves_catch w cells o h t)
  past_statement (statement.Finally i p) t = no_bool t
  past_statement (statement.LastEnd how) t = not_normal _ s _ (leaves w cells o h)

past_end : (w : ℕ) (cells : List PlainCell) (s : State) (o : Completion) → IsAbrupt o → call_takes call.CallEnd o ≡ false → Ret (completion_of w cells o) s ≡ call_taken [] w cells call.CallEnd (completion_of w cells o) s
past_end w cells s completion.Normal h t = absurd h
past_end w cells s (completion.Is v) h t = absurd h
past_end w cells s (completion.Refers r) h t = absurd h
past_end w cells s (completion.Return v) h t = no_bool t
past_end w cells s completion.Break h t = no_bool t
past_end w cells s completion.Continue h t = no_bool t
past_end w cells s (completion.Throw v) h t = refl

module _ (fs : List Forest) (w : ℕ) (cells : List PlainCell) (s : State) (o : Completion) (h : IsAbrupt o) where
  past_call : (f : CallFrame) → call_takes f o ≡ false → Ret (completion_of w cells o) s ≡ call_taken fs w cells f (completion_of w cells o) s
  past_call (call.Callee e p) t = no_reference _ s _ (leaves w cells o h)
  past_call (call.Argument a) t = no_value _ s _ (leaves w cells o h)
  past_call call.CallEnd t = past_end w cells s o h t
  past_call (call.ToPrimitive d) t = no_value _ s _ (leaves w cells o h)
  past_call call.Primitive t = no_value _ s _ (leaves w cells o h)
  past_call call.TextOf t = no_value _ s _ (leaves w cells o h)
  past_call (call.MakeText x) t = not_normal _ s _ (leaves w cells o h)
  past_call (call.Each c) t = no_value _ s _ (leaves w cells o h)
  past_call (call.Gather g) t = no_value _ s _ (leaves w cells o h)

  pub passed_on : (f : Frame) → takes f o ≡ false → Ret (completion_of w cells o) s ≡ taken fs w cells f (completion_of w cells o) s
  passed_on (frame.Form f) t = (forms.passed fs w cells f).1 (completion_of w cells o) s (abrupt w cells o h)
  passed_on (frame.Statement f) t = past_statement fs w cells s o h f t
  passed_on (frame.Call f) t = past_call f t
