-- What the frames of calls, conversions and natives have still to do, each by its row of the meaning.
use Rattle.std.specs.Prelude.{ℕ, List, [], ◌∷◌, ◌++◌, drop, length}
use Rattle.js_tree.specs.Forest.{Forest, expr_at}
use Rattle.store_cells.specs.declared.value.Value.TheVariants as value
use Rattle.store_cells.specs.Cells.{PlainCell}
use Rattle.widget_meaning.specs.Values.{Value, Completion, Undefined, Text}
use Rattle.widget_meaning.specs.OwnState.{State}
use Rattle.widget_meaning.specs.Plan.{Plan, after, on_normal}
use Rattle.widget_meaning.specs.Costs.{give, make_text}
use Rattle.widget_meaning.specs.Calls.{call_end, primitive_result, to_primitive}
use Rattle.widget_meaning.specs.Expressions.{arguments_then, callee}
use Rattle.widget_meaning.specs.NativeForms.{make_array}
use Rattle.widget_meaning.specs.GlobalNatives.{text_of_primitive}
use Rattle.widget_meaning.specs.ListNatives.{call_each, kept}
use Rattle.widget_meaning.specs.BunchWrites.{each_called}
use Rattle.js_image.specs.Image.{all_seen, seen}
use Rattle.js_flow.specs.declared.frame.CallFrame.{CallFrame}
use Rattle.js_flow.specs.declared.frame.CallFrame.TheVariants as frame
use Rattle.js_flow.specs.declared.frame.Argument.{Argument}
use Rattle.js_flow.specs.declared.frame.Calling.{Calling}
use Rattle.js_flow.specs.declared.frame.Gathering.{Gathering}
use Rattle.js_flow.specs.declared.frame.Keep.{Keep}
use Rattle.js_flow.specs.declared.frame.Keep.TheVariants as keep
use Rattle.js_flow.specs.Parts.{arguments_of, forest_at}
use Rattle.js_flow.specs.Views.{place_of, reference_of}

-- what is done with the results of calls with each item
abbrev pub gathered : Keep → List Value → List Value → State → Plan
gathered keep.Nothing vs ws t = give Undefined t
gathered keep.Results vs ws t = make_array ws 0 t give
gathered keep.Passing vs ws t = make_array (kept vs ws) 0 t give

module _ (fs : List Forest) (w : ℕ) (cells : List PlainCell) where
  -- a call of which so many arguments are there
  abbrev pub argument_taken : Argument → Completion → State → Plan
  argument_taken a = after (λ v t. arguments_then (reference_of w cells a.of) (all_seen w cells a.args.items ++ v ∷ [])
      (drop a.next (arguments_of (expr_at (forest_at fs a.place.code) a.call))) (place_of w cells a.place) t)

  -- the calls with the items after these
  abbrev pub calling_taken : Calling → Completion → State → Plan
  calling_taken c = after (λ v t. each_called (seen w cells (value.Ref c.func)) (drop c.next (all_seen w cells c.items.items)) (seen w cells c.last) c.depth t)

  -- the same with their results
  abbrev pub gathering_taken : Gathering → Completion → State → Plan
  gathering_taken g = after (λ v t. call_each (seen w cells (value.Ref g.func)) (drop (length (all_seen w cells g.results.items ++ v ∷ [])) (all_seen w cells g.items.items))
      (length (all_seen w cells g.results.items ++ v ∷ [])) (all_seen w cells g.results.items ++ v ∷ []) g.depth t (gathered g.keep (all_seen w cells g.items.items)))

  -- what a frame does with how its part ended
  abbrev pub call_taken : CallFrame → Completion → State → Plan
  call_taken (frame.Callee e p) = callee (arguments_of (expr_at (forest_at fs p.code) e)) (place_of w cells p)
  call_taken (frame.Argument a) = argument_taken a.value
  call_taken frame.CallEnd = call_end
  call_taken (frame.ToPrimitive d) = after (λ v t. to_primitive v d t)
  call_taken frame.Primitive = primitive_result
  call_taken frame.TextOf = after text_of_primitive
  call_taken (frame.MakeText x) = λ o s. on_normal o s (make_text x s (give (Text x)))
  call_taken (frame.Each c) = calling_taken c.value
  call_taken (frame.Gather g) = gathering_taken g.value
