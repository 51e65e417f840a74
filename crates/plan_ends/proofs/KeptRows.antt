-- How some plans end, and each job: rows of what plans keep.
use Rattle.std.specs.Prelude.{ℕ, List}
use Rattle.widget_meaning.specs.Values.{Value}
use Rattle.widget_meaning.specs.OwnState.{State}
use Rattle.widget_meaning.specs.Plan.{Plan, Job}
use Rattle.widget_meaning.specs.Meaning.{body}
use Rattle.widget_meaning.specs.Calls.{to_primitive}
use Rattle.widget_meaning.specs.NativeForms.{make_array}
use Rattle.widget_meaning.specs.GlobalNatives.{text_of_primitive}
use Rattle.widget_meaning.specs.ListNatives.{call_each}
use Rattle.widget_meaning.specs.BunchWrites.{fired, each_called}
use Rattle.widget_meaning.proofs.KeepingForms.{to_primitive_r}
use Rattle.widget_meaning.proofs.KeepingNatives.{make_array_r, text_of_primitive_r}
use Rattle.widget_meaning.proofs.KeepingLists.{call_each_r}
use Rattle.widget_meaning.proofs.KeepingPage.{fired_r, each_called_r}
use Rattle.widget_meaning.proofs.KeepingJobs.{body_r}
use Rattle.plan_ends.specs.Ends.{Way, ByValue, Yields, way_of}
use Rattle.plan_ends.proofs.Steps.{nothing, any_state, any_job, yields, keeps}

pub to_primitive_ends : (v : Value) (d : ℕ) (s : State) → Yields ByValue (to_primitive v d s)
to_primitive_ends v d s = yields ByValue _ (to_primitive_r nothing 0 v d s (any_state 0 s))

pub make_array_ends : (way : Way) (vs : List Value) (units : ℕ) (s : State) (k : Value → State → Plan) → ((v : Value) (t : State) → Yields way (k v t)) → Yields way (make_array vs units s k)
make_array_ends way vs units s k f = yields way _ (make_array_r nothing 0 way vs units s k (any_state 0 s) (λ v t h. keeps way (k v t) (f v t)))

pub text_of_primitive_ends : (v : Value) (s : State) → Yields ByValue (text_of_primitive v s)
text_of_primitive_ends v s = yields ByValue _ (text_of_primitive_r nothing 0 v s (any_state 0 s))

pub call_each_ends : (way : Way) (f : Value) (vs : List Value) (i : ℕ) (ws : List Value) (d : ℕ) (s : State) (k : List Value → State → Plan) → ((xs : List Value) (t : State) → Yields way (k xs t)) → Yields way (call_each f vs i ws d s k)
call_each_ends way f vs i ws d s k g = yields way _ (call_each_r nothing 0 way f vs i ws d s k (any_state 0 s) (λ xs t h. keeps way (k xs t) (g xs t)))

pub fired_ends : (t ns : List ℕ) (b : Value) (d : ℕ) (s : State) → Yields ByValue (fired t ns b d s)
fired_ends t ns b d s = yields ByValue _ (fired_r nothing 0 t ns b d s (any_state 0 s))

pub each_called_ends : (f : Value) (vs : List Value) (b : Value) (d : ℕ) (s : State) → Yields ByValue (each_called f vs b d s)
each_called_ends f vs b d s = yields ByValue _ (each_called_r nothing 0 f vs b d s (any_state 0 s))

pub body_ends : (j : Job) (s : State) → Yields (way_of j) (body j s)
body_ends j s = yields (way_of j) (body j s) (body_r nothing 0 j s (any_state 0 s) (any_job 0 j))
