-- A native that was carried out in place.
use Rattle.std.proofs.Common.{◌≡◌, ℕ, suc, ◌+◌, ◌-◌, ◌≤◌, List, [], Option, sym, ◌∙◌, subst, arith}
use Rattle.std.specs.Prelude.{map}
use Rattle.js_tree.specs.Forest.{Forest}
use Rattle.permitted_table.specs.declared.native.NativeId.{NativeId}
use Rattle.store_cells.specs.Cells.{Cells, PlainCell}
use Rattle.store_cells.specs.declared.value.Value.{Value as StoreValue}
use Rattle.store_cells.specs.declared.value.Value.TheVariants as value
use Rattle.widget_meaning.specs.Values as meaning
use Rattle.widget_meaning.specs.OwnState.{State}
use Rattle.widget_meaning.specs.Plan.{Do, Plan, Ret, RunNative, after}
use Rattle.widget_meaning.specs.Calls.{to_primitive}
use Rattle.widget_meaning.specs.Natives.{run_native}
use Rattle.widget_meaning.specs.GlobalNatives.{text_of_primitive}
use Rattle.widget_meaning.specs.ListNatives.{kept}
use Rattle.widget_meaning.specs.Costs.{give}
use Rattle.widget_meaning.proofs.Runs.{and_then_ret}
use Rattle.plan_ends.specs.Ends.{ByValue, Yields}
use Rattle.plan_ends.proofs.KeptRows.{call_each_ends, each_called_ends, fired_ends, make_array_ends, text_of_primitive_ends, to_primitive_ends}
use Rattle.plan_ends.proofs.Steps.{chain, faulted, gave, halted, value as on_a_value}
use Rattle.js_image.specs.Image.{Rest, image, no_rest, seen}
use Rattle.js_image.specs.Held.{IsConfined}
use Rattle.js_image.specs.Plans.{meant_cause, meant_fault}
use Rattle.js_values.specs.Answers.{Leaves, called, gathered}
use Rattle.js_values.specs.declared.outcome.Keep.{Keep}
use Rattle.js_values.specs.declared.outcome.Keep.TheVariants as keep
use Rattle.js_values.specs.declared.outcome.NativeOut.{NativeOut}
use Rattle.js_values.specs.declared.outcome.NativeOut.TheVariants as native
use Rattle.js_values.specs.declared.outcome.Plan.{Plan as Calls}
use Rattle.js_values.specs.declared.outcome.Plan.TheVariants as calls
use Rattle.js_calls.specs.Called.{given}
use Rattle.store_natives.specs.Done.{Done}
use Rattle.js_flow.specs.declared.job.Completion.{Completion}
use Rattle.js_direct.specs.declared.run.Ended.{Ended}
use Rattle.js_direct.specs.declared.run.Run.{Run}
use Rattle.js_direct.specs.Comes.{ComesTo, came}
use Rattle.js_direct.specs.Reduces.{Reduces}
use Rattle.js_direct.proofs.Reducing.{carried, counts, starts}

-- ## What a native answers ends by a value or a throw

gathered_ends : (how : Keep) (vs ws : List meaning.Value) (t : State) → Yields ByValue (gathered how vs ws t)
gathered_ends keep.Nothing vs ws t = gave ByValue meaning.Undefined t
gathered_ends keep.Results vs ws t = make_array_ends ByValue ws 0 t give (λ v u. gave ByValue v u)
gathered_ends keep.Passing vs ws t = make_array_ends ByValue (kept vs ws) 0 t give (λ v u. gave ByValue v u)

module _ (see : StoreValue → meaning.Value) (node : ℕ → ℕ) (d : ℕ) (t : State) where
  called_ends : (p : Calls) → Yields ByValue (called see node d p t)
  called_ends (calls.ToText i) =
      chain ByValue (to_primitive (see (value.Ref i)) d t) (after text_of_primitive) (to_primitive_ends (see (value.Ref i)) d t)
      (λ o u h. on_a_value ByValue o u (λ v. text_of_primitive v u) h (λ v. text_of_primitive_ends v u))
  called_ends (calls.Each func items last) = each_called_ends (see (value.Ref func)) (map see items.items) (see last) d t
  called_ends (calls.Fire kind nodes last) = fired_ends kind (map node nodes.items) (see last) d t
  called_ends (calls.Gather func items how) =
      call_each_ends ByValue (see (value.Ref func)) (map see items.items) 0 [] d t (gathered how (map see items.items)) (λ xs u. gathered_ends how (map see items.items) xs u)

module _ (w : ℕ) (cells : List PlainCell) (node : ℕ → ℕ) (d : ℕ) (t : State) where
  given_ends : (o : NativeOut) → Yields ByValue (given w cells node d o t)
  given_ends (native.Value v) = gave ByValue (seen w cells v) t
  given_ends (native.Throw f) = faulted ByValue (meant_fault f) t
  given_ends (native.Call p) = called_ends (seen w cells) node d t p
  given_ends (native.Stop c) = halted ByValue (meant_cause c) t
  given_ends native.OutOfFuel = gave ByValue (seen w cells value.Undefined) t

  -- what is left of a native's plan is what its answer gives
  left_given : (o : NativeOut) (q : Plan) → Leaves (seen w cells) node d o t q → q ≡ given w cells node d o t
  left_given (native.Value v) q h = h
  left_given (native.Throw f) q h = h
  left_given (native.Call p) q h = h
  left_given (native.Stop c) q h = h
  left_given native.OutOfFuel q h = absurd h

-- ## Its unit and what it took are paid, and then its answer comes to this

-- nothing was done in the store
pub at_same : (fs : List Forest) (w : ℕ) (s t : Cells) (n : ℕ) (p : State → Plan) (had has : Run) (how : Ended) (e : Completion) → t ≡ s → ComesTo fs w s s n p had has how e → ComesTo fs w s t n p had has how e
at_same fs w s t n p had has how e same h = subst (λ (x : Cells). ComesTo fs w s x n p had has how e) (sym same) h

module _ (fs : List Forest) (w : ℕ) (s t u : Cells) (which : NativeId) (this : Option meaning.Value) (args : List meaning.Value) (d before left : ℕ) (found : NativeOut) (done : Done w s t before left (run_native which this args) found) (confined : IsConfined fs w s) (had mid has : Run)
    (how : Ended) (e : Completion) (one : suc before ≡ had.units) (same : left ≡ mid.units) (comes : ComesTo fs w t u 15 (given w t.cells (λ n. n) d found) mid has how e) where
  taken_units : left ≤ before
  taken_units = let a = done.answer fs no_rest (λ n. n) d confined in omega (arith, a.2)

  native_reduces : (r : Rest) → Reduces (had.units - has.units) (Do (RunNative which this args d) (image fs r w s) Ret) (came fs w u.cells how e has (image fs r w u))
  native_reduces r =
      let a = done.answer fs r (λ n. n) d confined in
      let q = a.1 in
      let is = left_given w t.cells (λ n. n) d (image fs r w t) found q a.4 in
      counts (suc (a.0 + (mid.units - has.units))) (had.units - has.units) _ _ (omega (arith, one, same, a.2, comes.units))
      (carried a.0 (mid.units - has.units) which this args d (image fs r w s) Ret q _ a.3
      (subst (λ (x : Plan). Yields ByValue x) (sym is) (given_ends w t.cells (λ n. n) d (image fs r w t) found))
      (starts (mid.units - has.units) _ _ _ (and_then_ret q ∙ is) (comes.reduces r)))

  pub native_runs : ComesTo fs w s u 0 (λ x. Do (RunNative which this args d) x Ret) had has how e
  native_runs = record {
    units = omega (arith, one, same, taken_units, comes.units);
    reduces = native_reduces;
    fine = comes.fine;
    near = omega (arith, one, same, taken_units, comes.near);
  }
