-- A frame of an expression passes on what is neither a value nor a reference.
use Rattle.std.proofs.Common.{◌≡◌, ◌≤◌, ℕ, List, refl, arith}
use Rattle.js_tree.specs.Forest.{Forest}
use Rattle.store_cells.specs.declared.value.Value.{Value}
use Rattle.store_cells.specs.Cells.{PlainCell}
use Rattle.widget_meaning.specs.Values as meaning
use Rattle.widget_meaning.specs.OwnState.{State}
use Rattle.widget_meaning.specs.Plan.{Plan, Ret, on_reference, on_value}
use Rattle.js_flow.specs.declared.frame.FormFrame.{FormFrame}
use Rattle.js_flow.specs.declared.frame.FormFrame.TheVariants as frame
use Rattle.js_flow.specs.declared.job.Completion.{Completion}
use Rattle.js_flow.specs.declared.job.Completion.TheVariants as completion
use Rattle.js_flow.specs.declared.job.Reference.{Reference}
use Rattle.js_flow.specs.Forms.{form_taken}
use Rattle.js_flow.specs.Free.{form_free}
use Rattle.js_flow.specs.Views.{completion_of}

abbrev pub IsAbrupt : meaning.Completion → Type 0
IsAbrupt (meaning.Is v) = ⊥
IsAbrupt (meaning.Refers r) = ⊥
IsAbrupt _ = Unit {0}

no_value : (o : meaning.Completion) (s : State) (k : meaning.Value → Plan) → IsAbrupt o → Ret o s ≡ on_value o s k
no_value (meaning.Is v) s k h = absurd h
no_value (meaning.Refers r) s k h = absurd h
no_value meaning.Normal s k h = refl
no_value (meaning.Return v) s k h = refl
no_value meaning.Break s k h = refl
no_value meaning.Continue s k h = refl
no_value (meaning.Throw v) s k h = refl

no_reference : (o : meaning.Completion) (s : State) (k : meaning.Reference → Plan) → IsAbrupt o → Ret o s ≡ on_reference o s k
no_reference (meaning.Is v) s k h = absurd h
no_reference (meaning.Refers r) s k h = absurd h
no_reference meaning.Normal s k h = refl
no_reference (meaning.Return v) s k h = refl
no_reference meaning.Break s k h = refl
no_reference meaning.Continue s k h = refl
no_reference (meaning.Throw v) s k h = refl

module _ (fs : List Forest) (w : ℕ) (cells : List PlainCell) where
  pub passed : (f : FormFrame) → (1 ≤ form_free f) × ((o : meaning.Completion) (s : State) → IsAbrupt o → Ret o s ≡ form_taken fs w cells f o s)
  passed (frame.Dot x) = (omega arith, λ o s h. no_value o s _ h)
  passed (frame.TargetDot x) = (omega arith, λ o s h. no_value o s _ h)
  passed (frame.SubBase e p) = (omega arith, λ o s h. no_value o s _ h)
  passed (frame.Sub b) = (omega arith, λ o s h. no_value o s _ h)
  passed (frame.TargetSubBase e p) = (omega arith, λ o s h. no_value o s _ h)
  passed (frame.TargetSub b) = (omega arith, λ o s h. no_value o s _ h)
  passed frame.Found = (omega arith, λ o s h. no_value o s _ h)
  passed (frame.Element a e n p) = (omega arith, λ o s h. no_value o s _ h)
  passed (frame.Property a e n p) = (omega arith, λ o s h. no_value o s _ h)
  passed (frame.Right op e p) = (omega arith, λ o s h. no_value o s _ h)
  passed (frame.Operate op v d) = (omega arith, λ o s h. no_value o s _ h)
  passed (frame.ConvertedLeft op v d) = (omega arith, λ o s h. no_value o s _ h)
  passed (frame.ConvertedRight op v) = (omega arith, λ o s h. no_value o s _ h)
  passed (frame.Prefix op p) = (omega arith, λ o s h. no_value o s _ h)
  passed (frame.ConvertedPrefix op) = (omega arith, λ o s h. no_value o s _ h)
  passed frame.Delete = (omega arith, λ o s h. no_reference o s _ h)
  passed (frame.StepTarget op p) = (omega arith, λ o s h. no_reference o s _ h)
  passed (frame.StepConverted op r p) = (omega arith, λ o s h. no_value o s _ h)
  passed (frame.AssignTarget op e p) = (omega arith, λ o s h. no_reference o s _ h)
  passed (frame.AssignWith a) = (omega arith, λ o s h. no_value o s _ h)
  passed (frame.Write r p) = (omega arith, λ o s h. no_value o s _ h)
  passed (frame.And e p) = (omega arith, λ o s h. no_value o s _ h)
  passed (frame.Or e p) = (omega arith, λ o s h. no_value o s _ h)
  passed (frame.Choose a b p) = (omega arith, λ o s h. no_value o s _ h)

pub abrupt : (w : ℕ) (cells : List PlainCell) (o : Completion) → ((v : Value) → o ≡ completion.Is v → ⊥) → ((r : Reference) → o ≡ completion.Refers r → ⊥) → IsAbrupt (completion_of w cells o)
abrupt w cells completion.Normal h k = tt
abrupt w cells (completion.Is v) h k = h v refl
abrupt w cells (completion.Refers r) h k = k r refl
abrupt w cells (completion.Return v) h k = tt
abrupt w cells completion.Break h k = tt
abrupt w cells completion.Continue h k = tt
abrupt w cells (completion.Throw v) h k = tt
