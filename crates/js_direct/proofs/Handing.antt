-- The end of a part is handed on, or the frame that waits for the part is put behind what waits.
use Rattle.std.proofs.Common.{◌≡◌, ℕ, ◌+◌, ◌≤◌, List, [], ◌∷◌, ◌++◌, refl, sym, subst, ◌∙◌, arith}
use Rattle.std.specs.Prelude.{IfOk, Result, Ok, Err}
use Rattle.js_tree.specs.Forest.{Forest}
use Rattle.store_cells.specs.Cells.{Cells, PlainCell}
use Rattle.store_cells.specs.declared.value.Value.{Value}
use Rattle.widget_meaning.specs.Values as meaning
use Rattle.widget_meaning.specs.OwnState.{State}
use Rattle.widget_meaning.specs.Plan.{Plan, Ret, and_then, on_normal, on_value}
use Rattle.js_image.specs.Image.{Rest, image, seen}
use Rattle.js_image.specs.Held.{IsFine, Kept}
use Rattle.js_flow.specs.declared.frame.Frame.{Frame}
use Rattle.js_flow.specs.declared.frame.Frame.TheVariants as frame
use Rattle.js_flow.specs.declared.frame.FormFrame.{FormFrame}
use Rattle.js_flow.specs.declared.job.Reference.{Reference}
use Rattle.js_flow.specs.Forms.{form_taken}
use Rattle.js_flow.specs.Frames.{taken}
use Rattle.js_flow.specs.Fine.{FineForm, FineFrame}
use Rattle.js_flow.specs.Free.{form_free, frame_free}
use Rattle.js_flow.specs.Views.{completion_of}
use Rattle.js_expressions.proofs.Passing.{passed}
use Rattle.js_direct.specs.declared.run.Ended.{Ended}
use Rattle.js_direct.specs.declared.run.Ended.TheVariants as ended
use Rattle.js_direct.specs.declared.run.Run.{Run}
use Rattle.js_direct.specs.Comes.{Comes, IsEnd, Reaches, ended_as}
use Rattle.js_direct.specs.Hands.{HandsOn}
use Rattle.js_direct.proofs.FormFrames.{ends_target, gives_value, other_abrupt}
use Rattle.js_direct.proofs.Parts.{part_passes, part_waits}
use Rattle.js_direct.proofs.Sequels.{normal_passes, value_passes}

-- ## How it is handed on

pub handed_left : {E : Type 0} (result : Result Ended E) (had has : Run) (how : Ended) (f : Frame) → how ≡ ended.Left
    → IfOk result (λ h. h ≡ ended.Left) → IfOk result (λ h. has.waits.items ≡ had.waits.items ++ f ∷ []) → IfOk result (λ h. has.next ≡ had.next) → IfOk result (λ h. has.units ≡ had.units)
    → IfOk result (λ h. HandsOn had has how h f)
handed_left (Ok h) had has how f is left waits next units = record {
  is = left ∙ sym is;
  waits = λ e. waits;
  next = next;
  units = units;
  none = λ not_it. absurd (not_it is);
}
handed_left (Err e) had has how f is left waits next units = tt

pub handed_same : (had : Run) (how : Ended) (f : Frame) → (how ≡ ended.Left → ⊥) → HandsOn had had how how f
handed_same had how f not_it = record {
  is = refl;
  waits = λ e. absurd (not_it e);
  next = refl;
  units = refl;
  none = λ n. refl;
}

-- what is said of a value is said of the place that it was put at
pub placed_ok : {E : Type 0} (result : Result Ended E) (P : Ended → Value → Type 0) (v at : Value) → IfOk result (λ h. at ≡ v) → IfOk result (λ h. P h v) → IfOk result (λ h. P h at)
placed_ok (Ok h) P v at same given = subst (λ (x : Value). P h x) (sym same) given
placed_ok (Err e) P v at same given = tt

-- an end is no suspension
apart_left : (how : Ended) → IsEnd how → how ≡ ended.Left → ⊥
apart_left how end e = subst IsEnd e end

module _ (fs : List Forest) (w : ℕ) where
  module _ (s0 s1 : Cells) (n0 n : ℕ) (p : State → Plan) (f : Frame) (had mid has : Run) (given : Ended) (v : Value) where
    hands_end : (how : Ended) → IsEnd how → Comes fs w s0 s1 n0 p had mid how v
        → ((t : State) → (how ≡ ended.Left → ⊥) → taken fs w s1.cells f (completion_of w s1.cells (ended_as how v)) t ≡ Ret (completion_of w s1.cells (ended_as how v)) t)
        → Kept fs w s0 s1 → FineFrame fs w s0.cells f → n0 + frame_free f ≤ n → HandsOn mid has how given f
        → Comes fs w s0 s1 n (λ s. and_then (p s) (taken fs w s0.cells f)) had has given v
    hands_end how end one passes kept fine le hands =
        subst (λ (h : Ended). Comes fs w s0 s1 n (λ s. and_then (p s) (taken fs w s0.cells f)) had has h v) (sym hands.is)
        (subst (λ (r : Run). Comes fs w s0 s1 n (λ s. and_then (p s) (taken fs w s0.cells f)) had r how v) (sym (hands.none (apart_left how end)))
        (part_passes fs w s0 s1 n0 n p f had mid how (ended_as how v) one end kept.grows fine (λ t. passes t (apart_left how end)) (omega (arith, le))))

    pub hands : (how : Ended) → Comes fs w s0 s1 n0 p had mid how v
        → ((t : State) → (how ≡ ended.Left → ⊥) → taken fs w s1.cells f (completion_of w s1.cells (ended_as how v)) t ≡ Ret (completion_of w s1.cells (ended_as how v)) t)
        → Kept fs w s0 s1 → FineFrame fs w s0.cells f → n0 + frame_free f ≤ n → HandsOn mid has how given f
        → Comes fs w s0 s1 n (λ s. and_then (p s) (taken fs w s0.cells f)) had has given v
    hands ended.Left one passes kept fine le hand =
        part_waits fs w s0 s1 n0 n p f had mid has ended.Left given (ended_as ended.Left v) (ended_as given v) one refl kept.grows fine hand.units hand.next (hand.waits refl) hand.is le
    hands ended.Normal one passes kept fine le hand = hands_end ended.Normal tt one passes kept fine le hand
    hands ended.Is one passes kept fine le hand = hands_end ended.Is tt one passes kept fine le hand
    hands ended.Return one passes kept fine le hand = hands_end ended.Return tt one passes kept fine le hand
    hands ended.Break one passes kept fine le hand = hands_end ended.Break tt one passes kept fine le hand
    hands ended.Continue one passes kept fine le hand = hands_end ended.Continue tt one passes kept fine le hand
    hands ended.Threw one passes kept fine le hand = hands_end ended.Threw tt one passes kept fine le hand

  -- ## As the function answers that hands it on

  pub hand_ok : {E : Type 0} (result : Result Ended E) (s0 s1 : Cells) (n0 n : ℕ) (p : State → Plan) (f : Frame) (had mid has : Run) (how : Ended) (v : Value)
      → Comes fs w s0 s1 n0 p had mid how v
      → ((t : State) → (how ≡ ended.Left → ⊥) → taken fs w s1.cells f (completion_of w s1.cells (ended_as how v)) t ≡ Ret (completion_of w s1.cells (ended_as how v)) t)
      → Kept fs w s0 s1 → FineFrame fs w s0.cells f → n0 + frame_free f ≤ n → IfOk result (λ h. HandsOn mid has how h f)
      → IfOk result (λ h. Comes fs w s0 s1 n (λ s. and_then (p s) (taken fs w s0.cells f)) had has h v)
  hand_ok (Ok h) s0 s1 n0 n p f had mid has how v one passes kept fine le hand = hands s0 s1 n0 n p f had mid has h v how one passes kept fine le hand
  hand_ok (Err e) s0 s1 n0 n p f had mid has how v one passes kept fine le hand = tt

  -- no value, where the frame of an expression waits
  pub hand_form : {E : Type 0} (result : Result Ended E) (s0 s1 : Cells) (n0 n : ℕ) (p : State → Plan) (f : FormFrame) (had mid has : Run) (how : Ended) (v : Value)
      → Comes fs w s0 s1 n0 p had mid how v → (how ≡ ended.Is → ⊥) → Kept fs w s0 s1 → FineForm fs w s0.cells f → n0 + form_free f ≤ n
      → IfOk result (λ h. HandsOn mid has how h (frame.Form f))
      → IfOk result (λ h. Comes fs w s0 s1 n (λ s. and_then (p s) (form_taken fs w s0.cells f)) had has h v)
  hand_form result s0 s1 n0 n p f had mid has how v one not_it kept fine le hand =
      hand_ok result s0 s1 n0 n p (frame.Form f) had mid has how v one
      (λ t no_left. sym ((passed fs w s1.cells f).1 (completion_of w s1.cells (ended_as how v)) t (other_abrupt w s1.cells how v not_it))) kept fine le hand

  -- no value, where a frame waits for one
  pub passes_value : (cells : List PlainCell) (f : Frame) (how : Ended) (v : Value) (k : meaning.Value → State → Plan) → (how ≡ ended.Is → ⊥)
      → ((o : meaning.Completion) (t : State) → taken fs w cells f o t ≡ on_value o t (λ u. k u t))
      → (t : State) → (how ≡ ended.Left → ⊥) → taken fs w cells f (completion_of w cells (ended_as how v)) t ≡ Ret (completion_of w cells (ended_as how v)) t
  passes_value cells f how v k not_it is t no_left = is (completion_of w cells (ended_as how v)) t ∙ value_passes w cells v t how (λ u. k u t) not_it no_left

  -- no end of a statement, where a frame waits for one
  pub passes_normal : (cells : List PlainCell) (f : Frame) (how : Ended) (v : Value) (k : State → Plan) → (how ≡ ended.Normal → ⊥)
      → ((o : meaning.Completion) (t : State) → taken fs w cells f o t ≡ on_normal o t (k t))
      → (t : State) → (how ≡ ended.Left → ⊥) → taken fs w cells f (completion_of w cells (ended_as how v)) t ≡ Ret (completion_of w cells (ended_as how v)) t
  passes_normal cells f how v k not_it is t no_left = is (completion_of w cells (ended_as how v)) t ∙ normal_passes w cells v t how (k t) not_it no_left

  -- ## What stands in the store is shared

  pub is_shared : (s : Cells) (n : ℕ) (p : State → Plan) (had : Run) (v at : Value) → at ≡ v → had.waits.items ≡ []
      → ((r : Rest) → p (image fs r w s) ≡ Ret (meaning.Is (seen w s.cells v)) (image fs r w s)) → IsFine w s.cells v → 1 ≤ n
      → Comes fs w s s n p had had ended.Is at
  is_shared s n p had v at same none plan fine le =
      subst (λ (x : Value). Comes fs w s s n p had had ended.Is x) (sym same) (gives_value fs w s s n p had v none plan fine le)

  -- no value, where the frame of a target waits
  pub hand_target : {E : Type 0} (result : Result Ended E) (s0 s1 : Cells) (n0 n : ℕ) (p : State → Plan) (f : FormFrame) (had mid has : Run) (how : Ended) (of : Reference) (v : Value)
      → Comes fs w s0 s1 n0 p had mid how v → (how ≡ ended.Is → ⊥) → Kept fs w s0 s1 → FineForm fs w s0.cells f → n0 + form_free f ≤ n
      → IfOk result (λ h. HandsOn mid has how h (frame.Form f))
      → IfOk result (λ h. Reaches fs w s0 s1 n (λ s. and_then (p s) (form_taken fs w s0.cells f)) had has h of v)
  hand_target (Ok h) s0 s1 n0 n p f had mid has how of v one not_it kept fine le hand =
      ends_target fs w s0 s1 n (λ s. and_then (p s) (form_taken fs w s0.cells f)) had has h of v
      (hand_form {E = ⊥} (Ok h) s0 s1 n0 n p f had mid has how v one not_it kept fine le hand) (λ e. not_it (sym hand.is ∙ e))
  hand_target (Err e) s0 s1 n0 n p f had mid has how of v one not_it kept fine le hand = tt
