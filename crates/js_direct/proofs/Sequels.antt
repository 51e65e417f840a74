-- Parts of a statement one after the other: what is still to be done.
use Rattle.std.proofs.Common.{◌≡◌, ◌⊎◌, inl, inr, ℕ, ◌+◌, ◌-◌, ◌≤◌, List, [], ◌∷◌, ◌++◌, refl, sym, ap, ◌∙◌, subst, arith}
use Rattle.std.specs.Prelude.{Bool, true, false, if◌then◌else◌, MatchOption, IfOk, Option, None, Some, Result, Ok, Err}
use Rattle.js_tree.specs.Forest.{Forest, stmt_at}
use Rattle.store_cells.specs.Cells.{Cells, PlainCell}
use Rattle.store_cells.specs.declared.value.Value.{Value}
use Rattle.object_store.specs.Grows.{Grows}
use Rattle.widget_meaning.specs.Values as meaning
use Rattle.widget_meaning.specs.OwnState.{State}
use Rattle.widget_meaning.specs.Plan.{Plan, Ret, Do, Job, and_then, on_normal, on_value}
use Rattle.widget_meaning.specs.Statements.{expressions, loop_end}
use Rattle.widget_meaning.specs.Meaning.{body}
use Rattle.js_image.specs.Image.{Rest, image, seen}
use Rattle.js_tree.specs.declared.nodes.StmtId.{StmtId}
use Rattle.js_flow.specs.declared.job.Place.{Place}
use Rattle.js_flow.specs.declared.job.Job.TheVariants as job
use Rattle.js_flow.specs.declared.frame.Frame.TheVariants as frame
use Rattle.js_flow.specs.declared.frame.StatementFrame.TheVariants as statement
use Rattle.js_image.specs.Held.{Kept}
use Rattle.js_flow.specs.declared.frame.Frame.{Frame}
use Rattle.js_flow.specs.declared.job.Completion.{Completion}
use Rattle.js_flow.specs.Frames.{taken}
use Rattle.js_flow.specs.Fine.{FineCompletion, FineFrame, IsStmtAt}
use Rattle.js_flow.specs.Free.{frame_free}
use Rattle.js_flow.specs.Views.{completion_of, job_of, place_of}
use Rattle.js_flow.specs.Parts.{forest_at, last_of, loop_of}
use Rattle.js_flow.proofs.Stays.{frame_same}
use Rattle.js_direct.specs.declared.run.Ended.{Ended}
use Rattle.js_direct.specs.declared.run.Ended.TheVariants as ended
use Rattle.js_direct.specs.declared.run.Run.{Run}
use Rattle.js_direct.specs.Comes.{Comes, ComesTo, FineCame, IsEnd, IsReady, came, ended_as}
use Rattle.js_direct.specs.Towards.{Passes, Towards}
use Rattle.js_direct.proofs.Reducing.{after_each, begins, counts, ends, starts, under}
use Rattle.js_direct.proofs.Loops.{continued, next_is}
use Rattle.js_direct.proofs.Parts.{gives, part_passes, part_then, part_waits}

-- ## Ends

pub is_end : (how : Ended) → (how ≡ ended.Left → ⊥) → IsEnd how
is_end ended.Normal h = tt
is_end ended.Is h = tt
is_end ended.Return h = tt
is_end ended.Break h = tt
is_end ended.Continue h = tt
is_end ended.Threw h = tt
is_end ended.Left h = h refl

module _ (w : ℕ) (cells : List PlainCell) (v : Value) (s : State) where
  -- a frame that waits for a value passes all else
  pub value_passes : (how : Ended) (k : meaning.Value → Plan) → (how ≡ ended.Is → ⊥) → (how ≡ ended.Left → ⊥) → on_value (completion_of w cells (ended_as how v)) s k ≡ Ret (completion_of w cells (ended_as how v)) s
  value_passes ended.Normal k h l = refl
  value_passes ended.Is k h l = absurd (h refl)
  value_passes ended.Return k h l = refl
  value_passes ended.Break k h l = refl
  value_passes ended.Continue k h l = refl
  value_passes ended.Threw k h l = refl
  value_passes ended.Left k h l = absurd (l refl)

  -- one that waits for a statement passes all else
  pub normal_passes : (how : Ended) (p : Plan) → (how ≡ ended.Normal → ⊥) → (how ≡ ended.Left → ⊥) → on_normal (completion_of w cells (ended_as how v)) s p ≡ Ret (completion_of w cells (ended_as how v)) s
  normal_passes ended.Normal p h l = absurd (h refl)
  normal_passes ended.Is p h l = refl
  normal_passes ended.Return p h l = refl
  normal_passes ended.Break p h l = refl
  normal_passes ended.Continue p h l = refl
  normal_passes ended.Threw p h l = refl
  normal_passes ended.Left p h l = absurd (l refl)

  -- one that waits for the body of a loop
  pub loop_passes : (how : Ended) (p : Plan) → (how ≡ ended.Normal → ⊥) → (how ≡ ended.Continue → ⊥) → (how ≡ ended.Break → ⊥) → (how ≡ ended.Left → ⊥) → loop_end (completion_of w cells (ended_as how v)) s p ≡ Ret (completion_of w cells (ended_as how v)) s
  loop_passes ended.Normal p h c b l = absurd (h refl)
  loop_passes ended.Is p h c b l = refl
  loop_passes ended.Return p h c b l = refl
  loop_passes ended.Break p h c b l = absurd (b refl)
  loop_passes ended.Continue p h c b l = absurd (c refl)
  loop_passes ended.Threw p h c b l = refl
  loop_passes ended.Left p h c b l = absurd (l refl)

module _ (fs : List Forest) (w : ℕ) where
  came_end : (cells : List PlainCell) (how : Ended) (o : Completion) (r : Run) (s : State) → IsEnd how → came fs w cells how o r s ≡ Ret (completion_of w cells o) s
  came_end cells ended.Left o r s h = absurd h
  came_end cells ended.Normal o r s h = refl
  came_end cells ended.Is o r s h = refl
  came_end cells ended.Return o r s h = refl
  came_end cells ended.Break o r s h = refl
  came_end cells ended.Continue o r s h = refl
  came_end cells ended.Threw o r s h = refl

  fine_end : (cells : List PlainCell) (how : Ended) (o : Completion) (r : Run) → IsEnd how → FineCame fs w cells how o r → FineCompletion w cells o × (r.waits.items ≡ [])
  fine_end cells ended.Normal o r h f = f
  fine_end cells ended.Is o r h f = f
  fine_end cells ended.Return o r h f = f
  fine_end cells ended.Break o r h f = f
  fine_end cells ended.Continue o r h f = f
  fine_end cells ended.Threw o r h f = f
  fine_end cells ended.Left o r h f = absurd h

  -- what ended is the widget's, and nothing waits
  pub end_fine : (s0 s1 : Cells) (n : ℕ) (p : State → Plan) (had mid : Run) (how : Ended) (o : Completion) → ComesTo fs w s0 s1 n p had mid how o → IsEnd how → FineCompletion w s1.cells o
  end_fine s0 s1 n p had mid how o one end = (fine_end s1.cells how o mid end one.fine).0

  pub end_ready : (s0 s1 : Cells) (n : ℕ) (p : State → Plan) (had mid : Run) (how : Ended) (o : Completion) → ComesTo fs w s0 s1 n p had mid how o → IsEnd how → IsReady fs w s0 had → Kept fs w s0 s1 → IsReady fs w s1 mid
  end_ready s0 s1 n p had mid how o one end h k = (h.0, k.confined h.1, (fine_end s1.cells how o mid end one.fine).1)

  -- with its end known
  pub as_is : (s0 s1 : Cells) (n : ℕ) (p : State → Plan) (had mid : Run) (how e : Ended) (v : Value) → how ≡ e → Comes fs w s0 s1 n p had mid how v → Comes fs w s0 s1 n p had mid e v
  as_is s0 s1 n p had mid how e v is h = subst (λ (x : Ended). Comes fs w s0 s1 n p had mid x v) is h

  -- a frame that waits for a value passes all else
  pub other_value : (s0 s1 : Cells) (n m : ℕ) (p : State → Plan) (f : Frame) (k : meaning.Value → State → Plan) (had mid : Run) (how : Ended) (v : Value) → Comes fs w s0 s1 n p had mid how v → (how ≡ ended.Is → ⊥) → (how ≡ ended.Left → ⊥)
      → Grows w s0.cells s1.cells → FineFrame fs w s0.cells f → ((o : meaning.Completion) (t : State) → taken fs w s1.cells f o t ≡ on_value o t (λ v. k v t)) → n ≤ m → Comes fs w s0 s1 m (λ s. and_then (p s) (taken fs w s0.cells f)) had mid how v
  other_value s0 s1 n m p f k had mid how v one not_is not_left g fine is le =
      part_passes fs w s0 s1 n m p f had mid how (ended_as how v) one (is_end how not_left) g fine (λ t. is (completion_of w s1.cells (ended_as how v)) t ∙ value_passes w s1.cells v t how (λ u. k u t) not_is not_left) le

  -- so does one that waits for a statement
  pub other_normal : (s0 s1 : Cells) (n m : ℕ) (p : State → Plan) (f : Frame) (k : State → Plan) (had mid : Run) (how : Ended) (v : Value) → Comes fs w s0 s1 n p had mid how v → (how ≡ ended.Normal → ⊥) → (how ≡ ended.Left → ⊥)
      → Grows w s0.cells s1.cells → FineFrame fs w s0.cells f → ((o : meaning.Completion) (t : State) → taken fs w s1.cells f o t ≡ on_normal o t (k t)) → n ≤ m → Comes fs w s0 s1 m (λ s. and_then (p s) (taken fs w s0.cells f)) had mid how v
  other_normal s0 s1 n m p f k had mid how v one not_normal not_left g fine is le =
      part_passes fs w s0 s1 n m p f had mid how (ended_as how v) one (is_end how not_left) g fine (λ t. is (completion_of w s1.cells (ended_as how v)) t ∙ normal_passes w s1.cells v t how (k t) not_normal not_left) le

  -- a plan by another name
  pub planned : (s0 s1 : Cells) (n : ℕ) (p q : State → Plan) (had has : Run) (how : Ended) (o : Completion) → ((s : State) → p s ≡ q s) → ComesTo fs w s0 s1 n q had has how o → ComesTo fs w s0 s1 n p had has how o
  planned s0 s1 n p q had has how o e h = record {
    units = h.units;
    reduces = λ r. starts (had.units - has.units) _ _ _ (e (image fs r w s0)) (h.reduces r);
    fine = h.fine;
    near = h.near;
  }

  -- no unit was paid
  pub stays : (s t : Cells) (p q : State → Plan) (had has : Run) → IsReady fs w t has → has ≡ had → ((r : Rest) → p (image fs r w s) ≡ q (image fs r w t)) → Towards fs w s t p q had has
  stays s t p q had has ready same plan = record {
    units = omega (arith, ap (λ x. x.units) same);
    reduces = λ r. counts 0 (had.units - has.units) _ _ (omega (arith, ap (λ x. x.units) same)) (plan r);
    ready = ready;
  }

  -- what is still to be done comes to this
  pub towards_then : (s0 s1 s2 : Cells) (n m : ℕ) (p q : State → Plan) (had mid has : Run) (how : Ended) (o : Completion)
      → Towards fs w s0 s1 p q had mid → ComesTo fs w s1 s2 n q mid has how o → n ≤ m → ComesTo fs w s0 s2 m p had has how o
  towards_then s0 s1 s2 n m p q had mid has how o one two le = record {
    units = omega (arith, one.units, two.units);
    reduces = λ r. counts ((had.units - mid.units) + (mid.units - has.units)) (had.units - has.units) _ _ (omega (arith, one.units, two.units))
        (after_each (had.units - mid.units) (mid.units - has.units) _ _ _ (one.reduces r) (two.reduces r));
    fine = two.fine;
    near = omega (arith, one.units, two.near, le);
  }

  -- and then this
  pub towards_each : (s0 s1 s2 : Cells) (p q t : State → Plan) (had mid has : Run) → Towards fs w s0 s1 p q had mid → Towards fs w s1 s2 q t mid has → Towards fs w s0 s2 p t had has
  towards_each s0 s1 s2 p q t had mid has one two = record {
    units = omega (arith, one.units, two.units);
    reduces = λ r. counts ((had.units - mid.units) + (mid.units - has.units)) (had.units - has.units) _ _ (omega (arith, one.units, two.units))
        (after_each (had.units - mid.units) (mid.units - has.units) _ _ _ (one.reduces r) (two.reduces r));
    ready = two.ready;
  }

  -- a part ended: what its frame does with that is still to be done
  pub part_done : (s0 s1 : Cells) (n : ℕ) (p q : State → Plan) (f : Frame) (had mid : Run) (how : Ended) (o : Completion)
      → ComesTo fs w s0 s1 n p had mid how o → IsEnd how → Grows w s0.cells s1.cells → FineFrame fs w s0.cells f → IsReady fs w s1 mid
      → ((r : Rest) → taken fs w s1.cells f (completion_of w s1.cells o) (image fs r w s1) ≡ q (image fs r w s1))
      → Towards fs w s0 s1 (λ s. and_then (p s) (taken fs w s0.cells f)) q had mid
  part_done s0 s1 n p q f had mid how o one end g fine ready plan = record {
    units = one.units;
    reduces = λ r. ends (had.units - mid.units) _ _ _ (under (had.units - mid.units) (p (image fs r w s0)) _ (taken fs w s0.cells f) (one.reduces r))
        (ap (λ q. and_then q (taken fs w s0.cells f)) (came_end s1.cells how o mid (image fs r w s1) end)
        ∙ ((λ i. sym (frame_same fs w s0.cells s1.cells g f fine) i (completion_of w s1.cells o) (image fs r w s1)) ∙ plan r));
    ready = ready;
  }

  -- a unit is paid
  pub unit_paid : (s : Cells) (j : Job) (p : State → Plan) (had has : Run) → IsReady fs w s has → has.units + 1 ≡ had.units → ((x : State) → and_then (body j x) Ret ≡ p x) → Towards fs w s s (λ x. Do j x Ret) p had has
  unit_paid s j p had has ready one plan = record {
    units = omega (arith, one);
    reduces = λ r. counts 1 (had.units - has.units) _ _ (omega (arith, one)) (ends 1 _ _ _ (begins j (image fs r w s) Ret) (plan (image fs r w s)));
    ready = ready;
  }

  -- as what puts the frame there answers
  pub waits_ok : {E : Type 0} (res : Result Ended E) (s0 s1 : Cells) (n m : ℕ) (p : State → Plan) (f : Frame) (had mid has : Run) (how : Ended) (o : Completion) (u : Value)
      → ComesTo fs w s0 s1 n p had mid how o → how ≡ ended.Left → Grows w s0.cells s1.cells → FineFrame fs w s0.cells f
      → IfOk res (λ h. h ≡ ended.Left) → IfOk res (λ h. has.waits.items ≡ mid.waits.items ++ f ∷ []) → IfOk res (λ h. has.next ≡ mid.next) → IfOk res (λ h. has.units ≡ mid.units) → n + frame_free f ≤ m
      → IfOk res (λ h. Comes fs w s0 s1 m (λ s. and_then (p s) (taken fs w s0.cells f)) had has h u)
  waits_ok (Ok h) s0 s1 n m p f had mid has how o u one is g fine left waits next units le = part_waits fs w s0 s1 n m p f had mid has how h o (ended_as h u) one is g fine units next waits left le
  waits_ok (Err e) s0 s1 n m p f had mid has how o u one is g fine left waits next units le = tt

  -- the same of a plan by another name
  pub part_next : (s0 s1 : Cells) (n : ℕ) (t p q : State → Plan) (f : Frame) (had mid : Run) (how : Ended) (o : Completion) → ((s : State) → t s ≡ and_then (p s) (taken fs w s0.cells f))
      → ComesTo fs w s0 s1 n p had mid how o → IsEnd how → Grows w s0.cells s1.cells → FineFrame fs w s0.cells f → IsReady fs w s1 mid
      → ((r : Rest) → taken fs w s1.cells f (completion_of w s1.cells o) (image fs r w s1) ≡ q (image fs r w s1))
      → Towards fs w s0 s1 t q had mid
  part_next s0 s1 n t p q f had mid how o e one end g fine ready plan =
      let h = part_done s0 s1 n p q f had mid how o one end g fine ready plan in
      record {
        units = h.units;
        reduces = λ r. starts (had.units - mid.units) _ _ _ (e (image fs r w s0)) (h.reduces r);
        ready = h.ready;
      }

  -- after what was done, a part is suspended
  pub waits_then : {E : Type 0} (res : Result Ended E) (s0 s1 s2 : Cells) (n m k : ℕ) (t q p : State → Plan) (f : Frame) (had mid was has : Run) (how : Ended) (o : Completion) (u : Value)
      → Towards fs w s0 s1 t q had mid → ((s : State) → q s ≡ and_then (p s) (taken fs w s1.cells f))
      → ComesTo fs w s1 s2 n p mid was how o → how ≡ ended.Left → Grows w s1.cells s2.cells → FineFrame fs w s1.cells f
      → IfOk res (λ h. h ≡ ended.Left) → IfOk res (λ h. has.waits.items ≡ was.waits.items ++ f ∷ []) → IfOk res (λ h. has.next ≡ was.next) → IfOk res (λ h. has.units ≡ was.units) → n + frame_free f ≤ m → m ≤ k
      → IfOk res (λ h. Comes fs w s0 s2 k t had has h u)
  waits_then (Ok h) s0 s1 s2 n m k t q p f had mid was has how o u done e one is g fine left waits next units le less =
      towards_then s0 s1 s2 m k t q had mid has h (ended_as h u) done (planned s1 s2 m q _ mid has h (ended_as h u) e (part_waits fs w s1 s2 n m p f mid was has how h o (ended_as h u) one is g fine units next waits left le)) less
  waits_then (Err e) s0 s1 s2 n m k t q p f had mid was has how o u done q_is one is g fine left waits next units le less = tt

  -- and then a pass, or what follows it
  pub passes_then : (e : Option Ended) (s0 s1 s2 : Cells) (n m : ℕ) (p q t : State → Plan) (had mid has : Run) (v : Value) → Towards fs w s0 s1 p q had mid → Passes fs w s1 s2 n q t mid has e v → n ≤ m → Passes fs w s0 s2 m p t had has e v
  passes_then None s0 s1 s2 n m p q t had mid has v one two le = towards_each s0 s1 s2 p q t had mid has one two
  passes_then (Some how) s0 s1 s2 n m p q t had mid has v one two le = towards_then s0 s1 s2 n m p q had mid has how (ended_as how v) one two le

  -- what a part ended with is given on
  pub part_gives : (s0 s1 : Cells) (n m : ℕ) (t p : State → Plan) (f : Frame) (had mid has : Run) (how next : Ended) (o a : Completion) → ((s : State) → t s ≡ and_then (p s) (taken fs w s0.cells f))
      → ComesTo fs w s0 s1 n p had mid how o → IsEnd how → Grows w s0.cells s1.cells → FineFrame fs w s0.cells f → IsEnd next → has ≡ mid
      → ((r : Rest) → taken fs w s1.cells f (completion_of w s1.cells o) (image fs r w s1) ≡ Ret (completion_of w s1.cells a) (image fs r w s1)) → FineCompletion w s1.cells a → 1 ≤ m
      → ComesTo fs w s0 s1 m t had has next a
  part_gives s0 s1 n m t p f had mid has how next o a e one end g fine ends same plan fine_a le =
      planned s0 s1 m t _ had has next a e
      (part_then fs w s0 s1 s1 n 1 m p f had mid has how next o a one end g fine
      (gives fs w s1 s1 1 (taken fs w s1.cells f (completion_of w s1.cells o)) mid has next a ends (ap (λ x. x.units) same)
      (ap (λ x. x.waits.items) same ∙ (fine_end s1.cells how o mid end one.fine).1) plan fine_a (omega arith)) le)

  -- the same after a unit that was paid, which weighs more
  pub towards_paid : (s0 s1 s2 : Cells) (n m : ℕ) (p q : State → Plan) (had mid has : Run) (how : Ended) (o : Completion)
      → Towards fs w s0 s1 p q had mid → ComesTo fs w s1 s2 n q mid has how o → mid.units + 1 ≤ had.units → n ≤ 31 + m → ComesTo fs w s0 s2 m p had has how o
  towards_paid s0 s1 s2 n m p q had mid has how o one two less le = record {
    units = omega (arith, one.units, two.units);
    reduces = λ r. counts ((had.units - mid.units) + (mid.units - has.units)) (had.units - has.units) _ _ (omega (arith, one.units, two.units))
        (after_each (had.units - mid.units) (mid.units - has.units) _ _ _ (one.reduces r) (two.reduces r));
    fine = two.fine;
    near = omega (arith, less, two.near, le);
  }

  pub passes_paid : (e : Option Ended) (s0 s1 s2 : Cells) (n m : ℕ) (p q t : State → Plan) (had mid has : Run) (v : Value) → Towards fs w s0 s1 p q had mid → Passes fs w s1 s2 n q t mid has e v → mid.units + 1 ≤ had.units → n ≤ 31 + m → Passes fs w s0 s2 m p t had has e v
  passes_paid None s0 s1 s2 n m p q t had mid has v one two less le = towards_each s0 s1 s2 p q t had mid has one two
  passes_paid (Some how) s0 s1 s2 n m p q t had mid has v one two less le = towards_paid s0 s1 s2 n m p q had mid has how (ended_as how v) one two less le

  pub passes_units : (e : Option Ended) (s0 s1 : Cells) (n : ℕ) (p t : State → Plan) (had has : Run) (v : Value) → Passes fs w s0 s1 n p t had has e v → has.units ≤ had.units
  passes_units None s0 s1 n p t had has v h = h.units
  passes_units (Some how) s0 s1 n p t had has v h = h.units

  -- the value of the test of a loop: another pass, or the end
  pub tested : (e : Option Ended) (s0 s1 : Cells) (p q : State → Plan) (id : StmtId) (place : Place) (had mid : Run) (v u : Value)
      → Comes fs w s0 s1 0 p had mid ended.Is v → Grows w s0.cells s1.cells → FineFrame fs w s0.cells (frame.Statement (statement.Test id place)) → IsReady fs w s1 mid
      → MatchOption e (meaning.is_true (seen w s1.cells v) ≡ true) (λ how. (how ≡ ended.Normal) × (meaning.is_true (seen w s1.cells v) ≡ false))
      → ((s : State) → q s ≡ Do (job_of fs w s1.cells (job.Pass id place)) s Ret)
      → Passes fs w s0 s1 1 (λ s. and_then (p s) (taken fs w s0.cells (frame.Statement (statement.Test id place)))) q had mid e u
  tested None s0 s1 p q id place had mid v u one g fine ready is_on again =
      part_done s0 s1 0 p q (frame.Statement (statement.Test id place)) had mid ended.Is (ended_as ended.Is v) one tt g fine ready
      (λ r. ap (λ (b : Bool). if b then Do (job_of fs w s1.cells (job.Pass id place)) (image fs r w s1) Ret else Ret meaning.Normal (image fs r w s1)) is_on ∙ sym (again (image fs r w s1)))
  tested (Some how) s0 s1 p q id place had mid v u one g fine ready is_off again = subst (λ (h : Ended). Comes fs w s0 s1 1 (λ s. and_then (p s) (taken fs w s0.cells (frame.Statement (statement.Test id place)))) had mid h u) (sym is_off.0)
      (part_gives s0 s1 0 1 _ p (frame.Statement (statement.Test id place)) had mid mid ended.Is ended.Normal (ended_as ended.Is v) (ended_as ended.Normal u) (λ s. refl) one tt g fine tt refl
      (λ r. ap (λ (b : Bool). if b then Do (job_of fs w s1.cells (job.Pass id place)) (image fs r w s1) Ret else Ret meaning.Normal (image fs r w s1)) is_off.1) tt (omega arith))

  -- after the body of a loop that goes on: the last part, and then the test
  pub round : (s0 s1 : Cells) (p : State → Plan) (id : StmtId) (place : Place) (had mid : Run) (how : Ended) (v : Value)
      → Comes fs w s0 s1 1 p had mid how v → (how ≡ ended.Normal) ⊎ (how ≡ ended.Continue) → IsReady fs w s0 had → Kept fs w s0 s1 → IsStmtAt fs w s0.cells id place
      → Towards fs w s0 s1 (λ s. and_then (p s) (taken fs w s0.cells (frame.Statement (statement.LoopNext id place))))
      (λ s. and_then (expressions (last_of (stmt_at (forest_at fs place.code) id)) (place_of w s1.cells place) s) (taken fs w s1.cells (frame.Statement (statement.ForAgain id place)))) had mid
  round s0 s1 p id place had mid how v comes (inl e) ready kept held =
      let one = as_is s0 s1 1 p had mid how ended.Normal v e comes in
      part_done s0 s1 1 p _ (frame.Statement (statement.LoopNext id place)) had mid ended.Normal (ended_as ended.Normal v) one tt kept.grows held (end_ready s0 s1 1 p had mid ended.Normal (ended_as ended.Normal v) one tt ready kept)
      (λ r. sym (next_is (stmt_at (forest_at fs place.code) id) (place_of w s1.cells place) (image fs r w s1)))
  round s0 s1 p id place had mid how v comes (inr e) ready kept held =
      let one = as_is s0 s1 1 p had mid how ended.Continue v e comes in
      part_done s0 s1 1 p _ (frame.Statement (statement.LoopNext id place)) had mid ended.Continue (ended_as ended.Continue v) one tt kept.grows held (end_ready s0 s1 1 p had mid ended.Continue (ended_as ended.Continue v) one tt ready kept)
      (λ r. sym (next_is (stmt_at (forest_at fs place.code) id) (place_of w s1.cells place) (image fs r w s1) ∙ continued (loop_of (stmt_at (forest_at fs place.code) id)) (place_of w s1.cells place) (image fs r w s1)))

  -- it weighs no more than this
  pub weigh : (s0 s1 : Cells) (n m : ℕ) (p : State → Plan) (had has : Run) (how : Ended) (o : Completion) → ComesTo fs w s0 s1 n p had has how o → n ≤ m → ComesTo fs w s0 s1 m p had has how o
  weigh s0 s1 n m p had has how o one le = record { units = one.units; reduces = one.reduces; fine = one.fine; near = omega (arith, one.near, le) }
