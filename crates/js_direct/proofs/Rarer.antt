-- `switch`, `try` and `for-in`: rows of the meaning by cases, and what comes after a part with no frame of its own.
use Rattle.std.proofs.Common.{◌≡◌, ◌⊎◌, inl, inr, ℕ, suc, ◌+◌, ◌-◌, ◌<◌, ◌≤◌, Bool, true, if◌then◌else◌, is_some, List, [], ◌∷◌, ◌++◌, drop, get_or, length, unwrap_or, refl, sym, ap, ◌∙◌, subst, arith}
use Rattle.std.proofs.Math.Seq.{drop-cons}
use Rattle.std.proofs.lemmas.Option.{slice_get_read}
use Rattle.std.specs.Prelude.{IfOk, Result, Ok, Err}
use Rattle.std.specs.Global.{Box}
use Rattle.std.specs.List.{IsDistinct}
use Rattle.std.specs.Str.{bytes_eq}
use Rattle.js_tree.specs.Forest.{Forest}
use Rattle.js_tree.specs.Plain.{Catch, CatchAs, NoCatch, Stmt}
use Rattle.store_cells.specs.Cells.{Cells, PlainCell}
use Rattle.store_cells.specs.declared.value.Value.{Value}
use Rattle.object_store.specs.Grows.{Grows}
use Rattle.widget_meaning.specs.Values as meaning
use Rattle.widget_meaning.specs.OwnState.{State}
use Rattle.widget_meaning.specs.Operators.{is_same}
use Rattle.widget_meaning.specs.Plan as plan
use Rattle.widget_meaning.specs.Plan.{Do, ForInLoop, Pass, Plan, Ret, and_then, charge, on_value}
use Rattle.widget_meaning.specs.Calls.{statements}
use Rattle.widget_meaning.specs.Properties.{property}
use Rattle.widget_meaning.specs.Statements.{Case, bodies, caught, choose_case, for_in, last_end, switch_end}
use Rattle.widget_meaning.proofs.PlansHold.{plan_laws}
use Rattle.js_image.specs.Image.{Rest, image}
use Rattle.js_image.specs.Held.{Kept}
use Rattle.js_flow.specs.declared.frame.ForInNames.{ForInNames}
use Rattle.js_flow.specs.declared.frame.Frame.{Frame}
use Rattle.js_flow.specs.declared.frame.Frame.TheVariants as frame
use Rattle.js_flow.specs.declared.frame.StatementFrame.TheVariants as statement
use Rattle.js_flow.specs.declared.job.Completion.{Completion}
use Rattle.js_flow.specs.declared.job.Place.{Place}
use Rattle.js_flow.specs.declared.job.Next.TheVariants as next
use Rattle.js_flow.specs.Fine.{FineCompletion, FineFrame, FineFrames, FineNames}
use Rattle.js_flow.specs.Frames.{next_plan, taken}
use Rattle.js_flow.specs.Free.{frame_free, frames_free}
use Rattle.js_flow.specs.Statements.{clause_tested}
use Rattle.js_flow.specs.Views.{completion_of, name_at}
use Rattle.js_direct.specs.declared.run.Ended.{Ended}
use Rattle.js_direct.specs.declared.run.Ended.TheVariants as ended
use Rattle.js_direct.specs.declared.run.Run.{Run}
use Rattle.js_direct.specs.Comes.{Comes, ComesTo, IsEnd, IsReady, ended_as, outward}
use Rattle.js_direct.specs.Hands.{WaitsToEnd}
use Rattle.js_direct.specs.Towards.{Towards}
use Rattle.js_direct.proofs.Reducing.{charged, counts, ends, starts, under}
use Rattle.js_direct.proofs.Parts.{before_it, came_end, gives, outward_none, part_waits, suspends}
use Rattle.js_direct.proofs.Sequels.{as_is, end_ready, part_next, planned, towards_then}

-- ## `switch`

-- the test of the clause at the head gave a value
pub clause_is : (v u : meaning.Value) (all l : List Case) (c : Case) (cs : List Case) (p : plan.Place) (s : State) → l ≡ c ∷ cs
    → clause_tested v all l p (meaning.Is u) s ≡ (if is_same v u then statements (bodies l) p s else choose_case v all cs p s)
clause_is v u all l c cs p s e =
    subst (λ (x : List Case). clause_tested v all x p (meaning.Is u) s ≡ (if is_same v u then statements (bodies x) p s else choose_case v all cs p s)) (sym e) refl

-- another end passes
pub clause_passes : (v : meaning.Value) (all l : List Case) (p : plan.Place) (o : meaning.Completion) (s : State)
    → clause_tested v all l p o s ≡ on_value o s (λ u. clause_tested v all l p (meaning.Is u) s)
clause_passes v all (c ∷ cs) p o s = refl
clause_passes v all [] p meaning.Normal s = refl
clause_passes v all [] p (meaning.Is u) s = refl
clause_passes v all [] p (meaning.Refers r) s = refl
clause_passes v all [] p (meaning.Return u) s = refl
clause_passes v all [] p meaning.Break s = refl
clause_passes v all [] p meaning.Continue s = refl
clause_passes v all [] p (meaning.Throw u) s = refl

-- a switch ends as its clauses do, but for a `break`
pub switch_passes : (w : ℕ) (cells : List PlainCell) (v : Value) (s : State) (how : Ended) → (how ≡ ended.Break → ⊥)
    → Ret (completion_of w cells (ended_as how v)) s ≡ switch_end (completion_of w cells (ended_as how v)) s
switch_passes w cells v s ended.Normal h = refl
switch_passes w cells v s ended.Is h = refl
switch_passes w cells v s ended.Return h = refl
switch_passes w cells v s ended.Break h = absurd (h refl)
switch_passes w cells v s ended.Continue h = refl
switch_passes w cells v s ended.Threw h = refl
switch_passes w cells v s ended.Left h = refl

-- ## `try`

-- a `catch` passes what is no throw
pub caught_passes : (c : Catch) (p : plan.Place) (w : ℕ) (cells : List PlainCell) (v : Value) (s : State) (how : Ended) → (how ≡ ended.Threw → ⊥)
    → caught c p (completion_of w cells (ended_as how v)) s ≡ Ret (completion_of w cells (ended_as how v)) s
caught_passes NoCatch p w cells v s how h = refl
caught_passes (CatchAs x b) p w cells v s ended.Normal h = refl
caught_passes (CatchAs x b) p w cells v s ended.Is h = refl
caught_passes (CatchAs x b) p w cells v s ended.Return h = refl
caught_passes (CatchAs x b) p w cells v s ended.Break h = refl
caught_passes (CatchAs x b) p w cells v s ended.Continue h = refl
caught_passes (CatchAs x b) p w cells v s ended.Threw h = absurd (h refl)
caught_passes (CatchAs x b) p w cells v s ended.Left h = refl

-- one name differs from all others
pub one_name : (x : List ℕ) → IsDistinct bytes_eq (x ∷ [])
unfolding IsDistinct
one_name x = (tt, tt)

pub waits_to_end : {E : Type 0} (res : Result Ended E) (had has : Run) (box : Box Completion) (e : Completion) → box.value ≡ e
    → IfOk res (λ h. h ≡ ended.Left) → IfOk res (λ h. has.waits.items ≡ had.waits.items ++ frame.Statement (statement.LastEnd box) ∷ []) → IfOk res (λ h. has.next ≡ had.next) → IfOk res (λ h. has.units ≡ had.units)
    → IfOk res (λ h. WaitsToEnd had has h e)
waits_to_end (Ok h) had has box e holds left waits next units = record { left = left; box = box; holds = holds; waits = waits; next = next; units = units }
waits_to_end (Err x) had has box e holds left waits next units = tt

-- ## `for-in`

-- a name that is found is the next pass
pub found : (v : meaning.Value) (x : List ℕ) (b : List Stmt) (p : plan.Place) (s : State) (ys : List (List ℕ)) (n : ℕ) (y : List ℕ) → n < length ys → y ≡ get_or ys n y
    → is_some (property s v y) ≡ true → for_in v x (drop n ys) b p s ≡ Do (Pass (ForInLoop v x (name_at ys n) (drop (suc n) ys) b) p) s Ret
found v x b p s ys n y lt e h =
    let cons = drop-cons ys n y lt ∙ ap (λ z. z ∷ drop (suc n) ys) (sym e) in
    let name : name_at ys n ≡ y = ap (λ o. unwrap_or o []) (slice_get_read ys (length ys) n y refl lt e) in
    ap (λ l. for_in v x l b p s) cons
    ∙ (ap (λ (t : Bool). if t then Do (Pass (ForInLoop v x y (drop (suc n) ys) b) p) s Ret else for_in v x (drop (suc n) ys) b p s) h
    ∙ ap (λ z. Do (Pass (ForInLoop v x z (drop (suc n) ys) b) p) s Ret) (sym name))

-- ## What comes after a part

module _ (fs : List Forest) (w : ℕ) where
  -- a part ended, and this comes after it
  pub then_next : (s0 s1 : Cells) (n : ℕ) (t p q : State → Plan) (k : meaning.Completion → State → Plan) (had mid : Run) (how : Ended) (o : Completion) → ((s : State) → t s ≡ and_then (p s) k)
      → ComesTo fs w s0 s1 n p had mid how o → IsEnd how → IsReady fs w s1 mid → ((r : Rest) → k (completion_of w s1.cells o) (image fs r w s1) ≡ q (image fs r w s1))
      → Towards fs w s0 s1 t q had mid
  then_next s0 s1 n t p q k had mid how o e one end ready over = record {
    units = one.units;
    reduces = λ r. starts (had.units - mid.units) _ _ _ (e (image fs r w s0)) (ends (had.units - mid.units) _ _ _ (under (had.units - mid.units) (p (image fs r w s0)) _ k (one.reduces r))
        (ap (λ x. and_then x k) (came_end fs w s1.cells how o mid (image fs r w s1) end) ∙ over r));
    ready = ready;
  }

  -- what is given then
  pub then_gives : (s0 s1 : Cells) (n m : ℕ) (t p : State → Plan) (k : meaning.Completion → State → Plan) (had mid : Run) (how next : Ended) (o a : Completion) → ((s : State) → t s ≡ and_then (p s) k)
      → ComesTo fs w s0 s1 n p had mid how o → IsEnd how → IsReady fs w s1 mid → IsEnd next → ((r : Rest) → k (completion_of w s1.cells o) (image fs r w s1) ≡ Ret (completion_of w s1.cells a) (image fs r w s1))
      → FineCompletion w s1.cells a → 1 ≤ m → ComesTo fs w s0 s1 m t had mid next a
  then_gives s0 s1 n m t p k had mid how next o a e one end ready last over fine le =
      towards_then fs w s0 s1 s1 1 m t (λ s. Ret (completion_of w s1.cells a) s) had mid mid next a (then_next s0 s1 n t p (λ s. Ret (completion_of w s1.cells a) s) k had mid how o e one end ready over)
      (gives fs w s1 s1 1 (λ s. Ret (completion_of w s1.cells a) s) mid mid next a last refl ready.2 (λ r. refl) fine (omega arith)) le

  -- an end waits for a `finally` that is suspended
  pub end_waits : {E : Type 0} (res : Result Ended E) (s0 s1 : Cells) (n m : ℕ) (t p : State → Plan) (e : Completion) (had mid has : Run) (how : Ended) (o : Completion) (u : Value) → ((s : State) → t s ≡ and_then (p s) (last_end (completion_of w s0.cells e)))
      → ComesTo fs w s0 s1 n p had mid how o → how ≡ ended.Left → Grows w s0.cells s1.cells → FineCompletion w s0.cells e → IfOk res (λ h. WaitsToEnd mid has h e) → n + 1 ≤ m
      → IfOk res (λ h. Comes fs w s0 s1 m t had has h u)
  end_waits (Ok h) s0 s1 n m t p e had mid has how o u same one is g fine wait le =
      planned fs w s0 s1 m t _ had has h (ended_as h u) (λ s. same s ∙ ap (λ x. and_then (p s) (last_end (completion_of w s0.cells x))) (sym wait.holds))
      (part_waits fs w s0 s1 n m p (frame.Statement (statement.LastEnd wait.box)) had mid has how h o (ended_as h u) one is g (subst (λ (x : Completion). FineCompletion w s0.cells x) (sym wait.holds) fine) wait.units wait.next wait.waits wait.left le)
  end_waits (Err x) s0 s1 n m t p e had mid has how o u same one is g fine wait le = tt

  -- a charge that is there is paid
  pub charge_paid : (s : Cells) (t q : State → Plan) (had mid : Run) (count : ℕ) → ((r : Rest) → t (image fs r w s) ≡ charge count (image fs r w s) (q (image fs r w s))) → 0 < count → mid.units + count ≡ had.units → IsReady fs w s mid
      → Towards fs w s s t q had mid
  charge_paid s t q had mid count first some one ready = record {
    units = omega (arith, one);
    reduces = λ r. counts count (had.units - mid.units) _ _ (omega (arith, one)) (starts count _ _ _ (first r) (charged count (image fs r w s) (q (image fs r w s)) some));
    ready = ready;
  }

  -- a charge, and then a frame
  charge_is : (s : Cells) (count : ℕ) (f : Frame) (frames : List Frame) → frames ≡ f ∷ [] → (x : State)
      → charge count x (taken fs w s.cells f meaning.Normal x) ≡ and_then (next_plan fs w s.cells (next.Pay count) x) (outward fs w s.cells frames)
  charge_is s count f frames one x =
      ap (charge count x) (outward_none fs w s.cells (taken fs w s.cells f meaning.Normal x))
      ∙ (sym (plan_laws.charge_first count x (Ret meaning.Normal x) (outward fs w s.cells (f ∷ [])))
      ∙ (λ i. and_then (next_plan fs w s.cells (next.Pay count) x) (outward fs w s.cells (sym one i))))

  -- one that is not there waits with what comes after it
  pub charge_waits : {E : Type 0} (res : Result Ended E) (s : Cells) (n count : ℕ) (t : State → Plan) (f : Frame) (had mid has : Run) (u : Value)
      → ((r : Rest) → t (image fs r w s) ≡ charge count (image fs r w s) (taken fs w s.cells f meaning.Normal (image fs r w s)))
      → mid.waits.items ≡ [] → mid.next ≡ next.Pay count → mid.units ≡ had.units → FineFrame fs w s.cells f → 2 + frame_free f ≤ n
      → IfOk res (λ h. h ≡ ended.Left) → IfOk res (λ h. has.waits.items ≡ mid.waits.items ++ f ∷ []) → IfOk res (λ h. has.next ≡ mid.next) → IfOk res (λ h. has.units ≡ mid.units)
      → IfOk res (λ h. Comes fs w s s n t had has h u)
  charge_waits (Ok h) s n count t f had mid has u first none pays same fine le left waits next_is units =
      let one : has.waits.items ≡ f ∷ [] = waits ∙ ap (λ l. l ++ f ∷ []) none in
      subst (λ (x : Ended). Comes fs w s s n t had has x u) (sym left)
      (before_it fs w s s n n t (λ x. charge count x (taken fs w s.cells f meaning.Normal x)) had has ended.Left (ended_as ended.Left u) first
      (suspends fs w s n (λ x. charge count x (taken fs w s.cells f meaning.Normal x)) had has (ended_as ended.Left u) (next.Pay count) (units ∙ same) (next_is ∙ pays) (charge_is s count f has.waits.items one) tt
      (subst (λ (l : List Frame). FineFrames fs w s.cells l) (sym one) (fine, tt)) (omega (arith, le, ap frames_free one))) (omega arith))
  charge_waits (Err e) s n count t f had mid has u first none pays same fine le left waits next_is units = tt

  -- after a body that goes on come the names that are left
  pub names_next : (s0 s1 : Cells) (t p : State → Plan) (box : Box ForInNames) (at : Place) (had mid : Run) (how : Ended) (v : Value) → ((s : State) → t s ≡ and_then (p s) (taken fs w s0.cells (frame.Statement (statement.ForInNext box at))))
      → Comes fs w s0 s1 1 p had mid how v → (how ≡ ended.Normal) ⊎ (how ≡ ended.Continue) → IsReady fs w s0 had → Kept fs w s0 s1 → FineNames fs w s0.cells box.value at
      → Towards fs w s0 s1 t (taken fs w s1.cells (frame.Statement (statement.ForInNext box at)) meaning.Normal) had mid
  names_next s0 s1 t p box at had mid how v body_is comes (inl e) ready kept fine =
      let one = as_is fs w s0 s1 1 p had mid how ended.Normal v e comes in
      part_next fs w s0 s1 1 t p _ (frame.Statement (statement.ForInNext box at)) had mid ended.Normal (ended_as ended.Normal v) body_is one tt kept.grows fine
      (end_ready fs w s0 s1 1 p had mid ended.Normal (ended_as ended.Normal v) one tt ready kept) (λ r. refl)
  names_next s0 s1 t p box at had mid how v body_is comes (inr e) ready kept fine =
      let one = as_is fs w s0 s1 1 p had mid how ended.Continue v e comes in
      part_next fs w s0 s1 1 t p _ (frame.Statement (statement.ForInNext box at)) had mid ended.Continue (ended_as ended.Continue v) body_is one tt kept.grows fine
      (end_ready fs w s0 s1 1 p had mid ended.Continue (ended_as ended.Continue v) one tt ready kept) (λ r. refl)
