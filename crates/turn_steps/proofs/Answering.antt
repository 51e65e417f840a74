-- What the answer of a native comes to.
use Rattle.std.proofs.Common.{◌≡◌, ℕ, ◌+◌, ◌-◌, ◌<◌, ◌≤◌, List, [], ◌∷◌, ◌++◌, Bool, true, false, refl, sym, ap, ◌∙◌, subst, map, arith}
use Rattle.std.specs.List.{AllByRecursion}
use Rattle.std.specs.Prelude.{nat_eq, ◌||◌}
use Rattle.std.proofs.lemmas.Bool.Decides.{nat_tests}
use Rattle.js_tree.specs.Forest.{Forest}
use Rattle.query_grammar.specs.Finds.{has_number}
use Rattle.store_cells.specs.Cells.{Cells, PlainCell}
use Rattle.store_cells.specs.declared.value.Value.TheVariants as value
use Rattle.widget_meaning.specs.Values.{Completion}
use Rattle.widget_meaning.specs.OwnState.{State}
use Rattle.widget_meaning.specs.Plan.{Plan, and_then}
use Rattle.widget_meaning.specs.BunchWrites.{fired}
use Rattle.widget_meaning.specs.Meaning.{body, run_plan}
use Rattle.widget_meaning.specs.Compositional.{then_do}
use Rattle.widget_meaning.proofs.Runs.{and_then_assoc, run_and_then}
use Rattle.page_tree.specs.declared.page.Page.{Page}
use Rattle.page_image.specs.Image.{number, owns}
use Rattle.js_calls.specs.Called.{given}
use Rattle.js_flow.specs.declared.job.Completion.TheVariants as completion
use Rattle.js_flow.specs.declared.task.Control.TheVariants as control
use Rattle.js_flow.specs.Frames.{rest}
use Rattle.js_flow.specs.Todo.{Moves, after_step}
use Rattle.js_flow.specs.Views.{completion_of}
use Rattle.js_image.specs.Image.{Rest, image as store_image, seen}
use Rattle.turn_dispatch.specs.Task.{Task}
use Rattle.js_values.specs.Answers.{Goes, Leaves}
use Rattle.js_values.proofs.Answered.{goes_then}
use Rattle.js_values.specs.declared.outcome.NativeOut.{NativeOut}
use Rattle.js_values.specs.declared.outcome.NativeOut.TheVariants as native
use Rattle.js_values.specs.declared.outcome.Plan.TheVariants as calls
use Rattle.turn_dispatch.specs.declared.level.Firing.{Firing}
use Rattle.turn_dispatch.specs.declared.level.Level.{Level}
use Rattle.turn_dispatch.specs.declared.level.Level.TheVariants as level
use Rattle.turn_dispatch.specs.Levels.{levels_rest, turn_plan}
use Rattle.turn_dispatch.specs.Weights.{level_free, levels_free, doing_free}
use Rattle.std.specs.Global.{Box}
use Rattle.object_store.specs.Grows.{Grows}
use Rattle.js_flow.specs.Fine.{FineFrames}
use Rattle.js_flow.specs.Free.{frames_free, free, native_free}
use Rattle.plan_ends.specs.Ends.{ByValue}
use Rattle.turn_dispatch.specs.Answered.{IsFineAfter, machine, remaining_after}
use Rattle.turn_dispatch.specs.Ending.{Awaits}
use Rattle.turn_dispatch.specs.Stepped.{Stepped}
use Rattle.native_image.specs.Image.{Outside, beside}
use Rattle.native_image.proofs.Joint.{rest as outside_rest, store_lift}
use Rattle.natives.specs.Reach.{with_notes}
use Rattle.turn_dispatch.specs.declared.level.Doing.{Doing}
use Rattle.turn_dispatch.specs.Held.{FineDoing}
use Rattle.turn_dispatch.specs.declared.calls.Calls.{Calls}
use Rattle.turn_dispatch.specs.Turns.{bubbled_of, outside_of, turn_image}
use Rattle.turn_dispatch.specs.Waiting.{FineFiring, FineLevels}
use Rattle.turn_dispatch.proofs.Stays.{fine_push, levels_fine, levels_last, levels_same}
use Rattle.native_image.specs.declared.handed.Shared.{Shared}
use Rattle.native_image.specs.declared.handed.Widget.{Widget}
use Rattle.turn_steps.specs.Carrying.{IsAnswered}
use Rattle.turn_steps.specs.Steps.{IsFollowed}
use Rattle.turn_steps.specs.Turning.{FineWidget, forests}

false_true : false ≡ true → ⊥
false_true e = cc

-- what is left of a native's plan is what it gave
pub leaves_given : (w : ℕ) (cells : List PlainCell) (node : ℕ → ℕ) (d : ℕ) (o : NativeOut) (t : State) (q : Plan) → Leaves (seen w cells) node d o t q → q ≡ given w cells node d o t
leaves_given w cells node d (native.Value v) t q h = h
leaves_given w cells node d (native.Throw e) t q h = h
leaves_given w cells node d (native.Call p) t q h = h
leaves_given w cells node d (native.Stop c) t q h = h
leaves_given w cells node d native.OutOfFuel t q h = absurd h

-- a plan that took a charge, and what comes after it
pub goes_moves : (p q : Plan) (s : State) (c : ℕ) (k : Completion → State → Plan) → Goes p s c q → Moves c s (and_then p k) (and_then q k)
goes_moves p q s c k h = record {
  within = λ g le. let e : c + (g - c) ≡ g = omega (arith, le) in ap (λ n. run_plan n (and_then p k)) (sym e) ∙ goes_then p q s c k h (g - c);
  beyond = λ g lt. run_and_then g p k ∙ ap (λ o. then_do o k) (h.short body g lt);
}

-- levels that are pushed
pub free_push : (below : List Level) (l : Level) → levels_free (below ++ l ∷ []) ≡ levels_free below + level_free l
free_push [] l = omega arith
free_push (x ∷ below) l = omega (arith, free_push below l)

-- the nodes are the widget's
self : (n : ℕ) → nat_eq n n ≡ true
self n = grind (arith, nat_tests)

or_left : (a b : Bool) → a ≡ true → (a || b) ≡ true
or_left true b e = refl
or_left false b e = absurd (false_true e)

or_right : (a b : Bool) → b ≡ true → (a || b) ≡ true
or_right true b e = refl
or_right false b e = e

pub nodes_own : (p : Page) (w : ℕ) (ns : List ℕ) → ((n : ℕ) → has_number ns n ≡ true → owns p w n ≡ true) → AllByRecursion (λ n. owns p w n ≡ true) ns
nodes_own p w [] h = tt
nodes_own p w (n ∷ ns) h = (h n (or_left (nat_eq n n) (has_number ns n) (self n)), nodes_own p w ns (λ m has. h m (or_right (nat_eq m n) (has_number ns m) has)))

-- handlers that are asked for wait above the task
pub fired_levels : (fs : List Forest) (w : ℕ) (cells : List PlainCell) (p : Page) (below : List Level) (t : Box Task) (f : Box Firing) (s : State)
    → levels_rest fs w cells p ((below ++ level.Waits t ∷ []) ++ level.Fires f 0 ∷ []) (completion_of w cells (completion.Is value.Undefined)) s
    ≡ and_then (and_then (given w cells (number p w) f.value.depth (native.Call (calls.Fire f.value.kind f.value.nodes f.value.last)) s) (rest fs w cells t.value.frames.list.items)) (levels_rest fs w cells p below)
fired_levels fs w cells p below t f s =
    let plan = fired f.value.kind (map (number p w) f.value.nodes.items) (seen w cells f.value.last) f.value.depth s in
    (λ j. levels_last fs w cells p (below ++ level.Waits t ∷ []) (level.Fires f 0) j (completion_of w cells (completion.Is value.Undefined)) s)
    ∙ ap (and_then plan) (levels_last fs w cells p below (level.Waits t))
    ∙ sym (and_then_assoc plan (rest fs w cells t.value.frames.list.items) (levels_rest fs w cells p below))

-- what waits then is the widget's
pub fired_fine : (fs : List Forest) (w : ℕ) (cells : List PlainCell) (p : Page) (below : List Level) (t : Box Task) (f : Box Firing) (firing : Firing) (vs : List Level) → f.value ≡ firing → vs ≡ (below ++ level.Waits t ∷ []) ++ level.Fires f 0 ∷ []
    → t.value.widget ≡ w → FineFrames fs w cells t.value.frames.list.items → Awaits fs w cells ByValue t.value.frames.list.items → FineFiring w cells p firing → FineLevels fs w cells p below → FineLevels fs w cells p vs
fired_fine fs w cells p below t f firing vs is e same frames awaits fine levels =
    subst (FineLevels fs w cells p) (sym e)
    (fine_push fs w cells p (below ++ level.Waits t ∷ []) (level.Fires f 0) (fine_push fs w cells p below (level.Waits t) levels (same, frames, awaits)) (subst (FineFiring w cells p) (sym is) fine))

-- ## What the answer comes to

module _ (old : Shared) (v : Widget) (lt : v.id.index < 32) (fine : FineWidget old v) (before after : Calls) (levels : FineLevels (forests old) v.id.index old.store.cells old.page before.levels.items) where
  -- the shared things with another store
  abbrev pub over_store : Cells → Shared
  over_store s = record old { store = s }

  -- handlers are asked for
  pub fire_answered : (end : Cells) (t : Box Task) (f : Box Firing) (firing : Firing) (vs : List Level) (d : Doing) → f.value ≡ firing → vs ≡ (before.levels.items ++ level.Waits t ∷ []) ++ level.Fires f 0 ∷ []
      → FineLevels (forests old) v.id.index old.store.cells old.page vs
      → ((fs : List Forest) (x : Outside) → FineLevels fs v.id.index old.store.cells old.page vs
      → levels_rest fs v.id.index old.store.cells old.page vs (completion_of v.id.index old.store.cells (completion.Is value.Undefined)) (turn_image fs x v.id.index old.store old.page v.around before.dispatches.items)
      ≡ turn_plan fs v.id.index end.cells old.page d after.levels.items (turn_image fs x v.id.index end old.page v.around after.dispatches.items))
      → ((fs : List Forest) → FineLevels fs v.id.index old.store.cells old.page vs → FineDoing fs v.id.index end old.page d × FineLevels fs v.id.index end.cells old.page after.levels.items)
      → doing_free d + levels_free after.levels.items ≤ levels_free vs + 1
      → IsAnswered old (over_store end) v before after t.value firing.depth (native.Call (calls.Fire firing.kind firing.nodes firing.last)) d
  fire_answered end t f firing vs d is e held plan holds near = record {
    plan = λ x.
        let F = forests old in
        let y = with_notes v.log.items v.posts.items x in
        let s = turn_image F y v.id.index old.store old.page v.around before.dispatches.items in
        let o = completion_of v.id.index old.store.cells (completion.Is value.Undefined) in
        (λ j. and_then (and_then (given v.id.index old.store.cells (number old.page v.id.index) (sym is j).depth (native.Call (calls.Fire (sym is j).kind (sym is j).nodes (sym is j).last)) s) (rest F v.id.index old.store.cells t.value.frames.list.items)) (levels_rest F v.id.index old.store.cells old.page before.levels.items))
        ∙ sym (fired_levels F v.id.index old.store.cells old.page before.levels.items t f s)
        ∙ (λ j. levels_rest F v.id.index old.store.cells old.page (sym e j) o s)
        ∙ plan F y held;
    fine = holds (forests old) held;
    near = omega (arith, near, ap levels_free e, free_push (before.levels.items ++ level.Waits t ∷ []) (level.Fires f 0), free_push before.levels.items (level.Waits t));
  }

  -- the task goes on
  pub resume_answered : (mid end : Cells) (t u : Task) (depth : ℕ) (o : NativeOut) (k : Stepped) (d : Doing) → Grows v.id.index old.store.cells mid.cells
      → ((r : Rest) → remaining_after (forests old) v.id.index mid u k r ≡ and_then (given v.id.index old.store.cells (number old.page v.id.index) depth o (store_image (forests old) r v.id.index old.store)) (rest (forests old) v.id.index old.store.cells t.frames.list.items))
      → free u.control u.frames.list.items < native_free + frames_free t.frames.list.items → u.widget ≡ v.id.index → IsFineAfter (forests old) v.id.index mid u k
      → IsFollowed v.id.index old.page v.around mid end before after u k d
      → IsAnswered old (over_store end) v before after t depth o d
  resume_answered mid end t u depth o k d grows plan near same held f = record {
    plan = λ x.
        let F = forests old in
        let y = with_notes v.log.items v.posts.items x in
        let ds = before.dispatches.items in
        let below = levels_rest F v.id.index old.store.cells old.page before.levels.items in
        ap (λ q. and_then q below) (sym (plan (outside_rest v.id.index lt (outside_of y ds) (beside old.store old.page v.around (bubbled_of ds)))))
        ∙ (λ j. and_then (after_step F v.id.index mid.cells (machine k) u.control u.frames.list.items (store_lift v.id.index old.store mid old.page v.around fine.sound.holds grows lt F (outside_of y ds) (bubbled_of ds) j))
        (sym (levels_same v.id.index old.store.cells mid.cells grows old.page old.page (λ n h. refl) F before.levels.items levels) j))
        ∙ f.plan F y there;
    fine = f.fine (forests old) same held there;
    near = omega (arith, near, f.near);
  }
    where
      there : FineLevels (forests old) v.id.index mid.cells old.page before.levels.items
      there = levels_fine v.id.index old.store.cells mid.cells grows old.page old.page (λ n h. refl) (λ n h. h) (forests old) before.levels.items levels

-- ## A task that waits

pub waits : (a b c t : Task) (depth : ℕ) → a ≡ b → b ≡ record c { control = control.Waits depth } → c ≡ t → a ≡ record t { control = control.Waits depth }
waits a b c t depth e f g = e ∙ f ∙ ap (λ (x : Task). record x { control = control.Waits depth }) g

-- what resumes it, by the task as it was
pub plan_told : (fs : List Forest) (s mid : Cells) (a t u : Task) (depth w : ℕ) (o : NativeOut) (k : Stepped) → a ≡ record t { control = control.Waits depth } → t.widget ≡ w
    → ((r : Rest) (node : ℕ → ℕ) (d : ℕ) → a.control ≡ control.Waits d → remaining_after fs a.widget mid u k r ≡ and_then (given a.widget s.cells node d o (store_image fs r a.widget s)) (rest fs a.widget s.cells a.frames.list.items))
    → (r : Rest) (node : ℕ → ℕ) → remaining_after fs w mid u k r ≡ and_then (given w s.cells node depth o (store_image fs r w s)) (rest fs w s.cells t.frames.list.items)
plan_told fs s mid a t u depth w o k e same h r node =
    subst (λ n. remaining_after fs n mid u k r ≡ and_then (given n s.cells node depth o (store_image fs r n s)) (rest fs n s.cells t.frames.list.items)) same
    (subst (λ (x : Task). (y : Rest) (f : ℕ → ℕ) (d : ℕ) → x.control ≡ control.Waits d → remaining_after fs x.widget mid u k y ≡ and_then (given x.widget s.cells f d o (store_image fs y x.widget s)) (rest fs x.widget s.cells x.frames.list.items)) e h r node depth refl)
