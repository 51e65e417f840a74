-- A turn that carries out a native has moved.
use Rattle.std.proofs.Common.{◌≡◌, ℕ, ◌-◌, List, Bool, true, false, sym, ap, ◌∙◌, subst, arith}
use Rattle.js_tree.specs.Forest.{Forest}
use Rattle.store_cells.specs.Cells.{Cells}
use Rattle.widget_meaning.specs.Values.{Completion}
use Rattle.widget_meaning.specs.OwnState.{State}
use Rattle.widget_meaning.specs.Plan.{Plan, and_then}
use Rattle.widget_meaning.specs.Meaning.{body, run_plan}
use Rattle.widget_meaning.specs.Compositional.{then_do}
use Rattle.widget_meaning.proofs.Runs.{and_then_assoc, run_and_then}
use Rattle.page_image.specs.Image.{number}
use Rattle.js_calls.specs.Called.{given}
use Rattle.js_flow.specs.declared.frame.Frame.{Frame}
use Rattle.js_flow.specs.declared.job.NativeCall.{NativeCall}
use Rattle.js_flow.specs.Fine.{FineFrames}
use Rattle.js_flow.specs.Frames.{native_plan, rest}
use Rattle.js_flow.specs.Todo.{Moves}
use Rattle.js_flow.proofs.Stays.{frames_fine, rest_same}
use Rattle.js_names.specs.Code.{trees_of}
use Rattle.plan_ends.specs.Ends.{ByValue}
use Rattle.turn_dispatch.specs.Task.{Task}
use Rattle.turn_dispatch.specs.Ending.{Awaits}
use Rattle.turn_dispatch.proofs.Ending.{awaits_later}
use Rattle.js_values.specs.Answers.{Goes, IsOutOfFuel, Lacks, out_of_fuel}
use Rattle.js_values.specs.Fuel.{Fuel}
use Rattle.js_values.specs.declared.outcome.NativeOut.{NativeOut}
use Rattle.js_values.specs.declared.outcome.NativeOut.TheVariants as native
use Rattle.native_image.specs.Image.{Outside}
use Rattle.native_image.specs.Sound.{KeepsAll}
use Rattle.std.specs.Global.{Box}
use Rattle.turn_dispatch.specs.declared.level.Doing.{Doing}
use Rattle.turn_dispatch.specs.declared.level.Doing.TheVariants as doing
use Rattle.turn_dispatch.specs.declared.level.Level.{Level}
use Rattle.turn_dispatch.specs.Held.{FineDoing}
use Rattle.turn_dispatch.specs.Levels.{levels_rest, turn_plan}
use Rattle.turn_dispatch.specs.declared.calls.Calls.{Calls}
use Rattle.native_image.specs.declared.handed.Shared.{Shared}
use Rattle.native_image.specs.declared.handed.Widget.{Widget}
use Rattle.turn_dispatch.specs.Waiting.{FineLevels}
use Rattle.turn_dispatch.specs.Weights.{levels_free}
use Rattle.turn_dispatch.proofs.Stays.{levels_fine, levels_same}
use Rattle.turn_steps.specs.Carrying.{IsAnswered, IsPerformed, is_wanting}
use Rattle.turn_steps.specs.Keeping.{Keeps}
use Rattle.turn_steps.specs.Steps.{IsMoved, doing_in}
use Rattle.turn_steps.specs.Turning.{forests, state_in}
use Rattle.turn_steps.proofs.Answering.{goes_moves, leaves_given}
use Rattle.turn_steps.proofs.Kept.{keeps_all, keeps_on}

false_true : false ≡ true → ⊥
false_true e = cc

true_false : true ≡ false → ⊥
true_false e = cc

-- want of fuel, by its test
pub wants : (o : NativeOut) → is_wanting o ≡ true → IsOutOfFuel o
wants native.OutOfFuel e = tt
wants (native.Value v) e = absurd (false_true e)
wants (native.Throw t) e = absurd (false_true e)
wants (native.Call p) e = absurd (false_true e)
wants (native.Stop c) e = absurd (false_true e)

pub wants_none : (o : NativeOut) → is_wanting o ≡ false → IsOutOfFuel o → ⊥
wants_none native.OutOfFuel e f = true_false e
wants_none (native.Value v) e f = f
wants_none (native.Throw t) e f = f
wants_none (native.Call p) e f = f
wants_none (native.Stop c) e f = f

-- a plan that took a charge, and two things that come after it
goes_on : (p q : Plan) (s : State) (c : ℕ) (r k : Completion → State → Plan) → Goes p s c q → Moves c s (and_then (and_then p r) k) (and_then (and_then q r) k)
goes_on p q s c r k h =
    subst (λ (a : Plan). Moves c s a (and_then (and_then q r) k)) (sym (and_then_assoc p r k))
    (subst (Moves c s (and_then p (λ o t. and_then (r o t) k))) (sym (and_then_assoc q r k)) (goes_moves p q s c (λ o t. and_then (r o t) k) h))

-- a plan with too little fuel, and two things that come after it
lacks_on : (p : Plan) (s : State) (g : ℕ) (r k : Completion → State → Plan) → Lacks p s g → run_plan g (and_then (and_then p r) k) ≡ out_of_fuel s g
lacks_on p s g r k h = run_and_then g (and_then p r) k ∙ ap (λ o. then_do o k) (run_and_then g p r ∙ ap (λ o. then_do o r) (h body))

module _ (old mid : Shared) (v u : Widget) (same : u.id.index ≡ v.id.index) (codes : mid.codes ≡ old.codes) (keeps : KeepsAll v.id.index old.store mid.store old.page mid.page u.around) where
  -- the trees are the same
  trees_same : forests mid ≡ forests old
  trees_same = ap (λ c. trees_of c.items) codes

  pub frames_mid : (below : List Frame) → FineFrames (forests old) v.id.index old.store.cells below → FineFrames (forests mid) u.id.index mid.store.cells below
  frames_mid below h =
      subst (λ n. FineFrames (forests mid) n mid.store.cells below) (sym same)
      (subst (λ fs. FineFrames fs v.id.index mid.store.cells below) (sym trees_same) (frames_fine (forests old) v.id.index old.store.cells mid.store.cells keeps.store.grows below h))

  pub awaits_mid : (below : List Frame) → FineFrames (forests old) v.id.index old.store.cells below → Awaits (forests old) v.id.index old.store.cells ByValue below → Awaits (forests mid) u.id.index mid.store.cells ByValue below
  awaits_mid below h a =
      subst (λ n. Awaits (forests mid) n mid.store.cells ByValue below) (sym same)
      (subst (λ fs. Awaits fs v.id.index mid.store.cells ByValue below) (sym trees_same) (awaits_later (forests old) v.id.index old.store.cells mid.store.cells keeps.store.grows ByValue below h a))

  pub levels_mid : (levels : List Level) → FineLevels (forests old) v.id.index old.store.cells old.page levels → FineLevels (forests mid) u.id.index mid.store.cells mid.page levels
  levels_mid levels h =
      subst (λ n. FineLevels (forests mid) n mid.store.cells mid.page levels) (sym same)
      (subst (λ fs. FineLevels fs v.id.index mid.store.cells mid.page levels) (sym trees_same)
      (levels_fine v.id.index old.store.cells mid.store.cells keeps.store.grows old.page mid.page (λ n o. keeps.page.numbers v.id.index n o) (λ n o. keeps.page.owners v.id.index n o) (forests old) levels h))

  -- what is kept, by the store's later calls too
  pub keeps_native : Keeps old mid v u
  keeps_native = record { turn = keeps_all (forests old) v.id.index old.store mid.store old.page mid.page u.around keeps; number = same; codes = codes }

  pub keeps_turn : (new : Shared) → Keeps mid new u u → Keeps old new v u
  keeps_turn new k = keeps_on old mid new v u u keeps_native k

  module _ (calls : Calls) (ds : List Bool) (had has : Fuel) (t : Box Task) (n : Box NativeCall) (o : NativeOut) (p : IsPerformed old mid v u calls.dispatches.items ds had has n.value o)
      (frames : FineFrames (forests old) v.id.index old.store.cells t.value.frames.list.items) (levels : FineLevels (forests old) v.id.index old.store.cells old.page calls.levels.items) where
    abbrev after_rest : Completion → State → Plan
    after_rest = rest (forests old) v.id.index old.store.cells t.value.frames.list.items

    abbrev below : Completion → State → Plan
    below = levels_rest (forests old) v.id.index old.store.cells old.page calls.levels.items

    -- what the native gave is what is still to do
    abbrev left_by : List Forest → ℕ → State → Plan
    left_by fs w s = and_then (and_then (given w mid.store.cells (number mid.page w) n.value.depth o s) (rest fs w mid.store.cells t.value.frames.list.items)) (levels_rest fs w mid.store.cells mid.page calls.levels.items)

    left_same : (s : State) → and_then (and_then (given v.id.index mid.store.cells (number mid.page v.id.index) n.value.depth o s) after_rest) below ≡ left_by (forests mid) u.id.index s
    left_same s =
        (λ j. and_then (and_then (given v.id.index mid.store.cells (number mid.page v.id.index) n.value.depth o s) (sym (rest_same (forests old) v.id.index old.store.cells mid.store.cells keeps.store.grows t.value.frames.list.items frames) j))
        (sym (levels_same v.id.index old.store.cells mid.store.cells keeps.store.grows old.page mid.page (λ m k. keeps.page.numbers v.id.index m k) (forests old) calls.levels.items levels) j))
        ∙ (λ j. left_by (sym trees_same j) (sym same j) s)

    -- it goes on
    pub answered_moves : (new : Shared) (before after : Calls) (d : Doing) → before.levels.items ≡ calls.levels.items → before.dispatches.items ≡ ds → is_wanting o ≡ false → IsAnswered mid new u before after t.value n.value.depth o d
        → IsMoved old new v u calls after had has (doing.Native t n) (record { doing = d; is_short = false })
    answered_moves new before after d ls bs paid a = record {
      moves = λ x.
          let r = (p.answer x n.value.depth).other (wants_none o paid) in
          let s = state_in x old v calls.dispatches.items in
          let q = leaves_given v.id.index mid.store.cells (number mid.page v.id.index) n.value.depth o (state_in x mid u ds) r.1 r.4 in
          let e : r.0 ≡ had.left - has.left = omega (arith, r.2) in
          subst (λ c. Moves c s (doing_in x old v calls (doing.Native t n)) (doing_in x new u after d)) e
          (subst (Moves r.0 s (doing_in x old v calls (doing.Native t n)))
          ((λ j. and_then (and_then (q j) after_rest) below) ∙ left_same (state_in x mid u ds)
          ∙ (λ j. and_then (and_then (given u.id.index mid.store.cells (number mid.page u.id.index) n.value.depth o (state_in x mid u (sym bs j))) (rest (forests mid) u.id.index mid.store.cells t.value.frames.list.items)) (levels_rest (forests mid) u.id.index mid.store.cells mid.page (sym ls j)))
          ∙ a.plan x)
          (goes_on (native_plan v.id.index old.store.cells n.value s) r.1 s r.0 after_rest below r.3));
      spends = p.spends;
      fine = a.fine;
      short = λ e. absurd (false_true e);
      nearer = λ e. omega (arith, p.spends, a.near, ap levels_free ls);
    }

    -- fuel is wanting, and all is as it was
    pub wanting_moves : (after : Calls) → after.levels.items ≡ calls.levels.items → after.dispatches.items ≡ ds → is_wanting o ≡ true → FineDoing (forests old) v.id.index old.store old.page (doing.Native t n)
        → IsMoved old mid v u calls after had has (doing.Native t n) (record { doing = doing.Native t n; is_short = true })
    wanting_moves after ls bs want fine = record {
      moves = λ x. record {
        within = λ g le. let e : g ≡ g - (had.left - has.left) = omega (arith, ap (λ (f : Fuel). f.left) none.0) in ap (λ m. run_plan m (doing_in x old v calls (doing.Native t n))) e ∙ ap (run_plan (g - (had.left - has.left))) (plans x);
        beyond = λ g lt. absurd (omega (arith, lt, ap (λ (f : Fuel). f.left) none.0));
      };
      spends = p.spends;
      fine = (doing_mid, subst (FineLevels (forests mid) u.id.index mid.store.cells mid.page) (sym ls) (levels_mid calls.levels.items levels));
      short = λ e. (ap (λ (f : Fuel). f.left) none.0, λ x. ap (run_plan had.left) (sym (plans x)) ∙ lacks_on (native_plan v.id.index old.store.cells n.value (state_in x old v calls.dispatches.items)) (state_in x old v calls.dispatches.items) had.left after_rest below ((p.answer x n.value.depth).fuel (wants o want)).0 ∙ ap (λ s. out_of_fuel s had.left) (states x));
      nearer = λ e. absurd (true_false e);
    }
      where
        none : (has ≡ had) × (mid.store ≡ old.store) × (mid.page ≡ old.page) × ((x : Outside) → state_in x mid u ds ≡ state_in x old v calls.dispatches.items)
        none = p.unpaid (wants o want)

        states : (x : Outside) → state_in x old v calls.dispatches.items ≡ state_in x mid u after.dispatches.items
        states x = sym (none.3 x) ∙ ap (state_in x mid u) (sym bs)

        plans : (x : Outside) → doing_in x old v calls (doing.Native t n) ≡ doing_in x mid u after (doing.Native t n)
        plans x = λ j. turn_plan (sym trees_same j) (sym same j) (sym none.1 j).cells (sym none.2 j) (doing.Native t n) (sym ls j) (states x j)

        doing_mid : FineDoing (forests mid) u.id.index mid.store mid.page (doing.Native t n)
        doing_mid =
            subst (λ fs. FineDoing fs u.id.index mid.store mid.page (doing.Native t n)) (sym trees_same)
            (subst (λ w. FineDoing (forests old) w mid.store mid.page (doing.Native t n)) (sym same)
            (subst (λ (c : Cells). FineDoing (forests old) v.id.index c mid.page (doing.Native t n)) (sym none.1)
            (subst (λ q. FineDoing (forests old) v.id.index old.store q (doing.Native t n)) (sym none.2) fine)))
