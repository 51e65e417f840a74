-- What waits goes on with how a call ended.
use Rattle.std.proofs.Common.{◌≡◌, ℕ, zero, suc, ◌+◌, ◌<◌, ◌≤◌, Bool, true, false, List, [], ◌∷◌, ◌++◌, length, refl, sym, ap, ◌∙◌, subst, arith, map, reverse, None}
use Rattle.std.specs.Prelude.{drop, get_or, slice_get, slice_index_or}
use Rattle.std.proofs.Math.Seq.{drop-cons}
use Rattle.std.proofs.lemmas.List.{reverse-append, length-map}
use Rattle.js_tree.specs.Forest.{Forest}
use Rattle.store_cells.specs.Cells.{Cells, PlainCell}
use Rattle.object_store.specs.Grows.{Grows}
use Rattle.widget_meaning.specs.Values.{Value, Is, Undefined, Own}
use Rattle.widget_meaning.specs.OwnState.{State}
use Rattle.widget_meaning.specs.Plan as plan
use Rattle.widget_meaning.specs.Plan.{Plan, Ret, Do, after, and_then}
use Rattle.widget_meaning.specs.BunchWrites.{fired}
use Rattle.widget_meaning.specs.Dispatch.{bubble_on, dispatch, dispatch_end, handlers, is_bubbled, with_dispatch, without_dispatch}
use Rattle.widget_meaning.proofs.Runs.{and_then_assoc}
use Rattle.page_tree.specs.declared.page.Page.{Page}
use Rattle.page_image.specs.Image.{number}
use Rattle.event_loop.specs.declared.around.Loop.{Loop}
use Rattle.js_image.specs.Image.{seen}
use Rattle.js_flow.specs.declared.job.Completion.{Completion as Ended}
use Rattle.js_flow.specs.declared.job.Completion.TheVariants as completion
use Rattle.js_flow.specs.Views.{completion_of}
use Rattle.native_image.specs.Image.{Outside, dispatches_of}
use Rattle.turn_dispatch.specs.declared.level.Firing.{Firing}
use Rattle.turn_dispatch.specs.declared.level.Hearing.{Hearing}
use Rattle.turn_dispatch.specs.declared.level.Level.{Level}
use Rattle.turn_dispatch.specs.Waiting.{FineLevel, FineLevels}
use Rattle.turn_dispatch.specs.declared.calls.Calls.{Calls}
use Rattle.turn_dispatch.specs.declared.calls.Took.{Took}
use Rattle.turn_dispatch.specs.Took.{FineTook, IsTaken, StaysSound, took_plan}
use Rattle.turn_dispatch.specs.Levels.{fires_on, functions_of, hearing_of, hears_on, level_taken, levels_rest}
use Rattle.turn_dispatch.specs.Turns.{turn_image}
use Rattle.turn_dispatch.specs.Weights.{GivesOn, is_value, level_free, level_weight, levels_free, took_free, weights}
use Rattle.turn_dispatch.proofs.Stays.{fine_push, levels_fine, levels_last, levels_same}

-- ## How a call ended

no_true : false ≡ true → ⊥
no_true e = cc

no_false : true ≡ false → ⊥
no_false e = cc

pub by_value : (w : ℕ) (cells : List PlainCell) (how : Ended) → is_value how ≡ true → (v : Value) × (completion_of w cells how ≡ Is v)
by_value w cells (completion.Is v) h = (seen w cells v, refl)
by_value w cells completion.Normal h = absurd (no_true h)
by_value w cells (completion.Refers r) h = absurd (no_true h)
by_value w cells (completion.Return v) h = absurd (no_true h)
by_value w cells completion.Break h = absurd (no_true h)
by_value w cells completion.Continue h = absurd (no_true h)
by_value w cells (completion.Throw v) h = absurd (no_true h)

pub no_value : (w : ℕ) (cells : List PlainCell) (how : Ended) → is_value how ≡ false → (k : Value → State → Plan) (s : State) → after k (completion_of w cells how) s ≡ Ret (completion_of w cells how) s
no_value w cells (completion.Is v) h k s = absurd (no_false h)
no_value w cells completion.Normal h k s = refl
no_value w cells (completion.Refers r) h k s = refl
no_value w cells (completion.Return v) h k s = refl
no_value w cells completion.Break h k s = refl
no_value w cells completion.Continue h k s = refl
no_value w cells (completion.Throw v) h k s = refl

no_value_ends : (w : ℕ) (cells : List PlainCell) (how : Ended) → is_value how ≡ false → (e : plan.Hearing) (s : State) → dispatch_end e (completion_of w cells how) s ≡ Ret (completion_of w cells how) (without_dispatch s)
no_value_ends w cells (completion.Is v) h e s = absurd (no_false h)
no_value_ends w cells completion.Normal h e s = refl
no_value_ends w cells (completion.Refers r) h e s = refl
no_value_ends w cells (completion.Return v) h e s = refl
no_value_ends w cells completion.Break h e s = refl
no_value_ends w cells completion.Continue h e s = refl
no_value_ends w cells (completion.Throw v) h e s = refl

-- ## Lists from a number on

next_of : (ns : List ℕ) (n : ℕ) → n < length ns → drop n ns ≡ get_or ns n 0 ∷ drop (n + 1) ns
next_of ns n lt = drop-cons ns n 0 lt ∙ ap (λ k. get_or ns n 0 ∷ drop k ns) (one n)
  where
    one : (k : ℕ) → suc k ≡ k + 1
    one k = omega arith

none_left : (ns : List ℕ) (n : ℕ) → length ns ≤ n → drop n ns ≡ []
none_left [] zero h = refl
none_left [] (suc n) h = refl
none_left (x ∷ ns) zero h = absurd (omega (arith, h))
none_left (x ∷ ns) (suc n) h = none_left ns n (omega (arith, h))

-- ## An event that is fired, and a dispatch

module _ (w : ℕ) (cells : List PlainCell) (p : Page) where
  pub fires_next : (f : Firing) (n : ℕ) (v : Value) (s : State) → n < length f.nodes.items
      → fires_on w cells p f n (Is v) s ≡ and_then (dispatch f.kind (number p w (get_or f.nodes.items n 0)) Undefined f.depth s) (fires_on w cells p f (n + 1))
  fires_next f n v s lt = ap (λ ns. fired f.kind (map (number p w) ns) (seen w cells f.last) f.depth s) (next_of f.nodes.items n lt)

  pub fires_end : (f : Firing) (n : ℕ) (v : Value) (s : State) → length f.nodes.items ≤ n → fires_on w cells p f n (Is v) s ≡ Ret (Is (seen w cells f.last)) s
  fires_end f n v s le = ap (λ ns. fired f.kind (map (number p w) ns) (seen w cells f.last) f.depth s) (none_left f.nodes.items n le)

  pub hears_next : (h : Hearing) (n : ℕ) (v : Value) (s : State) → n < length h.handlers.items
      → hears_on w cells p h n (Is v) s
      ≡ and_then (Do (plan.Call (Own (get_or (functions_of w cells p h) n 0)) None ((hearing_of w cells p h).event ∷ []) h.dispatch.depth) s Ret) (hears_on w cells p h (n + 1))
  hears_next h n v s lt =
      ap (λ fs. and_then (handlers fs (hearing_of w cells p h) s) (dispatch_end (hearing_of w cells p h)))
      (next_of (functions_of w cells p h) n (subst (λ (m : ℕ). n < m) (sym (length-map h.handlers.items _)) lt))

  pub hears_end : (h : Hearing) (n : ℕ) (v : Value) (s : State) → length h.handlers.items ≤ n
      → hears_on w cells p h n (Is v) s ≡ bubble_on (is_bubbled s) (hearing_of w cells p h) (without_dispatch s)
  hears_end h n v s le =
      ap (λ fs. and_then (handlers fs (hearing_of w cells p h) s) (dispatch_end (hearing_of w cells p h)))
      (none_left (functions_of w cells p h) n (subst (λ (m : ℕ). m ≤ n) (sym (length-map h.handlers.items _)) le))

  pub hears_other : (h : Hearing) (n : ℕ) (how : Ended) (s : State) → is_value how ≡ false
      → hears_on w cells p h n (completion_of w cells how) s ≡ Ret (completion_of w cells how) (without_dispatch s)
  hears_other h n how s e =
      ap (λ q. and_then q (dispatch_end (hearing_of w cells p h))) (no_value w cells how e (λ v t. handlers (drop n (functions_of w cells p h)) (hearing_of w cells p h) t) s)
      ∙ no_value_ends w cells how e (hearing_of w cells p h) s

-- ## What waits below

module _ (fs : List Forest) (w : ℕ) (old new : List PlainCell) (g : Grows w old new) (p : Page) (levels : List Level) (fine : FineLevels fs w old p levels) where
  below_same : levels_rest fs w new p levels ≡ levels_rest fs w old p levels
  below_same = levels_same w old new g p p (λ n h. refl) fs levels fine

  -- what is next, where nothing more waits than before
  pub goes_on : (before now : Plan) → before ≡ now → and_then before (levels_rest fs w old p levels) ≡ and_then now (levels_rest fs w new p levels)
  goes_on before now e = λ j. and_then (e j) (sym below_same j)

  -- what is next, where one thing more waits
  pub goes_back : (before now : Plan) (l : Level) → before ≡ and_then now (level_taken fs w new p l) → and_then before (levels_rest fs w old p levels) ≡ and_then now (levels_rest fs w new p (levels ++ l ∷ []))
  goes_back before now l e =
      goes_on before (and_then now (level_taken fs w new p l)) e
      ∙ (and_then_assoc now (level_taken fs w new p l) (levels_rest fs w new p levels)
      ∙ ap (and_then now) (sym (levels_last fs w new p levels l)))

-- ## Open dispatches

all_of : (bs : List Bool) → dispatches_of (slice_get bs 0) (drop 1 bs) ≡ bs
all_of [] = refl
all_of (b ∷ bs) = refl

module _ (fs : List Forest) (x : Outside) (w : ℕ) (s : Cells) (p : Page) (l : Loop) where
  -- the state by its open dispatches
  pub dispatches_are : (ds : List Bool) → (turn_image fs x w s p l ds).dispatches ≡ reverse ds
  dispatches_are ds = all_of (reverse ds)

  pub pushed : (ds : List Bool) → with_dispatch (turn_image fs x w s p l ds) ≡ turn_image fs x w s p l (ds ++ false ∷ [])
  pushed ds = λ j. record {
    own = (turn_image fs x w s p l ds).own;
    dispatches = (ap (λ bs. false ∷ bs) (dispatches_are ds) ∙ (sym (reverse-append ds (false ∷ [])) ∙ sym (dispatches_are (ds ++ false ∷ [])))) j;
  }

  pub popped : (ds more : List Bool) (b : Bool) → more ≡ ds ++ b ∷ [] → (without_dispatch (turn_image fs x w s p l more) ≡ turn_image fs x w s p l ds) × (is_bubbled (turn_image fs x w s p l more) ≡ b)
  popped ds more b e =
      let are : (turn_image fs x w s p l more).dispatches ≡ b ∷ reverse ds = dispatches_are more ∙ (ap reverse e ∙ reverse-append ds (b ∷ [])) in (
        λ j. record { own = (turn_image fs x w s p l more).own; dispatches = (ap (drop 1) are ∙ sym (dispatches_are ds)) j },
        ap (λ bs. slice_index_or bs 0 false) are,
      )

  pub popped_none : (more : List Bool) → more ≡ [] → (without_dispatch (turn_image fs x w s p l more) ≡ turn_image fs x w s p l more) × (is_bubbled (turn_image fs x w s p l more) ≡ false)
  popped_none more e =
      let are : (turn_image fs x w s p l more).dispatches ≡ [] = dispatches_are more ∙ ap reverse e in (
        λ j. record { own = (turn_image fs x w s p l more).own; dispatches = (ap (drop 1) are ∙ sym are) j },
        ap (λ bs. slice_index_or bs 0 false) are,
      )

-- ## Weights

pub free_last : (levels : List Level) (l : Level) → levels_free (levels ++ l ∷ []) ≡ level_free l + levels_free levels
free_last [] l = refl
free_last (x ∷ levels) l = omega (arith, free_last levels l)

pub weights_last : (levels : List Level) (l : Level) → weights (levels ++ l ∷ []) ≡ level_weight l + weights levels
weights_last [] l = refl
weights_last (x ∷ levels) l = omega (arith, weights_last levels l)

-- ## How a call ended is given to a level

module _ (w : ℕ) (p : Page) (l : Loop) (old new : Cells) (before after : Calls) (kept : StaysSound w p old new) where
  grown : Grows w old.cells new.cells
  grown = kept.kept.grows

  stay : (fs : List Forest) → FineLevels fs w old.cells p before.levels.items → FineLevels fs w new.cells p before.levels.items
  stay fs = levels_fine w old.cells new.cells grown p p (λ n h. refl) (λ n h. h) fs before.levels.items

  -- nothing more waits than before
  pub taken_on : (level : Level) (how : Ended) (t : Took) → after.levels.items ≡ before.levels.items
      → ((fs : List Forest) (x : Outside) → FineLevel fs w old.cells p level
      → level_taken fs w old.cells p level (completion_of w old.cells how) (turn_image fs x w old p l before.dispatches.items)
      ≡ took_plan fs w new.cells p t (turn_image fs x w new p l after.dispatches.items))
      → ((fs : List Forest) → FineLevel fs w old.cells p level → FineTook fs w new p t)
      → took_free t ≤ level_free level → 0 < level_weight level → IsTaken w p l old new before after level how t
  taken_on level how t same plan fine near some = record {
    plan = λ fs x lev levels.
        goes_on fs w old.cells new.cells grown p before.levels.items levels _ _ (plan fs x lev)
        ∙ ap (λ ls. and_then (took_plan fs w new.cells p t (turn_image fs x w new p l after.dispatches.items)) (levels_rest fs w new.cells p ls)) (sym same);
    fine = λ fs lev levels. (fine fs lev, subst (FineLevels fs w new.cells p) (sym same) (stay fs levels));
    near = omega (arith, near, ap levels_free same);
    lighter = λ _. omega (arith, some, ap weights same);
  }

  -- one thing more waits
  pub taken_back : (level next : Level) (how : Ended) (t : Took) → after.levels.items ≡ before.levels.items ++ next ∷ []
      → ((fs : List Forest) (x : Outside) → FineLevel fs w old.cells p level
      → level_taken fs w old.cells p level (completion_of w old.cells how) (turn_image fs x w old p l before.dispatches.items)
      ≡ and_then (took_plan fs w new.cells p t (turn_image fs x w new p l after.dispatches.items)) (level_taken fs w new.cells p next))
      → ((fs : List Forest) → FineLevel fs w old.cells p level → FineTook fs w new p t × FineLevel fs w new.cells p next)
      → took_free t + level_free next ≤ level_free level → (GivesOn t → level_weight next < level_weight level) → IsTaken w p l old new before after level how t
  taken_back level next how t more plan fine near some = record {
    plan = λ fs x lev levels.
        goes_back fs w old.cells new.cells grown p before.levels.items levels _ _ next (plan fs x lev)
        ∙ ap (λ ls. and_then (took_plan fs w new.cells p t (turn_image fs x w new p l after.dispatches.items)) (levels_rest fs w new.cells p ls)) (sym more);
    fine = λ fs lev levels.
        let f = fine fs lev in (f.0, subst (FineLevels fs w new.cells p) (sym more) (fine_push fs w new.cells p before.levels.items next (stay fs levels) f.1));
    near = omega (arith, near, ap levels_free more, free_last before.levels.items next);
    lighter = λ g. omega (arith, some g, ap weights more, weights_last before.levels.items next);
  }
