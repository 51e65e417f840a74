-- What is left of an advance, as it is taken: a timer that is due, or none.
use Rattle.std.proofs.Common.{◌≡◌, ℕ, suc, ◌<◌, ◌+◌, ◌-◌, Bool, true, false, List, [], ◌∷◌, refl, sym, ap, ◌∙◌, subst, Option, Some, None, map, arith, cond}
use Rattle.std.specs.Prelude.{IfSome, ◌^◌, nat_eq, nat_le}
use Rattle.std.specs.List.{AllByRecursion}
use Rattle.std.specs.Option.{option_map}
use Rattle.js_tree.specs.Forest.{Forest}
use Rattle.store_cells.specs.declared.value.Value.TheVariants as value
use Rattle.store_cells.specs.Cells.{Cells, own_count}
use Rattle.widget_meaning.specs.Items as items
use Rattle.widget_meaning.specs.Items.{timer_plan, without_timer}
use Rattle.widget_meaning.specs.OwnState.{OwnState}
use Rattle.widget_meaning.specs.Plan as plan
use Rattle.widget_meaning.specs.Plan.{Do, Ret}
use Rattle.widget_meaning.specs.Turns.{begun}
use Rattle.widget_meaning.specs.Values.{Stop}
use Rattle.page_image.specs.Held.{OptionIn}
use Rattle.page_image.specs.Image.{owns}
use Rattle.event_loop.specs.Around as around
use Rattle.event_loop.specs.declared.around.Loop.{Loop}
use Rattle.event_loop.specs.declared.timers.Timer.{Timer}
use Rattle.event_loop.specs.Kept.{PlainKept}
use Rattle.event_loop.specs.Timers as timers
use Rattle.page_image.specs.Around.{Shows, after_due, timer_of}
use Rattle.page_image.proofs.States.{due_image, due_shows}
use Rattle.js_image.specs.Image.{Rest, image as store_image, seen}
use Rattle.native_image.specs.Image.{beside}
use Rattle.native_image.specs.Sound.{HoldsOwn, IsOwnCell, IsSound}
use Rattle.native_image.proofs.Joint.{image_shows, rest, shown_is}
use Rattle.native_image.proofs.Keeping.{host_here, page_same}
use Rattle.life_laws.specs.Life as todo
use Rattle.life_laws.specs.Life.{Same, potentials, started, waiting}
use Rattle.life_laws.proofs.Begins.{until_begins, until_none, until_stopped}
use Rattle.turn_dispatch.specs.Answered.{remaining}
use Rattle.turn_dispatch.specs.Task.{Task}
use Rattle.turn_dispatch.proofs.Stays.{own_seen}
use Rattle.life_queue.specs.declared.life.Life.{Life}
use Rattle.life_queue.specs.declared.life.Work.TheVariants as work
use Rattle.native_image.specs.declared.handed.Widget.{Widget}
use Rattle.native_image.specs.declared.handed.Shared.{Shared}
use Rattle.life_queue.specs.Lives.{life_with, meant_stop, outside, own_of, trees_in, work_of, works_of}
use Rattle.life_queue.specs.Fine.{FineLife, FineWork, KeepsLife, tally}
use Rattle.life_queue.proofs.Keeps.{cells_same}
use Rattle.life_queue.proofs.Passing.{Rested, counted}

module _ (P : Timer → Type 0) where
  sooner_all : (x y : Option Timer) → IfSome x P → IfSome y P → IfSome (timers.sooner x y) P
  sooner_all None y h k = k
  sooner_all (Some t) None h k = h
  sooner_all (Some t) (Some u) h k = by (nat_le t.at u.at)
    where
      by : (b : Bool) → IfSome (cond b (Some t) (Some u)) P
      by true = h
      by false = k

  next_all : (limit : ℕ) (ts : List Timer) → AllByRecursion P ts → IfSome (timers.next_due limit ts) P
  next_all limit [] h = tt
  next_all limit (t ∷ ts) h = sooner_all (cond (nat_le t.at limit) (Some t) None) (timers.next_due limit ts) (by (nat_le t.at limit)) (next_all limit ts h.1)
    where
      by : (b : Bool) → IfSome (cond b (Some t) None) P
      by true = h.0
      by false = tt

  without_all : (d : ℕ) (ts : List Timer) → AllByRecursion P ts → AllByRecursion P (timers.without_due d ts)
  without_all d [] h = tt
  without_all d (t ∷ ts) h = by (nat_eq t.at d) (without_all d ts h.1)
    where
      by : (b : Bool) → AllByRecursion P (timers.without_due d ts) → AllByRecursion P (cond b ts (t ∷ timers.without_due d ts))
      by true g = h.1
      by false g = (h.0, g)

  left_all : (r : Option Timer) (ts : List Timer) → AllByRecursion P ts → AllByRecursion P (around.left_waiting r ts)
  left_all None ts h = h
  left_all (Some t) ts h = without_all t.at ts h

module _ (h : Shared) (w : ℕ) (a : Life) (sound : IsSound w h.store h.page a.widget.around) (l : Loop) (limit : ℕ) (r : Option Timer)
    (is : r ≡ timers.next_due limit (around.timers a.widget.around)) (left : around.timers l ≡ around.left_waiting r (around.timers a.widget.around))
    (time : around.clock l ≡ around.clock_after r limit) (same : around.SameKept a.widget.around l) (focus : around.focus l ≡ around.focus a.widget.around) where
  abbrev g : ℕ → ℕ
  g = own_count w h.store.cells

  abbrev o : OwnState
  o = own_of h w a

  -- the life with the loop as it is then
  abbrev pub timed : Life
  timed = record a { widget = record a.widget { around = l } }

  before : Shows h.page w g a.widget.around o
  before = image_shows w (trees_in h) (outside a) h.store h.page a.widget.around None sound.holds

  next : option_map (timer_of g) r ≡ items.next_due limit o.timers
  next = due_image h.page w g a.widget.around o limit r is before

  shows : Shows h.page w g l (after_due (items.next_due limit o.timers) limit o)
  shows = due_shows h.page w g a.widget.around l o limit r is left time same focus before

  none_next : r ≡ None → items.next_due limit o.timers ≡ None
  none_next e = sym next ∙ ap (option_map (timer_of g)) e

  none_own : r ≡ None → own_of h w timed ≡ record o { clock = limit }
  none_own e = shown_is h.page w g l (record o { clock = limit }) (subst (λ u. Shows h.page w g l (after_due u limit o)) (none_next e) shows)

  some_next : (t : Timer) → r ≡ Some t → items.next_due limit o.timers ≡ Some (timer_of g t)
  some_next t e = sym next ∙ ap (option_map (timer_of g)) e

  some_own : (t : Timer) → r ≡ Some t → own_of h w timed ≡ without_timer (timer_of g t) o
  some_own t e = shown_is h.page w g l (without_timer (timer_of g t) o) (subst (λ u. Shows h.page w g l (after_due u limit o)) (some_next t e) shows)

  -- the function of a timer that is due is the widget's
  pub due_own : (t : Timer) → r ≡ Some t → IsOwnCell w h.store.cells t.func
  due_own t e = subst (λ (u : Option Timer). IfSome u (λ (x : Timer). IsOwnCell w h.store.cells x.func)) (sym is ∙ e) (next_all (λ (x : Timer). IsOwnCell w h.store.cells x.func) limit (around.timers a.widget.around) sound.holds.timers)

  -- the widget stays sound
  pub timed_sound : IsSound w h.store h.page l
  timed_sound = record {
    holds = record {
      home = sound.holds.home;
      bunches = sound.holds.bunches;
      handlers = λ n. subst (λ (k : PlainKept). AllByRecursion (λ f. IsOwnCell w h.store.cells f.1) k.handlers) (sym (same n)) (sound.holds.handlers n);
      timers = subst (AllByRecursion (λ (x : Timer). IsOwnCell w h.store.cells x.func)) (sym left) (left_all (λ (x : Timer). IsOwnCell w h.store.cells x.func) r (around.timers a.widget.around) sound.holds.timers);
      focus = subst (OptionIn (owns h.page w)) (sym focus) sound.holds.focus;
      elsewhere = λ n e. same n ∙ sound.holds.elsewhere n e;
    };
    raws = sound.raws;
  }

  -- the life stays sound
  pub timed_fine : a.turn ≡ None → FineLife h w a → FineLife h w timed
  timed_fine e fine = record {
    number = fine.number;
    confined = fine.confined;
    sound = timed_sound;
    lib = record { held = fine.lib.held; first = fine.lib.first };
    works = fine.works;
    turn = fine.turn;
    counts = record { grant = fine.counts.grant; spent = fine.counts.spent; room = fine.counts.room };
  }

  -- and so it does with the queue of q, which has what is left of the advance in front
  pub timed_rested : a.turn ≡ None → FineLife h w a → (n : ℕ) (q : Life) → q.queue.items ≡ work.Until n limit ∷ a.queue.items
      → tally h w a + (n + 1) < 2 ^ 32 → (let b : Life = record timed { queue = q.queue } in Rested h w b h.store h.page × (tally h w b ≡ tally h w a + (n + 1)))
  timed_rested e fine n q are room =
      let works : map (work_of (trees_in h)) q.queue.items ≡ todo.Until n limit ∷ works_of h w a = ap (map (work_of (trees_in h))) are in
      let more : potentials (map (work_of (trees_in h)) q.queue.items) ≡ (n + 1) + potentials (works_of h w a) = ap potentials works in (
        record {
          number = fine.number;
          rest = e;
          confined = fine.confined;
          sound = timed_sound;
          lib = record { held = fine.lib.held; first = fine.lib.first };
          works = subst (AllByRecursion (FineWork (trees_in h))) (sym are) (tt, fine.works);
          counts = record { grant = fine.counts.grant; spent = fine.counts.spent; room = omega (arith, more, room) };
        },
        omega (arith, more),
      )

  -- what is kept
  pub timed_keeps : (b : Life) → b.widget ≡ timed.widget → b.slot ≡ a.slot → b.accepted ≡ a.accepted → KeepsLife w h h a b
  timed_keeps b widget slot accepted = record {
    codes = refl;
    cells = cells_same (trees_in h) w h.store;
    page = page_same w h.page;
    host = host_here h.page;
    holds = subst (λ (v : Widget). HoldsOwn w h.store h.page v.around) (sym widget) timed_sound.holds;
    number = ap (λ (v : Widget). v.id.index) widget;
    slot = slot;
    accepted = accepted;
  }

  -- none is due: the clock is the limit
  pub until_passes : (turns : ℕ) → (turns ≡ 0 → ⊥) → o.stop ≡ None → r ≡ None
      → Same (life_with h w (work.Until turns limit) a) (waiting (own_of h w timed) (works_of h w timed))
  until_passes turns some live e =
      let more : suc (turns - 1) ≡ turns = omega (arith, some) in
      subst (λ (n : ℕ). Same (waiting o (todo.Until n limit ∷ works_of h w a)) (waiting (own_of h w timed) (works_of h w a))) more
      (until_none o (own_of h w timed) (turns - 1) limit (works_of h w a) live (none_next e) (none_own e))

  -- one is due: its turn begins, and what is left of the advance waits behind it
  pub until_starts : (turns : ℕ) → (turns ≡ 0 → ⊥) → o.stop ≡ None → (t : Timer) → r ≡ Some t → (b : Life) → own_of h w b ≡ own_of h w timed
      → works_of h w b ≡ todo.Until (turns - 1) limit ∷ works_of h w a
      → Same (life_with h w (work.Until turns limit) a) (started (timer_plan (timer_of g t)) (own_of h w b) (works_of h w b))
  until_starts turns some live t e b own works =
      let more : suc (turns - 1) ≡ turns = omega (arith, some) in
      let law : Same (waiting o (todo.Until turns limit ∷ works_of h w a)) (started (timer_plan (timer_of g t)) (without_timer (timer_of g t) o) (todo.Until (turns - 1) limit ∷ works_of h w a)) =
      subst (λ (n : ℕ). Same (waiting o (todo.Until n limit ∷ works_of h w a)) (started (timer_plan (timer_of g t)) (without_timer (timer_of g t) o) (todo.Until (turns - 1) limit ∷ works_of h w a))) more
      (until_begins o (turns - 1) limit (timer_of g t) (works_of h w a) live (some_next t e)) in
      subst (λ is. Same (waiting o (todo.Until turns limit ∷ works_of h w a)) (started (timer_plan (timer_of g t)) (own_of h w b) is)) (sym works)
      (subst (λ (x : OwnState). Same (waiting o (todo.Until turns limit ∷ works_of h w a)) (started (timer_plan (timer_of g t)) x (todo.Until (turns - 1) limit ∷ works_of h w a))) (sym (own ∙ some_own t e)) law)

-- the turn of a timer, where its call has begun
pub timer_so : (h : Shared) (w : ℕ) (lt : w < 32) (b : Life) (t : Timer) → IsOwnCell w h.store.cells t.func → (task : Task)
    → ((fs : List Forest) (s : Cells) (r : Rest) → remaining fs w s task r ≡ Do (plan.Call (seen w s.cells (value.Ref t.func)) None [] 0) (store_image fs r w s) Ret)
    → timer_plan (timer_of (own_count w h.store.cells) t) (begun (own_of h w b)) ≡ remaining (trees_in h) w h.store task (rest w lt (counted h w b h.store h.page) (beside h.store h.page b.widget.around None))
timer_so h w lt b t own task call = ap (λ v. Do (plan.Call v None [] 0) (begun (own_of h w b)) Ret) (sym (own_seen w h.store.cells t.func own)) ∙ sym (call (trees_in h) h.store (rest w lt (counted h w b h.store h.page) (beside h.store h.page b.widget.around None)))

-- a life that has stopped does nothing
pub until_dropped : (h : Shared) (w : ℕ) (a : Life) (turns limit : ℕ) → (turns ≡ 0 → ⊥) → (c : Stop) → option_map meant_stop a.records.stop ≡ Some c
    → Same (life_with h w (work.Until turns limit) a) (waiting (own_of h w a) (works_of h w a))
until_dropped h w a turns limit some c stopped =
    let more : suc (turns - 1) ≡ turns = omega (arith, some) in
    subst (λ (n : ℕ). Same (waiting (own_of h w a) (todo.Until n limit ∷ works_of h w a)) (waiting (own_of h w a) (works_of h w a))) more
    (until_stopped (own_of h w a) (turns - 1) limit c (works_of h w a) stopped)
