-- What a call does to a loop, at the image.
use Rattle.std.proofs.Common.{◌≡◌, ℕ, zero, suc, ◌+◌, ◌<◌, ℤ, pos, negsuc, List, [], ◌∷◌, ◌++◌, Bool, true, false, refl, sym, ap, ◌∙◌, subst, map, length, cond, ne_eqb, arith, Option, Some, None, unwrap_or, slice_get, ◌⊎◌, inl, inr}
use Rattle.std.specs.Prelude.{nat_le}
use Rattle.std.specs.Option.{option_map}
use Rattle.query_grammar.specs.Renumbering.{renumbered}
use Rattle.widget_meaning.specs.AdsafeNatives as natives
use Rattle.widget_meaning.specs.AdsafeNatives.{with_timer}
use Rattle.widget_meaning.specs.BunchWrites.{change_kept}
use Rattle.widget_meaning.specs.Items as items
use Rattle.widget_meaning.specs.Limits.{max_timers}
use Rattle.widget_meaning.specs.OwnState as own
use Rattle.widget_meaning.specs.OwnState.{OwnState, State, Handler, Kept, kept_at}
use Rattle.widget_meaning.specs.Values.{Own}
use Rattle.page_tree.specs.declared.page.Page.{Page}
use Rattle.page_tree.specs.Pages.{nodes}
use Rattle.page_image.specs.Held.{OptionIn}
use Rattle.page_image.specs.Image as page
use Rattle.page_image.specs.Image.{owns, number}
use Rattle.page_image.proofs.Kept.{all_same}
use Rattle.event_loop.specs.declared.around.Loop.{Loop}
use Rattle.event_loop.specs.declared.around.LoopFault.{LoopFault}
use Rattle.event_loop.specs.declared.around.LoopFault.TheVariants as fault
use Rattle.event_loop.specs.declared.timers.Timer.{Timer}
use Rattle.event_loop.specs.Kept as loop
use Rattle.event_loop.specs.Kept.{PlainKept}
use Rattle.event_loop.specs.Timers as timers
use Rattle.event_loop.specs.Around as around
use Rattle.event_loop.specs.Around.{SameKept, SameTimes, SameButTimers, ChangedAt, RefusesTimer, left_waiting, clock_after}
use Rattle.page_image.specs.Around.{Shows, kept_of, timer_of, own_kept, own_timers, own_focus, hushed, put_by_due, by_due, after_due}
use Rattle.page_image.proofs.Events.{handlers_left, next_due_of, without_due_of, notes_is, noted}

no_true : false ≡ true → ⊥
no_true e = cc

-- ## What is kept with a node

pub kept_read : (p : Page) (w : ℕ) (g : ℕ → ℕ) (l : Loop) (s : State) → Shows p w g l s.own → (n : ℕ) → owns p w n ≡ true → kept_at s (number p w n) ≡ kept_of g (around.kept l n)
unfolding owns number page.own
kept_read p w g l s shows n h = notes_is (nodes p) w g l s shows.notes n h

kept_changed : (p : Page) (w : ℕ) (g : ℕ → ℕ) (l new : Loop) (s : State) → Shows p w g l s.own → (n : ℕ) (change : PlainKept → PlainKept) (own_change : Kept → Kept) → owns p w n ≡ true → ((k : PlainKept) → kept_of g (change k) ≡ own_change (kept_of g k)) → ChangedAt l new n change → own_kept p w g new ≡ (change_kept own_change s (number p w n)).own.kept
unfolding owns number page.own
kept_changed p w g l new s shows n change own_change h same c = noted (nodes p) w g l s shows.notes new n change own_change h same c

-- the handlers of a type, or all, are taken out
pub hushed_of : (g : ℕ → ℕ) (kind : Option (List ℕ)) (k : PlainKept) → kept_of g (loop.without_handlers kind k) ≡ hushed kind (kept_of g k)
hushed_of g None k = refl
hushed_of g (Some kind) k = ap (λ (hs : List Handler). record { handlers = hs; mark = unwrap_or k.mark []; is_protected = k.is_protected }) (handlers_left g k.handlers kind)

module _ (p : Page) (w : ℕ) (g : ℕ → ℕ) (old new : Loop) where
  -- what is kept with one node changes
  pub changed_shows : (s : State) (n : ℕ) (change : PlainKept → PlainKept) (own_change : Kept → Kept) → owns p w n ≡ true → ((k : PlainKept) → kept_of g (change k) ≡ own_change (kept_of g k)) → SameTimes old new → Shows p w g old s.own → ChangedAt old new n change → Shows p w g new (change_kept own_change s (number p w n)).own
  changed_shows s n change own_change mine same times shows changed = record {
    trees = shows.trees;
    notes = sym (kept_changed p w g old new s shows n change own_change mine same changed);
    waiting = shows.waiting ∙ sym (ap (map (timer_of g)) times.same_timers);
    time = shows.time ∙ sym times.same_clock;
    focused = shows.focused ∙ sym (ap (renumbered (number p w)) times.same_focus);
    mine = subst (OptionIn (owns p w)) (sym times.same_focus) shows.mine;
    elsewhere = λ x h. changed x ∙ ap (λ b. cond b (change (around.kept old x)) (around.kept old x)) (ne_eqb x n (λ e. no_true (sym h ∙ ap (owns p w) e ∙ mine))) ∙ shows.elsewhere x h;
  }

  -- what is kept with nodes stays
  pub rest_shows : (o : OwnState) (ts : List own.Timer) (time : ℕ) (focus : Option ℕ) → SameKept old new → Shows p w g old o → ts ≡ own_timers g new → time ≡ around.clock new → focus ≡ own_focus p w new → OptionIn (owns p w) (around.focus new) → Shows p w g new (record o { timers = ts; clock = time; focus = focus })
  rest_shows o ts time focus same shows et ec ef mine = record {
    trees = shows.trees;
    notes = shows.notes ∙ sym (all_same (λ n. kept_of g (around.kept old n)) (λ n. kept_of g (around.kept new n)) (λ n. ap (kept_of g) (same n)) (page.own p w));
    waiting = et;
    time = ec;
    focused = ef;
    mine = mine;
    elsewhere = λ x h. same x ∙ shows.elsewhere x h;
  }

  -- all stays
  pub same_shows : (o : OwnState) → SameTimes old new → Shows p w g old o → SameKept old new → Shows p w g new o
  same_shows o times shows same =
      rest_shows o o.timers o.clock o.focus same shows
      (shows.waiting ∙ sym (ap (map (timer_of g)) times.same_timers))
      (shows.time ∙ sym times.same_clock)
      (shows.focused ∙ sym (ap (renumbered (number p w)) times.same_focus))
      (subst (OptionIn (owns p w)) (sym times.same_focus) shows.mine)

  -- the focus goes to a node
  pub focus_shows : (o : OwnState) (node : Option ℕ) → OptionIn (owns p w) node → around.focus new ≡ node → SameKept old new → around.timers new ≡ around.timers old → around.clock new ≡ around.clock old → Shows p w g old o → Shows p w g new (record o { focus = renumbered (number p w) node })
  focus_shows o node mine e same et ec shows =
      rest_shows o o.timers o.clock (renumbered (number p w) node) same shows
      (shows.waiting ∙ sym (ap (map (timer_of g)) et))
      (shows.time ∙ sym ec)
      (sym (ap (renumbered (number p w)) e))
      (subst (OptionIn (owns p w)) (sym e) mine)

-- ## Timers

same_delay : (ms : ℤ) → natives.delay ms ≡ timers.delay ms
same_delay (pos n) = refl
same_delay (negsuc n) = refl

abbrev own_timer : ℕ → ℕ → own.Timer
own_timer at func = record { due = at; func = func }

map_last : {A B : Type 0} (f : A → B) (xs : List A) (x : A) → map f (xs ++ x ∷ []) ≡ map f xs ++ f x ∷ []
map_last f [] x = refl
map_last f (y ∷ xs) x = ap (λ l. f y ∷ l) (map_last f xs x)

length_map : {A B : Type 0} (f : A → B) (xs : List A) → length (map f xs) ≡ length xs
length_map f [] = refl
length_map f (x ∷ xs) = ap suc (length_map f xs)

got_map : {A B : Type 0} (f : A → B) (xs : List A) (i : ℕ) → slice_get (map f xs) i ≡ option_map f (slice_get xs i)
got_map f [] i = refl
got_map f (x ∷ xs) zero = refl
got_map f (x ∷ xs) (suc i) = got_map f xs i

module _ (g : ℕ → ℕ) where
  put_of : (t : Timer) (ts : List Timer) → put_by_due (timer_of g t) (map (timer_of g) ts) ≡ map (timer_of g) (timers.put_by_due t ts)
  put_of t [] = refl
  put_of t (u ∷ us) = by_test (nat_le t.at u.at) (put_of t us)
    where
      by_test : (b : Bool) → put_by_due (timer_of g t) (map (timer_of g) us) ≡ map (timer_of g) (timers.put_by_due t us) → cond b (timer_of g t ∷ timer_of g u ∷ map (timer_of g) us) (timer_of g u ∷ put_by_due (timer_of g t) (map (timer_of g) us)) ≡ map (timer_of g) (cond b (t ∷ u ∷ us) (u ∷ timers.put_by_due t us))
      by_test true e = refl
      by_test false e = ap (λ l. timer_of g u ∷ l) e

  by_due_of : (ts : List Timer) → by_due (map (timer_of g) ts) ≡ map (timer_of g) (timers.by_due ts)
  by_due_of [] = refl
  by_due_of (t ∷ ts) = ap (put_by_due (timer_of g t)) (by_due_of ts) ∙ put_of t (timers.by_due ts)

-- how many wait
pub waiting_image : (p : Page) (w : ℕ) (g : ℕ → ℕ) (l : Loop) (o : OwnState) → Shows p w g l o → length o.timers ≡ length (around.timers l)
waiting_image p w g l o shows = ap length shows.waiting ∙ length_map (timer_of g) (around.timers l)

-- the timer at a place
pub timer_image : (p : Page) (w : ℕ) (g : ℕ → ℕ) (l : Loop) (o : OwnState) → Shows p w g l o → (at : ℕ) → option_map (timer_of g) (slice_get (timers.by_due (around.timers l)) at) ≡ slice_get (by_due o.timers) at
timer_image p w g l o shows at =
    sym (ap (λ ts. slice_get (by_due ts) at) shows.waiting
    ∙ ap (λ ts. slice_get ts at) (by_due_of g (around.timers l))
    ∙ got_map (timer_of g) (timers.by_due (around.timers l)) at)

-- the timer that is due next
pub due_image : (p : Page) (w : ℕ) (g : ℕ → ℕ) (l : Loop) (o : OwnState) (limit : ℕ) (r : Option Timer) → r ≡ timers.next_due limit (around.timers l) → Shows p w g l o → option_map (timer_of g) r ≡ items.next_due limit o.timers
due_image p w g l o limit r e shows = ap (option_map (timer_of g)) e ∙ sym (next_due_of g limit (around.timers l)) ∙ ap (items.next_due limit) (sym shows.waiting)

pub timer_room : (p : Page) (w : ℕ) (g : ℕ → ℕ) (l : Loop) (o : OwnState) → Shows p w g l o → length (around.timers l) < 64 → length o.timers < max_timers
timer_room p w g l o shows h = omega (arith, h, waiting_image p w g l o shows)

-- why a timer was not started
pub timer_refused : (p : Page) (w : ℕ) (g : ℕ → ℕ) (l : Loop) (o : OwnState) → Shows p w g l o → (f : LoopFault) → RefusesTimer (around.timers l) f → (f ≡ fault.Memory) ⊎ (nat_le max_timers (length o.timers) ≡ true)
timer_refused p w g l o shows fault.Memory h = inl refl
timer_refused p w g l o shows (fault.Full waiting) h = inr (ap (nat_le max_timers) (waiting_image p w g l o shows ∙ h.1))

module _ (p : Page) (w : ℕ) (g : ℕ → ℕ) (old new : Loop) where
  -- a timer is started
  pub later_shows : (s : State) (func : ℕ) (ms : ℤ) → SameButTimers old new → Shows p w g old s.own → around.timers new ≡ around.timers old ++ record { func = func; at = around.clock old + timers.delay ms } ∷ [] → Shows p w g new (with_timer s (Own (g func)) ms).own
  later_shows s func ms kept shows e =
      rest_shows p w g old new s.own (s.own.timers ++ own_timer (s.own.clock + natives.delay ms) (g func) ∷ []) s.own.clock s.own.focus kept.same_kept shows
      (ap (λ ts. ts ++ own_timer (s.own.clock + natives.delay ms) (g func) ∷ []) shows.waiting
      ∙ ap (λ c. own_timers g old ++ own_timer (c + natives.delay ms) (g func) ∷ []) shows.time
      ∙ ap (λ d. own_timers g old ++ own_timer (around.clock old + d) (g func) ∷ []) (same_delay ms)
      ∙ sym (map_last (timer_of g) (around.timers old) (record { func = func; at = around.clock old + timers.delay ms }))
      ∙ sym (ap (map (timer_of g)) e))
      (shows.time ∙ sym kept.same_clock)
      (shows.focused ∙ sym (ap (renumbered (number p w)) kept.same_focus))
      (subst (OptionIn (owns p w)) (sym kept.same_focus) shows.mine)

  pub unstarted_shows : (o : OwnState) → SameButTimers old new → Shows p w g old o → around.timers new ≡ around.timers old → Shows p w g new o
  unstarted_shows o kept shows e = same_shows p w g old new o (record { same_timers = e; same_clock = kept.same_clock; same_focus = kept.same_focus }) shows kept.same_kept

  -- a timer is taken out
  due_either : (o : OwnState) (limit : ℕ) (r : Option Timer) → around.timers new ≡ left_waiting r (around.timers old) → around.clock new ≡ clock_after r limit → SameKept old new → around.focus new ≡ around.focus old → Shows p w g old o → Shows p w g new (after_due (option_map (timer_of g) r) limit o)
  due_either o limit None et ec same ef shows =
      rest_shows p w g old new o o.timers limit o.focus same shows
      (shows.waiting ∙ sym (ap (map (timer_of g)) et))
      (sym ec)
      (shows.focused ∙ sym (ap (renumbered (number p w)) ef))
      (subst (OptionIn (owns p w)) (sym ef) shows.mine)
  due_either o limit (Some t) et ec same ef shows =
      rest_shows p w g old new o (items.without_due t.at o.timers) t.at o.focus same shows
      (ap (items.without_due t.at) shows.waiting ∙ without_due_of g t.at (around.timers old) ∙ sym (ap (map (timer_of g)) et))
      (sym ec)
      (shows.focused ∙ sym (ap (renumbered (number p w)) ef))
      (subst (OptionIn (owns p w)) (sym ef) shows.mine)

  pub due_shows : (o : OwnState) (limit : ℕ) (r : Option Timer) → r ≡ timers.next_due limit (around.timers old) → around.timers new ≡ left_waiting r (around.timers old) → around.clock new ≡ clock_after r limit → SameKept old new → around.focus new ≡ around.focus old → Shows p w g old o → Shows p w g new (after_due (items.next_due limit o.timers) limit o)
  due_shows o limit r e et ec same ef shows = subst (λ u. Shows p w g new (after_due u limit o)) (due_image p w g old o limit r e shows) (due_either o limit r et ec same ef shows)
