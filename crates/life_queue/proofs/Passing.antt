-- Works as they are taken: a turn begins, or none does.
use Rattle.std.proofs.Common.{◌≡◌, ℕ, ◌<◌, ◌≤◌, ◌+◌, ◌∙◌, List, Bool, refl, sym, ap, subst, arith, None}
use Rattle.std.specs.Prelude.{◌^◌}
use Rattle.std.specs.List.{AllByRecursion}
use Rattle.store_cells.specs.Cells.{Cells}
use Rattle.widget_meaning.specs.OwnState.{State}
use Rattle.widget_meaning.specs.Plan.{Plan}
use Rattle.widget_meaning.specs.Turns.{begun}
use Rattle.page_tree.specs.declared.page.Page.{Page}
use Rattle.js_image.specs.Held.{IsConfined}
use Rattle.native_image.specs.Image.{Outside}
use Rattle.native_image.specs.Sound.{IsSound}
use Rattle.life_laws.specs.Life.{Same, Seen, potential, potentials, started, waiting, weight}
use Rattle.life_laws.proofs.Begins.{same_more}
use Rattle.turn_dispatch.specs.declared.level.Doing.{Doing}
use Rattle.turn_dispatch.specs.declared.level.Level.{Level}
use Rattle.turn_dispatch.specs.Held.{FineDoing}
use Rattle.turn_dispatch.specs.Levels.{turn_plan}
use Rattle.turn_dispatch.specs.declared.calls.Calls.{Calls}
use Rattle.turn_dispatch.specs.Turns.{turn_image}
use Rattle.turn_dispatch.specs.Waiting.{FineLevels}
use Rattle.life_queue.specs.declared.life.Life.{Life}
use Rattle.life_queue.specs.declared.life.Work.{Work}
use Rattle.native_image.specs.declared.handed.Shared.{Shared}
use Rattle.life_queue.specs.Lives.{begun_with, life_seen, life_with, outside, own_of, trees_in, work_of, works_of}
use Rattle.life_queue.specs.Fine.{FineCounts, FineLife, FineWork, HasLib, held_back, tally}
use Rattle.life_queue.specs.Taken.{Starts, Takes}
use Rattle.life_queue.proofs.Rests.{rests}
use Rattle.life_queue.proofs.Started.{started_same}

-- a work was taken and began no turn
pub takes_passed : (h k : Shared) (w : ℕ) (i : Work) (a b : Life) → b.turn ≡ None
    → Same (life_with h w i a) (waiting (own_of k w b) (works_of k w b)) → FineLife k w b
    → potentials (works_of k w b) + 1 ≤ potential (work_of (trees_in h) i) + potentials (works_of h w a)
    → tally k w b ≤ potential (work_of (trees_in h) i) + tally h w a
    → Takes h k w i a b
takes_passed h k w i a b e same fine smaller counted =
    let weighs : weight (life_seen k w b) ≡ weight (waiting (own_of k w b) (works_of k w b)) = ap weight (rests k w b e) in
    record {
      same = subst (λ (t : Seen). Same (life_with h w i a) t) (sym (rests k w b e)) same;
      fine = fine;
      lighter = omega (arith, weighs, smaller);
      counted = counted;
    }

-- a work was taken and began a turn
pub takes_start : (h m k : Shared) (w : ℕ) (i : Work) (f : State → Plan) (a b c : Life)
    → Same (life_with h w i a) (started f (own_of m w b) (works_of m w b)) → Starts m k w f b c
    → potentials (works_of m w b) + 1 ≤ potential (work_of (trees_in h) i) + potentials (works_of h w a)
    → 1 + tally m w b ≤ potential (work_of (trees_in h) i) + tally h w a
    → Takes h k w i a c
takes_start h m k w i f a b c law st smaller counted = record {
  same = same_more (life_with h w i a) (started f (own_of m w b) (works_of m w b)) (life_seen k w c) law st.same;
  fine = st.fine;
  lighter = omega (arith, st.weighs, smaller);
  counted = omega (arith, st.counted, counted);
}

-- a work was taken that is another work, which was taken then
pub takes_becomes : (h k : Shared) (w : ℕ) (i j : Work) (a b : Life) → Same (life_with h w i a) (life_with h w j a) → Takes h k w j a b
    → potential (work_of (trees_in h) j) ≤ potential (work_of (trees_in h) i) → Takes h k w i a b
takes_becomes h k w i j a b same t less = record {
  same = same_more (life_with h w i a) (life_with h w j a) (life_seen k w b) same t.same;
  fine = t.fine;
  lighter = omega (arith, t.lighter, less);
  counted = omega (arith, t.counted, less);
}

-- a life whose counts of events changed
pub fine_counted : (h : Shared) (w : ℕ) (a : Life) (missed gone : ℕ) → FineLife h w a → a.records.turns + (missed + (gone + potentials (works_of h w a))) < 2 ^ 32
    → FineLife h w (record a { records = record a.records { missed = missed; gone = gone } })
fine_counted h w a missed gone fine room = record {
  number = fine.number;
  confined = fine.confined;
  sound = fine.sound;
  lib = record { held = fine.lib.held; first = fine.lib.first };
  works = fine.works;
  turn = fine.turn;
  counts = record { grant = fine.counts.grant; spent = fine.counts.spent; room = room };
}

module _ (h : Shared) (w : ℕ) (a : Life) (s : Cells) (p : Page) where
  -- the shared with this store and this page
  abbrev pub at : Shared
  at = record h { store = s; page = p }

  -- what is recorded once a turn has begun
  abbrev pub counted : Outside
  counted = outside (record a { records = record a.records { turns = a.records.turns + 1 } })

  -- a life that is still sound and has no turn in progress
  pub record Rested : Type 0 where
    pub number : a.widget.id.index ≡ w
    pub rest : a.turn ≡ None
    pub confined : IsConfined (trees_in h) w s
    pub sound : IsSound w s p a.widget.around
    pub lib : HasLib w s a
    pub works : AllByRecursion (FineWork (trees_in h)) a.queue.items
    pub counts : FineCounts h w a

  -- a turn has begun
  pub starts : (f : State → Plan) (d : Doing) (c : Calls) (levels : List Level) (dispatches : List Bool) → c.levels.items ≡ levels → c.dispatches.items ≡ dispatches
      → Rested → tally h w a + 1 < 2 ^ 32
      → f (begun (own_of h w a)) ≡ turn_plan (trees_in h) w s.cells p d levels (turn_image (trees_in h) counted w s p a.widget.around dispatches)
      → FineDoing (trees_in h) w s p d → FineLevels (trees_in h) w s.cells p levels
      → Starts h at w f a (begun_with a d c)
  starts f d c levels dispatches are_levels are_dispatches r room plan doing fine =
      let none : held_back a.turn ≡ 0 = ap held_back r.rest in
      let whole : f (begun (own_of h w a)) ≡ turn_plan (trees_in h) w s.cells p d c.levels.items (turn_image (trees_in h) counted w s p a.widget.around c.dispatches.items) =
      plan ∙ (λ j. turn_plan (trees_in h) w s.cells p d (sym are_levels j) (turn_image (trees_in h) counted w s p a.widget.around (sym are_dispatches j))) in
      record {
        same = started_same f (own_of h w a) (works_of h w a) (own_of at w (begun_with a d c)) _ whole refl;
        fine = record {
          number = r.number;
          confined = r.confined;
          sound = r.sound;
          lib = record { held = r.lib.held; first = r.lib.first };
          works = r.works;
          turn = record { doing = doing; levels = subst (FineLevels (trees_in h) w s.cells p) (sym are_levels) fine; left = omega arith };
          counts = record { grant = r.counts.grant; spent = omega (arith, r.counts.spent, none); room = omega (arith, room) };
        };
        weighs = omega (arith, r.counts.grant);
        counted = omega arith;
      }
