-- The first work of a queue, as it is taken out.
use Rattle.std.proofs.Common.{◌≡◌, ℕ, ◌<◌, ◌≤◌, ◌+◌, ◌∙◌, List, [], ◌∷◌, true, false, refl, sym, ap, subst, map, drop, arith, Option, Some, None}
use Rattle.std.specs.Prelude.{is_some, length}
use Rattle.std.specs.Option.{option_map}
use Rattle.std.specs.List.{AllByRecursion}
use Rattle.life_laws.specs.Life as todo
use Rattle.life_laws.specs.Life.{Same, Seen, potential, potentials, weight}
use Rattle.life_laws.proofs.Begins.{same_more}
use Rattle.native_image.specs.declared.handed.Shared.{Shared}
use Rattle.turn_dispatch.specs.declared.turn.Turn.{Turn}
use Rattle.life_queue.specs.declared.life.Life.{Life}
use Rattle.life_queue.specs.declared.life.Work.{Work}
use Rattle.life_queue.specs.Lives.{going_of, life_seen, life_with, own_of, trees_in, work_of, works_of}
use Rattle.life_queue.specs.Fine.{FineLife, FineWork, tally}
use Rattle.life_queue.specs.Taken.{BeginsTurn, Takes}
use Rattle.life_queue.proofs.Rests.{rests}

no_true : false ≡ true → ⊥
no_true e = cc

pub no_turn : (o : Option Turn) → is_some o ≡ false → o ≡ None
no_turn None h = refl
no_turn (Some t) h = absurd (no_true (sym h))

module _ (h : Shared) (w : ℕ) (a : Life) (i : Work) (q : Life) (are : a.queue.items ≡ i ∷ q.queue.items) (rest : a.turn ≡ None) (fine : FineLife h w a) where
  -- the life without its first work: it has the queue of q
  abbrev pub popped : Life
  popped = record a { queue = q.queue }

  works_are : works_of h w a ≡ work_of (trees_in h) i ∷ works_of h w popped
  works_are = ap (map (work_of (trees_in h))) are

  -- nothing is done yet
  pub popped_seen : life_seen h w a ≡ life_with h w i popped
  popped_seen = rests h w a rest ∙ ap (λ (is : List todo.Work). todo.waiting (own_of h w a) is) works_are

  pub popped_room : tally h w popped + potential (work_of (trees_in h) i) ≡ tally h w a
  popped_room = let e : potentials (works_of h w a) ≡ potential (work_of (trees_in h) i) + potentials (works_of h w popped) = ap potentials works_are in omega (arith, e)

  both : FineWork (trees_in h) i × AllByRecursion (FineWork (trees_in h)) q.queue.items
  both = subst (AllByRecursion (FineWork (trees_in h))) are fine.works

  pub popped_script : FineWork (trees_in h) i
  popped_script = both.0

  pub popped_fine : FineLife h w popped
  popped_fine = record {
    number = fine.number;
    confined = fine.confined;
    sound = fine.sound;
    lib = record { held = fine.lib.held; first = fine.lib.first };
    works = both.1;
    turn = fine.turn;
    counts = record { grant = fine.counts.grant; spent = fine.counts.spent; room = omega (arith, fine.counts.room, popped_room) };
  }

  module _ (k : Shared) (b : Life) (t : Takes h k w i popped b) where
    -- it was taken
    pub popped_same : (s : Seen) → Same s (life_seen h w a) → Same s (life_seen k w b)
    popped_same s same = same_more s (life_seen h w a) (life_seen k w b) same (subst (λ (x : Seen). Same x (life_seen k w b)) (sym popped_seen) t.same)

    pub popped_lighter : weight (life_seen k w b) < weight (life_seen h w a)
    popped_lighter = subst (λ (x : Seen). weight (life_seen k w b) < weight x) (sym popped_seen) t.lighter

    pub popped_counted : tally k w b ≤ tally h w a
    popped_counted = omega (arith, t.counted, popped_room)

    -- a turn began
    pub begins_here : (g : Shared) (d : Life) → Same (life_seen g w d) (life_seen h w a) → weight (life_seen h w a) ≤ weight (life_seen g w d) → tally h w a ≤ tally g w d → is_some b.turn ≡ true → BeginsTurn g k w true d b
    begins_here g d same less count there = record {
      same = popped_same (life_seen g w d) same;
      fine = t.fine;
      turn = there;
      empty = λ e. absurd (no_true (sym e));
      lighter = λ e. omega (arith, popped_lighter, less);
      counted = omega (arith, popped_counted, count);
    }

-- nothing left, and nothing taken
no_items : (xs ys : List Work) → xs ≡ ys → ys ≡ drop 1 xs → ys ≡ []
no_items xs [] e f = refl
no_items xs (y ∷ ys) e f =
    let less : length (y ∷ ys) ≡ length ys = ap length (f ∙ ap (drop 1) e) in
    absurd omega (arith, less)

module _ (h : Shared) (w : ℕ) (a : Life) (q : Life) (are : a.queue.items ≡ q.queue.items) (none : q.queue.items ≡ drop 1 a.queue.items) (rest : a.turn ≡ None) (fine : FineLife h w a) where
  -- the life as its queue is found empty: it has the queue of q
  abbrev left : Life
  left = record a { queue = q.queue }

  left_seen : life_seen h w a ≡ life_seen h w left
  left_seen = ap (λ (is : List Work). let r : Seen = record { own = own_of h w a; going = option_map (going_of h w a) a.turn; queue = map (work_of (trees_in h)) is } in r) are

  left_room : tally h w left ≡ tally h w a
  left_room = ap (λ (is : List Work). a.records.turns + (a.records.missed + (a.records.gone + potentials (map (work_of (trees_in h)) is)))) (sym are)

  left_fine : FineLife h w left
  left_fine = record {
    number = fine.number;
    confined = fine.confined;
    sound = fine.sound;
    lib = record { held = fine.lib.held; first = fine.lib.first };
    works = subst (AllByRecursion (FineWork (trees_in h))) are fine.works;
    turn = fine.turn;
    counts = record { grant = fine.counts.grant; spent = fine.counts.spent; room = omega (arith, fine.counts.room, left_room) };
  }

  -- no turn begins
  pub begins_none : (g : Shared) (d : Life) → Same (life_seen g w d) (life_seen h w a) → tally h w a ≤ tally g w d → BeginsTurn g h w false d left
  begins_none g d same count = record {
    same = subst (λ (x : Seen). Same (life_seen g w d) x) left_seen same;
    fine = left_fine;
    turn = ap is_some rest;
    empty = λ e. no_items a.queue.items q.queue.items are none;
    lighter = λ e. absurd (no_true e);
    counted = omega (arith, count, left_room);
  }
