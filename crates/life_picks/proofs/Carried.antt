-- A turn that is carried on: it is cut, or it is over; also behind works that were taken.
use Rattle.std.proofs.Common.{◌≡◌, ℕ, ◌<◌, ◌≤◌, ◌+◌, ◌-◌, ◌*◌, List, [], ◌∷◌, ◌++◌, Bool, true, false, not, refl, sym, ap, ◌∙◌, subst, map, arith, Option, Some, None, Ok, cond, if◌then◌else◌}
use Rattle.std.specs.Prelude.{IfOk, IfSome, OnOk, Result, ◌^◌, is_some, length, nat_lt}
use Rattle.std.specs.List.{AllByRecursion}
use Rattle.std.specs.Option.{option_map}
use Rattle.std.specs.declared.vec.Vec.{Vec}
use Rattle.std.specs.declared.alloc.Global.{Global}
use Rattle.widget_meaning.specs.Costs.{cost, sum}
use Rattle.widget_meaning.specs.Items.{Advance, Occurs}
use Rattle.widget_meaning.specs.Limits.{max_units}
use Rattle.widget_meaning.specs.OwnState.{OwnState, State}
use Rattle.widget_meaning.specs.Plan.{End, Ended, OutOfFuel, Stopped}
use Rattle.widget_meaning.specs.Turns.{end_turn, note_text, noted, stopped}
use Rattle.widget_meaning.specs.Values as meaning
use Rattle.widget_meaning.specs.Values.{PastLimit, Units}
use Rattle.js_names.specs.declared.code.Code.{Code}
use Rattle.js_names.specs.Code.{trees_of}
use Rattle.life_laws.specs.Life.{Given, Go, Going, IsCut, IsOver, Library, Same, Seen, Turn as TurnOf, Until, Work, fixed, is_empty, potential, potentials, ready, turn_bound, turn_weight, weight}
use Rattle.life_laws.proofs.Begins.{same_none}
use Rattle.life_laws.proofs.Ends.{cut, cut_from, idle, over, over_from}
use Rattle.life_laws.specs.declared.entry.Picked.{Picked}
use Rattle.life_laws.specs.declared.entry.Picked.TheVariants as picked
use Rattle.life_laws.specs.Picks.{Picks}
use Rattle.native_image.specs.declared.handed.Shared.{Shared}
use Rattle.native_image.specs.declared.handed.Widget.{Widget}
use Rattle.turn_steps.specs.declared.turn.TurnEnd.{TurnEnd}
use Rattle.turn_steps.specs.declared.turn.TurnEnd.TheVariants as ended
use Rattle.store_cells.specs.Cells.{PlainCell}
use Rattle.turn_steps.specs.Keeping.{KeepsTurn}
use Rattle.turn_steps.specs.Moving.{IsCutAt, IsEndedAt}
use Rattle.turn_steps.specs.Turning.{FineTurn as FineTurnOf, FineWidget, end_of, forests, state_in}
use Rattle.life_queue.specs.Stop.TheVariants as stop
use Rattle.life_queue.specs.Turn.{Turn}
use Rattle.life_queue.specs.declared.life.Life.{Life}
use Rattle.life_queue.specs.Lives.{going_of, life_seen, outside, own_of, trees_in, work_of, works_of}
use Rattle.life_queue.specs.Fine.{FineLife, FineTurn, FineWork, HasLib, KeepsLife, held_back}
use Rattle.life_queue.specs.Taken.{BeginsTurn}
use Rattle.life_queue.proofs.Keeps.{keeps_both}
use Rattle.life_queue.proofs.Scripts.{lib_stays}
use Rattle.life_picks.specs.Picking.{PicksLife, spent_to}

no_true : false ≡ true → ⊥
no_true e = cc

-- a turn ends for want of fuel by that stop alone
only_fuel : (w : ℕ) (cells : List PlainCell) (how : TurnEnd) → end_of w cells how ≡ OutOfFuel → how ≡ ended.Stop stop.Fuel
only_fuel w cells (ended.Over o) e = cc
only_fuel w cells (ended.Stop stop.Fuel) e = refl
only_fuel w cells (ended.Stop (stop.Due c)) e = cc

-- what ends a turn leaves what is spent
noted_spent : (t : List ℕ) (o : OwnState) → (noted t o).spent ≡ o.spent
noted_spent t o = by (nat_lt max_units (o.counts.units + (length t + 1)))
  where
    by : (b : Bool) → (let p : OwnState = cond b (stopped (PastLimit Units) o) (record o { uncaught = o.uncaught ++ t ∷ []; counts = sum o.counts (cost (length t + 1) 0 0 0) }) in p.spent) ≡ o.spent
    by true = refl
    by false = refl

end_spent : (how : End) (s : State) (o : OwnState) → (end_turn how s o).spent ≡ o.spent
end_spent (Ended (meaning.Throw v)) s o = noted_spent (note_text s v) o
end_spent (Ended meaning.Normal) s o = refl
end_spent (Ended (meaning.Is v)) s o = refl
end_spent (Ended (meaning.Refers r)) s o = refl
end_spent (Ended (meaning.Return v)) s o = refl
end_spent (Ended meaning.Break) s o = refl
end_spent (Ended meaning.Continue) s o = refl
end_spent (Stopped c) s o = refl
end_spent OutOfFuel s o = refl

-- and what is counted
abbrev counted : OwnState → ℕ
counted o = o.turns + (o.missed + o.gone)

noted_counted : (t : List ℕ) (o : OwnState) → counted (noted t o) ≡ counted o
noted_counted t o = by (nat_lt max_units (o.counts.units + (length t + 1)))
  where
    by : (b : Bool) → counted (cond b (stopped (PastLimit Units) o) (record o { uncaught = o.uncaught ++ t ∷ []; counts = sum o.counts (cost (length t + 1) 0 0 0) })) ≡ counted o
    by true = refl
    by false = refl

end_counted : (how : End) (s : State) (o : OwnState) → counted (end_turn how s o) ≡ counted o
end_counted (Ended (meaning.Throw v)) s o = noted_counted (note_text s v) o
end_counted (Ended meaning.Normal) s o = refl
end_counted (Ended (meaning.Is v)) s o = refl
end_counted (Ended (meaning.Refers r)) s o = refl
end_counted (Ended (meaning.Return v)) s o = refl
end_counted (Ended meaning.Break) s o = refl
end_counted (Ended meaning.Continue) s o = refl
end_counted (Stopped c) s o = refl
end_counted OutOfFuel s o = refl

-- what a run of the turn keeps, as all calls for a life do
pub keeps_ran : (h m : Shared) (a b : Life) → KeepsTurn (forests h) a.widget.id.index h.store m.store h.page m.page b.widget.around → b.widget.id.index ≡ a.widget.id.index → m.codes ≡ h.codes → b.slot ≡ a.slot → b.accepted ≡ a.accepted → KeepsLife a.widget.id.index h m a b
keeps_ran h m a b keeps number codes slot accepted = record {
  codes = codes;
  cells = record { confined = keeps.confined; grows = keeps.grows; others = keeps.others; others_grow = keeps.others_grow; others_confined = keeps.others_confined };
  page = keeps.page;
  host = keeps.host;
  holds = keeps.holds;
  number = number;
  slot = slot;
  accepted = accepted;
}

module _ (h m : Shared) (a : Life) (t : Turn) (u : Widget) (units : ℕ) (some : 0 < units) (keeps : KeepsTurn (forests h) a.widget.id.index h.store m.store h.page m.page u.around)
    (number : u.id.index ≡ a.widget.id.index) (codes : m.codes ≡ h.codes) (sound : FineWidget m u) where
  abbrev w : ℕ
  w = a.widget.id.index

  -- the life in its turn, before
  abbrev pub running : Life
  running = record a { turn = Some t }

  -- and after, beside its turn
  abbrev pub moved : Life
  moved = record a { widget = u }

  -- what the run and the end of the turn keep
  pub keeps_close : (k : Shared) (b : Life) → KeepsLife u.id.index m k moved b → KeepsLife w h k a b
  keeps_close k b kept = keeps_both w h m k a moved b (keeps_ran h m a moved keeps number codes refl refl) (subst (λ i. KeepsLife i m k moved b) number kept)

  same_trees : trees_in m ≡ trees_in h
  same_trees = ap (λ (cs : Vec Code Global). trees_of cs.items) codes

  same_works : works_of m u.id.index moved ≡ works_of h w running
  same_works = ap (λ fs. map (work_of fs) a.queue.items) same_trees

  module _ (fine : FineLife h w running) where
    lib_here : HasLib u.id.index m.store moved
    lib_here = let l : HasLib w m.store a = lib_stays w h.store m.store a keeps.grows (record { held = fine.lib.held; first = fine.lib.first }) in
        subst (λ i. HasLib i m.store moved) (sym number) (record { held = l.held; first = l.first })

    works_here : AllByRecursion (FineWork (trees_in m)) a.queue.items
    works_here = subst (λ fs. AllByRecursion (FineWork fs) a.queue.items) (sym same_trees) fine.works

    room_here : a.records.turns + (a.records.missed + (a.records.gone + potentials (works_of m u.id.index moved))) < 2 ^ 32
    room_here = subst (λ is. a.records.turns + (a.records.missed + (a.records.gone + potentials is)) < 2 ^ 32) (sym same_works) fine.counts.room

    -- The turn is cut.
    module _ (s : Turn) (at : IsCutAt units h m a.widget u t s (fixed (own_of h w running)) (outside a)) (held : FineTurnOf m u.id.index s) where
      abbrev pub cut_life : Life
      cut_life = record a { widget = u; turn = Some s }

      is_cut : IsCut units (life_seen h w running) (life_seen m u.id.index cut_life)
      is_cut =
          cut units (t.left - s.left) (life_seen h w running) (life_seen h w running) (life_seen m u.id.index cut_life) (going_of h w running t) (going_of m u.id.index cut_life s)
          (state_in (outside a) m u s.calls.dispatches.items) refl (same_none (life_seen h w running)) refl refl same_works at.runs fine.turn.left some at.enough at.out_of_fuel

      fine_cut : FineLife m u.id.index cut_life
      fine_cut = record {
        number = refl;
        confined = sound.confined;
        sound = sound.sound;
        lib = record { held = lib_here.held; first = lib_here.first };
        works = works_here;
        turn = record { doing = held.doing; levels = held.levels; left = omega (arith, at.less, fine.turn.left) };
        counts = record { grant = fine.counts.grant; spent = fine.counts.spent; room = room_here };
      }

      pub cut_picks : (spent : ℕ) → spent ≡ a.records.spent + (a.grant - s.left) → PicksLife h m w units (picked.Unfinished spent) running cut_life
      cut_picks spent e =
          let same : potentials (works_of m w cut_life) ≡ potentials (works_of h w running) = ap potentials same_works in
          record {
            picks = subst (λ i. Picks units (picked.Unfinished spent) (life_seen h w running) (life_seen m i cut_life)) number (is_cut, e);
            fine = subst (λ i. FineLife m i cut_life) number fine_cut;
            lighter = λ r. omega (arith, same, at.enough, at.less, some);
            counted = omega (arith, same);
          }

    -- The turn is over.
    module _ (s : Turn) (how : TurnEnd) (left : ℕ) (at : IsEndedAt units h m a.widget u t s (fixed (own_of h w running)) (outside a) how left) (rest : a.turn ≡ None) where
      pub fine_spent : FineLife m u.id.index (spent_to left moved)
      fine_spent =
          let none : held_back a.turn ≡ 0 = ap held_back rest in
          record {
            number = refl;
            confined = sound.confined;
            sound = sound.sound;
            lib = record { held = lib_here.held; first = lib_here.first };
            works = works_here;
            turn = subst (λ (o : Option Turn). IfSome o (FineTurn (trees_in m) u.id.index m.store m.page a.grant)) (sym rest) tt;
            counts = record { grant = fine.counts.grant; spent = omega (arith, none, fine.counts.spent, fine.counts.grant); room = room_here };
          }

      module _ (k : Shared) (b : Life) (kept : KeepsLife u.id.index m k moved b) (over_fine : FineLife k u.id.index b) (over_rest : b.turn ≡ None) (queue : b.queue ≡ a.queue)
          (own : (o : State) → o.own ≡ own_of m u.id.index moved → own_of k u.id.index b ≡ end_turn (end_of u.id.index m.store.cells how) o (own_of m u.id.index (spent_to left moved))) where
        end_works : works_of k u.id.index b ≡ works_of h w running
        end_works = (λ j. map (work_of (trees_of (kept.codes j).items)) (queue j).items) ∙ same_works

        end_own : own_of k u.id.index b ≡ end_turn (end_of u.id.index m.store.cells how) (state_in (outside a) m u at.dispatches) (own_of m u.id.index (spent_to left moved))
        end_own = own (state_in (outside a) m u at.dispatches) refl

        is_over : IsOver units (life_seen h w running) (life_seen k u.id.index b)
        is_over =
            over units (t.left - left) (life_seen h w running) (life_seen h w running) (life_seen k u.id.index b) (going_of h w running t)
            (let y : TurnOf = record { fixed = fixed (own_of h w running); plan = at.last; left = left } in y) (end_of u.id.index m.store.cells how) (state_in (outside a) m u at.dispatches)
            (same_none (life_seen h w running)) refl (ap (option_map (going_of k u.id.index b)) over_rest) end_works at.runs fine.turn.left some at.out end_own
            (ap (λ (o : OwnState). o.spent) end_own ∙ end_spent (end_of u.id.index m.store.cells how) (state_in (outside a) m u at.dispatches) (own_of m u.id.index (spent_to left moved)))
            (λ e. at.fuel (only_fuel u.id.index m.store.cells how e))

        counts : b.records.turns + (b.records.missed + b.records.gone) ≡ a.records.turns + (a.records.missed + a.records.gone)
        counts = ap counted end_own ∙ end_counted (end_of u.id.index m.store.cells how) (state_in (outside a) m u at.dispatches) (own_of m u.id.index (spent_to left moved))

        pub over_picks : PicksLife h k w units picked.Ended running b
        over_picks =
            let same : potentials (works_of k w b) ≡ potentials (works_of h w running) = ap potentials end_works in
            let light : turn_weight (option_map (going_of k w b) b.turn) ≡ 0 = ap (λ o. turn_weight (option_map (going_of k w b) o)) over_rest in
            record {
              picks = subst (λ i. Picks units picked.Ended (life_seen h w running) (life_seen k i b)) number is_over;
              fine = subst (λ i. FineLife k i b) number over_fine;
              lighter = λ r. omega (arith, same, light);
              counted = omega (arith, same, counts);
            }

-- ## Behind works that were taken

picks_from : (k : ℕ) (r : Picked) (s t u : Seen) → Same s t → Picks k r t u → Picks k r s u
picks_from k picked.Idle s t u same p = record { none = sym same.begins ∙ p.none; going = p.going; queue = p.queue; due = p.due ∙ same.due; spent = p.spent ∙ same.spent }
picks_from k (picked.Unfinished n) s t u same p = (cut_from k s t u same p.0, p.1)
picks_from k picked.Ended s t u same p = over_from k s t u same p

potential_some : (i : Work) → 1 ≤ potential i
potential_some (Library ss) = omega arith
potential_some (Go ss) = omega arith
potential_some (Given (Occurs e)) = omega arith
potential_some (Given (Advance d)) = omega arith
potential_some (Until n limit) = omega arith

ready_weighs : (s : Seen) → ready s ≡ true → 0 < weight s
ready_weighs s = by s.going s.queue
  where
    by : (g : Option Going) (is : List Work) → (if is_some g then true else not (is_empty is)) ≡ true → 0 < potentials is * turn_bound + turn_weight g
    by (Some t) is h = omega arith
    by None [] h = absurd (no_true h)
    by None (i ∷ is) h = omega (arith, potential_some i)

module _ (h m : Shared) (w units : ℕ) (a b : Life) where
  -- a turn began, and was carried on
  pub picked_after : (k : Shared) (r : Picked) (c : Life) → BeginsTurn h m w true a b → PicksLife m k w units r b c → PicksLife h k w units r a c
  picked_after k r c begun p = record {
    picks = picks_from units r (life_seen h w a) (life_seen m w b) (life_seen k w c) begun.same p.picks;
    fine = p.fine;
    lighter = λ e. omega (arith, begun.lighter refl, p.lighter (ready_turn b.turn begun.turn));
    counted = omega (arith, begun.counted, p.counted);
  }
    where
      ready_turn : (o : Option Turn) → is_some o ≡ true → (if is_some (option_map (going_of m w b) o) then true else not (is_empty (works_of m w b))) ≡ true
      ready_turn None e = absurd (no_true e)
      ready_turn (Some t) e = refl

  -- none began
  pub picked_idle : BeginsTurn h m w false a b → PicksLife h m w units picked.Idle a b
  picked_idle begun =
      let queue : works_of m w b ≡ [] = ap (map (work_of (trees_in m))) (begun.empty refl) in
      let going : option_map (going_of m w b) b.turn ≡ None = no_going b.turn begun.turn in
      let none : weight (life_seen m w b) ≡ 0 = λ j. potentials (queue j) * turn_bound + turn_weight (going j) in
      record {
        picks = idle (life_seen h w a) (life_seen m w b) begun.same going queue;
        fine = begun.fine;
        lighter = λ e. omega (arith, none, ready_weighs (life_seen h w a) e);
        counted = begun.counted;
      }
    where
      no_going : (o : Option Turn) → is_some o ≡ false → option_map (going_of m w b) o ≡ None
      no_going None e = refl
      no_going (Some t) e = absurd (no_true (sym e))

-- what holds where memory was there
pub ok_of : {T E : Type 0} (P : T → Type 0) (r : Result T E) (x : T) → r ≡ Ok x → IfOk r P → P x
ok_of P r x e h = subst (λ q. IfOk q P) e h

pub ok_on : {T E : Type 0} (Q : Type 0) (r : Result T E) (x : T) → r ≡ Ok x → OnOk r Q → Q
ok_on Q r x e h = subst (λ q. OnOk q Q) e h

-- the turn of a life has no part in what is kept
pub keeps_turn : (w : ℕ) (h k : Shared) (a c b : Life) → c.widget.id.index ≡ a.widget.id.index → c.slot ≡ a.slot → c.accepted ≡ a.accepted → KeepsLife w h k c b → KeepsLife w h k a b
keeps_turn w h k a c b number slot accepted keeps = record { codes = keeps.codes; cells = keeps.cells; page = keeps.page; host = keeps.host; holds = keeps.holds; number = keeps.number ∙ number; slot = keeps.slot ∙ slot; accepted = keeps.accepted ∙ accepted }
