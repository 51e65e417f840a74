use Rattle.std.proofs.Common.{◌≡◌, ℕ, ◌-◌, ◌<◌, ◌≤◌, ◌⊎◌, arith, ap, ◌∙◌, subst, sym}
use Rattle.widget_meaning.specs.Meaning.{run_plan}
use Rattle.js_values.specs.Answers.{out_of_fuel}
use Rattle.js_values.specs.Fuel.{Fuel}
use Rattle.js_flow.specs.Todo.{Moves}
use Rattle.js_flow.proofs.Moves.{strides_one}
use Rattle.turn_dispatch.specs.declared.level.Doing.{Doing}
use Rattle.turn_dispatch.specs.Held.{FineDoing}
use Rattle.turn_steps.specs.Steps.{IsMoved, IsStepped, doing_in, is_open, runs}
use Rattle.turn_steps.specs.Turning.{forests, state_in}
use Rattle.turn_steps.proofs.Strided.{begins_within}
use Rattle.turn_steps.proofs.moving.pass_on.Goals as goal

pub advance-requires-clause-open : goal.advance-requires-clause-open
advance-requires-clause-open c = ap is_open c.take-doing.ensures ∙ c.requires.open

pub advance-requires-clause-other : goal.advance-requires-clause-other
advance-requires-clause-other c = ap runs c.take-doing.ensures ∙ c.requires.other

pub advance-requires-clause-doing : goal.advance-requires-clause-doing
advance-requires-clause-doing c = subst (FineDoing (forests c.args.shared.now) c.args.widget.now.id.index c.args.shared.now.store c.args.shared.now.page) (sym c.take-doing.ensures) c.requires.turn.doing

pub overflow_sub-turn : goal.overflow_sub-turn
overflow_sub-turn c = omega (arith, c.in_ok-moved.ensures.moved.spends, c.left.ensures.value, ap (λ (q : Fuel). q.left) c.new-meter.ensures)

pub overflow_sub-turn-2 : goal.overflow_sub-turn-2
overflow_sub-turn-2 c = omega (arith, c.granted-had.ensures.less)

pub returns-clause-stepped : goal.returns-clause-stepped
returns-clause-stepped c =
    let h = c.args.shared.now in
    let v = c.args.widget.now in
    let t = c.args.turn.now in
    let new = c.advance.new.shared in
    let u = c.advance.new.widget in
    let a = c.advance.new.calls in
    let d = c.in_ok-moved.moved.doing in
    let m = subst (λ (q : Doing). IsMoved h new v u t.calls a c.new-meter.result c.advance.new.meter q c.in_ok-moved.moved) c.take-doing.ensures c.in_ok-moved.ensures.moved in
    let units = c.args.units in
    let had = c.granted-had.result in
    let all = t.left in
    let has = c.left.result in
    let meter : c.new-meter.result.left ≡ had = ap (λ (q : Fuel). q.left) c.new-meter.ensures in
    let left : has ≡ c.advance.new.meter.left = c.left.ensures.value in
    let within : has ≤ had = omega (arith, m.spends, left, meter) in
    let less = c.granted-had.ensures.less in
    let rest = all - (had - has) in
    let cost : c.new-meter.result.left - c.advance.new.meter.left ≡ all - rest = omega (arith, within, less, meter, left) in
    let begins : (0 < units) ⊎ (all - rest ≡ 0) = begins_within units had (all - rest) c.granted-had.ensures.none (omega (arith, within, less)) in
    subst (λ (q : Doing). IsStepped units h new v u t (record { doing = q; calls = a; left = rest }) c.in_ok-moved.moved.is_short) (sym c.put.ensures) (record {
      strides = λ x. strides_one units (all - rest) (state_in x h v t.calls.dispatches.items) (doing_in x h v t.calls t.doing) (doing_in x new u a d)
          (subst (λ (n : ℕ). Moves n (state_in x h v t.calls.dispatches.items) (doing_in x h v t.calls t.doing) (doing_in x new u a d)) cost (m.moves x)) begins;
      spends = omega arith;
      fine = record { doing = m.fine.0; levels = m.fine.1 };
      cut = λ e ge x.
          let f = m.short e in
          let no : units ≡ 0 = omega (arith, f.0, within, less, meter, left, ge) in
          let none : c.new-meter.result.left ≡ 0 = meter ∙ c.granted-had.ensures.none no in
          subst (λ (n : ℕ). run_plan n (doing_in x new u a d) ≡ out_of_fuel (state_in x new u a.dispatches.items) n) none (f.1 x);
      stop = λ e lt x.
          let f = m.short e in
          let some : had ≡ all = c.granted-had.ensures.all (omega (arith, lt)) in
          let full : c.new-meter.result.left ≡ rest = omega (arith, f.0, within, less, meter, left, some) in
          subst (λ (n : ℕ). run_plan n (doing_in x new u a d) ≡ out_of_fuel (state_in x new u a.dispatches.items) n) full (f.1 x);
      nearer = λ e. omega (arith, m.nearer e, within, less, meter, left);
    })
