use Rattle.std.proofs.Common.{◌≡◌, ℕ, ◌-◌, arith, ap, ◌∙◌, false, refl, subst, sym, true}
use Rattle.std.specs.Prelude.{IfOk}
use Rattle.js_flow.specs.Todo.{Moves}
use Rattle.natives.specs.Reach.{with_notes}
use Rattle.turn_dispatch.specs.declared.level.Doing.{Doing}
use Rattle.turn_dispatch.specs.Held.{FineDoing}
use Rattle.turn_dispatch.specs.Weights.{doing_free}
use Rattle.turn_steps.specs.Steps.{IsMoved, doing_in, is_open, runs}
use Rattle.turn_steps.specs.Turning.{forests, state_in}
use Rattle.turn_steps.proofs.Kept.{keeps_same}
use Rattle.turn_steps.proofs.Moved.{moves_is}
use Rattle.turn_steps.proofs.moving.advance.Goals as goal

no_true : false ≡ true → ⊥
no_true e = cc

pub carry-requires-clause-native : goal.carry-requires-clause-native
carry-requires-clause-native c = subst (λ (d : Doing). FineDoing (forests c.args.shared.now) c.args.widget.now.id.index c.args.shared.now.store c.args.shared.now.page d) c.in-Native.is c.requires.doing

pub begin-requires : goal.begin-requires
begin-requires c = (subst (λ (d : Doing). FineDoing (forests c.args.shared.now) c.args.widget.now.id.index c.args.shared.now.store c.args.shared.now.page d) c.in-Hears.is c.requires.doing).some

pub unreachable-requires : goal.unreachable-requires
unreachable-requires c = no_true (sym c.requires.other ∙ ap runs c.in-Runs.is)

pub unreachable-requires-in-Over : goal.unreachable-requires-in-Over
unreachable-requires-in-Over c = no_true (sym (ap is_open c.in-Over.is) ∙ c.requires.open)

pub unreachable-requires-in-Stop : goal.unreachable-requires-in-Stop
unreachable-requires-in-Stop c = no_true (sym (ap is_open c.in-Stop.is) ∙ c.requires.open)

pub returns-in-Native-clause-moved : goal.returns-in-Native-clause-moved
returns-in-Native-clause-moved c =
    subst (λ (d : Doing). IfOk c.carry.result (IsMoved c.args.shared.now c.carry.new.shared c.args.widget.now c.carry.new.widget c.args.calls.now c.carry.new.calls c.args.meter.now c.carry.new.meter d))
    (sym c.in-Native.is) c.carry.ensures.moved

pub returns-in_ok-doing-in-Hears-clause-moved : goal.returns-in_ok-doing-in-Hears-clause-moved
returns-in_ok-doing-in-Hears-clause-moved c =
    let h = c.args.shared.now in
    let v = c.args.widget.now in
    let b = c.in_ok-doing-in-Hears.ensures in
    let fine = subst (λ (d : Doing). FineDoing (forests h) v.id.index h.store h.page d) c.in-Hears.is c.requires.doing in
    let none : c.args.meter.now.left - c.args.meter.now.left ≡ 0 = omega arith in record {
      moves = λ x.
          subst (λ (n : ℕ). Moves n (state_in x h v c.args.calls.now.dispatches.items) (doing_in x h v c.args.calls.now c.args.doing) (doing_in x h v c.begin.new.calls c.in_ok-doing-in-Hears.doing)) (sym none)
          (moves_is 0 (state_in x h v c.args.calls.now.dispatches.items) _ _ _ _ (ap (λ (d : Doing). doing_in x h v c.args.calls.now d) c.in-Hears.is) refl
          (b.moves (forests h) (with_notes v.log.items v.posts.items x) h.store h.page v.around c.args.widget.now.id.small fine));
      spends = omega arith;
      fine = b.fine (forests h) h.store h.page fine c.requires.levels;
      short = λ e. absurd (no_true e);
      nearer = λ e. omega (arith, b.near, ap doing_free c.in-Hears.is);
    }

pub returns-in_ok-doing-in-Hears-clause-kept : goal.returns-in_ok-doing-in-Hears-clause-kept
returns-in_ok-doing-in-Hears-clause-kept c = record { turn = keeps_same (forests c.args.shared.now) c.args.widget.now.id.index c.args.shared.now.store c.args.shared.now.page c.args.widget.now.around c.requires.widget.sound.holds; number = refl; codes = refl }

pub returns-in_err-doing-in-Hears-clause-kept : goal.returns-in_err-doing-in-Hears-clause-kept
returns-in_err-doing-in-Hears-clause-kept c = record { turn = keeps_same (forests c.args.shared.now) c.args.widget.now.id.index c.args.shared.now.store c.args.shared.now.page c.args.widget.now.around c.requires.widget.sound.holds; number = refl; codes = refl }
