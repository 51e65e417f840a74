use Rattle.std.proofs.Common.{◌≡◌, ℕ, ◌-◌, ◌≤◌, arith, refl, subst, sym}
use Rattle.native_image.specs.Image.{Outside}
use Rattle.life_laws.specs.Life.{Fixed, Runs}
use Rattle.life_laws.proofs.Runs.{runs_none}
use Rattle.turn_steps.specs.Steps.{IsStepped}
use Rattle.turn_steps.specs.Turning.{FineTurn, forests, turn_in}
use Rattle.turn_steps.proofs.Kept.{keeps_on, keeps_same}
use Rattle.turn_steps.proofs.Strided.{runs_on}
use Rattle.turn_steps.proofs.Came.{ran_ended, ran_fine, ran_short}
use Rattle.turn_steps.proofs.running.run_turn.Goals as goal

pub steps-init : goal.steps-init
steps-init c =
    let h = c.args.shared.now in
    let v = c.args.widget.now in
    let t = c.args.turn.now in
    let none : 0 ≡ t.left - t.left = omega arith in record {
      less = omega arith;
      runs = λ f x. subst (λ (n : ℕ). Runs c.args.units n (turn_in x h v f t) (turn_in x h v f t)) none (runs_none c.args.units (turn_in x h v f t));
      widget = c.requires.widget;
      turn = c.requires.turn;
      kept = record { turn = keeps_same (forests h) v.id.index h.store h.page v.around c.requires.widget.sound.holds; number = refl; codes = refl };
    }

pub move_on-requires-clause-turn : goal.move_on-requires-clause-turn
move_on-requires-clause-turn c = subst (λ (n : ℕ). FineTurn c.steps.shared n c.steps.turn) (sym c.steps.invariant.kept.number) c.steps.invariant.turn

pub short-requires : goal.short-requires
short-requires c =
    let inv = c.steps.invariant in
    let k = c.args.units in
    let t = c.args.turn.now in
    let at = c.steps.turn in
    let s = c.move_on.new.turn in
    let old = c.args.shared.now in
    let mid = c.steps.shared in
    let new = c.move_on.new.shared in
    let v = c.args.widget.now in
    let u = c.move_on.new.widget in
    omega (arith, c.in_ok-is_short.ensures.stepped.spends, inv.less)

pub steps-preserved : goal.steps-preserved
steps-preserved c =
    let inv = c.steps.invariant in
    let k = c.args.units in
    let t = c.args.turn.now in
    let at = c.steps.turn in
    let s = c.move_on.new.turn in
    let old = c.args.shared.now in
    let mid = c.steps.shared in
    let new = c.move_on.new.shared in
    let v = c.args.widget.now in
    let u = c.move_on.new.widget in
    let m = subst (λ (n : ℕ). IsStepped n mid new c.steps.widget u at s c.in_ok-is_short.is_short) c.units_left-rest.ensures c.in_ok-is_short.ensures.stepped in
    let less : s.left ≤ t.left = omega (arith, m.spends, inv.less) in
    let on = λ (f : Fixed) (x : Outside). runs_on k t.left (turn_in x old v f t) (turn_in x mid c.steps.widget f at) (turn_in x new u f s) (inv.runs f x) (m.strides x) refl m.spends inv.less in
    let all = keeps_on old mid new v c.steps.widget u inv.kept c.move_on.ensures.kept in
    record {
      less = less;
      runs = on;
      widget = c.in_ok-is_short.ensures.fine;
      turn = subst (λ (n : ℕ). FineTurn new n s) all.number m.fine;
      kept = all;
    }

pub steps-smaller : goal.steps-smaller
steps-smaller c = c.in_ok-is_short.ensures.stepped.nearer c.if-is_short.false

pub returns-in_err-is_short-clause-kept : goal.returns-in_err-is_short-clause-kept
returns-in_err-is_short-clause-kept c =
    let inv = c.steps.invariant in
    let k = c.args.units in
    let t = c.args.turn.now in
    let at = c.steps.turn in
    let s = c.move_on.new.turn in
    let old = c.args.shared.now in
    let mid = c.steps.shared in
    let new = c.move_on.new.shared in
    let v = c.args.widget.now in
    let u = c.move_on.new.widget in
    let all = keeps_on old mid new v c.steps.widget u inv.kept c.move_on.ensures.kept in
    all

pub returns-then-is_short-clause-ran : goal.returns-then-is_short-clause-ran
returns-then-is_short-clause-ran c =
    let inv = c.steps.invariant in
    let k = c.args.units in
    let t = c.args.turn.now in
    let at = c.steps.turn in
    let s = c.move_on.new.turn in
    let old = c.args.shared.now in
    let mid = c.steps.shared in
    let new = c.move_on.new.shared in
    let v = c.args.widget.now in
    let u = c.move_on.new.widget in
    let m = subst (λ (n : ℕ). IsStepped n mid new c.steps.widget u at s c.in_ok-is_short.is_short) c.units_left-rest.ensures c.in_ok-is_short.ensures.stepped in
    let less : s.left ≤ t.left = omega (arith, m.spends, inv.less) in
    let on = λ (f : Fixed) (x : Outside). runs_on k t.left (turn_in x old v f t) (turn_in x mid c.steps.widget f at) (turn_in x new u f s) (inv.runs f x) (m.strides x) refl m.spends inv.less in
    let is = c.if-is_short.true in
    λ f x. ran_short k old new v u t s less c.short.result c.short.ensures.cut c.short.ensures.stop f x (on f x)
    (λ ge. m.cut is (omega (arith, ge, m.spends, inv.less)) x) (λ lt. m.stop is (omega (arith, lt, m.spends, inv.less)) x)

pub returns-then-is_short-clause-fine : goal.returns-then-is_short-clause-fine
returns-then-is_short-clause-fine c =
    let inv = c.steps.invariant in
    let k = c.args.units in
    let t = c.args.turn.now in
    let at = c.steps.turn in
    let s = c.move_on.new.turn in
    let old = c.args.shared.now in
    let mid = c.steps.shared in
    let new = c.move_on.new.shared in
    let v = c.args.widget.now in
    let u = c.move_on.new.widget in
    let m = subst (λ (n : ℕ). IsStepped n mid new c.steps.widget u at s c.in_ok-is_short.is_short) c.units_left-rest.ensures c.in_ok-is_short.ensures.stepped in
    let less : s.left ≤ t.left = omega (arith, m.spends, inv.less) in
    let on = λ (f : Fixed) (x : Outside). runs_on k t.left (turn_in x old v f t) (turn_in x mid c.steps.widget f at) (turn_in x new u f s) (inv.runs f x) (m.strides x) refl m.spends inv.less in
    ran_fine k old new v u t s less c.short.result c.short.ensures.cut c.short.ensures.stop m.fine

pub returns-then-is_short-clause-kept : goal.returns-then-is_short-clause-kept
returns-then-is_short-clause-kept c =
    let inv = c.steps.invariant in
    let k = c.args.units in
    let t = c.args.turn.now in
    let at = c.steps.turn in
    let s = c.move_on.new.turn in
    let old = c.args.shared.now in
    let mid = c.steps.shared in
    let new = c.move_on.new.shared in
    let v = c.args.widget.now in
    let u = c.move_on.new.widget in
    let all = keeps_on old mid new v c.steps.widget u inv.kept c.move_on.ensures.kept in
    all

pub returns-clause-ran : goal.returns-clause-ran
returns-clause-ran c =
    let inv = c.steps.invariant in
    λ f x.
    ran_ended c.args.units c.args.shared.now c.steps.shared c.args.widget.now c.steps.widget c.args.turn.now c.steps.turn inv.less c.ended-how.result c.ended-how.new.turn.left c.ended-how.ensures.left c.ended-how.new.turn f x
    (inv.runs f x) (c.ended-how.ensures.out x c.steps.shared c.steps.widget) c.ended-how.ensures.due

pub returns-clause-fine : goal.returns-clause-fine
returns-clause-fine c = c.ended-how.ensures.fine c.steps.shared c.steps.widget (subst (λ (n : ℕ). FineTurn c.steps.shared n c.steps.turn) (sym c.steps.invariant.kept.number) c.steps.invariant.turn)
