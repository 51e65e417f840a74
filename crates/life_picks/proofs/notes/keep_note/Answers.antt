use Rattle.std.proofs.Common.{◌≡◌, ◌+◌, ℕ, List, length, refl, sym, ap, ◌∙◌, subst, arith}
use Rattle.widget_meaning.specs.Costs.{pay, units_cost}
use Rattle.js_image.specs.Image.{image}
use Rattle.life_queue.specs.Lives.{trees_in}
use Rattle.life_queue.proofs.Keeps.{keeps_stored}
use Rattle.life_picks.proofs.Noted.{fine_noted, keeps_noted, own_noted, stops}
use Rattle.life_picks.proofs.notes.keep_note.Goals as goal

pub returns-then-cost-paid-clause-noted : goal.returns-then-cost-paid-clause-noted
returns-then-cost-paid-clause-noted c =
    sym (stops c.args.shared.now c.args.id.index c.args.id.small c.args.life.now c.requires.fine c.counts-paid.result c.counts-paid.ensures.paid c.args.text
    (omega (arith, c.if-cost-paid.true, c.cost_of-cost.ensures, ap (length {A = ℕ}) c.units.ensures)) c.counts-paid.ensures.units)

pub returns-in_err-push-in-Done-clause-kept : goal.returns-in_err-push-in-Done-clause-kept
returns-in_err-push-in-Done-clause-kept c =
    keeps_noted c.args.shared.now c.args.id.index c.args.life.now c.pay_units.new.store c.requires.rest c.requires.fine (c.in-Done.ensures.kept (trees_in c.args.shared.now)) c.push.new.self

pub returns-in_ok-push-in-Done-clause-kept : goal.returns-in_ok-push-in-Done-clause-kept
returns-in_ok-push-in-Done-clause-kept c =
    keeps_noted c.args.shared.now c.args.id.index c.args.life.now c.pay_units.new.store c.requires.rest c.requires.fine (c.in-Done.ensures.kept (trees_in c.args.shared.now)) c.push.new.self

pub returns-in_ok-push-in-Done-clause-fine : goal.returns-in_ok-push-in-Done-clause-fine
returns-in_ok-push-in-Done-clause-fine c =
    fine_noted c.args.shared.now c.args.id.index c.args.life.now c.pay_units.new.store c.requires.rest c.requires.fine (c.in-Done.ensures.kept (trees_in c.args.shared.now)) c.push.new.self

pub returns-in_ok-push-in-Done-clause-noted : goal.returns-in_ok-push-in-Done-clause-noted
returns-in_ok-push-in-Done-clause-noted c =
    let h = c.args.shared.now in
    let costs : c.cost_of-cost.result ≡ length c.args.text + 1 = c.cost_of-cost.ensures ∙ ap (λ (us : List ℕ). length us + 1) c.units.ensures in
    own_noted h c.args.id.index c.args.life.now c.pay_units.new.store c.requires.rest c.requires.fine (c.in-Done.ensures.kept (trees_in h)) c.push.new.self c.args.id.small c.counts-paid.result c.counts-paid.ensures.paid c.args.text
    (omega (arith, c.if-cost-paid.false, costs)) c.counts-paid.ensures.units c.in_ok-push-in-Done.ensures.items
    (λ fs r k. subst (λ (n : ℕ). pay (units_cost n) (image fs r c.args.id.index h.store) k ≡ k (image fs r c.args.id.index c.pay_units.new.store)) costs (c.in-Done.ensures.plan fs r k))

pub returns-in-Stop-clause-kept : goal.returns-in-Stop-clause-kept
returns-in-Stop-clause-kept c =
    keeps_stored c.args.id.index c.args.shared.now c.pay_units.new.store c.args.life.now c.args.life.now c.requires.fine.sound.holds (c.in-Stop.ensures.kept (trees_in c.args.shared.now)) (record { widget = refl; slot = refl; accepted = refl })
