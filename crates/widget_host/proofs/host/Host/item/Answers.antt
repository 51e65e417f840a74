use Rattle.std.proofs.Common.{◌≡◌, ℕ, false, true, List, [], ◌∷◌, ap, map}
use Rattle.std.proofs.lemmas.Result.{on_ok_weaker}
use Rattle.life_laws.specs.Life.{due, image}
use Rattle.life_laws.specs.Chains.{last_life}
use Rattle.widget_host.specs.Housed.{chains, dues_after, given, queued, seens, unqueued}
use Rattle.widget_host.proofs.Passed.{err_not_ok}
use Rattle.widget_host.proofs.Staying.{host_then, ok_then}
use Rattle.widget_host.proofs.host.Host.item.Goals as goal

pub returns-clause-done : goal.returns-clause-done
returns-clause-done g c =
    ok_then c.settle.result (map image (seens c.settle.new.self)) (map due (seens c.give.new.self)) (dues_after c.args.self.now c.args.item 0 (map due (seens c.args.self.now))) c.settle.ensures.done c.in_ok-give.ensures.gives.dues

pub returns-clause-settled : goal.returns-clause-settled
returns-clause-settled g c = on_ok_weaker c.settle.result (λ s. (c.give.new.self, c.in_ok-give.ensures.gives, s)) c.settle.ensures.settled

pub returns-clause-chains : goal.returns-clause-chains
returns-clause-chains g c =
    let lasts : List (List ℕ) → List (List ℕ) = map (λ vs. last_life vs ∷ []) in
    ok_then c.settle.result (chains c.settle.new.self) (lasts (chains c.give.new.self)) (lasts (chains c.args.self.now)) c.settle.ensures.chains (ap lasts c.in_ok-give.ensures.gives.chains)

pub returns-clause-given : goal.returns-clause-given
returns-clause-given g c = ok_then c.settle.result (given c.settle.new.self) (given c.give.new.self) _ c.settle.ensures.given c.in_ok-give.ensures.gives.given

pub returns-clause-stays : goal.returns-clause-stays
returns-clause-stays g c = host_then c.args.self.now c.give.new.self c.settle.new.self c.in_ok-give.ensures.stays c.settle.ensures.stays

pub returns-clause-marked : goal.returns-clause-marked
returns-clause-marked g c = λ is. absurd (let both : false ≡ true = (c.in_ok-give.ensures.marked is).0 in cc)

pub returns-clause-passes : goal.returns-clause-passes
returns-clause-passes g c = queued c.in_ok-give.ensures.gives c.settle.ensures.passes

pub returns-in_err-give-clause-passes : goal.returns-in_err-give-clause-passes
returns-in_err-give-clause-passes g c = unqueued (err_not_ok c.from_residual.result c.from_residual.ensures.0) c.give.ensures.images c.give.ensures.journal c.give.ensures.same
