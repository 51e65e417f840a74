use Rattle.std.proofs.Common.{◌≡◌, ◌∙◌, ap, arith, false, refl, subst, sym, true}
use Rattle.slot_picks.proofs.Looping.{settled_shows}
use Rattle.slot_picks.specs.Feeding.{sum_of}
use Rattle.widget_host.specs.Housed.{IsHoused, chains, marked, seens, told}
use Rattle.widget_host.specs.Rounds.{in_round, one_round}
use Rattle.widget_host.proofs.Rounding.{GivesPosts}
use Rattle.widget_host.proofs.Rounding.{told_few}
use Rattle.widget_host.proofs.Staying.{host_then}
use Rattle.widget_host.proofs.Lived.{are_retired, lasts_of}
use Rattle.widget_host.proofs.Ways.{err_stops, lasts_twice, pick_wants, rounds_then, settled_from, settled_to, way_delivered, way_ended, way_here, way_others, way_settled}
use Rattle.widget_host.proofs.host.Host.rounds.Goals as goal

pub rounds-init : goal.rounds-init
rounds-init g c = record { housed = c.requires.housed; way = way_here c.args.slice c.args.self.now; first = λ m. (refl, refl); only = λ e. (refl, refl) }

pub returns-in_err-settle-clause-stays : goal.returns-in_err-settle-clause-stays
returns-in_err-settle-clause-stays g c = host_then c.args.self.now c.rounds.self c.settle.new.self c.rounds.invariant.way.stays c.settle.ensures.stays

pub returns-in_err-deliver-clause-stays : goal.returns-in_err-deliver-clause-stays
returns-in_err-deliver-clause-stays g c =
    host_then c.args.self.now c.settle.new.self c.deliver.new.self (host_then c.args.self.now c.rounds.self c.settle.new.self c.rounds.invariant.way.stays c.settle.ensures.stays) c.deliver.ensures.stays

pub returns-then-not-branch-clause-stays : goal.returns-then-not-branch-clause-stays
returns-then-not-branch-clause-stays g c =
    host_then c.args.self.now c.settle.new.self c.deliver.new.self (host_then c.args.self.now c.rounds.self c.settle.new.self c.rounds.invariant.way.stays c.settle.ensures.stays) c.deliver.ensures.stays

pub returns-in_err-settle-clause-passes : goal.returns-in_err-settle-clause-passes
returns-in_err-settle-clause-passes g c = let p = c.settle.ensures.passes in record {
  last = p.last;
  passes = rounds_then c.args.slice c.args.self.now c.rounds.self p.last c.rounds.invariant.way.passes p.picks;
  is = err_stops _ c.from_residual.result c.from_residual.ensures.0;
  wanted = λ e. pick_wants _ p.last c.settle.new.self p.is p.wanted;
}

pub returns-in_err-deliver-clause-passes : goal.returns-in_err-deliver-clause-passes
returns-in_err-deliver-clause-passes g c =
    let e = c.in_ok-settle.ensures in
    let way = way_settled c.args.slice c.args.self.now c.rounds.self c.settle.new.self c.rounds.invariant.way e.settled.went.dues e.chains c.settle.ensures.told e.given c.settle.ensures.stays e.passes in
    record {
      last = c.settle.new.self;
      passes = way.passes;
      is = err_stops _ c.from_residual-in_err-deliver.result c.from_residual-in_err-deliver.ensures.0;
      wanted = λ x. in_round (record { journal = c.deliver.ensures.journal; images = c.deliver.ensures.images; others = c.deliver.ensures.others });
    }

pub returns-then-not-branch-clause-rounds : goal.returns-then-not-branch-clause-rounds
returns-then-not-branch-clause-rounds g c =
    let e = c.in_ok-settle.ensures in
    let way = way_settled c.args.slice c.args.self.now c.rounds.self c.settle.new.self c.rounds.invariant.way e.settled.went.dues e.chains c.settle.ensures.told e.given c.settle.ensures.stays e.passes in
    let done = settled_shows (seens c.rounds.self) (seens c.settle.new.self) e.done e.settled.went.dues in
    let none : c.in_ok-deliver.field-0 ≡ false = c.if-not-branch.true in
    let still : seens c.deliver.new.self ≡ seens c.settle.new.self = (c.in_ok-deliver.ensures.still none).0 in
    way_ended c.args.slice c.args.self.now c.settle.new.self c.deliver.new.self way done (subst (λ b. GivesPosts b c.settle.new.self c.deliver.new.self) none c.in_ok-deliver.ensures.delivers)
    still c.deliver.ensures.chains (ap lasts_of e.chains ∙ lasts_twice (chains c.rounds.self) ∙ sym e.chains) c.deliver.ensures.stays

pub returns-then-not-branch-clause-ended : goal.returns-then-not-branch-clause-ended
returns-then-not-branch-clause-ended g c =
    let e = c.in_ok-settle.ensures in
    let way = way_settled c.args.slice c.args.self.now c.rounds.self c.settle.new.self c.rounds.invariant.way e.settled.went.dues e.chains c.settle.ensures.told e.given c.settle.ensures.stays e.passes in
    let done = settled_shows (seens c.rounds.self) (seens c.settle.new.self) e.done e.settled.went.dues in
    let none : c.in_ok-deliver.field-0 ≡ false = c.if-not-branch.true in
    let still : seens c.deliver.new.self ≡ seens c.settle.new.self = (c.in_ok-deliver.ensures.still none).0 in
    way_others c.args.slice c.args.self.now c.settle.new.self c.deliver.new.self way done still

pub returns-then-not-branch-clause-retired : goal.returns-then-not-branch-clause-retired
returns-then-not-branch-clause-retired g c = λ es all.
    let e = c.in_ok-settle.ensures in
    let way = way_settled c.args.slice c.args.self.now c.rounds.self c.settle.new.self c.rounds.invariant.way e.settled.went.dues e.chains c.settle.ensures.told e.given c.settle.ensures.stays e.passes in
    let lasts = c.deliver.ensures.chains ∙ e.chains ∙ c.rounds.invariant.way.lasts in
    are_retired c.args.self.now c.deliver.new.self (host_then c.args.self.now c.settle.new.self c.deliver.new.self way.stays c.deliver.ensures.stays) lasts (returns-then-not-branch-clause-ended g c) es all

pub returns-then-not-branch-clause-passes : goal.returns-then-not-branch-clause-passes
returns-then-not-branch-clause-passes g c =
    let e = c.in_ok-settle.ensures in
    let way = way_settled c.args.slice c.args.self.now c.rounds.self c.settle.new.self c.rounds.invariant.way e.settled.went.dues e.chains c.settle.ensures.told e.given c.settle.ensures.stays e.passes in
    record {
      last = c.deliver.new.self;
      passes = one_round way.passes c.deliver.ensures.images c.deliver.ensures.journal c.deliver.ensures.holds;
      is = λ x. refl;
      wanted = λ x. absurd (let both : true ≡ false = x in cc);
    }

pub returns-then-not-branch-clause-settled : goal.returns-then-not-branch-clause-settled
returns-then-not-branch-clause-settled g c =
    let e = c.in_ok-settle.ensures in
    let none : c.in_ok-deliver.field-0 ≡ false = c.if-not-branch.true in
    let still : seens c.deliver.new.self ≡ seens c.settle.new.self = (c.in_ok-deliver.ensures.still none).0 in
    λ empty.
    let first = c.rounds.invariant.only empty in
    let at_first = settled_from c.args.slice c.args.self.now c.rounds.self c.settle.new.self (g.C.Chooser.asks c.rounds.chooser) (g.C.Chooser.room c.rounds.chooser) (g.C.Chooser.asks c.args.chooser.now) (g.C.Chooser.room c.args.chooser.now) _ _
    first.0 (ap g.C.Chooser.asks first.1) (ap g.C.Chooser.room first.1) e.settled in
    settled_to c.args.slice c.args.self.now c.settle.new.self c.deliver.new.self _ _ _ _ c.deliver.ensures.chains still c.deliver.ensures.journal at_first

pub rounds-smaller : goal.rounds-smaller
unfolding told
rounds-smaller g c =
    let some : c.in_ok-deliver.field-0 ≡ true = c.if-not-branch.false in
    let more = c.in_ok-deliver.ensures.more some in
    let few = told_few c.deliver.new.self c.in_ok-deliver.ensures.whole in
    let same : sum_of (told c.settle.new.self) ≡ sum_of (told c.rounds.self) = ap sum_of c.settle.ensures.told in
    omega (arith, more, few, same)

pub rounds-preserved : goal.rounds-preserved
unfolding IsHoused
rounds-preserved g c =
    let e = c.in_ok-settle.ensures in
    let way = way_settled c.args.slice c.args.self.now c.rounds.self c.settle.new.self c.rounds.invariant.way e.settled.went.dues e.chains c.settle.ensures.told e.given c.settle.ensures.stays e.passes in
    let done = settled_shows (seens c.rounds.self) (seens c.settle.new.self) e.done e.settled.went.dues in
    let some : c.in_ok-deliver.field-0 ≡ true = c.if-not-branch.false in
    record {
      housed = (c.deliver.ensures.apart, λ unmarked. c.in_ok-deliver.ensures.whole);
      way = way_delivered c.args.slice c.args.self.now c.settle.new.self c.deliver.new.self way done (subst (λ b. GivesPosts b c.settle.new.self c.deliver.new.self) some c.in_ok-deliver.ensures.delivers)
          c.deliver.ensures.images c.deliver.ensures.others c.deliver.ensures.chains c.deliver.ensures.journal c.deliver.ensures.given c.deliver.ensures.holds c.deliver.ensures.stays;
      first = λ m. absurd (let both : false ≡ true = (e.marked (ap marked (c.rounds.invariant.first m).0 ∙ m)).0 in cc);
      only = λ empty. absurd (c.in_ok-deliver.ensures.listed some (way.stays.plan.channels ∙ empty));
    }
