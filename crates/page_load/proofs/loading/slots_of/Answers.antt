use Rattle.std.proofs.Common.{◌≡◌, length, map, ap, arith, ◌∙◌}
use Rattle.slot_picks.specs.declared.slots.Slot.{Slot}
use Rattle.slot_picks.specs.Lives.{chains_of}
use Rattle.page_load.specs.Homes.{fuels_of, names_of}
use Rattle.page_load.specs.Loads.{singles}
use Rattle.page_load.proofs.Growing.{chains_more, few_more, few_none, fuels_more, names_more, specs_all}
use Rattle.page_load.proofs.loading.slots_of.Goals as goal

pub slots-init : goal.slots-init
slots-init c = record {
  names = ap (map (λ (s : Slot). s.name)) c.in_ok-slots.ensures.items;
  fuels = ap (map (λ (s : Slot). s.fuel)) c.in_ok-slots.ensures.items;
  few = few_none c.in_ok-slots.slots.items c.in_ok-slots.ensures.items;
  chains = ap chains_of c.in_ok-slots.ensures.items;
}

pub slots-preserved : goal.slots-preserved
slots-preserved c =
    let inv = c.slots.invariant in
    let e = c.in_ok-slot_of.ensures in
    let old = c.slots.slots.items in
    let new = c.push.new.self.items in
    let s = c.in_ok-slot_of.field-0 in
    let x = c.index-specs-w.result in
    let specs = c.args.specs.now in
    let after = c.in_ok-push.ensures.items in
    record {
      names = names_more specs c.slots.w x c.slots-test.true c.index-specs-w.is old new s inv.names e.name after;
      fuels = fuels_more specs c.slots.w x c.slots-test.true c.index-specs-w.is old new s inv.fuels e.fuel after;
      few = few_more old new s inv.few e.few after;
      chains = chains_more old new c.slots.w s inv.chains e.lives after;
    }

pub returns-clause-names : goal.returns-clause-names
returns-clause-names c = c.slots.invariant.names ∙ ap names_of (specs_all c.args.specs.now c.slots.w c.slots-test.false)

pub returns-clause-fuels : goal.returns-clause-fuels
returns-clause-fuels c = c.slots.invariant.fuels ∙ ap fuels_of (specs_all c.args.specs.now c.slots.w c.slots-test.false)

pub returns-clause-few : goal.returns-clause-few
returns-clause-few c = c.slots.invariant.few

pub returns-clause-chains : goal.returns-clause-chains
returns-clause-chains c = c.slots.invariant.chains ∙ ap (singles 0) (let e : c.slots.w ≡ length c.args.specs.now = omega (arith, c.slots-test.false, c.slots.auto.w-end) in e)
