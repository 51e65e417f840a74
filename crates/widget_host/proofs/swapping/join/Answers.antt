use Rattle.std.proofs.Common.{length, refl}
use Rattle.std.proofs.lemmas.Option.{slice_get_read}
use Rattle.life_laws.specs.Chains.{joins}
use Rattle.slot_picks.specs.declared.slots.Slot.{Slot}
use Rattle.widget_host.proofs.Sets.{map_on, map_still, on_err}
use Rattle.widget_host.proofs.swapping.join.Goals as goal

pub returns-clause-joins : goal.returns-clause-joins
returns-clause-joins c =
    let ss = c.args.slots.now.items in
    map_on (λ (s : Slot). s.lives.items) (joins c.args.v) ss c.args.w _ c.index_mut.result.now (slice_get_read ss (length ss) c.args.w c.index_mut.result.now refl c.requires c.index_mut.ensures.value) c.in_ok-push.ensures.items

pub returns-in_err-push-clause-same : goal.returns-in_err-push-clause-same
returns-in_err-push-clause-same c =
    let ss = c.args.slots.now.items in
    on_err c.from_residual.result (map_still (λ (s : Slot). s.lives.items) ss c.args.w _ c.index_mut.result.now (slice_get_read ss (length ss) c.args.w c.index_mut.result.now refl c.requires c.index_mut.ensures.value) c.in_err-push.ensures.items)

pub returns-in_err-push-clause-names : goal.returns-in_err-push-clause-names
returns-in_err-push-clause-names c =
    let ss = c.args.slots.now.items in
    map_still (λ (s : Slot). s.name) ss c.args.w _ c.index_mut.result.now (slice_get_read ss (length ss) c.args.w c.index_mut.result.now refl c.requires c.index_mut.ensures.value) refl

pub returns-in_err-push-clause-fuels : goal.returns-in_err-push-clause-fuels
returns-in_err-push-clause-fuels c =
    let ss = c.args.slots.now.items in
    map_still (λ (s : Slot). s.fuel) ss c.args.w _ c.index_mut.result.now (slice_get_read ss (length ss) c.args.w c.index_mut.result.now refl c.requires c.index_mut.ensures.value) refl

pub returns-clause-names : goal.returns-clause-names
returns-clause-names c =
    let ss = c.args.slots.now.items in
    map_still (λ (s : Slot). s.name) ss c.args.w _ c.index_mut.result.now (slice_get_read ss (length ss) c.args.w c.index_mut.result.now refl c.requires c.index_mut.ensures.value) refl

pub returns-clause-fuels : goal.returns-clause-fuels
returns-clause-fuels c =
    let ss = c.args.slots.now.items in
    map_still (λ (s : Slot). s.fuel) ss c.args.w _ c.index_mut.result.now (slice_get_read ss (length ss) c.args.w c.index_mut.result.now refl c.requires c.index_mut.ensures.value) refl
