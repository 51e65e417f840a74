use Rattle.std.proofs.Common.{◌≡◌, refl, arith, length, Some}
use Rattle.std.specs.Prelude.{slice_get}
use Rattle.std.proofs.lemmas.Option.{slice_get_read}
use Rattle.slot_picks.proofs.Taking.{both_below, chains_on, ended_stands, next_at, next_some, next_spare, swap_few, swap_fine, swap_keeps, swap_seens}
use Rattle.slot_picks.proofs.slots.take_swap.Goals as goal

pub end_present-ended-requires : goal.end_present-ended-requires
end_present-ended-requires c =
    let ss = c.args.slots.now.items in
    let s = c.index_mut.result.now in
    let here : slice_get ss c.args.w ≡ Some s = slice_get_read ss (length ss) c.args.w s refl c.requires.there c.index_mut.ensures.value in
    omega (arith, c.requires.waits s here)

pub index-requires : goal.index-requires
index-requires c = omega (arith, c.requires.there, c.args.slots.now.ok.0)

pub present-next-requires : goal.present-next-requires
present-next-requires c =
    let ss = c.args.slots.now.items in
    let w = c.args.w in
    let s = c.index_mut.result.now in
    let t = c.end_present-ended.new.slot in
    let here : slice_get ss w ≡ Some s = slice_get_read ss (length ss) w s refl c.requires.there c.index_mut.ensures.value in
    next_some ss w s t c.index.result.now c.deref.result.now here c.index.ensures c.deref.ensures.value c.end_present-ended.ensures.lives (c.requires.waits s here)

pub index-requires-2 : goal.index-requires-2
index-requires-2 c =
    let ss = c.args.slots.now.items in
    let w = c.args.w in
    let s = c.index_mut.result.now in
    let t = c.end_present-ended.new.slot in
    let here : slice_get ss w ≡ Some s = slice_get_read ss (length ss) w s refl c.requires.there c.index_mut.ensures.value in
    let v = c.end_present-ended.result in
    let u = c.present-next.result in
    let e = c.end_present-ended.ensures in
    let next : slice_get t.lives.items 0 ≡ Some u = next_at ss w s t c.index.result.now c.deref.result.now here c.index.ensures c.deref.ensures.value u c.present-next.ensures in
    let below = both_below c.args.lives.now ss w v u s t here e.ended e.lives next e.name e.fuel c.requires.standing in
    omega (arith, below.0, c.args.lives.now.places.ok.0)

pub index-requires-3 : goal.index-requires-3
index-requires-3 c =
    let ss = c.args.slots.now.items in
    let w = c.args.w in
    let s = c.index_mut.result.now in
    let t = c.end_present-ended.new.slot in
    let here : slice_get ss w ≡ Some s = slice_get_read ss (length ss) w s refl c.requires.there c.index_mut.ensures.value in
    let v = c.end_present-ended.result in
    let u = c.present-next.result in
    let e = c.end_present-ended.ensures in
    let next : slice_get t.lives.items 0 ≡ Some u = next_at ss w s t c.index.result.now c.deref.result.now here c.index.ensures c.deref.ensures.value u c.present-next.ensures in
    let below = both_below c.args.lives.now ss w v u s t here e.ended e.lives next e.name e.fuel c.requires.standing in
    omega (arith, below.1, c.args.lives.now.places.ok.0)

pub swap_stands-requires-clause-standing : goal.swap_stands-requires-clause-standing
swap_stands-requires-clause-standing c =
    let ss = c.args.slots.now.items in
    let w = c.args.w in
    let s = c.index_mut.result.now in
    let t = c.end_present-ended.new.slot in
    let here : slice_get ss w ≡ Some s = slice_get_read ss (length ss) w s refl c.requires.there c.index_mut.ensures.value in
    let v = c.end_present-ended.result in
    let u = c.present-next.result in
    let e = c.end_present-ended.ensures in
    let next : slice_get t.lives.items 0 ≡ Some u = next_at ss w s t c.index.result.now c.deref.result.now here c.index.ensures c.deref.ensures.value u c.present-next.ensures in
    let below = both_below c.args.lives.now ss w v u s t here e.ended e.lives next e.name e.fuel c.requires.standing in
    let ps = c.args.lives.now.places.items in
    let a = c.index-2.result.now in
    let b = c.index-3.result.now in
    let ends : slice_get ps v ≡ Some a = slice_get_read ps (length ps) v a refl below.0 c.index-2.ensures in
    let comes : slice_get ps u ≡ Some b = slice_get_read ps (length ps) u b refl below.1 c.index-3.ensures in
    ended_stands c.args.lives.now ss w v u s t here e.ended e.lives next e.name e.fuel a b ends comes c.requires.fine c.requires.standing

pub swap_stands-requires-clause-spare : goal.swap_stands-requires-clause-spare
swap_stands-requires-clause-spare c =
    let ss = c.args.slots.now.items in
    let w = c.args.w in
    let s = c.index_mut.result.now in
    let t = c.end_present-ended.new.slot in
    let here : slice_get ss w ≡ Some s = slice_get_read ss (length ss) w s refl c.requires.there c.index_mut.ensures.value in
    let v = c.end_present-ended.result in
    let u = c.present-next.result in
    let e = c.end_present-ended.ensures in
    let next : slice_get t.lives.items 0 ≡ Some u = next_at ss w s t c.index.result.now c.deref.result.now here c.index.ensures c.deref.ensures.value u c.present-next.ensures in
    let below = both_below c.args.lives.now ss w v u s t here e.ended e.lives next e.name e.fuel c.requires.standing in
    let ps = c.args.lives.now.places.items in
    let a = c.index-2.result.now in
    let b = c.index-3.result.now in
    let ends : slice_get ps v ≡ Some a = slice_get_read ps (length ps) v a refl below.0 c.index-2.ensures in
    let comes : slice_get ps u ≡ Some b = slice_get_read ps (length ps) u b refl below.1 c.index-3.ensures in
    next_spare c.args.lives.now ss w v u s t here e.ended e.lives next e.name e.fuel a b ends comes c.requires.fine c.requires.standing

pub returns-clause-seens : goal.returns-clause-seens
returns-clause-seens c = swap_seens c.args.lives.now c.swap_stands.new.page c.swap_stands.ensures.nodes c.swap_stands.ensures.trees c.requires.fine

pub returns-clause-journal : goal.returns-clause-journal
returns-clause-journal c = refl

pub returns-clause-chains : goal.returns-clause-chains
returns-clause-chains c =
    let ss = c.args.slots.now.items in
    let w = c.args.w in
    let s = c.index_mut.result.now in
    let t = c.end_present-ended.new.slot in
    let here : slice_get ss w ≡ Some s = slice_get_read ss (length ss) w s refl c.requires.there c.index_mut.ensures.value in
    let v = c.end_present-ended.result in
    let u = c.present-next.result in
    let e = c.end_present-ended.ensures in
    let next : slice_get t.lives.items 0 ≡ Some u = next_at ss w s t c.index.result.now c.deref.result.now here c.index.ensures c.deref.ensures.value u c.present-next.ensures in
    chains_on c.args.lives.now ss w v u s t here e.ended e.lives next e.name e.fuel

pub returns-clause-fine : goal.returns-clause-fine
returns-clause-fine c = swap_fine c.args.lives.now c.swap_stands.new.page c.swap_stands.ensures.nodes c.swap_stands.ensures.trees c.requires.fine

pub returns-clause-few : goal.returns-clause-few
returns-clause-few c = swap_few c.args.lives.now c.swap_stands.new.page c.swap_stands.ensures.nodes c.swap_stands.ensures.trees c.requires.fine

pub returns-clause-stays : goal.returns-clause-stays
returns-clause-stays c =
    let ss = c.args.slots.now.items in
    let w = c.args.w in
    let s = c.index_mut.result.now in
    let t = c.end_present-ended.new.slot in
    let here : slice_get ss w ≡ Some s = slice_get_read ss (length ss) w s refl c.requires.there c.index_mut.ensures.value in
    let v = c.end_present-ended.result in
    let u = c.present-next.result in
    let e = c.end_present-ended.ensures in
    let next : slice_get t.lives.items 0 ≡ Some u = next_at ss w s t c.index.result.now c.deref.result.now here c.index.ensures c.deref.ensures.value u c.present-next.ensures in
    let below = both_below c.args.lives.now ss w v u s t here e.ended e.lives next e.name e.fuel c.requires.standing in
    let ps = c.args.lives.now.places.items in
    let a = c.index-2.result.now in
    let b = c.index-3.result.now in
    let ends : slice_get ps v ≡ Some a = slice_get_read ps (length ps) v a refl below.0 c.index-2.ensures in
    let comes : slice_get ps u ≡ Some b = slice_get_read ps (length ps) u b refl below.1 c.index-3.ensures in
    let x = c.swap_stands.ensures in
    swap_keeps c.args.lives.now ss w v u s t here e.ended e.lives next e.name e.fuel a b ends comes c.requires.fine c.requires.standing c.swap_stands.new.page x.exchanged x.nodes x.trees x.standing x.spare x.others_stand x.others_spare
