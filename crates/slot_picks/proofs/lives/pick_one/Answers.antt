use Rattle.std.proofs.Common.{◌≡◌, ◌≤◌, ◌∙◌, refl, sym, ap, subst, arith, Some, length}
use Rattle.std.specs.Prelude.{IfSome, slice_get}
use Rattle.std.proofs.lemmas.Option.{slice_get_read}
use Rattle.std.proofs.lemmas.Result.{IfOk-weaker}
use Rattle.js_names.specs.Code.{trees_of}
use Rattle.life_queue.specs.Fine.{FineTurn, KeepsLife}
use Rattle.slot_picks.specs.declared.lives.Place.{Place}
use Rattle.slot_picks.specs.Places.{lent}
use Rattle.slot_picks.proofs.Keeping.{keeps_set}
use Rattle.slot_picks.proofs.Picking.{fews_here, fine_number, fines_here, length_set, number_here, on_ok, others_seen, picked_at, set_there, turn_after}
use Rattle.slot_picks.proofs.lives.pick_one.Goals as goal

pub pick_lent-requires-clause-fine : goal.pick_lent-requires-clause-fine
pick_lent-requires-clause-fine c =
    let h = c.args.lives.now.shared in
    let ls = c.args.lives.now.places.items in
    let a = c.index_mut.result.now in
    let at : slice_get ls c.args.v ≡ Some a = slice_get_read ls (length ls) c.args.v a refl c.requires.there c.index_mut.ensures.value in
    fine_number h c.args.v ls a at (c.requires.accepted a at) c.requires.fine.fine

pub returns-clause-picked : goal.returns-clause-picked
returns-clause-picked c =
    let h = c.args.lives.now.shared in
    let ls = c.args.lives.now.places.items in
    let a = c.index_mut.result.now in
    let at : slice_get ls c.args.v ≡ Some a = slice_get_read ls (length ls) c.args.v a refl c.requires.there c.index_mut.ensures.value in
    let few : length ls ≤ 32 = omega (arith, c.requires.fine.places) in
    IfOk-weaker c.pick_lent.result _ _
    (λ r p. picked_at h c.args.v ls a at (c.requires.accepted a at) c.requires.fine.fine c.pick_lent.new.shared c.args.k c.pick_lent.new.place c.requires.there few r c.pick_lent.ensures.kept p)
    c.pick_lent.ensures.picked

pub returns-clause-fine : goal.returns-clause-fine
returns-clause-fine c =
    let h = c.args.lives.now.shared in
    let ls = c.args.lives.now.places.items in
    let a = c.index_mut.result.now in
    let at : slice_get ls c.args.v ≡ Some a = slice_get_read ls (length ls) c.args.v a refl c.requires.there c.index_mut.ensures.value in
    let few : length ls ≤ 32 = omega (arith, c.requires.fine.places) in
    on_ok _ _ c.pick_lent.result
    (λ r p. record {
      places = length_set ls c.args.v c.pick_lent.new.place ∙ c.requires.fine.places;
      fine = fines_here h c.args.v ls a at (c.requires.accepted a at) c.requires.fine.fine c.pick_lent.new.shared c.args.k c.pick_lent.new.place c.requires.there few r c.pick_lent.ensures.kept p;
      short = c.requires.fine.short;
    })
    c.pick_lent.ensures.picked

pub returns-clause-few : goal.returns-clause-few
returns-clause-few c =
    let h = c.args.lives.now.shared in
    let ls = c.args.lives.now.places.items in
    let a = c.index_mut.result.now in
    let at : slice_get ls c.args.v ≡ Some a = slice_get_read ls (length ls) c.args.v a refl c.requires.there c.index_mut.ensures.value in
    let few : length ls ≤ 32 = omega (arith, c.requires.fine.places) in
    on_ok _ _ c.pick_lent.result
    (λ r p. fews_here h c.args.v ls a at (c.requires.accepted a at) c.requires.fine.fine c.pick_lent.new.shared c.args.k c.pick_lent.new.place c.requires.there few r c.pick_lent.ensures.kept p)
    c.pick_lent.ensures.picked

pub returns-clause-accepted : goal.returns-clause-accepted
returns-clause-accepted c =
    let ls = c.args.lives.now.places.items in
    let a = c.index_mut.result.now in
    let at : slice_get ls c.args.v ≡ Some a = slice_get_read ls (length ls) c.args.v a refl c.requires.there c.index_mut.ensures.value in
    λ l e. ap (λ (x : Place). x.life.accepted) (sym (set_there ls c.args.v a c.pick_lent.new.place l at e)) ∙ (c.pick_lent.ensures.kept.accepted ∙ c.requires.accepted a at)

pub returns-clause-length : goal.returns-clause-length
returns-clause-length c = length_set c.args.lives.now.places.items c.args.v c.pick_lent.new.place

pub returns-clause-others : goal.returns-clause-others
returns-clause-others c =
    let h = c.args.lives.now.shared in
    let ls = c.args.lives.now.places.items in
    let a = c.index_mut.result.now in
    let at : slice_get ls c.args.v ≡ Some a = slice_get_read ls (length ls) c.args.v a refl c.requires.there c.index_mut.ensures.value in
    let few : length ls ≤ 32 = omega (arith, c.requires.fine.places) in
    others_seen h c.args.v ls a at (c.requires.accepted a at) c.requires.fine.fine c.pick_lent.new.shared c.pick_lent.new.place c.requires.there few c.pick_lent.ensures.kept

pub returns-clause-stays : goal.returns-clause-stays
returns-clause-stays c =
    let h = c.args.lives.now.shared in
    let m = c.pick_lent.new.shared in
    let ls = c.args.lives.now.places.items in
    let a = c.index_mut.result.now in
    let b = c.pick_lent.new.place in
    let at : slice_get ls c.args.v ≡ Some a = slice_get_read ls (length ls) c.args.v a refl c.requires.there c.index_mut.ensures.value in
    let number : a.life.widget.id.index ≡ c.args.v = number_here h c.args.v ls a at (c.requires.accepted a at) c.requires.fine.fine in
    keeps_set c.args.lives.now _ c.args.v a b at refl (omega (arith, c.requires.fine.places)) (c.requires.accepted a at) c.pick_lent.ensures.root c.pick_lent.ensures.told
    (subst (λ i. KeepsLife i (lent h a) (lent m b) a.life b.life) number c.pick_lent.ensures.kept) c.pick_lent.ensures.rest
    (subst (λ i. IfSome b.life.turn (FineTurn (trees_of b.codes.items) i m.store m.page b.life.grant)) number
    (turn_after (lent h a) (lent m b) a.life.widget.id.index c.args.k a.life b.life c.pick_lent.result c.pick_lent.ensures.picked c.pick_lent.ensures.none))
