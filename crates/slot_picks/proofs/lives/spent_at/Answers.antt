use Rattle.std.proofs.Common.{◌≡◌, ◌∙◌, ap, refl, arith, Some, length}
use Rattle.std.specs.Prelude.{slice_get}
use Rattle.std.proofs.lemmas.Option.{slice_get_read}
use Rattle.life_laws.specs.Life.{Seen, image}
use Rattle.life_laws.proofs.Crowds.{same_some}
use Rattle.slot_picks.specs.Places.{lent}
use Rattle.slot_picks.proofs.Others.{seen_life, seens_at}
use Rattle.slot_picks.proofs.Picking.{fine_here}
use Rattle.slot_picks.proofs.lives.spent_at.Goals as goal

pub spent_of-requires : goal.spent_of-requires
spent_of-requires c =
    let ls = c.args.lives.now.places.items in
    let at : slice_get ls c.args.v ≡ Some c.index.result.now = slice_get_read ls (length ls) c.args.v c.index.result.now refl c.requires.there c.index.ensures in
    record { fine = (lent c.args.lives.now.shared c.index.result.now, c.args.v, fine_here c.args.lives.now.shared c.args.v ls c.index.result.now at (c.requires.accepted c.index.result.now at) c.requires.fine.fine) }

pub returns : goal.returns
returns c =
    let h = c.args.lives.now.shared in
    let ls = c.args.lives.now.places.items in
    let v = c.args.v in
    let at : slice_get ls v ≡ Some c.index.result.now = slice_get_read ls (length ls) v c.index.result.now refl c.requires.there c.index.ensures in
    λ s e. c.spent_of.ensures (lent h c.index.result.now) v ∙ ap (λ (x : Seen). (image x).spent) (same_some _ _ s (seens_at h 0 v v ls c.index.result.now (omega arith) at ∙ ap Some (seen_life h v c.index.result.now (c.requires.accepted c.index.result.now at))) e)
