use Rattle.std.proofs.Common.{length, sym, refl}
use Rattle.std.proofs.lemmas.List.{length-map}
use Rattle.widget_meaning.specs.Costs.{give}
use Rattle.widget_meaning.specs.Plan.{charge}
use Rattle.widget_meaning.specs.Values.{Truth}
use Rattle.page_image.specs.Image.{number}
use Rattle.native_image.specs.Handed.{state}
use Rattle.native_image.proofs.Reading.{reads_by}
use Rattle.bunch_read.proofs.Reading.{small}
use Rattle.bunch_read.proofs.first.get_check.Goals as goal

pub returns : goal.returns
returns c =
    let h = c.args.shared.now in
    let v = c.args.widget.now in
    reads_by h v c.requires.sound h.store c.args.meter.now c.give_plain.new.meter
    _ _ c.give_plain.result c.give_plain.ensures.fires
    (λ fs x d. let t = state h v fs x in λ j. charge (length-map c.args.list.now (number h.page v.id.index) j) t (give (Truth (sym (c.is_checked.ensures t refl) j)) t))
    (c.give_plain.ensures.native v.id.index h.store (length c.args.list.now) (small (length c.args.list.now) (length c.args.list.now) refl c.requires.nodes.few))
