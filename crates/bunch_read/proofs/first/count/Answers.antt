use Rattle.std.proofs.Common.{length, refl, subst, sym, ◌∙◌, pos}
use Rattle.std.proofs.lemmas.List.{length-map}
use Rattle.js_values.specs.Operands.{IsPrimitive, plain}
use Rattle.widget_meaning.specs.Costs.{give}
use Rattle.widget_meaning.specs.Plan.{charge}
use Rattle.widget_meaning.specs.Values.{Num}
use Rattle.page_image.specs.Image.{number}
use Rattle.native_image.specs.Handed.{numbers, state}
use Rattle.native_image.proofs.Reading.{reads_by}
use Rattle.bunch_read.proofs.Reading.{small}
use Rattle.bunch_read.proofs.first.count.Goals as goal

pub count_value-value-requires : goal.count_value-value-requires
count_value-value-requires c = c.requires.nodes.few

pub give_plain-requires : goal.give_plain-requires
give_plain-requires c = record { primitive = subst IsPrimitive (sym c.count_value-value.ensures) tt }

pub returns : goal.returns
returns c =
    let h = c.args.shared.now in
    let v = c.args.widget.now in
    let ns = numbers h v c.args.list.now in
    let n = length-map c.args.list.now (number h.page v.id.index) in
    reads_by h v c.requires.sound h.store c.args.meter.now c.give_plain.new.meter
    (λ d t. charge (length ns) t (give (Num (pos (length ns))) t)) (λ d t. charge (length c.args.list.now) t (give (plain c.count_value-value.result) t)) c.give_plain.result c.give_plain.ensures.fires
    (λ fs x d. let t = state h v fs x in (λ j. charge (n j) t (give (Num (pos (n j))) t)) ∙ (λ j. charge (length c.args.list.now) t (give (plain (sym c.count_value-value.ensures j)) t)))
    (c.give_plain.ensures.native v.id.index h.store (length c.args.list.now) (small (length c.args.list.now) (length c.args.list.now) refl c.requires.nodes.few))
