use Rattle.std.proofs.Common.{length, sym, ap, ◌∙◌}
use Rattle.std.specs.Prelude.{option_copied}
use Rattle.query_walks.proofs.Members.{first_has}
use Rattle.permitted_table.specs.declared.native.ReadNative.TheVariants.{GetValue}
use Rattle.widget_meaning.specs.BunchReads as means
use Rattle.page_image.specs.Image.{number}
use Rattle.native_image.specs.Handed.{numbers, state}
use Rattle.native_image.proofs.Reading.{reads_free, reads_same}
use Rattle.bunch_read.specs.Values.{value_plan}
use Rattle.bunch_read.proofs.Valued.{get_value_is, no_value}
use Rattle.bunch_read.proofs.texts.get_value.Goals as goal

pub give_value-requires-clause-own : goal.give_value-requires-clause-own
give_value-requires-clause-own c = c.requires.nodes.own c.in-Some.node.now (first_has c.args.list.now c.in-Some.node.now (sym c.first.ensures.value ∙ ap option_copied c.in-Some.is))

pub give_value-requires-clause-few : goal.give_value-requires-clause-few
give_value-requires-clause-few c = c.requires.nodes.few

pub returns-in-Some : goal.returns-in-Some
returns-in-Some c =
    let h = c.args.shared.now in
    let v = c.args.widget.now in
    let n = c.in-Some.node.now in
    reads_same h v c.give_value.new.shared c.args.meter.now c.give_value.new.meter (λ d s. means.show GetValue (numbers h v c.args.list.now) s) (λ d s. value_plan (length c.args.list.now) (means.value_of s (number h.page v.id.index n)) s) c.give_value.result
    (λ fs x d. get_value_is h.page v.id.index (state h v fs x) c.args.list.now n (sym c.first.ensures.value ∙ ap option_copied c.in-Some.is))
    c.give_value.ensures

pub returns-in-None : goal.returns-in-None
returns-in-None c =
    let h = c.args.shared.now in
    let v = c.args.widget.now in
    reads_free h v c.requires.sound c.args.meter.now (λ d s. means.show GetValue (numbers h v c.args.list.now) s) _ tt (λ w k. tt)
    (λ fs x d. no_value h.page v.id.index (state h v fs x) c.args.list.now (sym c.first.ensures.value ∙ ap option_copied c.in-None.is))
