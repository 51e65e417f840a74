use Rattle.std.proofs.Common.{[], ◌∷◌}
use Rattle.std.specs.Prelude.{Ok}
use Rattle.widget_meaning.specs.BunchReads.{read_method, show}
use Rattle.native_image.specs.Handed.{numbers, sees}
use Rattle.native_image.proofs.Reading.{reads_same}
use Rattle.bunch_read.proofs.Calls.{of_method}
use Rattle.bunch_read.proofs.Reading.{others_show}
use Rattle.bunch_read.proofs.calling.read.Goals as goal

pub returns-in-Query : goal.returns-in-Query
returns-in-Query c = of_method c.args.shared.now c.query.new.shared c.args.widget.now c.args.meter.now c.query.new.meter c.args.list.now c.args.first.now c.query.result c.in-Query.is c.query.ensures

pub returns-in-GetValue : goal.returns-in-GetValue
returns-in-GetValue c = of_method c.args.shared.now c.get_value.new.shared c.args.widget.now c.args.meter.now c.get_value.new.meter c.args.list.now c.args.first.now c.get_value.result c.in-GetValue.is c.get_value.ensures

pub returns-in-GetValues : goal.returns-in-GetValues
returns-in-GetValues c = of_method c.args.shared.now c.get_values.new.shared c.args.widget.now c.args.meter.now c.get_values.new.meter c.args.list.now c.args.first.now c.get_values.result c.in-GetValues.is c.get_values.ensures

pub returns-in-GetStyle : goal.returns-in-GetStyle
returns-in-GetStyle c = of_method c.args.shared.now c.get_style.new.shared c.args.widget.now c.args.meter.now c.get_style.new.meter c.args.list.now c.args.first.now c.get_style.result c.in-GetStyle.is c.get_style.ensures

pub returns-in-GetCheck : goal.returns-in-GetCheck
returns-in-GetCheck c = of_method c.args.shared.now c.args.shared.now c.args.widget.now c.args.meter.now c.get_check.new.meter c.args.list.now c.args.first.now (Ok c.get_check.result) c.in-GetCheck.is c.get_check.ensures

pub returns-in-Count : goal.returns-in-Count
returns-in-Count c = of_method c.args.shared.now c.args.shared.now c.args.widget.now c.args.meter.now c.count.new.meter c.args.list.now c.args.first.now (Ok c.count.result) c.in-Count.is c.count.ensures

pub returns-in-GetParent : goal.returns-in-GetParent
returns-in-GetParent c = of_method c.args.shared.now c.get_parent.new.shared c.args.widget.now c.args.meter.now c.get_parent.new.meter c.args.list.now c.args.first.now c.get_parent.result c.in-GetParent.is c.get_parent.ensures

pub show-requires-clause-other : goal.show-requires-clause-other
show-requires-clause-other c = c.in_default.not-GetValue

pub returns-in_default : goal.returns-in_default
returns-in_default c =
    let h = c.args.shared.now in
    let v = c.args.widget.now in
    let ns = numbers h v c.args.list.now in
    let vs = sees h v c.args.first.now ∷ [] in
    let d = c.in_default in
    reads_same h v c.show.new.shared c.args.meter.now c.show.new.meter (λ d s. read_method c.args.method ns vs s) (λ d s. show c.args.method ns s) c.show.result
    (λ fs x b. others_show c.args.method d.not-Explode d.not-Query d.not-GetValues d.not-GetStyle d.not-GetCheck d.not-Count d.not-GetParent ns vs _)
    c.show.ensures
