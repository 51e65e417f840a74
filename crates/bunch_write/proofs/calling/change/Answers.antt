use Rattle.std.specs.Prelude.{Ok}
use Rattle.native_image.proofs.Reading.{writes_of_reads}
use Rattle.permitted_table.specs.declared.native.WriteNative.TheVariants as method
use Rattle.bunch_write.proofs.Calls.{of_method}
use Rattle.bunch_write.proofs.calling.change.Goals as goal

pub returns-in-Append : goal.returns-in-Append
returns-in-Append c = of_method c.args.shared.now c.append.new.shared c.args.widget.now c.args.widget.now c.args.meter.now c.append.new.meter c.args.bunch.now.cell c.args.bunch.now.nodes.now c.args.first.now c.args.second.now c.append.result c.args.method method.Append c.in-Append.is c.append.ensures

pub returns-in-Remove : goal.returns-in-Remove
returns-in-Remove c = of_method c.args.shared.now c.remove.new.shared c.args.widget.now c.args.widget.now c.args.meter.now c.remove.new.meter c.args.bunch.now.cell c.args.bunch.now.nodes.now c.args.first.now c.args.second.now c.remove.result c.args.method method.Remove c.in-Remove.is c.remove.ensures

pub returns-in-Empty : goal.returns-in-Empty
returns-in-Empty c = of_method c.args.shared.now c.empty.new.shared c.args.widget.now c.args.widget.now c.args.meter.now c.empty.new.meter c.args.bunch.now.cell c.args.bunch.now.nodes.now c.args.first.now c.args.second.now (Ok c.empty.result) c.args.method method.Empty c.in-Empty.is c.empty.ensures

pub returns-in-Replace : goal.returns-in-Replace
returns-in-Replace c = of_method c.args.shared.now c.replace.new.shared c.args.widget.now c.args.widget.now c.args.meter.now c.replace.new.meter c.args.bunch.now.cell c.args.bunch.now.nodes.now c.args.first.now c.args.second.now c.replace.result c.args.method method.Replace c.in-Replace.is c.replace.ensures

pub returns-in-SetValue : goal.returns-in-SetValue
returns-in-SetValue c = of_method c.args.shared.now c.set_value.new.shared c.args.widget.now c.args.widget.now c.args.meter.now c.set_value.new.meter c.args.bunch.now.cell c.args.bunch.now.nodes.now c.args.first.now c.args.second.now c.set_value.result c.args.method method.SetValue c.in-SetValue.is c.set_value.ensures

pub returns-in-SetStyle : goal.returns-in-SetStyle
returns-in-SetStyle c = of_method c.args.shared.now c.set_style.new.shared c.args.widget.now c.args.widget.now c.args.meter.now c.set_style.new.meter c.args.bunch.now.cell c.args.bunch.now.nodes.now c.args.first.now c.args.second.now c.set_style.result c.args.method method.SetStyle c.in-SetStyle.is c.set_style.ensures

pub returns-in-SetClass : goal.returns-in-SetClass
returns-in-SetClass c = of_method c.args.shared.now c.set_class.new.shared c.args.widget.now c.args.widget.now c.args.meter.now c.set_class.new.meter c.args.bunch.now.cell c.args.bunch.now.nodes.now c.args.first.now c.args.second.now c.set_class.result c.args.method method.SetClass c.in-SetClass.is c.set_class.ensures

pub returns-in-SetTitle : goal.returns-in-SetTitle
returns-in-SetTitle c = of_method c.args.shared.now c.set_title.new.shared c.args.widget.now c.args.widget.now c.args.meter.now c.set_title.new.meter c.args.bunch.now.cell c.args.bunch.now.nodes.now c.args.first.now c.args.second.now c.set_title.result c.args.method method.SetTitle c.in-SetTitle.is c.set_title.ensures

pub returns-in-SetCheck : goal.returns-in-SetCheck
returns-in-SetCheck c = of_method c.args.shared.now c.set_check.new.shared c.args.widget.now c.args.widget.now c.args.meter.now c.set_check.new.meter c.args.bunch.now.cell c.args.bunch.now.nodes.now c.args.first.now c.args.second.now c.set_check.result c.args.method method.SetCheck c.in-SetCheck.is c.set_check.ensures

pub returns-in-SetEnabled : goal.returns-in-SetEnabled
returns-in-SetEnabled c = of_method c.args.shared.now c.set_enabled.new.shared c.args.widget.now c.args.widget.now c.args.meter.now c.set_enabled.new.meter c.args.bunch.now.cell c.args.bunch.now.nodes.now c.args.first.now c.args.second.now c.set_enabled.result c.args.method method.SetEnabled c.in-SetEnabled.is c.set_enabled.ensures

pub returns-in-Focus : goal.returns-in-Focus
returns-in-Focus c = of_method c.args.shared.now c.focus.new.shared c.args.widget.now c.focus.new.widget c.args.meter.now c.focus.new.meter c.args.bunch.now.cell c.args.bunch.now.nodes.now c.args.first.now c.args.second.now (Ok c.focus.result) c.args.method method.Focus c.in-Focus.is c.focus.ensures

pub returns-in-Blur : goal.returns-in-Blur
returns-in-Blur c = of_method c.args.shared.now c.blur.new.shared c.args.widget.now c.blur.new.widget c.args.meter.now c.blur.new.meter c.args.bunch.now.cell c.args.bunch.now.nodes.now c.args.first.now c.args.second.now (Ok c.blur.result) c.args.method method.Blur c.in-Blur.is c.blur.ensures

pub returns-in-On : goal.returns-in-On
returns-in-On c = of_method c.args.shared.now c.listen.new.shared c.args.widget.now c.listen.new.widget c.args.meter.now c.listen.new.meter c.args.bunch.now.cell c.args.bunch.now.nodes.now c.args.first.now c.args.second.now c.listen.result c.args.method method.On c.in-On.is c.listen.ensures

pub returns-in-Off : goal.returns-in-Off
returns-in-Off c = of_method c.args.shared.now c.hush.new.shared c.args.widget.now c.hush.new.widget c.args.meter.now c.hush.new.meter c.args.bunch.now.cell c.args.bunch.now.nodes.now c.args.first.now c.args.second.now c.hush.result c.args.method method.Off c.in-Off.is c.hush.ensures

pub returns-in-Fire : goal.returns-in-Fire
returns-in-Fire c = of_method c.args.shared.now c.args.shared.now c.args.widget.now c.args.widget.now c.args.meter.now c.fire.new.meter c.args.bunch.now.cell c.args.bunch.now.nodes.now c.args.first.now c.args.second.now c.fire.result c.args.method method.Fire c.in-Fire.is (writes_of_reads c.args.shared.now c.args.shared.now c.args.widget.now c.args.meter.now c.fire.new.meter _ c.fire.result c.fire.ensures)

pub returns-in-Each : goal.returns-in-Each
returns-in-Each c = of_method c.args.shared.now c.each.new.shared c.args.widget.now c.args.widget.now c.args.meter.now c.each.new.meter c.args.bunch.now.cell c.args.bunch.now.nodes.now c.args.first.now c.args.second.now c.each.result c.args.method method.Each c.in-Each.is c.each.ensures

pub returns-in-SetMark : goal.returns-in-SetMark
returns-in-SetMark c = of_method c.args.shared.now c.set_mark.new.shared c.args.widget.now c.set_mark.new.widget c.args.meter.now c.set_mark.new.meter c.args.bunch.now.cell c.args.bunch.now.nodes.now c.args.first.now c.args.second.now c.set_mark.result c.args.method method.SetMark c.in-SetMark.is c.set_mark.ensures

pub returns-in-Protect : goal.returns-in-Protect
returns-in-Protect c = of_method c.args.shared.now c.protect.new.shared c.args.widget.now c.protect.new.widget c.args.meter.now c.protect.new.meter c.args.bunch.now.cell c.args.bunch.now.nodes.now c.args.first.now c.args.second.now c.protect.result c.args.method method.Protect c.in-Protect.is c.protect.ensures
