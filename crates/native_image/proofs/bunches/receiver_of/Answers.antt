use Rattle.std.proofs.Common.{ap, sym, ◌∙◌}
use Rattle.std.specs.Option.{option_and_then}
use Rattle.std.proofs.lemmas.Result.{IfOk-weaker}
use Rattle.widget_meaning.specs.OwnState.{bunch_nodes, kind_of}
use Rattle.native_image.specs.Image.{beside, image}
use Rattle.native_image.proofs.Nodes.{receiver_fine, receiver_none, receiver_some}
use Rattle.native_image.proofs.bunches.receiver_of.Goals as goal

pub returns-then-is_plain_call-clause-read : goal.returns-then-is_plain_call-clause-read
returns-then-is_plain_call-clause-read c = λ fs x l b. ap (option_and_then (λ v. bunch_nodes (kind_of (image fs x c.args.w.index (beside c.args.store.now c.args.page.now l b)) v))) (receiver_none c.args.w.index c.args.store.now.cells c.args.this.now (sym c.is_plain_call.ensures ∙ c.if-is_plain_call.true))

pub bunch_of-requires-clause-fine : goal.bunch_of-requires-clause-fine
bunch_of-requires-clause-fine c = receiver_fine c.args.w.index c.args.store.now.cells c.args.this.now (sym c.is_plain_call.ensures ∙ c.if-is_plain_call.false) c.requires.receiver

pub returns-clause-read : goal.returns-clause-read
returns-clause-read c = IfOk-weaker c.bunch_of.result _ _ (λ o h. λ fs x l b. ap (option_and_then (λ v. bunch_nodes (kind_of (image fs x c.args.w.index (beside c.args.store.now c.args.page.now l b)) v))) (receiver_some c.args.w.index c.args.store.now.cells c.args.this.now (sym c.is_plain_call.ensures ∙ c.if-is_plain_call.false)) ∙ h fs x l b) c.bunch_of.ensures.read
