use Rattle.std.proofs.Common.{ℕ, List, sym, ap, length}
use Rattle.widget_meaning.specs.NativeForms as forms
use Rattle.widget_meaning.specs.TextNatives.{made_of}
use Rattle.js_image.specs.Image.{image}
use Rattle.native_common.proofs.Meeting.{refines_same}
use Rattle.text_methods.proofs.making.make_of.Goals as goal

pub returns-clause-native : goal.returns-clause-native
returns-clause-native c =
    refines_same c.args.w.index c.args.store.now c.give_text.new.store (λ d s. forms.give_text (length c.args.t.now) (made_of c.args.which c.args.t.now) s) (λ d s. forms.give_text (length c.args.t.now) c.in_ok-text.text s) c.give_text.result c.args.meter.now c.give_text.new.meter
    (λ fs r d. ap (λ (t : List ℕ). forms.give_text (length c.args.t.now) t (image fs r c.args.w.index c.args.store.now)) (sym c.in_ok-text.ensures))
    (c.give_text.ensures (length c.args.t.now) c.text_len.ensures.counted)
