use Rattle.std.proofs.Common.{ap, ◌∙◌, length, true, false}
use Rattle.widget_meaning.specs.Values.{nth}
use Rattle.widget_meaning.specs.NativeForms as forms
use Rattle.widget_meaning.specs.TextNatives as texts
use Rattle.js_image.specs.Image.{all_seen, image, seen}
use Rattle.native_common.proofs.Meeting.{refines_same, ok_refines_same}
use Rattle.plain_natives.proofs.Exits.{nth_is, ok_at}
use Rattle.text_methods.specs.Choices as choices
use Rattle.text_methods.proofs.Made.{others_made}
use Rattle.text_methods.proofs.calling.text_method.Goals as goal

pub returns-in-CharAt-clause-native : goal.returns-in-CharAt-clause-native
returns-in-CharAt-clause-native c =
    ok_refines_same c.args.w.index c.args.store.now c.char_at.new.store (λ d s. texts.text_method c.args.which c.args.t.now (all_seen c.args.w.index c.args.store.now.cells c.args.args.now) s) (λ d s. texts.char_at c.args.t.now (seen c.args.w.index c.args.store.now.cells c.nth-first.result.now) s) c.char_at.result c.args.meter.now c.char_at.new.meter
    (λ fs r d. ap (λ x. texts.text_method x c.args.t.now (all_seen c.args.w.index c.args.store.now.cells c.args.args.now) (image fs r c.args.w.index c.args.store.now)) c.in-CharAt.is
    ∙ ap (λ v. texts.char_at c.args.t.now v (image fs r c.args.w.index c.args.store.now)) (nth_is c.args.w.index c.args.store.now.cells c.args.args.now 0 c.nth-first.result.now c.nth-first.ensures))
    c.char_at.ensures.native

pub returns-in-CharCodeAt-clause-native : goal.returns-in-CharCodeAt-clause-native
returns-in-CharCodeAt-clause-native c =
    refines_same c.args.w.index c.args.store.now c.args.store.now (λ d s. texts.text_method c.args.which c.args.t.now (all_seen c.args.w.index c.args.store.now.cells c.args.args.now) s) (λ d s. texts.char_code_at c.args.t.now (seen c.args.w.index c.args.store.now.cells c.nth-first.result.now) s) c.char_code_at.result c.args.meter.now c.char_code_at.new.meter
    (λ fs r d. ap (λ x. texts.text_method x c.args.t.now (all_seen c.args.w.index c.args.store.now.cells c.args.args.now) (image fs r c.args.w.index c.args.store.now)) c.in-CharCodeAt.is
    ∙ ap (λ v. texts.char_code_at c.args.t.now v (image fs r c.args.w.index c.args.store.now)) (nth_is c.args.w.index c.args.store.now.cells c.args.args.now 0 c.nth-first.result.now c.nth-first.ensures))
    (c.char_code_at.ensures c.args.w.index c.args.store.now)

pub returns-in-TextConcat-clause-native : goal.returns-in-TextConcat-clause-native
returns-in-TextConcat-clause-native c =
    ok_refines_same c.args.w.index c.args.store.now c.concat.new.store (λ d s. texts.text_method c.args.which c.args.t.now (all_seen c.args.w.index c.args.store.now.cells c.args.args.now) s) (λ d s. texts.text_concat c.args.t.now (all_seen c.args.w.index c.args.store.now.cells c.args.args.now) s) c.concat.result c.args.meter.now c.concat.new.meter
    (λ fs r d. ap (λ x. texts.text_method x c.args.t.now (all_seen c.args.w.index c.args.store.now.cells c.args.args.now) (image fs r c.args.w.index c.args.store.now)) c.in-TextConcat.is)
    c.concat.ensures.native

pub returns-in-IndexOf-clause-native : goal.returns-in-IndexOf-clause-native
returns-in-IndexOf-clause-native c =
    ok_at c.index_of.result c.args.w.index c.args.store.now c.args.meter.now c.index_of.new.meter (λ d s. texts.text_method c.args.which c.args.t.now (all_seen c.args.w.index c.args.store.now.cells c.args.args.now) s) (λ w s d r. texts.index_of c.args.t.now (seen w s.cells c.nth-first.result.now) (seen w s.cells c.nth-second.result.now) r)
    (λ fs r d. ap (λ x. texts.text_method x c.args.t.now (all_seen c.args.w.index c.args.store.now.cells c.args.args.now) (image fs r c.args.w.index c.args.store.now)) c.in-IndexOf.is
    ∙ ap (λ v. texts.index_of c.args.t.now v (nth 1 (all_seen c.args.w.index c.args.store.now.cells c.args.args.now)) (image fs r c.args.w.index c.args.store.now)) (nth_is c.args.w.index c.args.store.now.cells c.args.args.now 0 c.nth-first.result.now c.nth-first.ensures)
    ∙ ap (λ v. texts.index_of c.args.t.now (seen c.args.w.index c.args.store.now.cells c.nth-first.result.now) v (image fs r c.args.w.index c.args.store.now)) (nth_is c.args.w.index c.args.store.now.cells c.args.args.now 1 c.nth-second.result.now c.nth-second.ensures))
    c.index_of.ensures

pub returns-in-LastIndexOf-clause-native : goal.returns-in-LastIndexOf-clause-native
returns-in-LastIndexOf-clause-native c =
    ok_at c.last_index_of.result c.args.w.index c.args.store.now c.args.meter.now c.last_index_of.new.meter (λ d s. texts.text_method c.args.which c.args.t.now (all_seen c.args.w.index c.args.store.now.cells c.args.args.now) s) (λ w s d r. texts.last_index_of c.args.t.now (seen w s.cells c.nth-first.result.now) (seen w s.cells c.nth-second.result.now) r)
    (λ fs r d. ap (λ x. texts.text_method x c.args.t.now (all_seen c.args.w.index c.args.store.now.cells c.args.args.now) (image fs r c.args.w.index c.args.store.now)) c.in-LastIndexOf.is
    ∙ ap (λ v. texts.last_index_of c.args.t.now v (nth 1 (all_seen c.args.w.index c.args.store.now.cells c.args.args.now)) (image fs r c.args.w.index c.args.store.now)) (nth_is c.args.w.index c.args.store.now.cells c.args.args.now 0 c.nth-first.result.now c.nth-first.ensures)
    ∙ ap (λ v. texts.last_index_of c.args.t.now (seen c.args.w.index c.args.store.now.cells c.nth-first.result.now) v (image fs r c.args.w.index c.args.store.now)) (nth_is c.args.w.index c.args.store.now.cells c.args.args.now 1 c.nth-second.result.now c.nth-second.ensures))
    c.last_index_of.ensures

pub returns-in-TextSlice-clause-native : goal.returns-in-TextSlice-clause-native
returns-in-TextSlice-clause-native c =
    ok_refines_same c.args.w.index c.args.store.now c.cut.new.store (λ d s. texts.text_method c.args.which c.args.t.now (all_seen c.args.w.index c.args.store.now.cells c.args.args.now) s) (λ d s. choices.cut true c.args.t.now (seen c.args.w.index c.args.store.now.cells c.nth-first.result.now) (seen c.args.w.index c.args.store.now.cells c.nth-second.result.now) s) c.cut.result c.args.meter.now c.cut.new.meter
    (λ fs r d. ap (λ x. texts.text_method x c.args.t.now (all_seen c.args.w.index c.args.store.now.cells c.args.args.now) (image fs r c.args.w.index c.args.store.now)) c.in-TextSlice.is
    ∙ ap (λ v. texts.text_slice c.args.t.now v (nth 1 (all_seen c.args.w.index c.args.store.now.cells c.args.args.now)) (image fs r c.args.w.index c.args.store.now)) (nth_is c.args.w.index c.args.store.now.cells c.args.args.now 0 c.nth-first.result.now c.nth-first.ensures)
    ∙ ap (λ v. texts.text_slice c.args.t.now (seen c.args.w.index c.args.store.now.cells c.nth-first.result.now) v (image fs r c.args.w.index c.args.store.now)) (nth_is c.args.w.index c.args.store.now.cells c.args.args.now 1 c.nth-second.result.now c.nth-second.ensures))
    c.cut.ensures.native

pub returns-in-Substring-clause-native : goal.returns-in-Substring-clause-native
returns-in-Substring-clause-native c =
    ok_refines_same c.args.w.index c.args.store.now c.cut-in-Substring.new.store (λ d s. texts.text_method c.args.which c.args.t.now (all_seen c.args.w.index c.args.store.now.cells c.args.args.now) s) (λ d s. choices.cut false c.args.t.now (seen c.args.w.index c.args.store.now.cells c.nth-first.result.now) (seen c.args.w.index c.args.store.now.cells c.nth-second.result.now) s) c.cut-in-Substring.result c.args.meter.now c.cut-in-Substring.new.meter
    (λ fs r d. ap (λ x. texts.text_method x c.args.t.now (all_seen c.args.w.index c.args.store.now.cells c.args.args.now) (image fs r c.args.w.index c.args.store.now)) c.in-Substring.is
    ∙ ap (λ v. texts.substring c.args.t.now v (nth 1 (all_seen c.args.w.index c.args.store.now.cells c.args.args.now)) (image fs r c.args.w.index c.args.store.now)) (nth_is c.args.w.index c.args.store.now.cells c.args.args.now 0 c.nth-first.result.now c.nth-first.ensures)
    ∙ ap (λ v. texts.substring c.args.t.now (seen c.args.w.index c.args.store.now.cells c.nth-first.result.now) v (image fs r c.args.w.index c.args.store.now)) (nth_is c.args.w.index c.args.store.now.cells c.args.args.now 1 c.nth-second.result.now c.nth-second.ensures))
    c.cut-in-Substring.ensures.native

pub returns-in-Split-clause-native : goal.returns-in-Split-clause-native
returns-in-Split-clause-native c =
    ok_refines_same c.args.w.index c.args.store.now c.split.new.store (λ d s. texts.text_method c.args.which c.args.t.now (all_seen c.args.w.index c.args.store.now.cells c.args.args.now) s) (λ d s. texts.split c.args.t.now (seen c.args.w.index c.args.store.now.cells c.nth-first.result.now) s) c.split.result c.args.meter.now c.split.new.meter
    (λ fs r d. ap (λ x. texts.text_method x c.args.t.now (all_seen c.args.w.index c.args.store.now.cells c.args.args.now) (image fs r c.args.w.index c.args.store.now)) c.in-Split.is
    ∙ ap (λ v. texts.split c.args.t.now v (image fs r c.args.w.index c.args.store.now)) (nth_is c.args.w.index c.args.store.now.cells c.args.args.now 0 c.nth-first.result.now c.nth-first.ensures))
    c.split.ensures.native

pub returns-clause-native : goal.returns-clause-native
returns-clause-native c =
    let vs = all_seen c.args.w.index c.args.store.now.cells c.args.args.now in
    let d = c.in_default in
    ok_refines_same c.args.w.index c.args.store.now c.make_of.new.store (λ d s. texts.text_method c.args.which c.args.t.now vs s) (λ d s. forms.give_text (length c.args.t.now) (texts.made_of c.args.which c.args.t.now) s) c.make_of.result c.args.meter.now c.make_of.new.meter
    (λ fs r e. others_made c.args.which d.not-CharAt d.not-CharCodeAt d.not-TextConcat d.not-IndexOf d.not-LastIndexOf d.not-TextSlice d.not-Substring d.not-Split c.args.t.now vs (image fs r c.args.w.index c.args.store.now))
    c.make_of.ensures.native
