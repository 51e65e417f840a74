use Rattle.std.proofs.Common.{length, ap, ◌∙◌, Option, subst}
use Rattle.std.proofs.lemmas.Result.{IfOk-weaker}
use Rattle.serde_json.specs.Data as json
use Rattle.serde_json.specs.View.{view}
use Rattle.widget_meaning.specs.Values as meaning
use Rattle.widget_meaning.specs.Costs.{or_throw}
use Rattle.widget_meaning.specs.JsonValues.{from_json}
use Rattle.js_image.specs.Image.{image, seen}
use Rattle.js_image.proofs.Grown.{kept_same}
use Rattle.native_common.proofs.Meeting.{ok_refines_same}
use Rattle.json_text.specs.Reading.{Parses, read_plan}
use Rattle.json_text.proofs.Judged.{free_after, kept_after, refines_after}
use Rattle.json_text.proofs.Named.{refused_throws}
use Rattle.json_text.proofs.Wholes.{on_err}
use Rattle.json_text.proofs.reading.from_json.Goals as goal

pub returns-in_err-parsed-clause-memory : goal.returns-in_err-parsed-clause-memory
returns-in_err-parsed-clause-memory c = on_err c.from_residual.result (λ fs. kept_same fs c.args.w.index c.args.store.now c.parsed.new.store c.parsed.ensures.same)

pub returns-in-NotJson-clause-native : goal.returns-in-NotJson-clause-native
returns-in-NotJson-clause-native c =
    let s = c.args.store.now in
    let w = c.args.w.index in
    free_after w s c.parsed.new.store c.parsed.ensures.same _ _ c.args.meter.now (λ fs r node d.
    ap (λ v. from_json (seen w s.cells v) (image fs r w s)) c.in-Text.is
    ∙ ap (λ (o : Option json.Data). or_throw meaning.E4 o (image fs r w s) (λ x. read_plan (length c.in-Text.text) x (image fs r w s))) (subst (Parses c.in-Text.text) c.in-NotJson.is c.in_ok-parsed.ensures.found)) tt

pub returns-in-Refused-clause-native : goal.returns-in-Refused-clause-native
returns-in-Refused-clause-native c =
    let s = c.args.store.now in
    let w = c.args.w.index in
    free_after w s c.parsed.new.store c.parsed.ensures.same _ _ c.args.meter.now (λ fs r node d.
    ap (λ v. from_json (seen w s.cells v) (image fs r w s)) c.in-Text.is ∙ refused_throws c.in-Text.text (subst (Parses c.in-Text.text) c.in-Refused.is c.in_ok-parsed.ensures.found) (image fs r w s)) tt

pub returns-in-Value-clause-native : goal.returns-in-Value-clause-native
returns-in-Value-clause-native c =
    let s = c.args.store.now in
    let t = c.parsed.new.store in
    let w = c.args.w.index in
    let d = view c.in-Value.json in
    let n = length c.in-Text.text in
    refines_after w s t c.parsed.ensures.same c.read_value.new.store (λ i u. from_json (seen w s.cells c.args.v.now) u) c.read_value.result c.args.meter.now c.read_value.new.meter
    (ok_refines_same w t c.read_value.new.store (λ i u. from_json (seen w s.cells c.args.v.now) u) (λ i u. read_plan n d u) c.read_value.result c.args.meter.now c.read_value.new.meter
    (λ fs r i.
    ap (λ v. from_json (seen w s.cells v) (image fs r w t)) c.in-Text.is
    ∙ ap (λ (o : Option json.Data). or_throw meaning.E4 o (image fs r w t) (λ x. read_plan n x (image fs r w t))) (subst (Parses c.in-Text.text) c.in-Value.is c.in_ok-parsed.ensures.found))
    (IfOk-weaker c.read_value.result _ _ (λ o h. h n c.text_len.ensures.counted) c.read_value.ensures.native))

pub returns-in-Value-clause-memory : goal.returns-in-Value-clause-memory
returns-in-Value-clause-memory c = kept_after c.args.w.index c.args.store.now c.parsed.new.store c.parsed.ensures.same c.read_value.new.store c.read_value.result c.read_value.ensures.memory
