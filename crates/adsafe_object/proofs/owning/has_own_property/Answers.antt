use Rattle.std.proofs.Common.{ℕ, List, sym, ap, ◌∙◌, is_some}
use Rattle.std.specs.Prelude.{◌&&◌}
use Rattle.code_units.specs.Permitted.{is_permitted}
use Rattle.widget_meaning.specs.Values.{Truth, Value}
use Rattle.widget_meaning.specs.OwnState.{State}
use Rattle.widget_meaning.specs.Plan.{Plan}
use Rattle.widget_meaning.specs.Costs.{give}
use Rattle.widget_meaning.specs.Properties.{own_property}
use Rattle.js_image.specs.Image.{image, seen}
use Rattle.adsafe_object.specs.Names.{text_plan}
use Rattle.adsafe_object.proofs.Receiving.{confined_here, on_other, on_own, on_plain, receiver_fine, receiver_within}
use Rattle.adsafe_object.proofs.owning.has_own_property.Goals as goal

abbrev told : State → Value → List ℕ → Plan
told s o t = give (Truth (is_some (own_property s o t) && is_permitted t)) s

pub returns-then-is_plain_call : goal.returns-then-is_plain_call
returns-then-is_plain_call c = confined_here c.args.w.index c.args.store.now _ _ (λ fs r node d confined.
    on_plain c.args.w.index c.args.store.now.cells c.args.this.now (image fs r c.args.w.index c.args.store.now) _ (sym c.is_plain_call.ensures ∙ c.if-is_plain_call.true)) tt (λ f. f)

pub returns-then-not-is_object : goal.returns-then-not-is_object
returns-then-not-is_object c = confined_here c.args.w.index c.args.store.now _ _ (λ fs r node d confined.
    on_other c.args.w.index c.args.store.now.cells c.args.this.now (image fs r c.args.w.index c.args.store.now) _ (sym (c.is_object.ensures.object c.args.w.index c.args.store.now.cells) ∙ c.if-not-is_object.true)) tt (λ f. f)

pub returns-in-None : goal.returns-in-None
returns-in-None c = confined_here c.args.w.index c.args.store.now _ _ (λ fs r node d confined.
    let s = image fs r c.args.w.index c.args.store.now in
    let o = seen c.args.w.index c.args.store.now.cells c.args.this.now in
    on_own c.args.w.index c.args.store.now.cells c.args.this.now s _ (sym c.is_plain_call.ensures ∙ c.if-is_plain_call.false) (sym (c.is_object.ensures.object c.args.w.index c.args.store.now.cells) ∙ c.if-not-is_object.false)
    ∙ c.in_ok-primitive_text.ensures c.args.w.index c.args.store.now.cells s (told s o)
    ∙ ap (λ x. text_plan x s (told s o)) c.in-None.is) tt (λ f. f)

pub returns-in-Some : goal.returns-in-Some
returns-in-Some c = confined_here c.args.w.index c.args.store.now _ _ (λ fs r node d confined.
    let s = image fs r c.args.w.index c.args.store.now in
    let o = seen c.args.w.index c.args.store.now.cells c.args.this.now in
    on_own c.args.w.index c.args.store.now.cells c.args.this.now s _ (sym c.is_plain_call.ensures ∙ c.if-is_plain_call.false) (sym (c.is_object.ensures.object c.args.w.index c.args.store.now.cells) ∙ c.if-not-is_object.false)
    ∙ c.in_ok-primitive_text.ensures c.args.w.index c.args.store.now.cells s (told s o)
    ∙ ap (λ x. text_plan x s (told s o)) c.in-Some.is
    ∙ ap (λ b. give (Truth b) s) (sym (c.shows.ensures fs r c.args.w.index confined (receiver_fine c.args.w.index c.args.store.now.cells c.args.this.now c.requires (sym c.is_plain_call.ensures ∙ c.if-is_plain_call.false))))) tt (λ f. f)

pub shows-requires : goal.shows-requires
shows-requires c = receiver_within c.args.w.index c.args.store.now.cells c.args.this.now c.requires
