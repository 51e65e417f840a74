use Rattle.std.proofs.Common.{ℕ, List, sym, ap, ◌∙◌}
use Rattle.widget_meaning.specs.Values as meaning
use Rattle.widget_meaning.specs.Costs.{give}
use Rattle.widget_meaning.specs.Costs as costs
use Rattle.widget_meaning.specs.PrototypeNatives as prototypes
use Rattle.js_image.specs.Image.{image}
use Rattle.native_common.proofs.Meeting.{ends_same}
use Rattle.native_common.specs.Receivers.{receiver}
use Rattle.text_methods.proofs.Receivers.{called, fine_receiver}
use Rattle.text_methods.proofs.prototypes.function_to_string.Goals as goal

pub returns-in_ok-text-in_default : goal.returns-in_ok-text-in_default
returns-in_ok-text-in_default c =
    record {
      native = ends_same c.args.w.index c.args.store.now c.make_text.new.store (λ d s. prototypes.function_to_string (receiver c.args.w.index c.args.store.now.cells c.args.this.now) s) (λ d s. costs.make_text c.in_ok-text-in_default.text s (give (meaning.Text c.in_ok-text-in_default.text))) c.make_text.result
          (λ fs r d. called c.args.w.index c.args.store.now.cells c.args.this.now fs c.callee.result (image fs r c.args.w.index c.args.store.now) (sym c.is_plain_call.ensures ∙ c.if-is_plain_call.false) c.in_default.not-Nothing (c.callee.ensures.called fs r c.args.w.index (fine_receiver c.args.w.index c.args.store.now.cells c.args.this.now (sym c.is_plain_call.ensures ∙ c.if-is_plain_call.false) c.requires))
          ∙ ap (λ (u : List ℕ). costs.make_text u (image fs r c.args.w.index c.args.store.now) (give (meaning.Text u))) (sym c.in_ok-text-in_default.ensures))
          c.make_text.ensures;
      memory = tt;
    }
