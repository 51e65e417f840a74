use Rattle.std.proofs.Common.{ℕ, List, ◌∙◌, subst}
use Rattle.widget_meaning.specs.NativeForms.{give_text}
use Rattle.native_common.specs.Refines.{Refines}
use Rattle.native_common.proofs.giving.give_units.Goals as goal

pub returns-clause-native : goal.returns-clause-native
returns-clause-native c = λ n e.
    subst (λ (t : List ℕ). Refines c.args.w.index c.args.store.now c.give_text.new.store c.args.meter.now c.give_text.new.meter (λ d s. give_text n t s) c.give_text.result)
    (c.in_ok-text.ensures ∙ c.in_ok-from_slice.ensures.items)
    (c.give_text.ensures n e)
