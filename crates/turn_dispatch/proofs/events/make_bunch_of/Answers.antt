use Rattle.std.proofs.Common.{ℕ, List, [], ◌∷◌, ◌++◌, ap, ◌∙◌, subst}
use Rattle.std.proofs.lemmas.Result.{IfOk-weaker}
use Rattle.js_image.specs.declared.outcome.Made.{Made}
use Rattle.js_image.specs.Plans.{IsFineMade}
use Rattle.turn_dispatch.proofs.Born.{bunch_born, bunch_next}
use Rattle.native_image.proofs.Nodes.{one_apart, one_owned}
use Rattle.turn_dispatch.proofs.events.make_bunch_of.Goals as goal

pub make_bunch-requires-clause-own : goal.make_bunch-requires-clause-own
make_bunch-requires-clause-own c =
    one_owned c.args.page.now c.args.w.index c.args.node c.push.new.self.items (c.in_ok-push.ensures.items ∙ ap (λ (xs : List ℕ). xs ++ c.args.node ∷ []) c.new-nodes.ensures.items) c.requires.own

pub make_bunch-requires-clause-apart : goal.make_bunch-requires-clause-apart
make_bunch-requires-clause-apart c =
    one_apart c.args.node c.push.new.self.items (c.in_ok-push.ensures.items ∙ ap (λ (xs : List ℕ). xs ++ c.args.node ∷ []) c.new-nodes.ensures.items)

pub returns-clause-born : goal.returns-clause-born
returns-clause-born c = IfOk-weaker c.made.result _ _
    (λ e is.
    bunch_born c.args.w.index c.args.store.now c.make_bunch.new.store c.args.page.now c.args.node c.push.new.self.items (c.in_ok-push.ensures.items ∙ ap (λ (xs : List ℕ). xs ++ c.args.node ∷ []) c.new-nodes.ensures.items) _ e is
    (λ fs x l b k h. c.in_ok-make_bunch.ensures.plan fs x l b k h))
    c.made.ensures

pub returns-clause-next : goal.returns-clause-next
returns-clause-next c = IfOk-weaker c.made.result _ _
    (λ e is.
    bunch_next c.args.w.index c.args.store.now c.make_bunch.new.store c.args.page.now c.args.node c.push.new.self.items (c.in_ok-push.ensures.items ∙ ap (λ (xs : List ℕ). xs ++ c.args.node ∷ []) c.new-nodes.ensures.items) _ e is
    (λ fs x l b k h. c.in_ok-make_bunch.ensures.plan fs x l b k h))
    c.made.ensures

pub returns-clause-held : goal.returns-clause-held
returns-clause-held c = IfOk-weaker c.made.result _ _ (λ e is. subst (λ (m : Made). IsFineMade c.args.w.index c.make_bunch.new.store.cells m) is c.in_ok-make_bunch.ensures.fine) c.made.ensures
