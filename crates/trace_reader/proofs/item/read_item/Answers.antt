use Rattle.std.proofs.Common.{sym, ◌∙◌, rules}
use Rattle.std.specs.Result.{IsErrOf}
use Rattle.serde_json.specs.View.{view}
use Rattle.json_shapes.specs.declared.fault.Misfit.TheVariants as misfit
use Rattle.trace_reader.proofs.ItemLemmas.{no_advance, no_swap}
use Rattle.trace_reader.proofs.item.read_item.Goals as goal

pub returns-in_err-read_advance-clause-misfit : goal.returns-in_err-read_advance-clause-misfit
returns-in_err-read_advance-clause-misfit c = λ err.
    let here : IsErrOf c.read_advance.result misfit.Shape = search rules in
    no_advance c.args.version c.args.names.now (view c.args.item.now) (sym c.has_key.ensures ∙ c.if-has_key.true) (c.read_advance.ensures.misfit here)

pub returns-then-version-ne2-clause-misfit : goal.returns-then-version-ne2-clause-misfit
returns-then-version-ne2-clause-misfit c = λ err.
    no_swap c.args.version c.args.names.now (view c.args.item.now) (sym c.has_key.ensures ∙ c.if-has_key.false) (sym c.has_key-2.ensures ∙ c.if-has_key-2.true) (λ to file two is. c.if-version-ne2.true two)

pub returns-in_err-to-clause-misfit : goal.returns-in_err-to-clause-misfit
returns-in_err-to-clause-misfit c = λ err.
    let here : IsErrOf c.read_swap.result misfit.Shape = search rules in
    no_swap c.args.version c.args.names.now (view c.args.item.now) (sym c.has_key.ensures ∙ c.if-has_key.false) (sym c.has_key-2.ensures ∙ c.if-has_key-2.true) (λ to file two is. c.read_swap.ensures.misfit here to file is)
