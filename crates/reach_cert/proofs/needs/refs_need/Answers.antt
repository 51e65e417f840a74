use Rattle.std.proofs.Common.{◌++◌, ◌∷◌, [], max, Some, refl, sym, ap, ◌∙◌}
use Rattle.std.specs.Prelude.{option_map}
use Rattle.reach_cert.specs.Needs.{needed, all_needed}
use Rattle.reach_cert.specs.Words.{refs_in, with_front}
use Rattle.reach_cert.proofs.Enough.{mapped_some, mapped_none, needed_more}
use Rattle.reach_cert.proofs.Refs.{refs_more, refs_stop, refs_end, refs_none, rest_is}
use Rattle.reach_cert.proofs.needs.refs_need.Goals as goal

pub returns-in_err-need : goal.returns-in_err-need
returns-in_err-need c =
    let i = c.each.invariant in
    c.from_residual.ensures
    ∙ ap (option_map (all_needed c.args.own.now))
    (refs_stop c.args.text.now c.each.rest.now c.in-Some.more.now c.word_end-end.result i.0 i.2 c.in-Some.ensures c.word_end-end.ensures.end (mapped_none (needed c.args.own.now) _ c.in_err-need.ensures))

pub each-preserved : goal.each-preserved
each-preserved c =
    let i = c.each.invariant in
    let told = mapped_some (needed c.args.own.now) _ _ c.in_ok-need.ensures in
    let more = c.in-Some.more.now in (
      i.0 ++ told.0 ∷ [],
      c.max-most.ensures ∙ (λ j. max (told.2 j) (i.1 j)) ∙ sym (needed_more c.args.own.now i.0 told.0),
      refs_more c.args.text.now c.each.rest.now more c.word_end-end.result i.0 _ told.0 i.2 c.in-Some.ensures c.word_end-end.ensures.end told.1 refl
          ∙ ap (λ t. with_front (i.0 ++ told.0 ∷ []) (refs_in t)) (sym (rest_is more c.word_end-end.result)),
    )

pub returns-then-not-is_empty : goal.returns-then-not-is_empty
returns-then-not-is_empty c =
    let i = c.each.invariant in
    ap (option_map (all_needed c.args.own.now)) (refs_none c.args.text.now c.each.rest.now i.0 i.2 (sym c.if-not-is_empty.true ∙ c.is_empty.ensures) c.in_default.ensures)

pub returns : goal.returns
returns c =
    let i = c.each.invariant in
    ap Some i.1 ∙ ap (option_map (all_needed c.args.own.now)) (refs_end c.args.text.now c.each.rest.now i.0 i.2 (sym c.if-not-is_empty.false ∙ c.is_empty.ensures))
