use Rattle.std.proofs.Common.{ap, sym, ◌∙◌}
use Rattle.reach_cert.specs.Words.{refs_in, with_front}
use Rattle.reach_cert.proofs.Refs.{refs_begin, refs_more, refs_stop, refs_end, refs_none, rest_is, rest_shorter}
use Rattle.reach_cert.proofs.words.read_refs.Goals as goal

pub each-init : goal.each-init
each-init c = refs_begin c.args.text.now _ c.in_ok-refs.ensures.items

pub each-preserved : goal.each-preserved
each-preserved c =
    refs_more c.args.text.now c.each.rest.now c.in-Some.more.now c.word_end-end.result c.each.refs.items c.push.new.self.items c.in-Some-2.target c.each.invariant c.in-Some.ensures c.word_end-end.ensures.end
    (sym c.in-Some-2.is ∙ c.in_ok-target.ensures) c.in_ok-push.ensures.items
    ∙ ap (λ t. with_front c.push.new.self.items (refs_in t)) (sym (rest_is c.in-Some.more.now c.word_end-end.result))

pub each-smaller : goal.each-smaller
each-smaller c = rest_shorter c.each.rest.now c.in-Some.more.now c.word_end-end.result c.in-Some.ensures

pub returns-in_default-2 : goal.returns-in_default-2
returns-in_default-2 c =
    refs_stop c.args.text.now c.each.rest.now c.in-Some.more.now c.word_end-end.result c.each.refs.items c.each.invariant c.in-Some.ensures c.word_end-end.ensures.end
    (sym c.in_default-2.is ∙ c.in_ok-target.ensures)

pub returns-then-not-is_empty : goal.returns-then-not-is_empty
returns-then-not-is_empty c = refs_none c.args.text.now c.each.rest.now c.each.refs.items c.each.invariant (sym c.if-not-is_empty.true ∙ c.is_empty.ensures) c.in_default.ensures

pub returns : goal.returns
returns c = refs_end c.args.text.now c.each.rest.now c.each.refs.items c.each.invariant (sym c.if-not-is_empty.false ∙ c.is_empty.ensures)
