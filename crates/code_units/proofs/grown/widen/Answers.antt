use Rattle.std.proofs.Common.{◌≡◌, ◌∙◌, ◌++◌, ◌+◌, [], ◌∷◌, ap, sym, arith, take, set, append_assoc}
use Rattle.std.proofs.lemmas.List.{take_more, take_more_set}
use Rattle.code_units.proofs.grown.widen.Goals as goal

pub loop-i-preserved : goal.loop-i-preserved
loop-i-preserved c =
    let us = c.loop-i.units in
    let bytes = c.args.bytes.now in
    let i = c.loop-i.i in
    let from = c.args.from in
    let b = c.from.result in
    let next : from + (i + 1) ≡ (from + i) + 1 = omega arith in
    ap (λ n. take n (set us (from + i) b)) next
    ∙ take_more_set us (from + i) b (omega arith)
    ∙ ap (λ xs. xs ++ (b ∷ [])) c.loop-i.invariant
    ∙ append_assoc (take from c.args.units.now) (take i bytes) (b ∷ [])
    ∙ ap (λ xs. take from c.args.units.now ++ xs) (ap (λ u. take i bytes ++ (u ∷ [])) c.from.ensures ∙ sym (take_more bytes i 0 c.loop-i-test.true))
