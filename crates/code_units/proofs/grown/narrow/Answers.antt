use Rattle.std.proofs.Common.{◌≡◌, ◌∙◌, ◌++◌, ◌+◌, [], ◌∷◌, ap, sym, arith, take, get_or, set, append_assoc}
use Rattle.std.proofs.lemmas.List.{take_more, take_more_set}
use Rattle.code_units.proofs.grown.narrow.Goals as goal

pub loop-i-preserved : goal.loop-i-preserved
loop-i-preserved c =
    let us = c.loop-i.bytes in
    let bytes = c.args.units.now in
    let i = c.loop-i.i in
    let from = c.args.from in
    let b = get_or bytes i 0 in
    let next : from + (i + 1) ≡ (from + i) + 1 = omega arith in
    ap (λ n. take n (set us (from + i) b)) next
    ∙ take_more_set us (from + i) b (omega arith)
    ∙ ap (λ xs. xs ++ (b ∷ [])) c.loop-i.invariant
    ∙ append_assoc (take from c.args.bytes.now) (take i bytes) (b ∷ [])
    ∙ ap (λ xs. take from c.args.bytes.now ++ xs) (sym (take_more bytes i 0 c.loop-i-test.true))
