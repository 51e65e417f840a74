use Rattle.std.proofs.Common.{[], ℕ, ◌∷◌, sym, ◌∙◌}
use Rattle.std.proofs.Common.{◌++◌}
use Rattle.std.proofs.lemmas.List.{map_more}
use Rattle.text_methods.proofs.PieceLists.{one_unit}
use Rattle.text_methods.proofs.splitting.one_by_one.Goals as goal

pub loop-i-preserved : goal.loop-i-preserved
loop-i-preserved c =
    c.in_ok-push_piece.ensures
    ∙ (λ j. c.loop-i.invariant j ++ one_unit c.args.t.now c.loop-i.i c.loop-i-test.true j ∷ [])
    ∙ sym (map_more (λ (u : ℕ). u ∷ []) c.args.t.now c.loop-i.i 0 c.loop-i-test.true)
