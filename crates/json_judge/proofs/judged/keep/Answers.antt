use Rattle.std.proofs.Common.{List, [], ◌∷◌, ◌++◌, ap, subst, sym, ◌∙◌}
use Rattle.json_judge.specs.Verdicts.{AreTold}
use Rattle.json_judge.specs.declared.judging.Verdict.{Verdict}
use Rattle.json_judge.proofs.Told.{told_more}
use Rattle.json_judge.proofs.judged.keep.Goals as goal

pub returns : goal.returns
returns c =
    let pushed = c.push_reserved.ensures.items ∙ ap (λ (l : List Verdict). l ++ c.args.verdict ∷ []) c.reserve.ensures.items in
    subst (λ (l : List Verdict). AreTold c.intern.new.self l) (sym pushed)
    (told_more c.args.texts.now c.intern.new.self c.args.verdicts.now.items c.args.text.now c.args.verdict c.in_ok-intern.field-0 c.requires.told c.requires.new c.in_ok-intern.ensures.ok c.requires.verdict)
