use Rattle.std.proofs.Common.{◌≡◌, ◌++◌, [], ◌∷◌, map, sym, ap, ◌∙◌, if◌then◌else◌}
use Rattle.query_grammar.specs.Finds.{has_number}
use Rattle.query_grammar.specs.Renumbering.{renumbered}
use Rattle.widget_meaning.specs.Trees.{parent}
use Rattle.page_image.specs.Image.{number}
use Rattle.page_image.proofs.Results.{ok_then}
use Rattle.bunch_read.specs.Finding.{added}
use Rattle.bunch_read.proofs.Opened.{above_own, parent_added, parent_apart}
use Rattle.bunch_read.proofs.finding.keep_parent.Goals as goal

pub returns-in-Some-clause-image : goal.returns-in-Some-clause-image
returns-in-Some-clause-image c = λ s there.
    let p = c.args.page.now in
    let w = c.args.w in
    ok_then c.keep_once.result (c.keep_once.new.found.items ≡ (if has_number c.args.found.now.items c.in-Some.above then c.args.found.now.items else c.args.found.now.items ++ c.in-Some.above ∷ [])) _
    (λ e. parent_added p w c.args.found.now.items c.keep_once.new.found.items c.in-Some.above c.requires.found (above_own p w c.parent.result c.in-Some.above c.in-Some.is c.parent.ensures.own) e
    ∙ ap (added (map (number p w) c.args.found.now.items)) (sym (ap (renumbered (number p w)) c.in-Some.is) ∙ c.parent.ensures.image ∙ ap (parent (number p w c.args.node)) (sym there)))
    c.keep_once.ensures.found

pub returns-in-Some-clause-found : goal.returns-in-Some-clause-found
returns-in-Some-clause-found c =
    let p = c.args.page.now in
    let w = c.args.w in
    ok_then c.keep_once.result (c.keep_once.new.found.items ≡ (if has_number c.args.found.now.items c.in-Some.above then c.args.found.now.items else c.args.found.now.items ++ c.in-Some.above ∷ [])) _
    (λ e. parent_apart p w c.args.found.now.items c.keep_once.new.found.items c.in-Some.above c.requires.found (above_own p w c.parent.result c.in-Some.above c.in-Some.is c.parent.ensures.own) e)
    c.keep_once.ensures.found

pub returns-in-None-clause-image : goal.returns-in-None-clause-image
returns-in-None-clause-image c = λ s there.
    let p = c.args.page.now in
    let w = c.args.w in
    ap (added (map (number p w) c.args.found.now.items)) (sym (ap (renumbered (number p w)) c.in-None.is) ∙ c.parent.ensures.image ∙ ap (parent (number p w c.args.node)) (sym there))
