use Rattle.std.proofs.Common.{◌≡◌, ℕ, Some, map, true, false, ◌⊎◌}
use Rattle.std.specs.List.{fold}
use Rattle.page_tree.specs.declared.fault.PageFault.TheVariants as fault
use Rattle.page_tree.specs.Pages.{nodes, root, Replaces, ReplaceSteps, RefusesReplace}
use Rattle.widget_meaning.specs.Trees.{detached, moved, parent}
use Rattle.page_image.specs.Image.{number, forest}
use Rattle.page_image.specs.Targets.{may_come}
use Rattle.page_image.proofs.Calls.{are_nodes}
use Rattle.page_image.proofs.Pages.{is_node, all_stay, below_32}
use Rattle.page_image.proofs.Replacing.{replaced_image, replaced_allowed, replace_refused, replaced_keeps, replaced_others}
use Rattle.page_image.proofs.Results.{ok_then, ok_both, err_then, if_err_then}
use Rattle.page_image.proofs.Hosting.{replace_host}
use Rattle.page_image.proofs.changes.replace.Goals as goal

pub replace-requires-clause-node : goal.replace-requires-clause-node
replace-requires-clause-node c = is_node c.args.page.now c.args.widget c.args.node c.requires.own

pub replace-requires-clause-news : goal.replace-requires-clause-news
replace-requires-clause-news c = are_nodes c.args.page.now c.args.widget c.args.news.now c.requires.news

pub returns-clause-image : goal.returns-clause-image
returns-clause-image c =
    let old = c.args.page.now in
    let new = c.replace.new.self in
    let w = c.args.widget in
    let n = c.args.node in
    let ns = c.args.news.now in
    ok_both c.replace.result (Replaces (nodes old) (nodes new) (root old) n ns) (ReplaceSteps (nodes old) (nodes new) n ns) ((p : ℕ) → parent (number old w n) (forest old w) ≡ Some p → forest new w ≡ detached (fold (moved p (Some (number old w n))) (forest old w) (map (number old w) ns)) (number old w n))
    (replaced_image old new c.replace.ensures.roots w c.requires.home n c.requires.own ns c.requires.news) c.replace.ensures.done c.replace.ensures.steps

pub returns-clause-allowed : goal.returns-clause-allowed
returns-clause-allowed c =
    let old = c.args.page.now in
    let new = c.replace.new.self in
    let w = c.args.widget in
    ok_then c.replace.result (Replaces (nodes old) (nodes new) (root old) c.args.node c.args.news.now) (may_come (forest old w) (map (number old w) c.args.news.now) (number old w c.args.node) ≡ true)
    (replaced_allowed old new c.replace.ensures.roots w c.requires.home c.args.node c.requires.own c.args.news.now c.requires.news) c.replace.ensures.done

pub returns-clause-refused : goal.returns-clause-refused
returns-clause-refused c =
    let old = c.args.page.now in
    let w = c.args.widget in
    if_err_then c.replace.result (RefusesReplace (nodes old) (root old) c.args.node c.args.news.now) (λ f. (f ≡ fault.Memory) ⊎ (may_come (forest old w) (map (number old w) c.args.news.now) (number old w c.args.node) ≡ false))
    (replace_refused old w c.requires.home c.args.node c.requires.own c.args.news.now c.requires.news) c.replace.ensures.refused

pub returns-clause-unchanged : goal.returns-clause-unchanged
returns-clause-unchanged c =
    let old = c.args.page.now in
    let new = c.replace.new.self in
    err_then c.replace.result (nodes new ≡ nodes old) (forest new c.args.widget ≡ forest old c.args.widget) (λ e. all_stay old new c.replace.ensures.roots e c.args.widget (below_32 old c.args.widget c.args.node c.requires.own)) c.replace.ensures.unchanged

pub returns-clause-kept : goal.returns-clause-kept
returns-clause-kept c = replaced_keeps c.args.page.now c.replace.new.self c.replace.ensures.roots c.args.widget c.requires.home c.args.node c.requires.own c.args.news.now c.requires.news c.replace.result c.replace.ensures.steps c.replace.ensures.unchanged

pub returns-clause-others : goal.returns-clause-others
returns-clause-others c = replaced_others c.args.page.now c.replace.new.self c.replace.ensures.roots c.args.widget c.requires.home c.args.node c.requires.own c.args.news.now c.requires.news c.replace.result c.replace.ensures.steps c.replace.ensures.unchanged c.replace.ensures.others

pub returns-clause-host : goal.returns-clause-host
returns-clause-host c = replace_host c.args.page.now c.replace.new.self c.args.widget c.args.node c.requires.own c.args.news.now c.requires.news c.replace.result c.replace.ensures.done c.replace.ensures.steps c.replace.ensures.unchanged c.replace.ensures.others
