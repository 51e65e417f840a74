use Rattle.std.proofs.Common.{◌≡◌, None, map, true, false, ◌⊎◌}
use Rattle.std.specs.List.{fold}
use Rattle.page_nodes.specs.Moves.{Puts}
use Rattle.page_tree.specs.declared.fault.PageFault.TheVariants as fault
use Rattle.page_tree.specs.Pages.{nodes, root, MayPutAll, RefusesPut}
use Rattle.widget_meaning.specs.Trees.{moved}
use Rattle.page_image.specs.Image.{number, forest}
use Rattle.page_image.specs.Targets.{takes}
use Rattle.page_image.proofs.Calls.{are_nodes, append_image, append_keeps, append_others, append_refused}
use Rattle.page_image.proofs.Pages.{is_node, all_stay, below_32}
use Rattle.page_image.proofs.Results.{ok_then, ok_both, err_then, if_err_then}
use Rattle.page_image.proofs.Taking.{may_take}
use Rattle.page_image.proofs.Hosting.{append_host}
use Rattle.page_image.proofs.changes.append.Goals as goal

pub append-requires-clause-target : goal.append-requires-clause-target
append-requires-clause-target c = is_node c.args.page.now c.args.widget c.args.target c.requires.target

pub append-requires-clause-news : goal.append-requires-clause-news
append-requires-clause-news c = are_nodes c.args.page.now c.args.widget c.args.news.now c.requires.news

pub returns-clause-image : goal.returns-clause-image
returns-clause-image c =
    let old = c.args.page.now in
    let new = c.append.new.self in
    ok_both c.append.result (MayPutAll (nodes old) (root old) c.args.target c.args.news.now) (Puts (nodes old) c.args.target None c.args.news.now (nodes new)) (forest new c.args.widget ≡ fold (moved (number old c.args.widget c.args.target) None) (forest old c.args.widget) (map (number old c.args.widget) c.args.news.now))
    (append_image old new c.append.ensures.roots c.args.widget c.requires.home c.args.target c.requires.target c.args.news.now c.requires.news) c.append.ensures.allowed c.append.ensures.steps

pub returns-clause-allowed : goal.returns-clause-allowed
returns-clause-allowed c =
    let old = c.args.page.now in
    ok_then c.append.result (MayPutAll (nodes old) (root old) c.args.target c.args.news.now) (takes (forest old c.args.widget) (map (number old c.args.widget) c.args.news.now) (number old c.args.widget c.args.target) ≡ true)
    (may_take old c.args.widget c.requires.home c.args.target c.requires.target c.args.news.now c.requires.news) c.append.ensures.allowed

pub returns-clause-refused : goal.returns-clause-refused
returns-clause-refused c =
    let old = c.args.page.now in
    if_err_then c.append.result (RefusesPut (nodes old) (root old) c.args.target c.args.news.now) (λ f. (f ≡ fault.Memory) ⊎ (takes (forest old c.args.widget) (map (number old c.args.widget) c.args.news.now) (number old c.args.widget c.args.target) ≡ false))
    (append_refused old c.append.new.self c.append.ensures.roots c.args.widget c.requires.home c.args.target c.requires.target c.args.news.now c.requires.news) c.append.ensures.refused

pub returns-clause-unchanged : goal.returns-clause-unchanged
returns-clause-unchanged c =
    let old = c.args.page.now in
    let new = c.append.new.self in
    err_then c.append.result (nodes new ≡ nodes old) (forest new c.args.widget ≡ forest old c.args.widget) (λ e. all_stay old new c.append.ensures.roots e c.args.widget (below_32 old c.args.widget c.args.target c.requires.target)) c.append.ensures.unchanged

pub returns-clause-kept : goal.returns-clause-kept
returns-clause-kept c = append_keeps c.args.page.now c.append.new.self c.append.ensures.roots c.args.widget c.requires.home c.args.target c.requires.target c.args.news.now c.requires.news c.append.result c.append.ensures.steps c.append.ensures.unchanged

pub returns-clause-others : goal.returns-clause-others
returns-clause-others c = append_others c.args.page.now c.append.new.self c.append.ensures.roots c.args.widget c.requires.home c.args.target c.requires.target c.args.news.now c.requires.news c.append.result c.append.ensures.steps c.append.ensures.unchanged c.append.ensures.others

pub returns-clause-host : goal.returns-clause-host
returns-clause-host c = append_host c.args.page.now c.append.new.self c.args.widget c.args.target c.requires.target c.args.news.now c.requires.news c.append.result c.append.ensures.allowed c.append.ensures.steps c.append.ensures.unchanged c.append.ensures.others
