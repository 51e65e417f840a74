use Rattle.page_build.proofs.Hosted.{all_away, all_home, all_laid, all_lots, all_standing, here, here_stands, spot_behind}
use Rattle.page_build.proofs.Raws.{raws_same}
use Rattle.page_build.proofs.hosting.add_markup.Goals as goal

pub returns-clause-away : goal.returns-clause-away
returns-clause-away c = all_away c.args.page.now c.add_nodes.new.page c.adopt.new.self c.in_ok-id.id _ c.add_nodes.ensures.roots c.in_ok-id.ensures.added c.in_ok-adopt.ensures.done c.in_ok-adopt.ensures.becomes

pub returns-clause-home : goal.returns-clause-home
returns-clause-home c = all_home c.args.page.now c.add_nodes.new.page c.adopt.new.self c.in_ok-id.id _ c.add_nodes.ensures.roots c.in_ok-id.ensures.added c.in_ok-adopt.ensures.done c.in_ok-adopt.ensures.becomes

pub returns-clause-laid : goal.returns-clause-laid
returns-clause-laid c = all_laid c.args.page.now c.add_nodes.new.page c.adopt.new.self c.in_ok-id.id _ c.add_nodes.ensures.roots c.in_ok-id.ensures.added c.in_ok-adopt.ensures.done c.in_ok-adopt.ensures.becomes c.one_tree.ensures

pub returns-clause-spot : goal.returns-clause-spot
returns-clause-spot c = spot_behind c.args.page.now c.add_nodes.new.page c.adopt.new.self c.in_ok-id.id _ c.add_nodes.ensures.roots c.in_ok-id.ensures.added c.in_ok-adopt.ensures.done c.in_ok-adopt.ensures.becomes

pub returns-clause-lot : goal.returns-clause-lot
returns-clause-lot c = here c.args.page.now c.add_nodes.new.page c.adopt.new.self c.in_ok-id.id _ c.add_nodes.ensures.roots c.in_ok-id.ensures.added c.in_ok-adopt.ensures.done c.in_ok-adopt.ensures.becomes

pub returns-clause-stands : goal.returns-clause-stands
returns-clause-stands c = here_stands c.args.page.now c.add_nodes.new.page c.adopt.new.self c.in_ok-id.id _ c.add_nodes.ensures.roots c.in_ok-id.ensures.added c.in_ok-adopt.ensures.done c.in_ok-adopt.ensures.becomes

pub returns-clause-lots : goal.returns-clause-lots
returns-clause-lots c = all_lots c.args.page.now c.add_nodes.new.page c.adopt.new.self c.in_ok-id.id _ c.add_nodes.ensures.roots c.in_ok-id.ensures.added c.in_ok-adopt.ensures.done c.in_ok-adopt.ensures.becomes

pub returns-clause-standing : goal.returns-clause-standing
returns-clause-standing c = all_standing c.args.page.now c.add_nodes.new.page c.adopt.new.self c.in_ok-id.id _ c.add_nodes.ensures.roots c.in_ok-id.ensures.added c.in_ok-adopt.ensures.done c.in_ok-adopt.ensures.becomes

pub returns-clause-raws : goal.returns-clause-raws
returns-clause-raws c = λ raws. raws_same c.add_nodes.new.store c.add_nodes.new.page c.adopt.new.self (c.in_ok-adopt.ensures.done).kept.made (c.in_ok-id.ensures.raws raws)

pub returns-clause-confined : goal.returns-clause-confined
returns-clause-confined c = λ fs v h. (c.add_nodes.ensures.kept fs v).confined h

pub returns-in_err-adopt-clause-confined : goal.returns-in_err-adopt-clause-confined
returns-in_err-adopt-clause-confined c = λ fs v h. (c.add_nodes.ensures.kept fs v).confined h

pub returns-in_err-id-clause-confined : goal.returns-in_err-id-clause-confined
returns-in_err-id-clause-confined c = λ fs v h. (c.add_nodes.ensures.kept fs v).confined h
