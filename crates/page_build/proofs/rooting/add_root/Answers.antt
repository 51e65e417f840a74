use Rattle.plain_tree.specs.Plains.{unplaced}
use Rattle.page_image.proofs.Pages.{is_widget}
use Rattle.page_build.proofs.Homes.{home_is, is_free, is_mine, is_top, others_away, others_home, root_behind, root_lots, root_standing, root_stands}
use Rattle.page_build.proofs.Raws.{raws_same}
use Rattle.page_build.proofs.rooting.add_root.Goals as goal

pub add_nodes-requires-clause-owner : goal.add_nodes-requires-clause-owner
add_nodes-requires-clause-owner c = is_widget c.args.w c.requires.widget

pub add_nodes-requires-clause-room : goal.add_nodes-requires-clause-room
add_nodes-requires-clause-room c = λ e. cc

pub adopt-requires-clause-own : goal.adopt-requires-clause-own
adopt-requires-clause-own c = is_mine (unplaced c.args.body.now) c.one_tree.ensures c.args.w c.requires.widget c.args.page.now c.add_nodes.new.page c.requires.away c.in_ok-id.id c.add_nodes.ensures.roots c.in_ok-id.ensures.added

pub adopt-requires-clause-top : goal.adopt-requires-clause-top
adopt-requires-clause-top c = is_top (unplaced c.args.body.now) c.one_tree.ensures c.args.w c.requires.widget c.args.page.now c.add_nodes.new.page c.requires.away c.in_ok-id.id c.add_nodes.ensures.roots c.in_ok-id.ensures.added

pub adopt-requires-clause-free : goal.adopt-requires-clause-free
adopt-requires-clause-free c = is_free (unplaced c.args.body.now) c.one_tree.ensures c.args.w c.requires.widget c.args.page.now c.add_nodes.new.page c.requires.away c.in_ok-id.id c.add_nodes.ensures.roots c.in_ok-id.ensures.added

pub returns-clause-home : goal.returns-clause-home
returns-clause-home c = home_is (unplaced c.args.body.now) c.one_tree.ensures c.args.w c.requires.widget c.args.page.now c.add_nodes.new.page c.requires.away c.in_ok-id.id c.add_nodes.ensures.roots c.in_ok-id.ensures.added c.adopt.new.page c.in_ok-adopt.ensures.becomes c.in_ok-adopt.ensures.image

pub returns-clause-others : goal.returns-clause-others
returns-clause-others c = others_home (unplaced c.args.body.now) c.one_tree.ensures c.args.w c.requires.widget c.args.page.now c.add_nodes.new.page c.requires.away c.in_ok-id.id c.add_nodes.ensures.roots c.in_ok-id.ensures.added c.adopt.new.page c.in_ok-adopt.ensures.becomes c.in_ok-adopt.ensures.others

pub returns-clause-away : goal.returns-clause-away
returns-clause-away c = others_away (unplaced c.args.body.now) c.one_tree.ensures c.args.w c.requires.widget c.args.page.now c.add_nodes.new.page c.requires.away c.in_ok-id.id c.add_nodes.ensures.roots c.in_ok-id.ensures.added c.adopt.new.page c.in_ok-adopt.ensures.becomes c.in_ok-adopt.ensures.others

pub returns-clause-laid : goal.returns-clause-laid
returns-clause-laid c = root_behind (unplaced c.args.body.now) c.one_tree.ensures c.args.w c.requires.widget c.args.page.now c.add_nodes.new.page c.requires.away c.in_ok-id.id c.add_nodes.ensures.roots c.in_ok-id.ensures.added c.adopt.new.page c.in_ok-adopt.ensures.becomes c.in_ok-adopt.ensures.linked

pub returns-clause-stands : goal.returns-clause-stands
returns-clause-stands c = root_stands (unplaced c.args.body.now) c.one_tree.ensures c.args.w c.requires.widget c.args.page.now c.add_nodes.new.page c.requires.away c.in_ok-id.id c.add_nodes.ensures.roots c.in_ok-id.ensures.added c.adopt.new.page c.in_ok-adopt.ensures.becomes c.in_ok-adopt.ensures.linked

pub returns-clause-lots : goal.returns-clause-lots
returns-clause-lots c = root_lots (unplaced c.args.body.now) c.one_tree.ensures c.args.w c.requires.widget c.args.page.now c.add_nodes.new.page c.requires.away c.in_ok-id.id c.add_nodes.ensures.roots c.in_ok-id.ensures.added c.adopt.new.page c.in_ok-adopt.ensures.becomes c.in_ok-adopt.ensures.linked

pub returns-clause-standing : goal.returns-clause-standing
returns-clause-standing c = root_standing (unplaced c.args.body.now) c.one_tree.ensures c.args.w c.requires.widget c.args.page.now c.add_nodes.new.page c.requires.away c.in_ok-id.id c.add_nodes.ensures.roots c.in_ok-id.ensures.added c.adopt.new.page c.in_ok-adopt.ensures.becomes c.in_ok-adopt.ensures.linked

pub returns-clause-root : goal.returns-clause-root
returns-clause-root c = (c.in_ok-adopt.ensures.becomes).root

pub returns-clause-raws : goal.returns-clause-raws
returns-clause-raws c = λ raws. raws_same c.add_nodes.new.store c.add_nodes.new.page c.adopt.new.page c.in_ok-adopt.ensures.many (c.in_ok-id.ensures.raws raws)

pub returns-clause-confined : goal.returns-clause-confined
returns-clause-confined c = λ fs v h. (c.add_nodes.ensures.kept fs v).confined h

pub returns-in_err-adopt-clause-confined : goal.returns-in_err-adopt-clause-confined
returns-in_err-adopt-clause-confined c = λ fs v h. (c.add_nodes.ensures.kept fs v).confined h

pub returns-in_err-id-clause-confined : goal.returns-in_err-id-clause-confined
returns-in_err-id-clause-confined c = λ fs v h. (c.add_nodes.ensures.kept fs v).confined h
