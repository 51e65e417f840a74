use Rattle.std.proofs.Common.{[], ◌∷◌, ◌++◌, refl, codes}
use Rattle.reach_cert.specs.Blocks.{words_of}
use Rattle.reach_cert.specs.Certs.{Refused}
use Rattle.reach_cert.specs.Machine.{Between, Inside}
use Rattle.reach_cert.specs.Words.{behind}
use Rattle.reach_cert.proofs.Blocks.{no_block, refused_step, refused_block, widget_step, widget_refused, widget_block}
use Rattle.reach_cert.proofs.Steps.{if_err, one_on, ok_more, err_then}
use Rattle.reach_cert.proofs.judging.judge_block.Goals as goal

pub returns-in_err-take_name-clause-fault : goal.returns-in_err-take_name-clause-fault
returns-in_err-take_name-clause-fault c =
    let word = c.in-Some.word.now in
    if_err _ _ _ c.from_residual.ensures.1
    (λ slots same. c.in_err-take_name.ensures.fault slots (Between (slots ++ Refused word ∷ [])) same (refused_step (words_of c.args.names.now.items) c.args.lines.now c.requires word c.in-Some.ensures slots))

pub returns-in_default-text_behind-clause-fault : goal.returns-in_default-text_behind-clause-fault
returns-in_default-text_behind-clause-fault c = λ slots same. rw c.fault.ensures (no_block (words_of c.args.names.now.items) c.args.lines.now c.requires c.in_default.ensures c.in_default-text_behind.ensures slots)

pub returns-in_err-take_name-2-clause-fault : goal.returns-in_err-take_name-2-clause-fault
returns-in_err-take_name-2-clause-fault c =
    let word = c.in-Some-text_behind.word.now in
    if_err _ _ _ c.from_residual-in_err-take_name-2.ensures.1
    (λ slots same. c.in_err-take_name-2.ensures.fault slots (Inside slots word []) same (widget_step (words_of c.args.names.now.items) c.args.lines.now c.requires word c.in_default.ensures c.in-Some-text_behind.ensures slots))

pub returns-in-Some-clause-block : goal.returns-in-Some-clause-block
returns-in-Some-clause-block c =
    let took = c.in_ok-take_name.ensures in
    let line = one_on (behind (codes "refused ")) c.args.lines.now c.take_name.new.lines c.in-Some.word.now c.in-Some.ensures took.taken in
    (Refused c.in-Some.word.now, refused_block (words_of c.args.names.now.items) c.args.lines.now c.requires c.in-Some.word.now c.in-Some.ensures _ c.take_name.new.lines took.taken took.kept took.free, record { leak_is = refl; after_is = line })

pub returns-clause-block : goal.returns-clause-block
returns-clause-block c =
    let took = c.in_ok-take_name-2.ensures in
    let word = c.in-Some-text_behind.word.now in
    let mid = c.take_name-2.new.lines in
    let line = one_on (behind (codes "widget ")) c.args.lines.now mid word c.in-Some-text_behind.ensures took.taken in
    ok_more c.judge_shown.result _ _
    (λ leak shown.
    let s = shown c.args.lines.now.number line in
    (s.0, widget_block (words_of c.args.names.now.items) c.args.lines.now c.requires word c.in_default.ensures c.in-Some-text_behind.ensures word refl mid took.taken took.free _ c.judge_shown.new.lines s.0 took.kept s.1, s.2))
    c.judge_shown.ensures.shown

pub returns-clause-fault : goal.returns-clause-fault
returns-clause-fault c =
    let took = c.in_ok-take_name-2.ensures in
    let word = c.in-Some-text_behind.word.now in
    err_then c.judge_shown.result _ _
    (λ e refuses. widget_refused (words_of c.args.names.now.items) c.args.lines.now c.requires word c.in_default.ensures c.in-Some-text_behind.ensures word refl c.take_name-2.new.lines took.taken took.free e refuses)
    c.judge_shown.ensures.fault
