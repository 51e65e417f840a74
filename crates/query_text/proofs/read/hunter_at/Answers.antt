use Rattle.std.proofs.lemmas.Result.{err_from_is_err_and}
use Rattle.query_text.proofs.Reading.{id_is, child_is, next_is, children_is, all_is, tag_is, child_refused, next_refused}
use Rattle.query_text.proofs.read.hunter_at.Goals as goal

pub returns-in_err-name-in-62 : goal.returns-in_err-name-in-62
returns-in_err-name-in-62 c =
    let p = err_from_is_err_and c.from_residual-in_err-name-in-62.result c.from_residual-in_err-name-in-62.ensures.1 in
    rw (p.1, p.2) (child_refused _ _ c.requires.inside _ _ c.in-62.is c.run_end-start.ensures c.in_err-name-in-62.ensures)

pub returns-in_err-name-in-43 : goal.returns-in_err-name-in-43
returns-in_err-name-in-43 c =
    let p = err_from_is_err_and c.from_residual-in_err-name-in-43.result c.from_residual-in_err-name-in-43.ensures.1 in
    rw (p.1, p.2) (next_refused _ _ c.requires.inside _ _ c.in-43.is c.run_end-start-in-43.ensures c.in_err-name-in-43.ensures)

pub returns-in_ok-word-in-35 : goal.returns-in_ok-word-in-35
returns-in_ok-word-in-35 c = id_is _ _ c.requires.inside _ _ c.in-35.is c.in_ok-word-in-35.ensures

pub returns-in_ok-name-in-62 : goal.returns-in_ok-name-in-62
returns-in_ok-name-in-62 c = child_is _ _ c.requires.inside _ _ _ c.in-62.is c.run_end-start.ensures c.in_ok-name-in-62.ensures

pub returns-in_ok-name-in-43 : goal.returns-in_ok-name-in-43
returns-in_ok-name-in-43 c = next_is _ _ c.requires.inside _ _ _ c.in-43.is c.run_end-start-in-43.ensures c.in_ok-name-in-43.ensures

pub returns-in-47 : goal.returns-in-47
returns-in-47 c = children_is _ _ c.requires.inside c.in-47.is

pub returns-in-42 : goal.returns-in-42
returns-in-42 c = all_is _ _ c.requires.inside c.in-42.is

pub returns-in_ok-name-in_default : goal.returns-in_ok-name-in_default
returns-in_ok-name-in_default c = tag_is _ _ c.requires.inside _ _ c.in_ok-name-in_default.ensures
