use Rattle.js_cursor.proofs.Listed.{params_begin, params_end, params_more}
use Rattle.js_cursor.proofs.names.params.Goals as goal

pub names-init : goal.names-init
names-init c = params_begin _ _ _ _ _ _ _ c.requires.shallow c.in-Name.ensures.here (c.in-Name.ensures.inside (λ e. cc)) c.new.ensures.items c.in_ok-push_name-in-Name.ensures.texts c.in_ok-push_name-in-Name.ensures.places

pub returns-in-Close-peek : goal.returns-in-Close-peek
returns-in-Close-peek c = params_end _ _ _ _ _ _ _ c.requires.shallow c.names.invariant c.in-Close-peek.ensures.here (c.in-Close-peek.ensures.inside (λ e. cc))

pub names-preserved : goal.names-preserved
names-preserved c = params_more _ _ _ _ _ _ _ c.requires.shallow c.names.invariant _ _ _ c.in-Comma.ensures.here c.in_ok-next-in-Comma.ensures.1 c.in_ok-next-in-Comma.ensures.0 c.in_ok-next-in-Comma.ensures.2 c.in_ok-push_name-in-Comma.ensures.texts c.in_ok-push_name-in-Comma.ensures.places
