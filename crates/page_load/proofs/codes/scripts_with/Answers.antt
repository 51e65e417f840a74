use Rattle.page_load.proofs.codes.scripts_with.Goals as goal

pub returns : goal.returns
returns c = record { libs = c.in_ok-libs.ensures; last = c.in_ok-script.ensures }
