use Rattle.std.proofs.Common.{◌++◌, [], ◌∷◌, ◌∙◌}
use Rattle.trace_reader.specs.Said.{a_swap}
use Rattle.slot_check.specs.Verdicts.{source_of}
use Rattle.page_live.proofs.Showing.{alive_shows, same_names}
use Rattle.page_live.proofs.session.Session.swap.Goals as goal

pub tell-requires-clause-showing : goal.tell-requires-clause-showing
tell-requires-clause-showing c =
    let a = c.requires.alive in
    alive_shows _ (record { parts = a.parts; pairs = a.pairs; runs = a.runs; files = a.files ++ source_of c.args.file.now ∷ []; items = a.items ++ a_swap c.args.to [] ∷ []; is = c.in_ok-swap.ensures a.parts a.pairs a.runs a.files a.items [] a.is })

pub tell-requires-clause-many : goal.tell-requires-clause-many
tell-requires-clause-many c =
    let a = c.requires.alive in
    c.requires.many
    ∙ same_names a.parts a.pairs a.runs a.files (a.files ++ source_of c.args.file.now ∷ []) a.items (a.items ++ a_swap c.args.to [] ∷ []) c.args.self.now.page _ a.is (c.in_ok-swap.ensures a.parts a.pairs a.runs a.files a.items [] a.is)

pub returns-clause-lives : goal.returns-clause-lives
returns-clause-lives c = c.in_ok-swap.ensures

pub returns-clause-answer : goal.returns-clause-answer
returns-clause-answer c = λ pieces owns name shows. c.in_ok-tell.ensures.answer pieces owns shows

pub returns-clause-many : goal.returns-clause-many
returns-clause-many c =
    let a = c.requires.alive in
    c.tell.ensures.many
    ∙ c.requires.many
    ∙ same_names a.parts a.pairs a.runs a.files (a.files ++ source_of c.args.file.now ∷ []) a.items (a.items ++ a_swap c.args.to [] ∷ []) c.args.self.now.page _ a.is (c.in_ok-swap.ensures a.parts a.pairs a.runs a.files a.items [] a.is)
