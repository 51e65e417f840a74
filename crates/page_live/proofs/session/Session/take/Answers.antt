use Rattle.std.proofs.Common.{◌++◌, [], ◌∷◌, map, subst, ◌∙◌, Option, ℕ}
use Rattle.page_play.specs.Settled.{said_of}
use Rattle.live_text.specs.Answer.{shown}
use Rattle.page_live.specs.Page.{AppendsAnswer}
use Rattle.page_live.proofs.Showing.{alive_shows, same_names}
use Rattle.page_live.proofs.session.Session.take.Goals as goal

pub tell-requires-clause-showing : goal.tell-requires-clause-showing
tell-requires-clause-showing c =
    let a = c.requires.alive in
    alive_shows _ (record { parts = a.parts; pairs = a.pairs; runs = a.runs; files = a.files; items = a.items ++ said_of c.args.item ∷ []; is = c.in_ok-take.ensures a.parts a.pairs a.runs a.files a.items a.is })

pub tell-requires-clause-many : goal.tell-requires-clause-many
tell-requires-clause-many c =
    let a = c.requires.alive in
    c.requires.many ∙ same_names a.parts a.pairs a.runs a.files a.files a.items (a.items ++ said_of c.args.item ∷ []) c.args.self.now.page _ a.is (c.in_ok-take.ensures a.parts a.pairs a.runs a.files a.items a.is)

pub returns-clause-lives : goal.returns-clause-lives
returns-clause-lives c = c.in_ok-take.ensures

pub returns-clause-answer : goal.returns-clause-answer
returns-clause-answer c = λ pieces owns shows.
    subst (λ (t : Option ℕ). AppendsAnswer c.take.new.self.findings owns t c.take.new.self.taken (map shown c.args.self.now.written.items) (map shown c.tell.new.written.items) c.args.out.now.items c.tell.new.out.items) c.touched_by-touched.ensures (c.in_ok-tell.ensures.answer pieces owns shows)

pub returns-clause-many : goal.returns-clause-many
returns-clause-many c =
    let a = c.requires.alive in
    c.tell.ensures.many ∙ c.requires.many ∙ same_names a.parts a.pairs a.runs a.files a.files a.items (a.items ++ said_of c.args.item ∷ []) c.args.self.now.page _ a.is (c.in_ok-take.ensures a.parts a.pairs a.runs a.files a.items a.is)
