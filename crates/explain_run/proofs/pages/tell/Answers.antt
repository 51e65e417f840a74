use Rattle.explain_run.proofs.pages.tell.Goals as goal

pub returns-in-Library : goal.returns-in-Library
returns-in-Library g c = rw c.in-Library.is c.tell_of_library.ensures

pub returns-in-Page : goal.returns-in-Page
returns-in-Page g c = rw c.in-Page.is c.tell_of_page.ensures
