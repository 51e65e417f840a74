use Rattle.adhost_run.proofs.reports.library_text.Goals as goal

pub returns-in-Line : goal.returns-in-Line
returns-in-Line c = rw c.in-Line.is c.library_line.ensures

pub returns-in-Tidied : goal.returns-in-Tidied
returns-in-Tidied c = rw c.in-Tidied.is c.tidied_library.ensures
