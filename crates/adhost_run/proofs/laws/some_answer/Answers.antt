use Rattle.adhost_run.specs.Demo.{demo_runs}
use Rattle.adhost_run.proofs.SomeReport.{AreClean}
use Rattle.adhost_run.proofs.SomeAnswer.{Grounds, answer_there, request_there, demo_answered}
use Rattle.adhost_run.proofs.Counters.{counters_clean}
use Rattle.adhost_run.proofs.AnswerEnds.{answer_ends}
use Rattle.adhost_run.proofs.laws.some_answer.Goals as goal

pub returns : goal.returns
returns c =
    let grounds : Grounds = record {
      judged = λ slot unbroken. (c.one_slot.ensures.clean slot).1 unbroken;
      rounds = λ channels names fs. (c.rounds.ensures channels names fs).end;
      form = record { spelled = c.form_of_style.ensures.spelled; other = c.form_of_style.ensures.other };
      line = c.one_verdict.ensures.some_line;
      tidied = c.one_verdict.ensures.some_tidied;
    } in
    let clean : AreClean demo_runs = counters_clean in
    record {
      words = answer_there grounds clean;
      request = request_there grounds clean;
      status = answer_ends;
      demo = demo_answered grounds clean;
    }
