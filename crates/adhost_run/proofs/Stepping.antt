-- From the steps to the answer.
use Rattle.std.proofs.Common.{ℕ, List, [], Option, Some, None, IfSome, IsSomeAnd, Result, Ok, Err, IfOk, IfErr, IsErrOf, sym, subst}
use Rattle.host_io.specs.Files.{FileMap}
use Rattle.run_steps.specs.declared.ending.Status.{Status}
use Rattle.run_steps.specs.declared.ending.Status.TheVariants as status
use Rattle.run_steps.specs.declared.reading.NoReport.{NoReport}
use Rattle.run_steps.specs.declared.reading.NoReport.TheVariants as stop
use Rattle.adhost_run.specs.declared.reports.Report.{Report}
use Rattle.run_steps.specs.Steps.{Answers, Step, gives, stops}
use Rattle.adhost_run.specs.Answer.{ending}
use Rattle.run_steps.specs.Ends.{IsAnswerStop, Stepped}
use Rattle.adhost_run.specs.Ends.{Answered}
use Rattle.run_steps.proofs.ReadsLemmas.{reads_nothing, reads_as, reads_then}
use Rattle.run_steps.proofs.Stepping.{again, as_stop, told_stop, told_enough, step_enough, none_stops}

-- what is answered further on, at what a step gave
module _ {T : Type 0} (Gives : FileMap → T → Type 0) (Stops : FileMap → Status → Type 0) (next : FileMap → T → Answers) (x : T) where
  step_report : (told : Option FileMap) (s : Status) (b : List ℕ) → IfSome told (λ m. Gives m x) → IfSome told (λ m. next m x s b) → IfSome told (λ m. Step (Gives m) (Stops m) (next m) s b)
  step_report None s b given is = is
  step_report (Some m) s b given is = gives given is

  pub step_ok : (told : Option FileMap) (r : Result Report NoReport) → IfSome told (λ m. Gives m x) → IfOk r (λ t. IfSome told (λ m. next m x (ending t.refused) t.bytes.items)) → IfOk r (λ t. IfSome told (λ m. Step (Gives m) (Stops m) (next m) (ending t.refused) t.bytes.items))
  step_ok told (Ok t) given is = step_report told (ending t.refused) t.bytes.items given is
  step_ok told (Err e) given is = is

  step_stop : (told : Option FileMap) (e : NoReport) → IfSome told (λ m. Gives m x) → IfSome told (λ m. IsAnswerStop (next m x) e) → IfSome told (λ m. IsAnswerStop (Step (Gives m) (Stops m) (next m)) e)
  step_stop None e given is = is
  step_stop (Some m) e given is = as_stop (λ s. next m x s []) (λ s. Step (Gives m) (Stops m) (next m) s []) (λ s it. gives given it) e is

  pub step_err : (told : Option FileMap) (r : Result Report NoReport) → IfSome told (λ m. Gives m x) → IfErr r (λ e. IfSome told (λ m. IsAnswerStop (next m x) e)) → IfErr r (λ e. IfSome told (λ m. IsAnswerStop (Step (Gives m) (Stops m) (next m)) e))
  step_err told (Ok t) given is = is
  step_err told (Err e) given is = step_stop told e given is

told_answer : (answer : FileMap → Answers) (s : Status) (b : List ℕ) → ((m : FileMap) → answer m s b) → (told : Option FileMap) → IfSome told (λ m. answer m s b)
told_answer answer s b is None = tt
told_answer answer s b is (Some m) = is m

told_stop_here : (answer : FileMap → Answers) (e : NoReport) → ((m : FileMap) → IsAnswerStop (answer m) e) → (told : Option FileMap) → IfSome told (λ m. IsAnswerStop (answer m) e)
told_stop_here answer e is None = tt
told_stop_here answer e is (Some m) = is m

module _ {F : Type 0} (told : F → Option FileMap) (calm : F → Type 0) (faults : F → ℕ) where
  -- a step with which there is no report
  pub stopped : {T U : Type 0} {a b : F} {e : NoReport} (view : T → U) (Gives : FileMap → U → Type 0) (Stops : FileMap → Status → Type 0) (next : FileMap → U → Answers) (Enough All : FileMap → Type 0) → Stepped {T = T} told calm faults a b (Err e) (λ m x. Gives m (view x)) Stops Enough → ((m : FileMap) → All m → Enough m) → Answered told calm faults a b (Err e) (λ m. Step (Gives m) (Stops m) (next m)) All
  stopped {T} {U} {a} {b} {e} view Gives Stops next Enough All step enough = record {
    answer = tt;
    stops = told_stop Stops (λ m s. Step (Gives m) (Stops m) (next m) s []) (λ m s is. stops is) (told a) e step.stops;
    reads = reads_as told calm faults step.reads (again e stop.ReadFault) (told_enough All Enough enough (told a));
  }

  -- a step from which the work went on
  pub went_on : {T U : Type 0} {a b c : F} {x : T} {r : Result Report NoReport} (view : T → U) (Gives : FileMap → U → Type 0) (Stops : FileMap → Status → Type 0) (next : FileMap → U → Answers) (Enough All Rest : FileMap → Type 0) → Stepped told calm faults a b (Ok x) (λ m y. Gives m (view y)) Stops Enough → Answered told calm faults b c r (λ m. next m (view x)) Rest → ((m : FileMap) → All m → Enough m) → ((m : FileMap) → Gives m (view x) → All m → Rest m) → Answered told calm faults a c r (λ m. Step (Gives m) (Stops m) (next m)) All
  went_on {T} {U} {a} {b} {c} {x} {r} view Gives Stops next Enough All Rest step behind enough rest = record {
    answer = step_ok Gives Stops next (view x) (told a) r step.gives (subst (λ t. IfOk r (λ v. IfSome t (λ m. next m (view x) (ending v.refused) v.bytes.items))) step.reads.same behind.answer);
    stops = step_err Gives Stops next (view x) (told a) r step.gives (subst (λ t. IfErr r (λ e. IfSome t (λ m. IsAnswerStop (next m (view x)) e))) step.reads.same behind.stops);
    reads = reads_then told calm faults step.reads behind.reads (λ failed. failed) (told_enough All Enough enough (told a))
        (λ all. subst (λ t. IsSomeAnd t Rest) (sym step.reads.same) (step_enough Gives (view x) All Rest rest (told a) step.gives all));
  }

  -- there was no memory
  pub no_memory_left : {a : F} (answer : FileMap → Answers) (All : FileMap → Type 0) → Answered told calm faults a a (Err stop.Memory) answer All
  no_memory_left {a} answer All = record {
    answer = tt;
    stops = none_stops (told a);
    reads = reads_nothing told calm faults (λ failed. (let e = failed in cc));
  }

  -- there is a report
  pub reported : {a : F} (r : Report) (answer : FileMap → Answers) (All : FileMap → Type 0) → ((m : FileMap) → answer m (ending r.refused) r.bytes.items) → Answered told calm faults a a (Ok r) answer All
  reported {a} r answer All is = record {
    answer = told_answer answer (ending r.refused) r.bytes.items is (told a);
    stops = tt;
    reads = reads_nothing told calm faults (λ failed. (let e = failed in cc));
  }

  -- there is none, though all was read
  pub stopped_here : {a : F} (e : NoReport) (answer : FileMap → Answers) (All : FileMap → Type 0) → (IsErrOf {T = Report} (Err e) stop.ReadFault → ⊥) → ((m : FileMap) → IsAnswerStop (answer m) e) → Answered told calm faults a a (Err e) answer All
  stopped_here {a} e answer All never is = record {
    answer = tt;
    stops = told_stop_here answer e is (told a);
    reads = reads_nothing told calm faults never;
  }

  -- the same, said of what answers more, and needs more
  pub answered_as : {a b : F} {r : Result Report NoReport} (answer other : FileMap → Answers) (All Enough : FileMap → Type 0) → Answered told calm faults a b r answer Enough → ((m : FileMap) (s : Status) (bytes : List ℕ) → answer m s bytes → other m s bytes) → ((m : FileMap) → All m → Enough m) → Answered told calm faults a b r other All
  answered_as {a} {b} {r} answer other All Enough it more enough = record {
    answer = ok_as r it.answer;
    stops = err_as r it.stops;
    reads = reads_as told calm faults it.reads (λ failed. failed) (told_enough All Enough enough (told a));
  } where
    report_as : (o : Option FileMap) (s : Status) (bytes : List ℕ) → IfSome o (λ m. answer m s bytes) → IfSome o (λ m. other m s bytes)
    report_as None s bytes is = is
    report_as (Some m) s bytes is = more m s bytes is

    ok_as : (x : Result Report NoReport) → IfOk x (λ t. IfSome (told a) (λ m. answer m (ending t.refused) t.bytes.items)) → IfOk x (λ t. IfSome (told a) (λ m. other m (ending t.refused) t.bytes.items))
    ok_as (Ok t) is = report_as (told a) (ending t.refused) t.bytes.items is
    ok_as (Err e) is = is

    err_as : (x : Result Report NoReport) → IfErr x (λ e. IfSome (told a) (λ m. IsAnswerStop (answer m) e)) → IfErr x (λ e. IfSome (told a) (λ m. IsAnswerStop (other m) e))
    err_as (Ok t) is = is
    err_as (Err e) is = told_stop (λ m s. answer m s []) (λ m s. other m s []) (λ m s it. more m s [] it) (told a) e is
