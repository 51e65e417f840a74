-- From what is told to the answer.
use Rattle.std.proofs.Common.{◌≡◌, ℕ, List, Option, Some, None, IfSome, Bool, true, false, sym, ap, subst, ◌∙◌}
use Rattle.std.specs.Prelude.{String}
use Rattle.std.specs.declared.alloc.Global.{Global}
use Rattle.host_io.specs.Files.{FileMap}
use Rattle.host_io.specs.Sink.{with_bytes}
use Rattle.json_shapes.specs.declared.fault.ShapeFault.TheVariants as fault
use Rattle.explain_run.specs.declared.ending.Status.{Status}
use Rattle.explain_run.specs.declared.ending.Status.TheVariants as status
use Rattle.explain_run.specs.declared.reading.NotTold.{NotTold}
use Rattle.explain_run.specs.declared.reading.NotTold.TheVariants as stop
use Rattle.explain_run.specs.declared.reading.Why.{Why}
use Rattle.explain_run.specs.declared.reading.Why.TheVariants as why
use Rattle.explain_run.specs.Request.{Request, Asks, IsForm}
use Rattle.explain_run.specs.Steps.{status_of, IsCause, IsStop}
use Rattle.explain_run.specs.Answer.{ending, Tells, Stops, Answer, tells, stops, usage, is_answer, IsTold, AnswerOrFault, Wrote}

module _ (words : List (List ℕ)) where
  pub usage_answer : (told : Option FileMap) (note : List ℕ) → (IsForm words → ⊥) → IfSome told (λ m. AnswerOrFault words m status.Usage note)
  usage_answer None note none = tt
  usage_answer (Some m) note none = usage none note

  -- rules were judged
  tells_as : (m : FileMap) (q : Request) (refused : Bool) (bytes : List ℕ) → Asks words q → Tells m q refused bytes → AnswerOrFault words m (ending refused) bytes
  tells_as m q true bytes asks is = tells true asks is
  tells_as m q false bytes asks is = tells false asks is

  pub told_answer : (told : Option FileMap) (q : Request) (refused : Bool) (bytes : List ℕ) (s : Status) → s ≡ ending refused → Asks words q → IfSome told (λ m. Tells m q refused bytes) → IfSome told (λ m. AnswerOrFault words m s bytes)
  told_answer None q refused bytes s same asks is = is
  told_answer (Some m) q refused bytes s same asks is = subst (λ x. AnswerOrFault words m x bytes) (sym same) (tells_as m q refused bytes asks is)

  -- none was
  stops_as : (m : FileMap) (q : Request) (s : Status) (note : List ℕ) → Asks words q → IsCause (Stops m q) s → AnswerOrFault words m s note
  stops_as m q status.Ok note asks is = stops asks is note
  stops_as m q status.Refused note asks is = stops asks is note
  stops_as m q status.Usage note asks is = stops asks is note
  stops_as m q status.BadManifest note asks is = stops asks is note
  stops_as m q status.BadTrace note asks is = stops asks is note
  stops_as m q status.TooLarge note asks is = stops asks is note
  stops_as m q status.ReadFault note asks is = tt
  stops_as m q status.WriteFault note asks is = stops asks is note
  stops_as m q status.Memory note asks is = stops asks is note

  pub stop_answer : (told : Option FileMap) (q : Request) (e : NotTold) (file : String Global) (w : Why) (note : List ℕ) (s : Status) → e ≡ stop.Bad file w → s ≡ status_of w → Asks words q → IfSome told (λ m. IsStop (Stops m q) e) → IfSome told (λ m. AnswerOrFault words m s note)
  stop_answer None q e file w note s by same asks is = is
  stop_answer (Some m) q e file w note s by same asks is = subst (λ x. AnswerOrFault words m x note) (sym same) (stops_as m q (status_of w) note asks (subst (IsStop (Stops m q)) by is))

  -- the answer was written
  answer_as : (m : FileMap) (s : Status) (bytes : List ℕ) → is_answer s ≡ true → AnswerOrFault words m s bytes → Answer words m s bytes
  answer_as m status.Ok bytes is answer = answer
  answer_as m status.Refused bytes is answer = answer
  answer_as m status.Usage bytes is answer = answer
  answer_as m status.BadManifest bytes is answer = answer
  answer_as m status.BadTrace bytes is answer = answer
  answer_as m status.TooLarge bytes is answer = answer
  answer_as m status.ReadFault bytes is answer = absurd (let e : false ≡ true = is in cc)
  answer_as m status.WriteFault bytes is answer = absurd (let e : false ≡ true = is in cc)
  answer_as m status.Memory bytes is answer = absurd (let e : false ≡ true = is in cc)

  pub wrote : (told : Option FileMap) (s : Status) (bytes shown : List ℕ) (old new : Option (List ℕ)) → shown ≡ bytes → is_answer s ≡ true → IfSome told (λ m. AnswerOrFault words m s bytes) → new ≡ with_bytes old shown → IfSome told (λ m. Wrote (Answer words m s) old new)
  wrote None s bytes shown old new same is answer appended = answer
  wrote (Some m) s bytes shown old new same is answer appended = record { bytes = bytes; answer = answer_as m s bytes is answer; appended = appended ∙ ap (with_bytes old) same }

-- which statuses there are before what is told is written
pub told_ending : (refused : Bool) (s : Status) → s ≡ ending refused → IsTold s
told_ending true s is = subst IsTold (sym is) tt
told_ending false s is = subst IsTold (sym is) tt

told_why : (w : Why) → IsTold (status_of w)
told_why (why.Manifest f) = tt
told_why (why.Trace fault.NotJson) = tt
told_why (why.Trace (fault.BadShape item)) = tt
told_why (why.Trace (fault.TooMany items)) = tt
told_why (why.Trace fault.Memory) = tt
told_why (why.TooLong limit) = tt
told_why why.Unread = tt

pub told_stop : (w : Why) (s : Status) → s ≡ status_of w → IsTold s
told_stop w s is = subst IsTold (sym is) (told_why w)

pub not_written : (s : Status) → IsTold s → s ≡ status.WriteFault → ⊥
not_written s is same = subst IsTold same is

pub not_memory : (s : Status) → IsTold s → s ≡ status.Memory → ⊥
not_memory s is same = subst IsTold same is

-- and which are none of these
abbrev IsJudged : Status → Type 0
IsJudged status.Usage = ⊥
IsJudged status.ReadFault = ⊥
IsJudged _ = Unit {0}

judged : (refused : Bool) → IsJudged (ending refused)
judged true = tt
judged false = tt

pub not_usage : (refused : Bool) (s : Status) → s ≡ ending refused → s ≡ status.Usage → ⊥
not_usage refused s is called = subst IsJudged (sym is ∙ called) (judged refused)

pub not_unread : (refused : Bool) (s : Status) → s ≡ ending refused → s ≡ status.ReadFault → ⊥
not_unread refused s is unread = subst IsJudged (sym is ∙ unread) (judged refused)

abbrev IsStopped : Status → Type 0
IsStopped status.Usage = ⊥
IsStopped _ = Unit {0}

stopped : (w : Why) → IsStopped (status_of w)
stopped (why.Manifest f) = tt
stopped (why.Trace fault.NotJson) = tt
stopped (why.Trace (fault.BadShape item)) = tt
stopped (why.Trace (fault.TooMany items)) = tt
stopped (why.Trace fault.Memory) = tt
stopped (why.TooLong limit) = tt
stopped why.Unread = tt
