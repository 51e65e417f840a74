-- Steps of the work, one after the other.
use Rattle.std.proofs.Common.{◌≡◌, ℕ, ◌≤◌, ◌<◌, ◌^◌, ◌-◌, inl, inr, Option, Some, None, IfSome, Result, Ok, Err, IfOk, IfErr, refl, sym, ap, subst, ◌∙◌, arith}
use Rattle.std.proofs.lemmas.Bool.{cases_lt}
use Rattle.host_io.specs.Files.{FileMap, Rose}
use Rattle.explain_run.specs.declared.ending.Status.{Status}
use Rattle.explain_run.specs.declared.ending.Status.TheVariants as status
use Rattle.explain_run.specs.declared.reading.Why.{Why}
use Rattle.explain_run.specs.declared.reading.NotTold.{NotTold}
use Rattle.explain_run.specs.declared.reading.NotTold.TheVariants as stop
use Rattle.explain_run.specs.Steps.{status_of, IsCause, IsStop, IsStopBy, IsUnread, IsBecause, Stepped}

pub rose_later : (a b c : ℕ) → a ≤ b → b ≤ c → Rose b c → Rose a c
rose_later a b c before after rose = λ low. elim (cases_lt b (2 ^ 64 - 1)) as (λ _. a < c) [
  | inl lt ↦ (let later : b < c = rose lt in omega arith)
  | inr ge ↦ omega arith
]

-- what stops one thing stops another
as_cause : (P Q : Status → Type 0) → ((s : Status) → P s → Q s) → (s : Status) → IsCause P s → IsCause Q s
as_cause P Q more status.Ok is = more status.Ok is
as_cause P Q more status.Refused is = more status.Refused is
as_cause P Q more status.Usage is = more status.Usage is
as_cause P Q more status.BadManifest is = more status.BadManifest is
as_cause P Q more status.BadTrace is = more status.BadTrace is
as_cause P Q more status.TooLarge is = more status.TooLarge is
as_cause P Q more status.ReadFault is = tt
as_cause P Q more status.WriteFault is = more status.WriteFault is
as_cause P Q more status.Memory is = more status.Memory is

as_stop : (P Q : Status → Type 0) → ((s : Status) → P s → Q s) → (e : NotTold) → IsStop P e → IsStop Q e
as_stop P Q more (stop.Bad file w) is = as_cause P Q more (status_of w) is
as_stop P Q more stop.Memory is = tt

pub told_stop : (P Q : FileMap → Status → Type 0) → ((m : FileMap) (s : Status) → P m s → Q m s) → (told : Option FileMap) (e : NotTold) → IfSome told (λ m. IsStop (P m) e) → IfSome told (λ m. IsStop (Q m) e)
told_stop P Q more None e is = is
told_stop P Q more (Some m) e is = as_stop (P m) (Q m) (more m) e is

cause_of : (P Q : Status → Type 0) → ((s : Status) → P s → Q s) → (s : Status) → P s → IsCause Q s
cause_of P Q more status.Ok is = more status.Ok is
cause_of P Q more status.Refused is = more status.Refused is
cause_of P Q more status.Usage is = more status.Usage is
cause_of P Q more status.BadManifest is = more status.BadManifest is
cause_of P Q more status.BadTrace is = more status.BadTrace is
cause_of P Q more status.TooLarge is = more status.TooLarge is
cause_of P Q more status.ReadFault is = tt
cause_of P Q more status.WriteFault is = more status.WriteFault is
cause_of P Q more status.Memory is = more status.Memory is

stop_of : (P Q : Status → Type 0) → ((s : Status) → P s → Q s) → (e : NotTold) → IsStopBy P e → IsStop Q e
stop_of P Q more (stop.Bad file w) is = cause_of P Q more (status_of w) is
stop_of P Q more stop.Memory is = tt

pub none_told : (told : Option FileMap) → IfSome told (λ m. Unit {0})
none_told None = tt
none_told (Some m) = tt

all_told : (P : FileMap → Type 0) → ((m : FileMap) → P m) → (told : Option FileMap) → IfSome told P
all_told P is None = tt
all_told P is (Some m) = is m

both_told : (P Q : FileMap → Type 0) → ((m : FileMap) → P m → Q m) → (told : Option FileMap) → IfSome told P → IfSome told Q
both_told P Q more None is = tt
both_told P Q more (Some m) is = more m is

-- no stop of bytes is one of a read
never_unread : (P : Status → Type 0) → (P status.ReadFault → ⊥) → (e : NotTold) → IsStopBy P e → IsUnread e → ⊥
never_unread P never (stop.Bad file w) is failed = never (subst P failed is)
never_unread P never stop.Memory is failed = failed

module _ {F : Type 0} (told : F → Option FileMap) (faults : F → ℕ) where
  -- nothing is read
  pub given_at_once : {T : Type 0} {a : F} (y : T) (H : FileMap → T → Type 0) (R : FileMap → Status → Type 0) → ((m : FileMap) → H m y) → Stepped told faults a a (Ok y) H R
  given_at_once {T} {a} y H R is = record {
    same = refl;
    count = omega arith;
    cause = λ failed. absurd failed;
    gives = all_told (λ m. H m y) is (told a);
    stops = tt;
  }

  pub no_memory : {T : Type 0} {a : F} (H : FileMap → T → Type 0) (R : FileMap → Status → Type 0) → Stepped told faults a a (Err stop.Memory) H R
  no_memory {T} {a} H R = record {
    same = refl;
    count = omega arith;
    cause = λ failed. absurd failed;
    gives = tt;
    stops = none_told (told a);
  }

  -- something was read, and there is no memory for more
  pub no_memory_after : {T : Type 0} {a b : F} (H : FileMap → T → Type 0) (R : FileMap → Status → Type 0) → told b ≡ told a → faults a ≤ faults b → Stepped told faults a b (Err stop.Memory) H R
  no_memory_after {T} {a} {b} H R same count = record {
    same = same;
    count = count;
    cause = λ failed. absurd failed;
    gives = tt;
    stops = none_told (told a);
  }

  -- it is given
  pub read_well : {T : Type 0} {a b : F} (y : T) (H : FileMap → T → Type 0) (R : FileMap → Status → Type 0) → told b ≡ told a → faults a ≤ faults b → IfSome (told a) (λ m. H m y) → Stepped told faults a b (Ok y) H R
  read_well {T} {a} {b} y H R same count is = record {
    same = same;
    count = count;
    cause = λ failed. absurd failed;
    gives = is;
    stops = tt;
  }

  -- something is wrong with it
  pub for_reason : {T : Type 0} {a b : F} {e : NotTold} (H : FileMap → T → Type 0) (R : FileMap → Status → Type 0) (w : Why) → told b ≡ told a → faults a ≤ faults b → IsBecause w e → IfSome (told a) (λ m. IsCause (R m) (status_of w)) → (status_of w ≡ status.ReadFault → Rose (faults a) (faults b)) → Stepped {T = T} told faults a b (Err e) H R
  for_reason {T} {a} {b} {e} H R w same count because is rose = record {
    same = same;
    count = count;
    cause = cause_is e because;
    gives = tt;
    stops = both_told (λ m. IsCause (R m) (status_of w)) (λ m. IsStop (R m) e) (λ m it. stop_is (R m) e because it) (told a) is;
  } where
    cause_is : (x : NotTold) → IsBecause w x → IsUnread x → Rose (faults a) (faults b)
    cause_is (stop.Bad file v) by failed = rose (ap status_of (sym by) ∙ failed)
    cause_is stop.Memory by failed = absurd failed

    stop_is : (P : Status → Type 0) (x : NotTold) → IsBecause w x → IsCause P (status_of w) → IsStop P x
    stop_is P (stop.Bad file v) by it = subst (λ u. IsCause P (status_of u)) (sym by) it
    stop_is P stop.Memory by it = tt

  -- a step that stops the work
  pub ended : {T U : Type 0} {a b : F} {e : NotTold} (G : FileMap → T → Type 0) (H : FileMap → U → Type 0) (S R : FileMap → Status → Type 0) → Stepped {T = T} told faults a b (Err e) G S → ((m : FileMap) (s : Status) → S m s → R m s) → Stepped {T = U} told faults a b (Err e) H R
  ended {T} {U} {a} {b} {e} G H S R step more = record {
    same = step.same;
    count = step.count;
    cause = step.cause;
    gives = tt;
    stops = told_stop S R more (told a) e step.stops;
  }

  -- one after others that gave something
  pub ended_after : {T U : Type 0} {a b c : F} {e : NotTold} (G : FileMap → T → Type 0) (H : FileMap → U → Type 0) (S R : FileMap → Status → Type 0) (Had : FileMap → Type 0) → told b ≡ told a → faults a ≤ faults b → IfSome (told a) Had → Stepped {T = T} told faults b c (Err e) G S → ((m : FileMap) → Had m → (s : Status) → S m s → R m s) → Stepped {T = U} told faults a c (Err e) H R
  ended_after {T} {U} {a} {b} {c} {e} G H S R Had same count had step more = record {
    same = step.same ∙ same;
    count = omega (arith, count, step.count);
    cause = λ failed. rose_later (faults a) (faults b) (faults c) count step.count (step.cause failed);
    gives = tt;
    stops = on (told a) had (subst (λ t. IfSome t (λ m. IsStop (S m) e)) same step.stops);
  } where
    on : (t : Option FileMap) → IfSome t Had → IfSome t (λ m. IsStop (S m) e) → IfSome t (λ m. IsStop (R m) e)
    on None has is = tt
    on (Some m) has is = as_stop (S m) (R m) (more m has) e is

  module _ {T U : Type 0} {a b : F} {x : T} (G : FileMap → T → Type 0) (H : FileMap → U → Type 0) (S R : FileMap → Status → Type 0) (step : Stepped told faults a b (Ok x) G S) where
    -- one after which something else is given
    pub given : (y : U) → ((m : FileMap) → G m x → H m y) → Stepped told faults a b (Ok y) H R
    given y more = record {
      same = step.same;
      count = step.count;
      cause = λ failed. absurd failed;
      gives = both_told (λ m. G m x) (λ m. H m y) more (told a) step.gives;
      stops = tt;
    }

    -- there was no memory for it
    pub no_memory_left : Stepped told faults a b (Err stop.Memory) H R
    no_memory_left = record {
      same = step.same;
      count = step.count;
      cause = λ failed. absurd failed;
      gives = tt;
      stops = none_told (told a);
    }

    -- what it gave is none
    pub stopped : (e : NotTold) (Bad : Status → Type 0) → IsStopBy Bad e → ((m : FileMap) → G m x → (s : Status) → Bad s → R m s) → (Bad status.ReadFault → ⊥) → Stepped told faults a b (Err e) H R
    stopped e Bad bad wrong never = record {
      same = step.same;
      count = step.count;
      cause = λ failed. absurd (never_unread Bad never e bad failed);
      gives = tt;
      stops = both_told (λ m. G m x) (λ m. IsStop (R m) e) (λ m has. stop_of Bad (R m) (wrong m has) e bad) (told a) step.gives;
    }

    -- what it gave is judged
    pub judged : (r : Result U NotTold) (P : U → Type 0) (Bad : Status → Type 0) → IfOk r P → IfErr r (IsStopBy Bad) → ((m : FileMap) → G m x → (y : U) → P y → H m y) → ((m : FileMap) → G m x → (s : Status) → Bad s → R m s) → (Bad status.ReadFault → ⊥) → Stepped told faults a b r H R
    judged (Ok y) P Bad is bad good wrong never = given y (λ m has. good m has y is)
    judged (Err e) P Bad is bad good wrong never = stopped e Bad bad wrong never

    -- and the work goes on
    pub went_on : {c : F} (r : Result U NotTold) (I : FileMap → U → Type 0) (Q : FileMap → Status → Type 0) → Stepped told faults b c r I Q → ((m : FileMap) → G m x → (y : U) → I m y → H m y) → ((m : FileMap) → G m x → (s : Status) → Q m s → R m s) → Stepped told faults a c r H R
    went_on {c} r I Q behind good wrong = record {
      same = behind.same ∙ step.same;
      count = omega (arith, step.count, behind.count);
      cause = λ failed. rose_later (faults a) (faults b) (faults c) step.count behind.count (behind.cause failed);
      gives = ok_on r (subst (λ t. IfOk r (λ y. IfSome t (λ m. I m y))) step.same behind.gives);
      stops = err_on r (subst (λ t. IfErr r (λ e. IfSome t (λ m. IsStop (Q m) e))) step.same behind.stops);
    } where
      two : (t : Option FileMap) (y : U) → IfSome t (λ m. G m x) → IfSome t (λ m. I m y) → IfSome t (λ m. H m y)
      two None y has is = tt
      two (Some m) y has is = good m has y is

      ok_on : (z : Result U NotTold) → IfOk z (λ y. IfSome (told a) (λ m. I m y)) → IfOk z (λ y. IfSome (told a) (λ m. H m y))
      ok_on (Ok y) is = two (told a) y step.gives is
      ok_on (Err e) is = tt

      stops_on : (t : Option FileMap) (e : NotTold) → IfSome t (λ m. G m x) → IfSome t (λ m. IsStop (Q m) e) → IfSome t (λ m. IsStop (R m) e)
      stops_on None e has is = tt
      stops_on (Some m) e has is = as_stop (Q m) (R m) (wrong m has) e is

      err_on : (z : Result U NotTold) → IfErr z (λ e. IfSome (told a) (λ m. IsStop (Q m) e)) → IfErr z (λ e. IfSome (told a) (λ m. IsStop (R m) e))
      err_on (Ok y) is = tt
      err_on (Err e) is = stops_on (told a) e step.gives is
