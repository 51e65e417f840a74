-- Where a step stops.
use Rattle.std.proofs.Common.{◌≡◌, Option, Some, None, IfSome, IsSomeAnd, Err, IsErrOf, refl, ap}
use Rattle.host_io.specs.Files.{FileMap}
use Rattle.run_steps.specs.declared.ending.Status.{Status}
use Rattle.run_steps.specs.declared.ending.Status.TheVariants as status
use Rattle.run_steps.specs.declared.reading.NoReport.{NoReport}
use Rattle.run_steps.specs.declared.reading.NoReport.TheVariants as stop
use Rattle.run_steps.specs.Ends.{IsStop, status_of}

-- which errors there are
err_is : {T : Type 0} (s t : NoReport) → IsErrOf {T = T} (Err s) t → s ≡ t
err_is s t e = cc

pub again : {T U : Type 0} (s t : NoReport) → IsErrOf {T = T} (Err s) t → IsErrOf {T = U} (Err s) t
again s t e = ap Err (err_is s t e)

-- what stops one thing stops another
pub as_stop : (P Q : Status → Type 0) → ((s : Status) → P s → Q s) → (e : NoReport) → IsStop P e → IsStop Q e
as_stop P Q more stop.BadManifest is = more status.BadManifest is
as_stop P Q more stop.BadTrace is = more status.BadTrace is
as_stop P Q more stop.TooLarge is = more status.TooLarge is
as_stop P Q more stop.CertTooLarge is = more status.CertTooLarge is
as_stop P Q more stop.BadCert is = more status.BadCert is
as_stop P Q more stop.ReadFault is = tt
as_stop P Q more stop.Memory is = tt

module _ (P Q : FileMap → Status → Type 0) (more : (m : FileMap) (s : Status) → P m s → Q m s) where
  pub told_stop : (told : Option FileMap) (e : NoReport) → IfSome told (λ m. IsStop (P m) e) → IfSome told (λ m. IsStop (Q m) e)
  told_stop None e is = is
  told_stop (Some m) e is = as_stop (P m) (Q m) (more m) e is

module _ (All Enough : FileMap → Type 0) (enough : (m : FileMap) → All m → Enough m) where
  pub told_enough : (told : Option FileMap) → IsSomeAnd told All → IsSomeAnd told Enough
  told_enough None has = has
  told_enough (Some m) has = enough m has

module _ {T : Type 0} (Gives : FileMap → T → Type 0) (x : T) where
  pub step_enough : (All Rest : FileMap → Type 0) → ((m : FileMap) → Gives m x → All m → Rest m) → (told : Option FileMap) → IfSome told (λ m. Gives m x) → IsSomeAnd told All → IsSomeAnd told Rest
  step_enough All Rest rest None given has = has
  step_enough All Rest rest (Some m) given has = rest m given has

pub none_stops : (told : Option FileMap) → IfSome told (λ m. Unit {0})
none_stops None = tt
none_stops (Some m) = tt

-- ## No stop ends with these

pub stop_usage : (e : NoReport) → status_of e ≡ status.Usage → ⊥
stop_usage stop.BadManifest is = cc
stop_usage stop.BadTrace is = cc
stop_usage stop.TooLarge is = cc
stop_usage stop.CertTooLarge is = cc
stop_usage stop.BadCert is = cc
stop_usage stop.ReadFault is = cc
stop_usage stop.Memory is = cc

pub stop_write : (e : NoReport) → status_of e ≡ status.WriteFault → ⊥
stop_write stop.BadManifest is = cc
stop_write stop.BadTrace is = cc
stop_write stop.TooLarge is = cc
stop_write stop.CertTooLarge is = cc
stop_write stop.BadCert is = cc
stop_write stop.ReadFault is = cc
stop_write stop.Memory is = cc

pub stop_read : {T : Type 0} (e : NoReport) → status_of e ≡ status.ReadFault → IsErrOf {T = T} (Err e) stop.ReadFault
stop_read stop.BadManifest is = cc
stop_read stop.BadTrace is = cc
stop_read stop.TooLarge is = cc
stop_read stop.CertTooLarge is = cc
stop_read stop.BadCert is = cc
stop_read stop.ReadFault is = refl
stop_read stop.Memory is = cc
