-- The host that is left, step by step.
use Rattle.std.proofs.Common.{◌≡◌, ℕ, List, Bool, true, false, Option, Some, None, Result, Ok, Err, IfOk, IfSome, refl, sym, subst}
use Rattle.host_io.specs.Files.{FileMap}
use Rattle.page_play.specs.Host.{Host}
use Rattle.run_steps.specs.declared.reading.NoReport.{NoReport}
use Rattle.adhost_run.specs.declared.reports.Report.{Report}
use Rattle.run_steps.specs.declared.reading.NoReport.TheVariants as stop
use Rattle.run_steps.specs.declared.ending.Status.{Status}
use Rattle.run_steps.specs.Request.{Request, Asks}
use Rattle.adhost_run.specs.Ends.{writes, Written, whole, part}
use Rattle.run_steps.specs.Ends.{status_of}
use Rattle.adhost_run.specs.Stage.{Left, IsLeft, RequestLeaves, Leaves}

-- what is left with what a step gave
module _ {T : Type 0} (Gives : FileMap → T → Type 0) (next : FileMap → T → Option Host → Type 0) (x : T) where
  by_told : (told : Option FileMap) (h : Option Host) → IfSome told (λ m. Gives m x) → IfSome told (λ m. next m x h) → IfSome told (λ m. Left (Gives m) (next m) h)
  by_told None h given is = is
  by_told (Some m) h given is = record { from = x; gave = given; left = is }

  by_result : (told : Option FileMap) (r : Result Report NoReport) → IfSome told (λ m. Gives m x) → IsLeft told r (λ m. next m x) → IsLeft told r (λ m. Left (Gives m) (next m))
  by_result told (Ok t) given is = by_told told t.host given is
  by_result told (Err e) given is = is

  -- over the files that the step left
  pub left_on : (told now : Option FileMap) (r : Result Report NoReport) → now ≡ told → IfSome told (λ m. Gives m x) → IsLeft now r (λ m. next m x) → IsLeft told r (λ m. Left (Gives m) (next m))
  left_on told now r same given is = by_result told r given (subst (λ t. IsLeft t r (λ m. next m x)) same is)

-- what holds of any files
pub left_here : (told : Option FileMap) (leaves : FileMap → Option Host → Type 0) (h : Option Host) → ((m : FileMap) → leaves m h) → IfSome told (λ m. leaves m h)
left_here None leaves h is = tt
left_here (Some m) leaves h is = is m

-- ## Requests

pub as_asked : (q r : Request) (told : Option FileMap) (res : Result Report NoReport) → q ≡ r → IsLeft told res (λ m. RequestLeaves m r) → IsLeft told res (λ m. RequestLeaves m q)
as_asked q r told res same left = subst (λ x. IsLeft told res (λ m. RequestLeaves m x)) (sym same) left

-- no page ran
pub none_left : (q r : Request) (told : Option FileMap) (res : Result Report NoReport) → q ≡ r → ((m : FileMap) (h : Option Host) → h ≡ None → RequestLeaves m r h) → IfOk res (λ t. t.host ≡ None) → IsLeft told res (λ m. RequestLeaves m q)
none_left q r told res same is none = as_asked q r told res same (by res none) where
  by : (x : Result Report NoReport) → IfOk x (λ t. t.host ≡ None) → IsLeft told x (λ m. RequestLeaves m r)
  by (Ok t) n = left_here told (λ m h. RequestLeaves m r h) t.host (λ m. is m t.host n)
  by (Err e) n = tt

pub leaves_of : (told : Option FileMap) (words : List (List ℕ)) (q : Request) (h : Option Host) → Asks words q → IfSome told (λ m. RequestLeaves m q h) → IfSome told (λ m. Leaves words m h)
leaves_of None words q h asks is = is
leaves_of (Some m) words q h asks is = record { request = q; asks = asks; leaves = is }

-- ## Statuses

pub written_writes : (refused : Bool) (bytes : List ℕ) (room : ℕ) (old new : Option (List ℕ)) (s : Status) → Written refused bytes room old new s → writes s ≡ true
written_writes true bytes room old new s (whole is) = refl
written_writes false bytes room old new s (whole is) = refl
written_writes refused bytes room old new s (part count less within is) = refl

pub stop_silent : (e : NoReport) → writes (status_of e) ≡ true → ⊥
stop_silent stop.BadManifest is = let f = is in cc
stop_silent stop.BadTrace is = let f = is in cc
stop_silent stop.TooLarge is = let f = is in cc
stop_silent stop.CertTooLarge is = let f = is in cc
stop_silent stop.BadCert is = let f = is in cc
stop_silent stop.ReadFault is = let f = is in cc
stop_silent stop.Memory is = let f = is in cc

pub not_both : (b : Bool) → b ≡ true → b ≡ false → ⊥
not_both b on off = let y = on in (let n = off in cc)
