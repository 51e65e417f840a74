-- A report is held whole, or a part of it.
use Rattle.std.proofs.Common.{◌⊎◌, inl, inr, Bool, ◌≤◌, ◌<◌, subst, ◌≡◌, ℕ, List, take, Option, length}
use Rattle.std.proofs.lemmas.Bool.{cases_lt}
use Rattle.host_io.specs.Sink.{with_bytes}
use Rattle.run_steps.specs.declared.ending.Status.{Status}
use Rattle.run_steps.specs.declared.ending.Status.TheVariants as status
use Rattle.adhost_run.specs.Answer.{ending}
use Rattle.adhost_run.specs.Ends.{Written, whole, part}

-- a report that was written whole
pub whole_of : (refused : Bool) (bytes : List ℕ) (room : ℕ) (old new : Option (List ℕ)) (s : Status) → ending refused ≡ s → new ≡ with_bytes old bytes → Written refused bytes room old new s
whole_of refused bytes room old new s is appended = subst (Written refused bytes room old new) is (whole appended)

-- and one that was not
pub part_of : (refused : Bool) (bytes shown : List ℕ) (room : ℕ) (old new : Option (List ℕ)) → shown ≡ bytes → (n : ℕ) × (n ≤ length shown) × (new ≡ with_bytes old (take n shown)) → (length shown ≤ room → ⊥) → Written refused bytes room old new status.WriteFault
part_of refused bytes shown room old new same piece short =
    subst (λ b. Written refused b room old new status.WriteFault) same (part piece.0 (by (cases_lt room (length shown))) piece.1 piece.2) where
      by : (room < length shown) ⊎ (length shown ≤ room) → room < length shown
      by (inl lt) = lt
      by (inr fits) = absurd (short fits)
