-- What calls do to files, one after the other.
use Rattle.std.proofs.Common.{ℕ, ◌≤◌, ◌<◌, ◌^◌, ◌-◌, inl, inr, Option, refl, ◌∙◌, arith}
use Rattle.std.proofs.lemmas.Bool.{cases_lt}
use Rattle.host_io.specs.Files.{FileMap, Rose}
use Rattle.run_steps.specs.Reading.{ReadsFiles}

rose_later : (a b c : ℕ) → a ≤ b → b ≤ c → Rose b c → Rose a c
rose_later a b c before after rose = λ low. elim (cases_lt b (2 ^ 64 - 1)) as (λ _. a < c) [
  | inl lt ↦ (let later : b < c = rose lt in omega arith)
  | inr ge ↦ omega arith
]

module _ {F : Type 0} (told : F → Option FileMap) (calm : F → Type 0) (faults : F → ℕ) where
  -- a call that reads nothing
  pub reads_nothing : {a : F} {Failed Enough : Type 0} → (Failed → ⊥) → ReadsFiles told calm faults a a Failed Enough
  reads_nothing never =
      record {
        same = refl;
        count = omega arith;
        cause = λ failed. absurd (never failed);
        no_fault = λ is has. never;
        no_rise = λ is has. refl;
        stay_calm = λ is has. is;
      }

  -- a call whose faults and needs are said otherwise
  pub reads_as : {a b : F} {Failed Enough G H : Type 0} → ReadsFiles told calm faults a b Failed Enough → (G → Failed) → (H → Enough) → ReadsFiles told calm faults a b G H
  reads_as r fails has =
      record {
        same = r.same;
        count = r.count;
        cause = λ g. r.cause (fails g);
        no_fault = λ is h g. r.no_fault is (has h) (fails g);
        no_rise = λ is h. r.no_rise is (has h);
        stay_calm = λ is h. r.stay_calm is (has h);
      }

  -- one call after another
  pub reads_then : {a b c : F} {Failed Enough G H Fault All : Type 0} → ReadsFiles told calm faults a b Failed Enough → ReadsFiles told calm faults b c G H → (Fault → G) → (All → Enough) → (All → H) → ReadsFiles told calm faults a c Fault All
  reads_then {a} {b} {c} x y fails first second =
      record {
        same = y.same ∙ x.same;
        count = omega (arith, x.count, y.count);
        cause = λ fault. rose_later (faults a) (faults b) (faults c) x.count y.count (y.cause (fails fault));
        no_fault = λ is all fault. y.no_fault (x.stay_calm is (first all)) (second all) (fails fault);
        no_rise = λ is all. y.no_rise (x.stay_calm is (first all)) (second all) ∙ x.no_rise is (first all);
        stay_calm = λ is all. y.stay_calm (x.stay_calm is (first all)) (second all);
      }
