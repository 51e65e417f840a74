-- With which status a page ends that was loaded.
use Rattle.std.proofs.Common.{◌≡◌, ◌≤◌, ◌<◌, ◌^◌, ◌-◌, ℕ, List, Option, Bool, true, false, inl, inr, length, take, refl, sym, ap, subst, ◌∙◌, arith}
use Rattle.std.proofs.lemmas.Bool.{cases_lt}
use Rattle.host_io.specs.Files.{Rose}
use Rattle.host_io.specs.Sink.{with_bytes}
use Rattle.page_live.specs.findings.Findings.{Findings}
use Rattle.page_live.specs.Findings.{found_refused}
use Rattle.run_steps.specs.declared.ending.Status.{Status}
use Rattle.run_steps.specs.declared.ending.Status.TheVariants as status
use Rattle.live_text.specs.Answer.{full_text}
use Rattle.live_lines.specs.Transcript.{Closed, shut, no_room, cut, ending}
use Rattle.live_lines.specs.Outcome.{Ends, is_early}

-- what rose later rose
pub rose_later : (a b c : ℕ) → a ≤ b → b ≤ c → Rose b c → Rose a c
rose_later a b c before after rose = λ low. elim (cases_lt b (2 ^ 64 - 1)) as (λ _. a < c) [
  | inl lt ↦ (let later : b < c = rose lt in omega arith)
  | inr ge ↦ omega arith
]

module _ (Calm : Type 0) (a b c d : ℕ) (counted : c ≤ d) where
  -- without a fault
  ends_well : (how : Status) → is_early how ≡ false → (how ≡ status.ReadFault → ⊥) → (how ≡ status.WriteFault → ⊥) → Ends Calm a b c d how
  ends_well how late read written = record { late = late; unread = λ is. absurd (read is); calm = λ calm. read; count = counted; unwritten = λ is. absurd (written is) }

  pub ends_small : Ends Calm a b c d status.Memory
  ends_small = ends_well status.Memory refl (λ is. (let e = is in cc)) (λ is. (let e = is in cc))

  pub ends_ending : (refused : Bool) (how : Status) → how ≡ ending refused → Ends Calm a b c d how
  ends_ending refused how is = subst (λ h. Ends Calm a b c d h) (sym is) (by refused) where
    by : (r : Bool) → Ends Calm a b c d (ending r)
    by true = ends_well status.Refused refl (λ is. (let e = is in cc)) (λ is. (let e = is in cc))
    by false = ends_well status.Ok refl (λ is. (let e = is in cc)) (λ is. (let e = is in cc))

  -- a line could not be read
  pub ends_unread : Rose a b → (Calm → ⊥) → Ends Calm a b c d status.ReadFault
  ends_unread rose never = record { late = refl; unread = λ is. rose; calm = λ calm is. never calm; count = counted; unwritten = λ is. absurd (let e = is in cc) }

  -- a write failed
  pub ends_unwritten : Rose c d → Ends Calm a b c d status.WriteFault
  ends_unwritten rose = record { late = refl; unread = λ is. absurd (let e = is in cc); calm = λ calm is. (let e = is in cc); count = counted; unwritten = λ is. rose }

  -- it was closed
  pub ends_closed : (f : Findings) (from to : Option (List ℕ)) (how : Status) → Closed f from to how → (how ≡ status.WriteFault → Rose c d) → Ends Calm a b c d how
  ends_closed f from to how (shut written) cause = ends_ending (found_refused f) (ending (found_refused f)) refl
  ends_closed f from to how (no_room same) cause = ends_small
  ends_closed f from to how (cut count within written) cause = ends_unwritten (cause refl)

-- behind a write that was whole
pub ends_after : (Calm : Type 0) (a b x c d : ℕ) (how : Status) → x ≤ c → Ends Calm a b c d how → Ends Calm a b x d how
ends_after Calm a b x c d how before e = record {
  late = e.late;
  unread = e.unread;
  calm = e.calm;
  count = (let later = e.count in omega (arith, before, later));
  unwritten = λ is. rose_later x c d before e.count (e.unwritten is);
}

pub ending_written : (refused : Bool) (how : Status) → how ≡ ending refused → how ≡ status.WriteFault → ⊥
ending_written refused how same is = by refused (subst (λ h. h ≡ status.WriteFault) same is) where
  by : (r : Bool) → ending r ≡ status.WriteFault → ⊥
  by true e = cc
  by false e = cc

-- ## What is written where a page takes no more items

module _ (f : Findings) (from to : Option (List ℕ)) (bytes : List ℕ) (same : bytes ≡ full_text) where
  pub closed_shut : (how : Status) → how ≡ ending (found_refused f) → to ≡ with_bytes from bytes → Closed f from to how
  closed_shut how is written = subst (Closed f from to) (sym is) (shut (written ∙ ap (with_bytes from) same))

  pub closed_cut : (count : ℕ) × (count ≤ length bytes) × (to ≡ with_bytes from (take count bytes)) → Closed f from to status.WriteFault
  closed_cut cuts = cut cuts.0 (subst (λ (bs : List ℕ). cuts.0 ≤ length bs) same cuts.1) (cuts.2 ∙ ap (λ bs. with_bytes from (take cuts.0 bs)) same)
