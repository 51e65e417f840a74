-- Runs of characters, and the ends of a list.
use Rattle.std.proofs.Common.{◌≡◌, ℕ, ◌≤◌, List, [], ◌∷◌, length, Bool, false, refl, arith}
use Rattle.std.proofs.lemmas.Bool.{cond_both}
use Rattle.js_tokens.specs.Characters.{Begins}
use Rattle.js_tokens.specs.Lexes.{Run}
use Rattle.js_tokens.specs.Lexes.Run.{none, more}
use Rattle.js_tokens.specs.Scan.{after_run, tail}

-- rest is an end of cs
pub data Suffix : List ℕ → List ℕ → Type 0 where
  whole : {cs : List ℕ} → Suffix cs cs
  next : {c : ℕ} {cs rest : List ℕ} → Suffix cs rest → Suffix (c ∷ cs) rest

pub suffix_length : {cs rest : List ℕ} → Suffix cs rest → length rest ≤ length cs
suffix_length whole = omega arith
suffix_length (next s) = omega (arith, suffix_length s)

-- two ends of one length are one
pub suffix_once : {cs r q : List ℕ} → Suffix cs r → Suffix cs q → length r ≡ length q → r ≡ q
suffix_once whole whole e = refl
suffix_once whole (next s) e = absurd (omega (arith, suffix_length s))
suffix_once (next s) whole e = absurd (omega (arith, suffix_length s))
suffix_once (next s) (next t) e = suffix_once s t e

pub suffix_more : {cs ds rest : List ℕ} → Suffix cs ds → Suffix ds rest → Suffix cs rest
suffix_more whole t = t
suffix_more (next s) t = next (suffix_more s t)

pub run_suffix : {p : ℕ → Bool} {cs rest : List ℕ} → Run p cs rest → Suffix cs rest
run_suffix none = whole
run_suffix (more e r) = next (run_suffix r)

pub run_sound : (p : ℕ → Bool) (cs : List ℕ) → Run p cs (after_run p cs)
run_sound p [] = none
run_sound p (c ∷ cs) = cond_both (p c) (after_run p cs) (c ∷ cs) (λ r. Run p (c ∷ cs) r) (λ e. more e (run_sound p cs)) (λ e. none)

pub run_stops : (p : ℕ → Bool) (cs : List ℕ) → Begins p (after_run p cs) ≡ false
run_stops p [] = refl
run_stops p (c ∷ cs) = cond_both (p c) (after_run p cs) (c ∷ cs) (λ r. Begins p r ≡ false) (λ e. run_stops p cs) (λ e. e)

pub after_run_suffix : (p : ℕ → Bool) (cs : List ℕ) → Suffix cs (after_run p cs)
after_run_suffix p cs = run_suffix (run_sound p cs)

pub run_longest : {p : ℕ → Bool} {cs other : List ℕ} → Run p cs other → length (after_run p cs) ≤ length other
run_longest {p} {cs} none = suffix_length (after_run_suffix p cs)
run_longest {p} (more e r) = rw e (run_longest r)

pub stopped : (p : ℕ → Bool) (cs : List ℕ) → Begins p cs ≡ false → after_run p cs ≡ cs
stopped p [] stop = refl
stopped p (c ∷ cs) stop = rw stop refl

-- a run that stops is the whole run
pub run_once : {p : ℕ → Bool} {cs rest : List ℕ} → Run p cs rest → Begins p rest ≡ false → after_run p cs ≡ rest
run_once {p} {cs} none stop = stopped p cs stop
run_once (more e r) stop = rw e (run_once r stop)

pub tail_suffix : (cs : List ℕ) → Suffix cs (tail cs)
tail_suffix [] = whole
tail_suffix (c ∷ cs) = next whole
