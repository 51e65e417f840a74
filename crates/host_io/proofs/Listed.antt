-- Lists of the calls that are to fail.
use Rattle.std.proofs.Common.{◌≡◌, ℕ, ◌<◌, ◌≤◌, ◌+◌, List, [], ◌∷◌, length, true, false, refl, arith}
use Rattle.std.proofs.lemmas.Grind.{common_steps}
use Rattle.host_io.specs.Memory.{SinkState, fails_next, is_past, takes_of, taken_of}
use Rattle.std.specs.Prelude.{nat_eq}
use Rattle.std.specs.List.{list_any}

-- no listed call is the next one
none_next : (fail : List ℕ) (calls : ℕ) → is_past fail calls ≡ true → list_any (λ n. nat_eq n (calls + 1)) fail ≡ false
none_next [] calls past = refl
none_next (n ∷ fail) calls past = grind (arith, common_steps, none_next fail calls)

pub fails_past : (fail : List ℕ) (calls : ℕ) → is_past fail calls ≡ true → fails_next fail calls ≡ false
fails_past fail calls past = grind (arith, common_steps, none_next fail calls past)

-- what is past stays so
pub past_from : (fail : List ℕ) (calls more : ℕ) → is_past fail calls ≡ true → calls ≤ more → is_past fail more ≡ true
past_from [] calls more past le = refl
past_from (n ∷ fail) calls more past le = grind (arith, common_steps, past_from fail calls more)

-- where a sink takes some bytes, no call is still to fail
pub takes_past : (s : SinkState) (n : ℕ) → 0 < n → n ≤ takes_of s → is_past s.fail s.calls ≡ true
takes_past s n some fits = grind (arith, common_steps)

-- a sink that took a piece in part, or whole, takes so much less
pub takes_less : (old new : SinkState) (len n : ℕ) → 0 < len → len ≤ takes_of old → old.calls ≤ new.calls → new.fail ≡ old.fail → new.room ≡ old.room → new.per_call ≡ old.per_call → length new.held ≡ length old.held + n → n ≡ taken_of old len → (0 < n) × (takes_of new + n ≡ takes_of old)
takes_less old new len n some fits later fail room per_call held taken =
    let past = takes_past old len some fits in
    let still : is_past new.fail new.calls ≡ true = rw fail (past_from old.fail old.calls new.calls past later) in
    grind (arith, common_steps)
