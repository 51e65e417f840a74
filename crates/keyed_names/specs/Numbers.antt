-- Hashers of numbers: a secret multiple and a secret summand, of which the high half counts
-- (multiply-add-shift: Dietzfelbinger, "Universal hashing and k-wise independent random variables via integer arithmetic without primes", 1996).
use Rattle.std.specs.Prelude.{ℕ, [], ◌∷◌, ◌+◌, ◌*◌, ◌/◌, ◌%◌, ◌^◌, List, bit_xor}
use Rattle.std.specs.List.{fold}
use Rattle.std.specs.Hash.DefaultHasher as sip
use Rattle.keyed_names.specs.declared.keys.Keys.{Keys}
use Rattle.keyed_names.specs.declared.numbers.NumberHasher.{NumberHasher}
use Rattle.keyed_names.specs.declared.numbers.NumberKeys.{NumberKeys}

-- bytes as a number, the first highest
abbrev pub number : List ℕ → ℕ
number bytes = fold (λ n byte. (n * 256 + byte) % 2 ^ 64) 0 bytes

-- the hasher was fed with a number
abbrev pub fed_with : NumberHasher → ℕ → NumberHasher
fed_with h n = record h { state = (bit_xor h.state n * h.factor + h.summand) % 2 ^ 64 }

abbrev pub write : NumberHasher → List ℕ → NumberHasher
write h bytes = fed_with h (number bytes)

abbrev pub finish : NumberHasher → ℕ
finish h = h.state / 2 ^ 32

-- what the keys' hasher makes of a byte
abbrev pub secret : Keys → ℕ → ℕ
secret keys which = sip.finish (sip.write keys.fed (which ∷ []))

-- the keys of tables of numbers, from those of tables of texts
abbrev pub number_keys : Keys → NumberKeys
number_keys keys = record { first = record { factor = secret keys 1; summand = secret keys 2; state = 0 } }
