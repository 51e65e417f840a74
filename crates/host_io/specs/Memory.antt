-- Files and a sink in memory, some of whose calls fail.
use Rattle.std.specs.Prelude.{ℕ, ◌+◌, ◌-◌, ◌^◌, List, length, [], ◌∷◌, Option, Some, None, Bool, true, cond, Vec, String, string_bytes, min, nat_eq, nat_le, nat_lt, ◌&&◌}
use Rattle.std.specs.List.{list_any}
use Rattle.std.specs.Str.{bytes_eq}
use Rattle.std.specs.declared.alloc.Global.{Global}

-- the first entry of the name
abbrev pub file_of : List (String Global × Vec ℕ Global) → List ℕ → Option (List ℕ)
file_of [] name = None
file_of (entry ∷ entries) name = cond (bytes_eq (string_bytes entry.0) name) (Some entry.1.items) (file_of entries name)

-- the calls so far, after one more
abbrev pub count_after : ℕ → ℕ
count_after calls = min (calls + 1) (2 ^ 32 - 1)

-- the next call is to fail: it has a number, and the number is listed
abbrev pub fails_next : List ℕ → ℕ → Bool
fails_next fail calls = nat_lt calls (2 ^ 32 - 1) && list_any (λ n. nat_eq n (calls + 1)) fail

-- no call that is listed is still to come
abbrev pub is_past : List ℕ → ℕ → Bool
is_past [] calls = true
is_past (n ∷ fail) calls = nat_le n calls && is_past fail calls

-- a sink in memory: what it holds, how many bytes it has room for, how many a call takes at most, the calls that fail, the calls so far, and the faults
pub record SinkState : Type 0 where
  pub held : List ℕ
  pub room : ℕ
  pub per_call : ℕ
  pub fail : List ℕ
  pub calls : ℕ
  pub faults : ℕ

-- how many bytes of a piece a call takes
abbrev pub taken_of : SinkState → ℕ → ℕ
taken_of s len = min len (min s.per_call (s.room - length s.held))

-- how many bytes it takes before a call may fail
abbrev pub takes_of : SinkState → ℕ
takes_of s = cond (is_past s.fail s.calls && nat_lt 0 s.per_call) (s.room - length s.held) 0
