-- Which certificates are of the stated shape, and which lines of bytes spell them.
use Rattle.std.specs.Prelude.{◌≡◌, ◌≤◌, ℕ, suc, ◌^◌, ◌-◌, Bool, true, ◌&&◌, not, List, [], ◌∷◌, map, take, length, slice_index, nat_eq, nat_le, nat_lt, ◌==◌, if◌then◌else◌}
use Rattle.std.specs.List.{list_all, list_any, onto_first}
use Rattle.std.specs.Str.{bytes_eq}
use Rattle.exact_refusals.specs.Plain.{IsRefusedAt}
use Rattle.reach_cert.specs.declared.cert.Ref.{Ref}
use Rattle.reach_cert.specs.declared.cert.Ref.TheVariants.{Cell}
use Rattle.reach_cert.specs.declared.fault.CertFault.{CertFault}
use Rattle.reach_cert.specs.declared.fault.CertFault.TheVariants as fault
use Rattle.reach_cert.specs.Certs.{Row, Slot, Refused, Shown, line_text, cert_lines}

-- ## The shape

-- a letter from A to Z
abbrev pub is_capital : ℕ → Bool
is_capital b = nat_le 65 b && nat_le b 90

-- the name of a slot: 1 to 31 letters from A to Z, and one `_`
unfoldable pub is_name : List ℕ → Bool
is_name word =
    nat_le 2 (length word) && nat_le (length word) 32
    && nat_eq (slice_index word (length word - 1)) 95
    && list_all is_capital (take (length word - 1) word)

-- names are names of slots, and numbers are below 2^32
abbrev pub is_ref : Ref → Bool
is_ref (Cell name number) = is_name name && nat_lt number (2 ^ 32)
is_ref _ = true

abbrev pub is_row : Row → Bool
is_row row = list_all is_ref row.refs

abbrev pub is_slot : Slot → Bool
is_slot (Refused name) = is_name name
is_slot (Shown name rows held) = is_name name && nat_le (length rows) (2 ^ 32) && list_all is_row rows && list_all is_ref held

abbrev pub slot_name : Slot → List ℕ
slot_name (Refused name) = name
slot_name (Shown name rows held) = name

-- some slot has the name
abbrev pub is_used : List Slot → List ℕ → Bool
is_used slots name = list_any (λ slot. bytes_eq (slot_name slot) name) slots

-- no two slots have one name
abbrev pub are_distinct : List Slot → Bool
are_distinct [] = true
are_distinct (slot ∷ slots) = not (is_used slots (slot_name slot)) && are_distinct slots

-- a certificate of the stated shape
pub record IsCert (slots : List Slot) : Type 0 where
  pub few : length slots ≤ 16
  pub distinct : are_distinct slots ≡ true
  pub good : list_all is_slot slots ≡ true

-- ## The bytes

-- the lines of bytes, each with its line feed, which the last one may lack
abbrev pub lines_of : List ℕ → List (List ℕ)
lines_of [] = []
lines_of (b ∷ bytes) = if b == 10 then (b ∷ []) ∷ lines_of bytes else onto_first b (lines_of bytes)

-- these are the lines of the certificate, and it is of the stated shape
pub record SpellsCert (lines : List (List ℕ)) (slots : List Slot) : Type 0 where
  pub same : lines ≡ map line_text (cert_lines slots)
  pub shape : IsCert slots

-- the first line at which no certificate begins with the lines so far, or the line after the last, where these begin one and are none
abbrev pub IsBadLine : List ℕ → ℕ → Type 0
IsBadLine bytes line = (at : ℕ) × (line ≡ suc at) × IsRefusedAt SpellsCert (lines_of bytes) at

-- the bytes are no certificate, with that line, or there was no memory
abbrev pub IsCertFault : List ℕ → CertFault → Type 0
IsCertFault bytes (fault.BadCert line) = IsBadLine bytes line
IsCertFault bytes fault.Memory = Unit {0}
