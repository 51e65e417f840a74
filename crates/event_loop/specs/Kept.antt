-- What is kept with the nodes of a widget.
use Rattle.std.specs.Prelude.{◌≡◌, ℕ, List, [], ◌∷◌, ◌++◌, map, Bool, true, false, not, Option, Some, None, nat_eq, ◌==◌, if◌then◌else◌}
use Rattle.std.specs.List.{filter}
use Rattle.std.specs.Str.{bytes_eq}
use Rattle.std.specs.HashMap.{HashMap, get_by}
use Rattle.event_loop.specs.declared.kept.Kept.{Kept}

-- handlers in order of listening, each with its type and the cell of its function; the mark, if one was set; and whether the node is protected
pub record PlainKept : Type 0 where
  pub handlers : List (List ℕ × ℕ)
  pub mark : Option (List ℕ)
  pub is_protected : Bool

-- nothing
abbrev pub nothing : PlainKept
nothing = record { handlers = []; mark = None; is_protected = false }

-- what an entry says
abbrev pub kept_of : Option Kept → PlainKept
kept_of None = nothing
kept_of (Some k) = record { handlers = k.handlers.items; mark = k.mark; is_protected = k.is_protected }

module _ {S : Type 0} where
  -- what is kept with a node
  abbrev pub kept_in : HashMap ℕ Kept S → ℕ → PlainKept
  kept_in table n = kept_of (get_by (nat_eq n) table)

  -- what is kept with one node changes
  abbrev pub ChangedIn : HashMap ℕ Kept S → HashMap ℕ Kept S → ℕ → (PlainKept → PlainKept) → Type 0
  ChangedIn old new node change = (n : ℕ) → kept_in new n ≡ (if n == node then change (kept_in old n) else kept_in old n)

  -- what is kept with all nodes stays
  abbrev pub SameIn : HashMap ℕ Kept S → HashMap ℕ Kept S → Type 0
  SameIn old new = (n : ℕ) → kept_in new n ≡ kept_in old n

-- one more handler
abbrev pub with_handler : List ℕ → ℕ → PlainKept → PlainKept
with_handler kind func k = record k { handlers = k.handlers ++ (kind, func) ∷ [] }

-- handlers without those of a type, or none
abbrev pub left : Option (List ℕ) → List (List ℕ × ℕ) → List (List ℕ × ℕ)
left None hs = []
left (Some kind) hs = filter (λ h. not (bytes_eq h.0 kind)) hs

-- without the handlers of a type, or without all
abbrev pub without_handlers : Option (List ℕ) → PlainKept → PlainKept
without_handlers kind k = record k { handlers = left kind k.handlers }

-- with a mark
abbrev pub with_mark : List ℕ → PlainKept → PlainKept
with_mark text k = record k { mark = Some text }

-- protected for good
abbrev pub protected : PlainKept → PlainKept
protected k = record k { is_protected = true }

-- the functions that listen to a type, in order
abbrev pub listening : PlainKept → List ℕ → List ℕ
listening k kind = map (λ h. h.1) (filter (λ h. bytes_eq h.0 kind) k.handlers)
