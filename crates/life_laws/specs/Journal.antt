-- Picks of many widgets: what one does, the journal, and many one after the other.
use Rattle.std.specs.Prelude.{◌≡◌, ℕ, zero, suc, ◌+◌, ◌-◌, ◌<◌, true, nat_eq, if◌then◌else◌, List, [], ◌∷◌, ◌++◌, map, length, drop, slice_get, slice_set, All, Some}
use Rattle.life_laws.specs.Life.{Seen, due, image, ready}
use Rattle.life_laws.specs.Life as todo
use Rattle.life_laws.specs.declared.entry.PickEntry.{PickEntry}
use Rattle.life_laws.specs.declared.entry.Picked.{Picked}
use Rattle.life_laws.specs.declared.entry.Picked.TheVariants as picked
use Rattle.life_laws.specs.Picks.{Picks}

-- one widget was picked, and each other stays
pub record PickedAt (w k : ℕ) (r : Picked) (old new : List Seen) : Type 0 where
  pub was : Seen
  pub is : Seen
  pub at : slice_get old w ≡ Some was
  pub set : new ≡ slice_set old w is
  pub picks : Picks k r was is
  pub lighter : ready was ≡ true → todo.weight is < todo.weight was

-- ## The journal

-- how many picks a journal keeps
abbrev pub journal_room : ℕ
journal_room = 65536

-- the last ones of a list
abbrev pub kept : List PickEntry → List PickEntry
kept js = drop (length js - journal_room) js

-- a journal after a pick: an idle one has no entry
abbrev pub journal_after : Picked → PickEntry → List PickEntry → List PickEntry
journal_after picked.Idle e js = js
journal_after (picked.Unfinished spent) e js = kept (js ++ e ∷ [])
journal_after picked.Ended e js = kept (js ++ e ∷ [])

-- where the next kept pick of a widget begins, or what it has spent
abbrev pub next_before : ℕ → List PickEntry → ℕ → ℕ
next_before w [] spent = spent
next_before w (e ∷ es) spent = if nat_eq e.widget w then e.before else next_before w es spent

-- a widget's kept picks follow on each other, and the last ends at what it has spent
abbrev pub Joined : ℕ → List PickEntry → ℕ → Type 0
Joined w [] spent = Unit {0}
Joined w (e ∷ es) spent = (e.widget ≡ w → e.after ≡ next_before w es spent) × Joined w es spent

-- the entry of a pick
abbrev pub entry_of : ℕ → ℕ → Seen → Seen → PickEntry
entry_of w k was is = record { widget = w; before = (image was).spent; after = (image is).spent; slice = k }

-- a pick, and its entry
pub record Kept (w k : ℕ) (r : Picked) (old new : List Seen) (js ks : List PickEntry) : Type 0 where
  pub picked : PickedAt w k r old new
  pub journal : ks ≡ journal_after r (entry_of w k picked.was picked.is) js

-- so it is for each widget
abbrev pub AllJoined : List PickEntry → List Seen → Type 0
AllJoined js ss = (w : ℕ) (s : Seen) → slice_get ss w ≡ Some s → Joined w js (image s).spent

-- ## Settling

-- the widgets that are ready, in rising order
abbrev pub ready_from : ℕ → List Seen → List ℕ
ready_from v [] = []
ready_from v (s ∷ ss) = if ready s then v ∷ ready_from (v + 1) ss else ready_from (v + 1) ss

-- what all widgets have left
abbrev pub weights : List Seen → ℕ
weights [] = 0
weights (s ∷ ss) = todo.weight s + weights ss

-- a journal after these entries
abbrev pub keeps : List PickEntry → List PickEntry → List PickEntry
keeps js [] = js
keeps js (e ∷ es) = keeps (kept (js ++ e ∷ [])) es

-- nothing that is to come has changed, and these picks of this slice were made
pub record Went (k : ℕ) (old new : List Seen) (js ks : List PickEntry) : Type 0 where
  pub dues : map due new ≡ map due old
  pub added : List PickEntry
  pub journal : ks ≡ keeps js added
  pub slices : All (λ (e : PickEntry). e.slice ≡ k) added

-- ## Giving

-- one more work in a queue
abbrev pub queued : todo.Work → Seen → Seen
queued i s = record s { queue = s.queue ++ i ∷ [] }

-- a function at one place of a list
abbrev pub on_at : {A : Type 0} → ℕ → (A → A) → List A → List A
on_at n f [] = []
on_at zero f (x ∷ xs) = f x ∷ xs
on_at (suc n) f (x ∷ xs) = x ∷ on_at n f xs
