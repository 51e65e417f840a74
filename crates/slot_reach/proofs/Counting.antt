-- How many lines a certificate has, and the names in it.
use Rattle.std.proofs.Common.{◌≡◌, ℕ, suc, ◌+◌, ◌*◌, ◌<◌, ◌≤◌, List, [], ◌∷◌, filter, map, length, refl, sym, ap, subst, ◌∙◌, arith, Bool, true, false, Option, Some, None, if◌then◌else◌, slice_get, length-append}
use Rattle.std.proofs.lemmas.List.{length-map}
use Rattle.std.specs.List.{IsDistinct, flat_map, list_all}
use Rattle.std.specs.Option.{option_map_or}
use Rattle.std.specs.Str.{bytes_eq}
use Rattle.store_cells.specs.Cells.{is_visible}
use Rattle.reach_cert.specs.declared.cert.Ref.{Ref}
use Rattle.reach_cert.specs.Certs as cert
use Rattle.reach_cert.specs.Certs.{EndLine, HeldLine, Row, cell_lines, cert_lines, slot_lines}
use Rattle.reach_cert.specs.Shape.{IsCert, is_name, slot_name}
use Rattle.reach_cert.specs.Walks.{IsConfined}
use Rattle.life_laws.specs.Chains.{last_life}
use Rattle.slot_picks.specs.declared.lives.Lives.{Lives}
use Rattle.slot_picks.specs.declared.lives.Place.{Place}
use Rattle.slot_picks.specs.declared.slots.Slot.{Slot}
use Rattle.native_image.specs.declared.handed.Shared.{Shared}
use Rattle.slot_picks.specs.Lives.{AreStanding}
use Rattle.slot_picks.specs.Places.{homes_of}
use Rattle.slot_reach.specs.Reads.{cell_row, cell_rows, held_refs, read_slot}
use Rattle.slot_reach.specs.Lasts.{AreFew, AreNames, life_read, names_before, names_of, reached, slot_read}
use Rattle.slot_reach.proofs.Naming.{chain_at, low_last}

-- ## Lines

rows_count : (n : ℕ) (rows : List Row) → length (cell_lines n rows) ≡ length rows
rows_count n [] = refl
rows_count n (row ∷ rows) = ap suc (rows_count (suc n) rows)

refused_size : (name : List ℕ) → length (slot_lines (cert.Refused name)) ≤ 524290
refused_size name = omega arith

shown_size : (name : List ℕ) (rows : List Row) (held : List Ref) → length rows ≤ 524288 → length (slot_lines (cert.Shown name rows held)) ≤ 524290
shown_size name rows held few = omega (arith, length-append (cell_lines 0 rows) (HeldLine held ∷ []), rows_count 0 rows, few)

-- no widget has more visible cells
abbrev pub Few : Shared → Type 0
Few h = (w : ℕ) → w < 32 → length (filter (is_visible w) h.store.cells) ≤ 524288

module _ (h : Shared) (law : Few h) (names : List (Option (List ℕ))) (name : List ℕ) (v : ℕ) (p : Place) (low : v < 32) where
  read_size : length (slot_lines (read_slot names h.store.cells name v h.page p.life.widget.around)) ≤ 524290
  unfolding read_slot
  read_size =
      let own = filter (is_visible v) h.store.cells in
      shown_size name (cell_rows names h.store.cells v h.store.cells) (held_refs names h.store.cells v h.page p.life.widget.around)
      (omega (arith, length-map own (cell_row names h.store.cells), law v low))

  life_size : length (slot_lines (life_read names h name v p)) ≤ 524290
  life_size = by p.life.accepted
    where
      by : (b : Bool) → length (slot_lines (if b then read_slot names h.store.cells name v h.page p.life.widget.around else cert.Refused name)) ≤ 524290
      by true = read_size
      by false = refused_size name

all_sizes : {X : Type 0} (f : X → cert.Slot) (xs : List X) → ((k : ℕ) (x : X) → slice_get xs k ≡ Some x → length (slot_lines (f x)) ≤ 524290) → length (flat_map slot_lines (map f xs)) ≤ 524290 * length xs
all_sizes f [] h = omega arith
all_sizes f (x ∷ xs) h =
    omega (arith, length-append (slot_lines (f x)) (flat_map slot_lines (map f xs)), h 0 x refl, all_sizes f xs (λ k y e. h (suc k) y e))

all_lines : (slots : List cert.Slot) (n : ℕ) → length (flat_map slot_lines slots) ≤ 524290 * n → n ≤ 16 → length (cert_lines slots) < 4294967295
all_lines slots n size few = omega (arith, length-append (flat_map slot_lines slots) (EndLine ∷ []), size, few)

module _ (c : Lives) (ss : List Slot) (law : Few c.shared) (stand : AreStanding c ss) (few : AreFew c ss) where
  abbrev names : List (Option (List ℕ))
  names = names_before ss (length c.places.items)

  low_at : (k : ℕ) (s : Slot) → slice_get ss k ≡ Some s → last_life s.lives.items < 32
  low_at k s at =
      let low : last_life s.lives.items < stand.born = low_last (homes_of c.places.items) stand.born (0 + k) s.lives.items (chain_at (homes_of c.places.items) stand.born 0 ss k s stand.chains at) in
      omega (arith, low, stand.few, few.0)

  slot_size : (k : ℕ) (s : Slot) → slice_get ss k ≡ Some s → length (slot_lines (slot_read names c s)) ≤ 524290
  slot_size k s at = by (slice_get c.places.items (last_life s.lives.items))
    where
      by : (x : Option Place) → length (slot_lines (option_map_or (life_read names c.shared s.name (last_life s.lives.items)) x (cert.Refused s.name))) ≤ 524290
      by None = refused_size s.name
      by (Some p) = life_size c.shared law names s.name (last_life s.lives.items) p (low_at k s at)

  pub few_lines : length (cert_lines (reached c ss)) < 4294967295
  unfolding reached
  few_lines = all_lines (map (slot_read names c) ss) (length ss) (all_sizes (slot_read names c) ss slot_size) few.1

-- ## Names

life_named : (found : List (Option (List ℕ))) (h : Shared) (name : List ℕ) (v : ℕ) (p : Place) → slot_name (life_read found h name v p) ≡ name
unfolding read_slot
life_named found h name v p = by p.life.accepted
  where
    by : (b : Bool) → slot_name (if b then read_slot found h.store.cells name v h.page p.life.widget.around else cert.Refused name) ≡ name
    by true = refl
    by false = refl

slot_named : (found : List (Option (List ℕ))) (c : Lives) (s : Slot) → slot_name (slot_read found c s) ≡ s.name
slot_named found c s = by (slice_get c.places.items (last_life s.lives.items))
  where
    by : (x : Option Place) → slot_name (option_map_or (life_read found c.shared s.name (last_life s.lives.items)) x (cert.Refused s.name)) ≡ s.name
    by None = refl
    by (Some p) = life_named found c.shared s.name (last_life s.lives.items) p

named_along : (found : List (Option (List ℕ))) (c : Lives) (ss : List Slot) → map slot_name (map (slot_read found c) ss) ≡ names_of ss
named_along found c [] = refl
named_along found c (s ∷ ss) = (λ i. slot_named found c s i ∷ named_along found c ss i)

pub names_are : (c : Lives) (ss : List Slot) → map slot_name (reached c ss) ≡ names_of ss
unfolding reached
names_are c ss = named_along (names_before ss (length c.places.items)) c ss

-- so many slots
as_many : (c : Lives) (ss : List Slot) → length (reached c ss) ≡ length ss
unfolding reached
as_many c ss = length-map ss (slot_read (names_before ss (length c.places.items)) c)

-- ## The stated shape

abbrev pub ShapeLaw : Type 0
ShapeLaw = (slots : List cert.Slot) → IsConfined slots → length slots ≤ 16 → list_all is_name (map slot_name slots) ≡ true → IsDistinct bytes_eq (map slot_name slots) → length (cert_lines slots) < 4294967295 → IsCert slots

pub shaped : (c : Lives) (ss : List Slot) → ShapeLaw → IsConfined (reached c ss) → length (cert_lines (reached c ss)) < 4294967295 → AreFew c ss → AreNames (names_of ss) → IsCert (reached c ss)
shaped c ss law confined lines few named =
    law (reached c ss) confined (omega (arith, as_many c ss, few.1)) (ap (list_all is_name) (names_are c ss) ∙ named.0) (subst (IsDistinct bytes_eq) (sym (names_are c ss)) named.1) lines
