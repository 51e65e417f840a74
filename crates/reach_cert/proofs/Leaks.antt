-- The first line that leaks.
use Rattle.std.proofs.Common.{◌≡◌, ℕ, suc, ◌+◌, ◌<◌, ◌≤◌, Bool, true, false, List, [], ◌∷◌, ◌++◌, map, length, drop, get_or, refl, sym, ap, subst, ◌∙◌, arith, Option, Some, None, add-one, length-append, append_assoc}
use Rattle.std.proofs.lemmas.List.{drop_more, drop_all, length-map}
use Rattle.std.specs.List.{flat_map}
use Rattle.reach_cert.specs.declared.cert.Block.{Block}
use Rattle.reach_cert.specs.declared.cert.CellRow.{CellRow}
use Rattle.reach_cert.specs.declared.cert.Ref.{Ref}
use Rattle.reach_cert.specs.Certs.{Row, Slot, Refused, Shown, HeldLine, EndLine, row_of, slot_of, cell_lines, slot_lines, cert_lines}
use Rattle.reach_cert.specs.Walks.{leaks, some_leaves, slot_leaks, first_from, first_leak}

pub first_there : (xs ys : List Bool) (n k : ℕ) → first_from n xs ≡ Some k → first_from n (xs ++ ys) ≡ Some k
first_there [] ys n k e = cc
first_there (true ∷ xs) ys n k e = e
first_there (false ∷ xs) ys n k e = first_there xs ys (suc n) k e

pub first_behind : (xs ys : List Bool) (n : ℕ) → first_from n xs ≡ None → first_from n (xs ++ ys) ≡ first_from (n + length xs) ys
first_behind [] ys n e = let none : n + 0 ≡ n = omega arith in ap (λ k. first_from k ys) (sym none)
first_behind (true ∷ xs) ys n e = cc
first_behind (false ∷ xs) ys n e = let place : suc n + length xs ≡ n + suc (length xs) = omega arith in first_behind xs ys (suc n) e ∙ ap (λ k. first_from k ys) place

-- ## The lines of a widget

module _ (name : List ℕ) (cells : List CellRow) (held : List Ref) (count first : ℕ) (is : count ≡ length cells) where
  abbrev each : ℕ → List Bool
  each n = map (λ row. some_leaves name n row.refs) (map row_of cells)

  abbrev Whole : Option ℕ → Type 0
  Whole r = r ≡ first_from first (slot_leaks (Shown name (map row_of cells) held))

  rows_count : count ≡ length (map row_of cells)
  rows_count = is ∙ sym (length-map cells row_of)

  place : (n : ℕ) → suc first + length (each n) ≡ first + 1 + length cells
  place n = omega (arith, length-map (map row_of cells) (λ row. some_leaves name n row.refs), length-map cells row_of)

  to_whole : (r : Option ℕ) → r ≡ first_from (suc first) (each count ++ some_leaves name count held ∷ []) → Whole r
  to_whole r e = subst (λ n. r ≡ first_from (suc first) (each n ++ some_leaves name n held ∷ [])) rows_count e

  pub row_leaks : (line : ℕ) → Some line ≡ first_from (first + 1) (each count) → Whole (Some line)
  row_leaks line e = to_whole (Some line) (sym (first_there (each count) (some_leaves name count held ∷ []) (suc first) line (sym (rw add-one at e))))

  behind : None ≡ first_from (first + 1) (each count) → first_from (suc first) (each count ++ some_leaves name count held ∷ []) ≡ first_from (first + 1 + length cells) (some_leaves name count held ∷ [])
  behind e = first_behind (each count) (some_leaves name count held ∷ []) (suc first) (sym (rw add-one at e)) ∙ ap (λ k. first_from k (some_leaves name count held ∷ [])) (place count)

  pub held_leaks : None ≡ first_from (first + 1) (each count) → some_leaves name count held ≡ true → Whole (Some (first + 1 + length cells))
  held_leaks e leak = to_whole _ (sym (behind e ∙ ap (λ b. first_from (first + 1 + length cells) (b ∷ [])) leak))

  pub none_leaks : None ≡ first_from (first + 1) (each count) → some_leaves name count held ≡ false → Whole None
  none_leaks e leak = to_whole _ (sym (behind e ∙ ap (λ b. first_from (first + 1 + length cells) (b ∷ [])) leak))

-- ## The lines of blocks

-- each line is judged
cells_judged : (n : ℕ) (rows : List Row) → length (cell_lines n rows) ≡ length rows
cells_judged n [] = refl
cells_judged n (row ∷ rows) = ap suc (cells_judged (suc n) rows)

slot_judged : (slot : Slot) → length (slot_lines slot) ≡ length (slot_leaks slot)
slot_judged (Refused name) = refl
slot_judged (Shown name rows held) =
    omega (
      arith,
      length-append (cell_lines 0 rows) (HeldLine held ∷ []),
      length-append (map (λ row. some_leaves name (length rows) row.refs) rows) (some_leaves name (length rows) held ∷ []),
      cells_judged 0 rows,
      length-map rows (λ row. some_leaves name (length rows) row.refs),
    )

slots_judged : (slots : List Slot) → length (flat_map slot_lines slots) ≡ length (flat_map slot_leaks slots)
slots_judged [] = refl
slots_judged (slot ∷ slots) = omega (arith, length-append (slot_lines slot) (flat_map slot_lines slots), length-append (slot_leaks slot) (flat_map slot_leaks slots), slot_judged slot, slots_judged slots)

-- how many there are
pub lines_count : (slots : List Slot) → length (cert_lines slots) ≡ 2 + length (flat_map slot_leaks slots)
lines_count slots = omega (arith, length-append (flat_map slot_lines slots) (EndLine ∷ []), slots_judged slots)

-- and as many judgements
pub judged_each : (slots : List Slot) → length (leaks slots) ≡ length (cert_lines slots)
judged_each slots = omega (arith, length-append (flat_map slot_leaks slots) (false ∷ []), lines_count slots)

abbrev pub left : List Block → ℕ → List Bool
left blocks i = flat_map slot_leaks (map slot_of (drop i blocks))

-- before the first block
pub few_first : (slots : List Slot) (blocks : List Block) → slots ≡ map slot_of blocks → length (cert_lines slots) < 4294967295 → 2 + length (left blocks 0) < 4294967295
few_first slots blocks e few = omega (arith, lines_count slots, ap (λ l. length (flat_map slot_leaks l)) e, few)

pub goes_first : (slots : List Slot) (blocks : List Block) → slots ≡ map slot_of blocks → first_leak slots ≡ first_from 2 (left blocks 0 ++ false ∷ [])
unfolding first_leak
goes_first slots blocks e = ap (λ l. first_from 2 (flat_map slot_leaks l ++ false ∷ [])) e

module _ (blocks : List Block) (i : ℕ) (block : Block) (within : i < length blocks) (is : block ≡ get_or blocks i block) where
  abbrev here : List Bool
  here = slot_leaks (slot_of block)

  split : left blocks i ≡ here ++ left blocks (i + 1)
  split = ap (λ bs. flat_map slot_leaks (map slot_of bs)) (drop_more blocks i block within) ∙ ap (λ b. slot_leaks (slot_of b) ++ left blocks (i + 1)) (sym is)

  split_size : length (left blocks i) ≡ length here + length (left blocks (i + 1))
  split_size = ap length split ∙ length-append here (left blocks (i + 1))

  abbrev Goes : Option ℕ → ℕ → ℕ → Type 0
  Goes whole line k = whole ≡ first_from line (left blocks k ++ false ∷ [])

  parted : (line : ℕ) → first_from line (left blocks i ++ false ∷ []) ≡ first_from line (here ++ (left blocks (i + 1) ++ false ∷ []))
  parted line = ap (λ l. first_from line (l ++ false ∷ [])) split ∙ ap (first_from line) (append_assoc here (left blocks (i + 1)) (false ∷ []))

  pub few_left : (line count : ℕ) → count ≡ length here → line + length (left blocks i) < 4294967295 → line + count + length (left blocks (i + 1)) < 4294967295
  few_left line count e few = omega (arith, split_size, few, e)

  pub found : (whole : Option ℕ) (line leak : ℕ) → Goes whole line i → Some leak ≡ first_from line here → whole ≡ Some leak
  found whole line leak goes e = goes ∙ parted line ∙ first_there here (left blocks (i + 1) ++ false ∷ []) line leak (sym e)

  pub next : (whole : Option ℕ) (line count : ℕ) → count ≡ length here → Goes whole line i → None ≡ first_from line here → Goes whole (line + count) (i + 1)
  next whole line count size goes e = goes ∙ parted line ∙ first_behind here (left blocks (i + 1) ++ false ∷ []) line (sym e) ∙ ap (λ n. first_from (line + n) (left blocks (i + 1) ++ false ∷ [])) (sym size)

pub done : (blocks : List Block) (i : ℕ) (whole : Option ℕ) (line : ℕ) → length blocks ≤ i → whole ≡ first_from line (left blocks i ++ false ∷ []) → whole ≡ None
done blocks i whole line past goes = goes ∙ ap (λ bs. first_from line (flat_map slot_leaks (map slot_of bs) ++ false ∷ [])) (drop_all i blocks past)
