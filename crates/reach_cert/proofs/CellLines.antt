-- The lines of cells, one more at a time.
use Rattle.std.proofs.Common.{◌≡◌, ℕ, zero, suc, ◌+◌, ◌<◌, ◌≤◌, List, [], ◌∷◌, ◌++◌, map, length, take, get_or, refl, sym, ap, ◌∙◌, append_assoc, append-nil, add-one, arith}
use Rattle.std.proofs.lemmas.List.{take_all}
use Rattle.std.proofs.lemmas.List.Concat.{flat_map-append}
use Rattle.std.specs.List.{flat_map}
use Rattle.reach_cert.specs.declared.cert.Block.{Block}
use Rattle.reach_cert.specs.declared.cert.CellRow.{CellRow}
use Rattle.reach_cert.specs.Certs.{Line, CellLine, row_of, slot_of, line_text, cell_lines, slot_lines}

-- the lines of the first cells
abbrev pub lines_to : ℕ → List CellRow → ℕ → List Line
lines_to n cells i = cell_lines n (map row_of (take i cells))

one_more : (cells : List CellRow) (n i : ℕ) (row : CellRow) → i < length cells → row ≡ get_or cells i row → lines_to n cells (suc i) ≡ lines_to n cells i ++ CellLine (n + i) (row_of row) ∷ []
one_more [] n i row lt e = absurd (omega (arith, lt))
one_more (c ∷ cells) n zero row lt e = let none : n + 0 ≡ n = omega arith in rw none (ap (λ r. CellLine n (row_of r) ∷ []) (sym e))
one_more (c ∷ cells) n (suc i) row lt e =
    let place : suc n + i ≡ n + suc i = omega arith in
    ap (λ l. CellLine n (row_of c) ∷ l) (one_more cells (suc n) i row (omega (arith, lt)) e ∙ ap (λ k. lines_to (suc n) cells i ++ CellLine k (row_of row) ∷ []) place)

-- their text
pub more_rows : (cells : List CellRow) (i : ℕ) (row : CellRow) (old mid new : List ℕ) → i < length cells → row ≡ get_or cells i row → mid ≡ old ++ flat_map line_text (lines_to 0 cells i) → new ≡ mid ++ line_text (CellLine i (row_of row)) → new ≡ old ++ flat_map line_text (lines_to 0 cells (i + 1))
more_rows cells i row old mid new lt is before more =
    let none : 0 + i ≡ i = omega arith in
    let line = CellLine i (row_of row) in
    let front = lines_to 0 cells i in
    let lines : lines_to 0 cells (i + 1) ≡ front ++ line ∷ [] = rw add-one (one_more cells 0 i row lt is ∙ ap (λ k. front ++ CellLine k (row_of row) ∷ []) none) in
    more ∙ ap (λ l. l ++ line_text line) before ∙ append_assoc old (flat_map line_text front) (line_text line)
    ∙ ap (λ l. old ++ l) (ap (λ l. flat_map line_text front ++ l) (sym (append-nil (line_text line))) ∙ sym (flat_map-append line_text front (line ∷ [])) ∙ ap (flat_map line_text) (sym lines))

pub all_rows : (cells : List CellRow) (i : ℕ) (old new : List ℕ) → length cells ≤ i → new ≡ old ++ flat_map line_text (lines_to 0 cells i) → new ≡ old ++ flat_map line_text (cell_lines 0 (map row_of cells))
all_rows cells i old new past before = before ∙ ap (λ l. old ++ flat_map line_text (cell_lines 0 (map row_of l))) (take_all i cells past)

-- the text of a block
abbrev pub block_text : Block → List ℕ
block_text block = flat_map line_text (slot_lines (slot_of block))

pub block_texts : (blocks : List Block) → flat_map block_text blocks ≡ flat_map line_text (flat_map slot_lines (map slot_of blocks))
block_texts [] = refl
block_texts (b ∷ blocks) = ap (λ l. block_text b ++ l) (block_texts blocks) ∙ sym (flat_map-append line_text (slot_lines (slot_of b)) (flat_map slot_lines (map slot_of blocks)))
