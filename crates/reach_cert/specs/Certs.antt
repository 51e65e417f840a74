-- Certificates of reach as plain data, and how they are written.
use Rattle.std.specs.Prelude.{ℕ, suc, List, [], ◌∷◌, ◌++◌, map, codes, decimal}
use Rattle.std.specs.List.{flat_map}
use Rattle.std.specs.Str.{byte}
use Rattle.code_units.specs.Utf8.{utf8_of}
use Rattle.reach_cert.specs.declared.cert.Block.{Block}
use Rattle.reach_cert.specs.declared.cert.Block.TheVariants as block
use Rattle.reach_cert.specs.declared.cert.CellRow.{CellRow}
use Rattle.reach_cert.specs.declared.cert.Cert.{Cert}
use Rattle.reach_cert.specs.declared.cert.Ref.{Ref}
use Rattle.reach_cert.specs.declared.cert.Ref.TheVariants.{Host, Raw, Global, Cell}
use Rattle.reach_cert.specs.declared.cert.RowKind.{RowKind}
use Rattle.reach_cert.specs.declared.cert.RowKind.TheVariants.{Object, Array, Function, Bunch}

-- ## Plain data

-- a cell: its kind, and what it leads to
pub record Row : Type 0 where
  pub kind : RowKind
  pub refs : List Ref

-- a slot: it was refused, or its cells in order and what its widget holds
pub data Slot : Type 0 where
  Refused : List ℕ → Slot
  Shown : List ℕ → List Row → List Ref → Slot

-- what the data of the program stand for
abbrev pub row_of : CellRow → Row
row_of row = record { kind = row.kind; refs = row.refs.items }

abbrev pub slot_of : Block → Slot
slot_of (block.Refused name) = Refused name
slot_of (block.Rows name cells held) = Shown name (map row_of cells.items) held.items

abbrev pub plain : Cert → List Slot
plain cert = map slot_of cert.blocks.items

-- ## Lines

-- a line of a certificate
pub data Line : Type 0 where
  Head : Line
  RefusedLine : List ℕ → Line
  WidgetLine : List ℕ → Line
  CellLine : ℕ → Row → Line
  HeldLine : List Ref → Line
  EndLine : Line

-- the lines of cells, numbered on from a number
abbrev pub cell_lines : ℕ → List Row → List Line
cell_lines n [] = []
cell_lines n (row ∷ rows) = CellLine n row ∷ cell_lines (suc n) rows

abbrev pub slot_lines : Slot → List Line
slot_lines (Refused name) = RefusedLine name ∷ []
slot_lines (Shown name rows held) = WidgetLine name ∷ (cell_lines 0 rows ++ HeldLine held ∷ [])

-- the lines of a certificate
abbrev pub cert_lines : List Slot → List Line
cert_lines slots = Head ∷ (flat_map slot_lines slots ++ EndLine ∷ [])

-- ## Text

abbrev pub kind_word : RowKind → List ℕ
kind_word Object = codes "object"
kind_word Array = codes "array"
kind_word Function = codes "function"
kind_word Bunch = codes "bunch"

-- `host`, `raw`, `global`, or `NAME:I`
abbrev pub ref_word : Ref → List ℕ
ref_word Host = codes "host"
ref_word Raw = codes "raw"
ref_word Global = codes "global"
ref_word (Cell name number) = utf8_of name ++ byte ":" ∷ decimal number

-- a space and a reference, as often as there are some
abbrev pub spaced_ref : Ref → List ℕ
spaced_ref ref = byte " " ∷ ref_word ref

abbrev pub refs_text : List Ref → List ℕ
refs_text refs = flat_map spaced_ref refs

-- a line without its line feed
abbrev pub line_words : Line → List ℕ
line_words Head = codes "reach 1"
line_words (RefusedLine name) = codes "refused " ++ utf8_of name
line_words (WidgetLine name) = codes "widget " ++ utf8_of name
line_words (CellLine n row) = codes "c " ++ (decimal n ++ (byte " " ∷ (kind_word row.kind ++ refs_text row.refs)))
line_words (HeldLine refs) = codes "held" ++ refs_text refs
line_words EndLine = codes "end"

-- a line and its line feed
abbrev pub line_text : Line → List ℕ
line_text line = line_words line ++ codes "\n"

-- the bytes of a certificate
unfoldable pub cert_text : List Slot → List ℕ
cert_text slots = flat_map line_text (cert_lines slots)
