-- MarkupSpells: which trees bytes are; and BadMarkupPlace: where bytes that are none are refused.
use Rattle.std.specs.Prelude.{◌≡◌, ℕ, suc, ◌<◌, ◌≤◌, List, [], ◌++◌, length, take}
use Rattle.std.specs.Str.{IsUtf8, chars}
use Rattle.markup_grammar.specs.Signs.{located}
use Rattle.markup_grammar.specs.Grammar.{Content, Spells}
use Rattle.plain_tree.specs.Trees.{Trees}
use Rattle.plain_tree.specs.Plains.{Places}

-- the bytes are UTF-8, and their characters are the content that these trees have
abbrev pub MarkupSpells : List ℕ → Trees Places → Type 0
MarkupSpells bytes ts = IsUtf8 bytes × Spells (Content 0 ts) (located 0 (chars bytes)) []

-- some content begins with these bytes
abbrev pub Begins : List ℕ → Type 0
Begins front = (more : List ℕ) × (ts : Trees Places) × MarkupSpells (front ++ more) ts

-- Some content begins with the bytes before `at`, and none with these and the byte `at`. At the end of the bytes: they are no content themselves.
pub record BadMarkupPlace (bytes : List ℕ) (at : ℕ) : Type 0 where
  pub inside : at ≤ length bytes
  pub begins : Begins (take at bytes)
  pub refused : at < length bytes → Begins (take (suc at) bytes) → ⊥
  pub cut : at ≡ length bytes → (ts : Trees Places) → MarkupSpells bytes ts → ⊥
