-- Some trees, their printed text and what it reads as, computed.
use Rattle.std.proofs.Common.{◌≡◌, ℕ, List, [], ◌∷◌, true, false, Some, refl}
use Rattle.std.specs.Prelude.{codes}
use Rattle.std.specs.Str.{chars}
use Rattle.std.specs.Char.Utf16.{utf16_chars}
use Rattle.code_units.specs.Utf8.{utf8_of}
use Rattle.markup_grammar.specs.Signs.{located}
use Rattle.markup_grammar.specs.Grammar.{limit}
use Rattle.markup_grammar.specs.Machine.{begin, run, finished}
use Rattle.plain_tree.specs.Names.{is_void, is_script, is_bare}
use Rattle.plain_tree.specs.Normal.{is_normal}
use Rattle.plain_tree.specs.Plains.{text_node, element_node}
use Rattle.plain_tree.specs.Print.{printed}
use Rattle.plain_tree.specs.Trees.{TextOf, ElementOf, End, Node, PlainTrees}
use Rattle.slot_lives.specs.Reading.{is_readable_label, all_labels}

-- a style that no printed form changes
same : List ℕ → List ℕ
same us = us

abbrev paragraph : PlainTrees
paragraph = Node tt (ElementOf (codes "p") ((codes "id", codes "a\"b") ∷ (codes "style", codes "left: 1") ∷ [])) (Node tt (TextOf (codes "x<&>")) End (Node tt (ElementOf (codes "br") []) End End)) End

paragraph_normal : is_normal paragraph ≡ true
unfolding is_void
paragraph_normal = refl

paragraph_labels : all_labels (is_readable_label same) paragraph ≡ true
unfolding is_script utf16_chars same
paragraph_labels = refl

paragraph_printed : printed same paragraph ≡ codes "<p id=\"a&quot;b\" style=\"left: 1\">x&lt;&amp;&gt;<br></p>"
unfolding is_void utf8_of utf16_chars same lib.Utf8.encode
paragraph_printed = refl

paragraph_read : finished (run (Some begin) (located 0 (printed same paragraph))) ≡ Some (element_node (codes "p") (record { name = codes "id"; value = codes "a\"b"; at = 3; value_at = 7 } ∷ record { name = codes "style"; value = codes "left: 1"; at = 17; value_at = 24 } ∷ []) (Node (record { at = 33; attrs = [] }) (TextOf (codes "x<&>")) End (element_node (codes "br") [] End 47)) 0)
unfolding limit is_void is_script is_bare utf8_of utf16_chars same lib.Utf8.encode
paragraph_read = refl

-- characters of two units and of several bytes
abbrev wide : PlainTrees
wide = Node tt (TextOf (0xE9 ∷ 0xD83D ∷ 0xDE00 ∷ [])) End End

wide_labels : all_labels (is_readable_label same) wide ≡ true
unfolding is_script utf16_chars same
wide_labels = refl

wide_printed : printed same wide ≡ 0xC3 ∷ 0xA9 ∷ 0xF0 ∷ 0x9F ∷ 0x98 ∷ 0x80 ∷ []
unfolding is_void utf8_of utf16_chars same lib.Utf8.encode
wide_printed = refl

wide_read : finished (run (Some begin) (located 0 (chars (printed same wide)))) ≡ Some (text_node (0xE9 ∷ 0xD83D ∷ 0xDE00 ∷ []) 0)
unfolding limit is_void is_script is_bare utf8_of utf16_chars same chars lib.Utf8.encode
wide_read = refl

-- a lone surrogate, a script, and an empty style are not read
lone : all_labels {M = Unit {0}} (is_readable_label same) (Node tt (TextOf (0xD83D ∷ [])) End End) ≡ false
unfolding utf16_chars
lone = refl

script : all_labels {M = Unit {0}} (is_readable_label same) (Node tt (ElementOf (codes "script") []) End End) ≡ false
unfolding is_script
script = refl

empty_style : all_labels {M = Unit {0}} (is_readable_label same) (Node tt (ElementOf (codes "p") ((codes "style", []) ∷ [])) End End) ≡ false
unfolding is_script utf16_chars
empty_style = refl
