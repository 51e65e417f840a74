-- What comes of some texts, computed. Each is a case of an outside table.
use Rattle.std.proofs.Common.{◌≡◌, [], ◌∷◌, Some, None, refl}
use Rattle.std.specs.Prelude.{codes}
use Rattle.plain_tree.specs.Names.{is_void, is_script, is_bare}
use Rattle.plain_tree.specs.Trees.{End, Node, TextOf}
use Rattle.plain_tree.specs.Plains.{text_node, element_node}
use Rattle.markup_grammar.specs.Signs.{located}
use Rattle.markup_grammar.specs.Grammar.{limit}
use Rattle.markup_grammar.specs.Machine.{begin, run, finished}

paragraph : finished (run (Some begin) (located 0 (codes "<p id=\"a\">x&lt;</p>"))) ≡ Some (element_node (codes "p") (record { name = codes "id"; value = codes "a"; at = 3; value_at = 7 } ∷ []) (text_node (codes "x<") 10) 0)
unfolding limit is_void is_script is_bare
paragraph = refl

void : finished (run (Some begin) (located 0 (codes "a<br checked />"))) ≡ Some (Node (record { at = 0; attrs = [] }) (TextOf (codes "a")) End (element_node (codes "br") (record { name = codes "checked"; value = codes "checked"; at = 5; value_at = 5 } ∷ []) End 1))
unfolding limit is_void is_script is_bare
void = refl

script : finished (run (Some begin) (located 0 (codes "<script>a < b</script>"))) ≡ Some (element_node (codes "script") [] (text_node (codes "a < b") 8) 0)
unfolding limit is_void is_script is_bare
script = refl

no_code_point : run (Some begin) (located 0 (codes "&#0;")) ≡ None
no_code_point = refl

wrong_end : run (Some begin) (located 0 (codes "<p>a</b>")) ≡ None
unfolding limit is_void is_script is_bare
wrong_end = refl

bare_name : run (Some begin) (located 0 (codes "<input readonly>")) ≡ None
unfolding limit is_void is_script is_bare
bare_name = refl
