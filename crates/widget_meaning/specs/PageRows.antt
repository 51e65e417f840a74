-- Rows of the page computed from the definitions: Bunches, queries, events. Above each tree stands its body.
use Prim.Native.String.{String}
use Rattle.std.specs.Prelude.{◌≡◌, ℕ, List, [], ◌∷◌, codes, Some, None}
use Rattle.js_tree.specs.declared.nodes.BinOp.TheVariants as bin
use Rattle.js_tree.specs.Plain as tree
use Rattle.js_tree.specs.Plain.{Stmt}
use Rattle.widget_meaning.specs.Values.{Fuel}
use Rattle.plain_tree.specs.Trees.{End, TextOf, ElementOf}
use Rattle.widget_meaning.specs.Trees.{Trees, label_of}
use Rattle.widget_meaning.specs.OwnState.{OwnState}
use Rattle.widget_meaning.specs.Items.{Item, Occurs}
use Rattle.widget_meaning.specs.Alone.{Content, alone}
use Rattle.query_grammar.specs.declared.query.Hunter.TheVariants as hunter
use Rattle.query_grammar.specs.declared.query.ListFilter.TheVariants as on_list
use Rattle.query_grammar.specs.declared.query.StepFilter.TheVariants as kind
use Rattle.widget_meaning.specs.Queries.{read_query}
use Rattle.widget_meaning.specs.Rows.{Row, rendered}
use Rattle.widget_meaning.specs.RowTrees.{name, num, str, dom, dom_q, method, operation, does, logs, var, vars, adds, forever, for_in, catches, function, element, words, root, content, body}

-- var k, b = dom.q("p"); for (k in b) { ADSAFE.log(k); } ADSAFE.log(b.hasOwnProperty("___nodes___"));
abbrev pub hidden_keys : Content
hidden_keys = body
    (vars (("k", tree.NoExpr) ∷ ("b", tree.SomeExpr (dom_q "p")) ∷ [])
    ∷ for_in "k" (name "b") (logs (name "k") ∷ [])
    ∷ logs (method (name "b") "hasOwnProperty" (str "___nodes___" ∷ [])) ∷ [])

-- try { dom.q("#"); } catch (e) { ADSAFE.log(e.message); }
abbrev pub bad_query : Content
bad_query = body (catches (dom_q "#") "e" ∷ [])

-- ADSAFE.log(b.q("+p").count());
abbrev pub logs_next : Stmt
logs_next = logs (method (method (name "b") "q" (str "+p" ∷ [])) "count" [])

-- var b = dom.q("p"); dom.append(dom.tag("p")); ADSAFE.log(b.q("+p").count()); b.protect();
-- ADSAFE.log(b.q("+p").count()); try { b.getParent(); } catch (e) { ADSAFE.log(e.message); }
abbrev pub protected_paragraph : Content
protected_paragraph = body
    (var "b" (dom_q "p")
    ∷ does (dom "append" (dom "tag" (str "p" ∷ []) ∷ []))
    ∷ logs_next
    ∷ does (method (name "b") "protect" [])
    ∷ logs_next
    ∷ catches (method (name "b") "getParent" []) "e" ∷ [])

-- `<li>` with a text
abbrev pub item : String → Trees → Trees
item t ts = element "li" [] (words t End) ts

-- <ul><li>a</li><li>b</li><li>c</li></ul>, and ADSAFE.log(dom.q(..).getValue()); ADSAFE.log(dom.q(..).count());
abbrev pub second_item : String → Content
second_item x =
    content (root "A_" (element "ul" [] (item "a" (item "b" (item "c" End))) End))
    (logs (method (dom_q x) "getValue" []) ∷ logs (method (dom_q x) "count" []) ∷ []) []

-- `<p id="COUNT_out">0</p>` and `<button id="COUNT_add" type="button">Add</button>`, with line feeds between
abbrev pub count_root : Trees
count_root = root "COUNT_"
    (words "\n" (element "p" (("id", "COUNT_out") ∷ []) (words "0" End)
    (words "\n" (element "button" (("id", "COUNT_add") ∷ ("type", "button") ∷ []) (words "Add" End)
    (words "\n" End)))))

-- n += 1; out.value(n).style("color", "red"); ADSAFE.log("clicks " + n);
abbrev pub counts_click : List Stmt
counts_click =
    adds (name "n") (num "1")
    ∷ does (method (method (name "out") "value" (name "n" ∷ [])) "style" (str "color" ∷ str "red" ∷ []))
    ∷ logs (operation bin.Add (str "clicks ") (name "n")) ∷ []

-- "use strict"; var n = 0, out = dom.q("#COUNT_out"); dom.q("#COUNT_add").on("click", function (e) {..});
abbrev pub counter : Content
counter = content count_root
    (does (str "use strict")
    ∷ vars (("n", tree.SomeExpr (num "0")) ∷ ("out", tree.SomeExpr (dom_q "#COUNT_out")) ∷ [])
    ∷ does (method (dom_q "#COUNT_add") "on" (str "click" ∷ function ("e" ∷ []) counts_click ∷ [])) ∷ []) []

-- a click on the node to which a path leads
abbrev pub click : List ℕ → Item
click path = Occurs (record { kind = codes "click"; path = path; value = None })

-- three clicks on the button, and one on nothing
abbrev pub counted : OwnState
counted = alone counter 100000 (click (3 ∷ []) ∷ click (3 ∷ []) ∷ click (3 ∷ []) ∷ click (9 ∷ []) ∷ [])

-- <p><b>t</b></p>, and dom.q("b").on("click", function (e) { ADSAFE.log("b"); e.bubble(); });
-- dom.q("p").on("click", function (e) { while (true) {} });
abbrev pub bubble_into_loop : Content
bubble_into_loop = content (root "X_" (element "p" [] (element "b" [] (words "t" End) End) End))
    (does (method (dom_q "b") "on"
    (str "click" ∷ function ("e" ∷ []) (logs (str "b") ∷ does (method (name "e") "bubble" []) ∷ []) ∷ []))
    ∷ does (method (dom_q "p") "on" (str "click" ∷ function ("e" ∷ []) (forever [] ∷ []) ∷ [])) ∷ []) []

-- two clicks on the inner element: the second comes too late
abbrev pub looped : OwnState
looped = alone bubble_into_loop 100000 (click (0 ∷ 0 ∷ []) ∷ click (0 ∷ 0 ∷ []) ∷ [])

-- the turns, and the events that were missed or came too late
pub record Events (o : OwnState) (turns missed gone : ℕ) : Type 0 where
  pub turns_are : o.turns ≡ turns
  pub missed_are : o.missed ≡ missed
  pub gone_are : o.gone ≡ gone

-- the rows; after the clicks the paragraph of the counter has its style, and a new text
pub record PageRows : Type 0 where
  pub hidden_keys_row : Row (rendered hidden_keys) None 27 (codes "false" ∷ []) []
  pub bad_query_row : Row (rendered bad_query) None 24 (codes "bad query" ∷ []) []
  pub protected_paragraph_row : Row (rendered protected_paragraph) None 98
      (codes "1" ∷ codes "0" ∷ codes "bad place in the page" ∷ []) []
  pub joined_keyword : read_query (codes "p:firstb") ≡ Some
      (record { hunter = hunter.Tag (codes "p"); filters = kind.List on_list.First ∷ [] }
      ∷ record { hunter = hunter.Tag (codes "b"); filters = [] } ∷ [])
  pub second_item_row : Row (rendered (second_item "li:rest:first")) None 48 (codes "b" ∷ codes "1" ∷ []) []
  pub second_item_again_row : Row (rendered (second_item "li:first +li")) None 64 (codes "b" ∷ codes "1" ∷ []) []
  pub counter_row : Row counted None 138 (codes "clicks 1" ∷ codes "clicks 2" ∷ codes "clicks 3" ∷ []) []
  pub counter_events : Events counted 4 1 0
  pub counter_styled : label_of 2 counted.forest ≡ Some
      (ElementOf (codes "p") ((codes "id", codes "COUNT_out") ∷ (codes "style", codes "color: red") ∷ []))
  pub counter_text : label_of 10 counted.forest ≡ Some (TextOf (codes "3"))
  pub bubble_into_loop_row : Row looped (Some Fuel) 100033 (codes "b" ∷ []) []
  pub bubble_into_loop_events : Events looped 2 0 1
