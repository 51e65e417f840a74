-- Rows computed from the definitions: what single bodies do on one page. Above each tree stands its body.
use Prim.Native.String.{String}
use Rattle.std.specs.Prelude.{◌≡◌, List, [], ◌∷◌, codes, Some, None}
use Rattle.js_tree.specs.declared.nodes.UnOp.TheVariants as un
use Rattle.js_tree.specs.Plain as tree
use Rattle.js_tree.specs.Plain.{Stmt, Stmts, Fun, Expr}
use Rattle.widget_meaning.specs.Values.{PastLimit, Nodes}
use Rattle.plain_tree.specs.Trees.{End, marked}
use Rattle.widget_meaning.specs.Trees.{Trees, child_at}
use Rattle.widget_meaning.specs.OwnState.{OwnState}
use Rattle.widget_meaning.specs.Costs.{cost}
use Rattle.widget_meaning.specs.Limits.{max_nodes}
use Rattle.widget_meaning.specs.Items.{Advance}
use Rattle.widget_meaning.specs.Alone.{Content, alone, beginning, go_turn, call_parts}
use Rattle.widget_meaning.specs.Rows.{Row, rendered}
use Rattle.widget_meaning.specs.RowTrees.{expr, stmt, stmts, name, num, str, array, object, dot, dom, dom_q, method, apply, adsafe, does, logs, vars, sets, adds, returns, forever, for_in, try_finally, declared, function, element, words, root, content}
use Rattle.widget_meaning.specs.PageRows.{Events}

-- `<p title="t">a..</p><ul><li>1..</li><li>2..</li><li name="n" type="t">3..</li></ul><input type="text" value="v">
-- <input type="checkbox" checked><button id="A_k" disabled>k</button>` in the root; `more` ends each item
abbrev pub page : Trees → Trees → Trees
page last more = root "A_"
    (element "p" (("title", "t") ∷ []) (words "a" last)
    (element "ul" []
    (element "li" [] (words "1" more) (element "li" [] (words "2" more)
    (element "li" (("name", "n") ∷ ("type", "t") ∷ []) (words "3" more) End)))
    (element "input" (("type", "text") ∷ ("value", "v") ∷ []) End
    (element "input" (("type", "checkbox") ∷ ("checked", "checked") ∷ []) End
    (element "button" (("id", "A_k") ∷ ("disabled", "disabled") ∷ []) (words "k" End) End)))))

-- `<b class="x y">c</b>`
abbrev pub bold : Trees
bold = element "b" (("class", "x y") ∷ []) (words "c" End) End

-- a widget with a body and declared functions, whose paragraph ends with `<b class="x y">c</b>`
abbrev pub on_page : List Stmt → List Fun → Content
on_page ss fs = content (page bold End) ss fs

-- the root's tree without numbers
abbrev pub shown : OwnState → Trees
shown o = marked (λ _. 0) (child_at 0 o.forest)

-- ADSAFE.log([1, 2, 3].splice(1, 1, 7, 8).length);
abbrev pub spliced : Content
spliced = on_page
    (logs (dot (method (array (num "1" ∷ num "2" ∷ num "3" ∷ [])) "splice"
    (num "1" ∷ num "1" ∷ num "7" ∷ num "8" ∷ [])) "length") ∷ []) []

-- ADSAFE.log((255).toString(16));
abbrev pub in_radix : Content
in_radix = on_page (logs (method (num "255") "toString" (num "16" ∷ [])) ∷ []) []

-- ADSAFE.log(String({toString: function () { return 55; }}));
abbrev pub made_text : Content
made_text =
    on_page (logs (apply (name "String") (object (("toString", function [] (returns (num "55") ∷ [])) ∷ []) ∷ []))
    ∷ []) []

-- function f() { try { return 1; } finally { return 2; } } function g() { try { throw 1; } finally { return 3; } }
-- function h() { while (true) { try { return 1; } finally { break; } } return 4; }
-- ADSAFE.log(f()); ADSAFE.log(g()); ADSAFE.log(h());
abbrev pub replaced_ends : Content
replaced_ends = on_page
    (logs (apply (name "f") []) ∷ logs (apply (name "g") []) ∷ logs (apply (name "h") []) ∷ [])
    (declared "f" [] (try_finally (returns (num "1")) (returns (num "2")) ∷ [])
    ∷ declared "g" [] (try_finally (stmt (tree.Throw (num "1"))) (returns (num "3")) ∷ [])
    ∷ declared "h" [] (forever (try_finally (returns (num "1")) (stmt (tree.Break None)) ∷ []) ∷ returns (num "4")
    ∷ []) ∷ [])

-- lib.x = n;
abbrev pub sets_lib : String → String → Stmts
sets_lib x n = stmts (sets (dot (name "lib") x) (num n) ∷ [])

-- switch (2) { case 1: lib.a = 1; case 2: lib.b = 2; default: lib.c = 3; }
abbrev pub fallen_through : Content
fallen_through = on_page
    (stmt (tree.Switch (num "2") (tree.AndClause (tree.AndClause (tree.AndClause tree.NoClauses
    (tree.SomeExpr (num "1")) (sets_lib "a" "1"))
    (tree.SomeExpr (num "2")) (sets_lib "b" "2"))
    tree.NoExpr (sets_lib "c" "3"))) ∷ []) []

-- var p = {a: 1, b: 2}, o = ADSAFE.create(p), k, s = ""; o.z = 1; o.a = 2; for (k in o) { s += k; delete p.b; }
-- ADSAFE.log(s);
abbrev pub along_chain : Content
along_chain = on_page
    (vars
    (("p", tree.SomeExpr (object (("a", num "1") ∷ ("b", num "2") ∷ [])))
    ∷ ("o", tree.SomeExpr (adsafe "create" (name "p" ∷ [])))
    ∷ ("k", tree.NoExpr) ∷ ("s", tree.SomeExpr (str "")) ∷ [])
    ∷ sets (dot (name "o") "z") (num "1")
    ∷ sets (dot (name "o") "a") (num "2")
    ∷ for_in "k" (name "o") (adds (name "s") (name "k") ∷ does (expr (tree.Unary un.Delete (dot (name "p") "b"))) ∷ [])
    ∷ logs (name "s") ∷ []) []

-- ADSAFE.post("B_", "abc");
abbrev pub posted : Content
posted = on_page (does (adsafe "post" (str "B_" ∷ str "abc" ∷ [])) ∷ []) []

-- ADSAFE.later(f(x), ..);
abbrev pub starts : String → List Expr → Stmt
starts x times = does (adsafe "later" (apply (name "f") (str x ∷ []) ∷ times))

-- function f(n) { return function () { ADSAFE.log(n); }; } ADSAFE.later(f("c"), 30); ADSAFE.later(f("a"));
-- ADSAFE.later(f("b"), 15); ADSAFE.later(f("a2"), 3); ADSAFE.later(f("d"), 100);
abbrev pub timed : Content
timed = on_page
    (starts "c" (num "30" ∷ []) ∷ starts "a" [] ∷ starts "b" (num "15" ∷ []) ∷ starts "a2" (num "3" ∷ [])
    ∷ starts "d" (num "100" ∷ []) ∷ [])
    (declared "f" ("n" ∷ []) (returns (function [] (logs (name "n") ∷ [])) ∷ []) ∷ [])

-- dom.q("li").append(dom.tag("b").append(dom.text("x")));
abbrev pub appended_copies : Content
appended_copies = on_page
    (does (method (dom_q "li") "append"
    (method (dom "tag" (str "b" ∷ [])) "append" (dom "text" (str "x" ∷ []) ∷ []) ∷ [])) ∷ []) []

-- dom.q("b").replace(dom.text(1));
abbrev pub replaced_by_text : Content
replaced_by_text = on_page (does (method (dom_q "b") "replace" (dom "text" (num "1" ∷ []) ∷ [])) ∷ []) []

-- dom.q("li").each(function (b) { b.count(); });
abbrev pub each_counted : Content
each_counted = on_page
    (does (method (dom_q "li") "each" (function ("b" ∷ []) (does (method (name "b") "count" []) ∷ []) ∷ [])) ∷ []) []

-- dom.q("b").on("x", function (e) { e.bubble(); }).fire("x");
abbrev pub fired_up : Content
fired_up = on_page
    (does (method (method (dom_q "b") "on"
    (str "x" ∷ function ("e" ∷ []) (does (method (name "e") "bubble" []) ∷ []) ∷ [])) "fire" (str "x" ∷ []))
    ∷ []) []

-- dom.q("li").protect().mark("m").title("t").klass("k");
abbrev pub marked_all : Content
marked_all = on_page
    (does (method (method (method (method (dom_q "li") "protect" []) "mark" (str "m" ∷ [])) "title"
    (str "t" ∷ [])) "klass" (str "k" ∷ [])) ∷ []) []

-- the timers that are due within 60 milliseconds
abbrev pub timed_out : OwnState
timed_out = alone timed 100000 (Advance 60 ∷ [])

-- dom.tag("i");
abbrev pub one_more : Content
one_more = on_page (does (dom "tag" (str "i" ∷ [])) ∷ []) []

-- a widget that has had as many nodes as it may
abbrev pub crowded : OwnState
crowded = go_turn (call_parts one_more.script) (record (beginning one_more 100000) { counts = cost 0 1 0 max_nodes })

-- the rows, with the pages that two of them leave; a node past the limit stops, with what was spent before
pub record BodyRows : Type 0 where
  pub spliced_row : Row (rendered spliced) None 26 (codes "1" ∷ []) []
  pub in_radix_row : Row (rendered in_radix) None 13 (codes "ff" ∷ []) []
  pub made_text_row : Row (rendered made_text) None 18 (codes "55" ∷ []) []
  pub replaced_ends_row : Row (rendered replaced_ends) None 44 (codes "2" ∷ codes "3" ∷ codes "4" ∷ []) []
  pub fallen_through_row : Row (rendered fallen_through) None 15 [] []
  pub along_chain_row : Row (rendered along_chain) None 52 (codes "za" ∷ []) []
  pub posted_row : Row (rendered posted) None 11 [] []
  pub timed_row : Row timed_out None 88 (codes "a" ∷ codes "a2" ∷ codes "b" ∷ codes "c" ∷ []) []
  pub appended_copies_row : Row (rendered appended_copies) None 46 [] []
  pub replaced_by_text_row : Row (rendered replaced_by_text) None 32 [] []
  pub each_counted_row : Row (rendered each_counted) None 51 [] []
  pub fired_up_row : Row (rendered fired_up) None 40 [] []
  pub marked_all_row : Row (rendered marked_all) None 50 [] []
  pub posted_posts : (rendered posted).posts ≡ record { receiver = codes "B_"; text = codes "abc" } ∷ []
  pub timed_turns : Events timed_out 5 0 0
  pub appended_copies_page : shown (rendered appended_copies) ≡ page bold (element "b" [] (words "x" End) End)
  pub replaced_by_text_page : shown (rendered replaced_by_text) ≡ page (words "1" End) End
  pub crowded_row : Row crowded (Some (PastLimit Nodes)) 7 [] []
