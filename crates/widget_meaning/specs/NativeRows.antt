-- Rows computed from the definitions: bodies with operators and natives. Above each tree stands its text.
use Rattle.std.specs.Prelude.{[], ◌∷◌, codes, Some, None}
use Rattle.js_tree.specs.declared.nodes.BinOp.TheVariants as bin
use Rattle.js_tree.specs.Plain as tree
use Rattle.js_tree.specs.Plain.{Expr}
use Rattle.widget_meaning.specs.Values.{PastLimit, Number}
use Rattle.widget_meaning.specs.Alone.{Content}
use Rattle.widget_meaning.specs.Rows.{Row, rendered}
use Rattle.widget_meaning.specs.RowTrees.{expr, name, num, str, array, object, dom_q, method, adsafe, operation, does, logs, var, returns, catches, function, body}

-- ADSAFE.log([3, 10, 2].sort().join());
abbrev pub sorted_texts : Content
sorted_texts = body (logs (method (method (array (num "3" ∷ num "10" ∷ num "2" ∷ [])) "sort" []) "join" []) ∷ [])

-- var o = {a: 1}; try { ADSAFE.get(o, "b_"); } catch (e) { ADSAFE.log(e.message); }
abbrev pub underscore_get : Content
underscore_get =
    body (var "o" (object (("a", num "1") ∷ [])) ∷ catches (adsafe "get" (name "o" ∷ str "b_" ∷ [])) "e" ∷ [])

-- function (x) { return x * x; }
abbrev pub square : Expr
square = function ("x" ∷ []) (returns (operation bin.Mul (name "x") (name "x")) ∷ [])

-- var a = [1, 2, 3].map(function (x) { return x * x; }); ADSAFE.log(a[2]);
abbrev pub mapped_squares : Content
mapped_squares =
    body (var "a" (method (array (num "1" ∷ num "2" ∷ num "3" ∷ [])) "map" (square ∷ []))
    ∷ logs (expr (tree.Sub (name "a") (num "2"))) ∷ [])

-- ADSAFE.log(ADSAFE.toJson(ADSAFE.fromJson("{\"b\":[1,null],\"a\":\"x\"}")));
abbrev pub json_and_back : Content
json_and_back = body (logs (adsafe "toJson" (adsafe "fromJson" (str "{\"b\":[1,null],\"a\":\"x\"}" ∷ []) ∷ [])) ∷ [])

-- {toString: function () { return "x"; }}
abbrev pub has_text : Expr
has_text = object (("toString", function [] (returns (str "x") ∷ [])) ∷ [])

-- var b = dom.q("p"); try { ADSAFE.get(b, {toString: function () { return "x"; }}); }
-- catch (e) { ADSAFE.log(e.message); } try { ADSAFE.get(b, "___nodes___"); } catch (g) { ADSAFE.log(g.message); }
abbrev pub hidden_get : Content
hidden_get = body
    (var "b" (dom_q "p")
    ∷ catches (adsafe "get" (name "b" ∷ has_text ∷ [])) "e"
    ∷ catches (adsafe "get" (name "b" ∷ str "___nodes___" ∷ [])) "g" ∷ [])

-- ADSAFE.fromJson("1.5");
abbrev pub json_fraction : Content
json_fraction = body (does (adsafe "fromJson" (str "1.5" ∷ [])) ∷ [])

-- ADSAFE.fromJson("{\"eval\":1}");
abbrev pub json_banned_name : Content
json_banned_name = body (does (adsafe "fromJson" (str "{\"eval\":1}" ∷ [])) ∷ [])

-- the rows
pub record NativeRows : Type 0 where
  pub sorted_texts_row : Row (rendered sorted_texts) None 34 (codes "10,2,3" ∷ []) []
  pub underscore_get_row : Row (rendered underscore_get) None 27 (codes "bad name" ∷ []) []
  pub mapped_squares_row : Row (rendered mapped_squares) None 37 (codes "9" ∷ []) []
  pub hidden_get_row : Row (rendered hidden_get) None 57 (codes "bad name" ∷ codes "bad name" ∷ []) []
  pub json_and_back_row : Row (rendered json_and_back) None 81 (codes "{\"a\":\"x\",\"b\":[1,null]}" ∷ []) []
  pub json_fraction_row : Row (rendered json_fraction) (Some (PastLimit Number)) 10 [] []
  pub json_banned_name_row : Row (rendered json_banned_name) None 7 [] (codes "ADsafe: bad name" ∷ [])
