-- Rows computed from the definitions: what widgets with these bodies do, each with the default grant.
use Rattle.std.specs.Prelude.{◌≡◌, ℕ, List, [], ◌∷◌, codes, Option, Some, None}
use Rattle.js_tree.specs.declared.nodes.UnOp.TheVariants as un
use Rattle.js_tree.specs.declared.nodes.BinOp.TheVariants as bin
use Rattle.js_tree.specs.Plain as tree
use Rattle.widget_meaning.specs.Values.{Stop, PastLimit, Depth, Number}
use Rattle.widget_meaning.specs.OwnState.{OwnState}
use Rattle.widget_meaning.specs.Alone.{Content, loaded}
use Rattle.widget_meaning.specs.RowTrees.{expr, stmt, name, num, str, array, object, dot, apply, operation, does, logs, var, vars, sets, catches, declared, widget, body}

-- what a row says of a widget: its stop, fuel spent, log and uncaught notes
pub record Row (o : OwnState) (stop : Option Stop) (spent : ℕ) (log uncaught : List (List ℕ)) : Type 0 where
  pub stop_is : o.stop ≡ stop
  pub spent_is : o.spent ≡ spent
  pub log_is : o.log ≡ log
  pub uncaught_is : o.uncaught ≡ uncaught

-- a widget that takes no items, after its load
abbrev pub rendered : Content → OwnState
rendered w = loaded w 100000

-- ADSAFE.log(1 + 2);
abbrev pub log_sum : Content
log_sum = body (logs (operation bin.Add (num "1") (num "2")) ∷ [])

-- ADSAFE.log("a" + 1 + 2);
abbrev pub joined_left : Content
joined_left = body (logs (operation bin.Add (operation bin.Add (str "a") (num "1")) (num "2")) ∷ [])

-- ADSAFE.log(9007199254740991 + 0); ADSAFE.log(9007199254740991 + 1);
abbrev pub number_limit : Content
number_limit = body
    (logs (operation bin.Add (num "9007199254740991") (num "0"))
    ∷ logs (operation bin.Add (num "9007199254740991") (num "1")) ∷ [])

-- ADSAFE.log((7 - 7 % 2) / 2); ADSAFE.log(7 / 2);
abbrev pub inexact_quotient : Content
inexact_quotient = body
    (logs (operation bin.Div (operation bin.Sub (num "7") (operation bin.Rem (num "7") (num "2"))) (num "2"))
    ∷ logs (operation bin.Div (num "7") (num "2")) ∷ [])

-- var o = {NaN: "x"}; ADSAFE.log(undefined + 1); ADSAFE.log(o[+"x"]);
abbrev pub nan_as_name : Content
nan_as_name = body
    (var "o" (object (("NaN", str "x") ∷ []))
    ∷ logs (operation bin.Add (name "undefined") (num "1"))
    ∷ logs (expr (tree.Sub (name "o") (expr (tree.Unary un.Plus (str "x"))))) ∷ [])

-- var f = [].concat; try { f(); } catch (e) { ADSAFE.log(e.message); }
abbrev pub bare_concat : Content
bare_concat = body (var "f" (dot (array []) "concat") ∷ catches (apply (name "f") []) "e" ∷ [])

-- function f() { f(); } f();
abbrev pub endless_call : Content
endless_call = widget (does (apply (name "f") []) ∷ []) (declared "f" [] (does (apply (name "f") []) ∷ []) ∷ [])

-- function f() { f = 1; } f(); ADSAFE.log(f); the call writes the variable of the scope around it
abbrev pub declared_name : Content
declared_name =
    widget (does (apply (name "f") []) ∷ logs (name "f") ∷ []) (declared "f" [] (sets (name "f") (num "1") ∷ []) ∷ [])

-- var f = 0, g = function f() { f = 1; }; g(); ADSAFE.log(f); the call writes a variable of its own
abbrev pub expression_name : Content
expression_name = body
    (vars (("f", tree.SomeExpr (num "0"))
    ∷ ("g", tree.SomeExpr (expr (tree.Function (declared "f" [] (sets (name "f") (num "1") ∷ []))))) ∷ [])
    ∷ does (apply (name "g") []) ∷ logs (name "f") ∷ [])

-- throw {name: "X", message: "y"};
abbrev pub uncaught_object : Content
uncaught_object = body (stmt (tree.Throw (object (("name", str "X") ∷ ("message", str "y") ∷ []))) ∷ [])

-- the rows; the slots of two are those of the scopes: one for each scope and one for each of its names
pub record Rows : Type 0 where
  pub log_sum_row : Row (rendered log_sum) None 10 (codes "3" ∷ []) []
  pub joined_left_row : Row (rendered joined_left) None 14 (codes "a12" ∷ []) []
  pub number_limit_row : Row (rendered number_limit) (Some (PastLimit Number)) 32 (codes "9007199254740991" ∷ []) []
  pub inexact_quotient_row : Row (rendered inexact_quotient) (Some (PastLimit Number)) 21 (codes "3" ∷ []) []
  pub nan_as_name_row : Row (rendered nan_as_name) None 25 (codes "NaN" ∷ codes "x" ∷ []) []
  pub bare_concat_row : Row (rendered bare_concat) None 28 (codes "bad receiver" ∷ []) []
  pub endless_call_row : Row (rendered endless_call) (Some (PastLimit Depth)) 601 [] []
  pub declared_name_row : Row (rendered declared_name) None 15 (codes "1" ∷ []) []
  pub declared_name_slots : (rendered declared_name).counts.slots ≡ 5
  pub expression_name_row : Row (rendered expression_name) None 18 (codes "0" ∷ []) []
  pub expression_name_slots : (rendered expression_name).counts.slots ≡ 7
  pub uncaught_object_row : Row (rendered uncaught_object) None 5 [] (codes "X: y" ∷ [])
