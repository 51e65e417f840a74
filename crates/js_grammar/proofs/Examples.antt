-- Texts and what comes of them, computed. Each is a case of an outside table.
use Rattle.std.proofs.Common.{◌≡◌, ℕ, List, [], ◌∷◌, Some, refl}
use Rattle.js_grammar.specs.declared.Sign.TheVariants as sign
use Rattle.js_grammar.specs.Grammar.{Lexeme}
use Rattle.js_grammar.specs.Machine.{judged}
use Rattle.js_tree.specs.declared.nodes.BinOp.TheVariants as binary
use Rattle.js_tree.specs.declared.nodes.AssignOp.TheVariants as assign
use Rattle.js_tree.specs.Plain.{ExprAt, Name, Dot, Call, New, Binary, Assign, NoExprs, AndExpr, StmtAt, Only, If, Label, Break, NoStmts, AndStmt}
use Rattle.exact_refusals.specs.Judge.Outcome.{Read, Refused, Deeper}

abbrev lexeme : List ℕ → ℕ → Lexeme
lexeme text at = record { text = text; at = at }

-- a.b(c);
method : judged 200 ((sign.Name, lexeme (97 ∷ []) 0) ∷ (sign.Point, lexeme [] 1) ∷ (sign.Name, lexeme (98 ∷ []) 2) ∷ (sign.Open, lexeme [] 3) ∷ (sign.Name, lexeme (99 ∷ []) 4) ∷ (sign.Close, lexeme [] 5) ∷ (sign.Semicolon, lexeme [] 6) ∷ (sign.End, lexeme [] 7) ∷ []) ≡ Read (AndStmt NoStmts (StmtAt 0 [] (Only (ExprAt 0 [] (Call (ExprAt 0 (2 ∷ []) (Dot (ExprAt 0 [] (Name (97 ∷ []))) (98 ∷ []))) (AndExpr NoExprs (ExprAt 4 [] (Name (99 ∷ [])))))))))
method = refl

-- (a) + b;
parenthesis : judged 200 ((sign.Open, lexeme [] 0) ∷ (sign.Name, lexeme (97 ∷ []) 1) ∷ (sign.Close, lexeme [] 2) ∷ (sign.Plus, lexeme [] 4) ∷ (sign.Name, lexeme (98 ∷ []) 6) ∷ (sign.Semicolon, lexeme [] 7) ∷ (sign.End, lexeme [] 8) ∷ []) ≡ Read (AndStmt NoStmts (StmtAt 0 [] (Only (ExprAt 1 [] (Binary binary.Add (ExprAt 1 [] (Name (97 ∷ []))) (ExprAt 6 [] (Name (98 ∷ []))))))))
parenthesis = refl

-- a - b - c;
from_the_left : judged 200 ((sign.Name, lexeme (97 ∷ []) 0) ∷ (sign.Minus, lexeme [] 2) ∷ (sign.Name, lexeme (98 ∷ []) 4) ∷ (sign.Minus, lexeme [] 6) ∷ (sign.Name, lexeme (99 ∷ []) 8) ∷ (sign.Semicolon, lexeme [] 9) ∷ (sign.End, lexeme [] 10) ∷ []) ≡ Read (AndStmt NoStmts (StmtAt 0 [] (Only (ExprAt 0 [] (Binary binary.Sub (ExprAt 0 [] (Binary binary.Sub (ExprAt 0 [] (Name (97 ∷ []))) (ExprAt 4 [] (Name (98 ∷ []))))) (ExprAt 8 [] (Name (99 ∷ []))))))))
from_the_left = refl

-- a + b * c;
product_first : judged 200 ((sign.Name, lexeme (97 ∷ []) 0) ∷ (sign.Plus, lexeme [] 2) ∷ (sign.Name, lexeme (98 ∷ []) 4) ∷ (sign.Star, lexeme [] 6) ∷ (sign.Name, lexeme (99 ∷ []) 8) ∷ (sign.Semicolon, lexeme [] 9) ∷ (sign.End, lexeme [] 10) ∷ []) ≡ Read (AndStmt NoStmts (StmtAt 0 [] (Only (ExprAt 0 [] (Binary binary.Add (ExprAt 0 [] (Name (97 ∷ []))) (ExprAt 4 [] (Binary binary.Mul (ExprAt 4 [] (Name (98 ∷ []))) (ExprAt 8 [] (Name (99 ∷ []))))))))))
product_first = refl

-- a = b = c;
from_the_right : judged 200 ((sign.Name, lexeme (97 ∷ []) 0) ∷ (sign.Assign, lexeme [] 2) ∷ (sign.Name, lexeme (98 ∷ []) 4) ∷ (sign.Assign, lexeme [] 6) ∷ (sign.Name, lexeme (99 ∷ []) 8) ∷ (sign.Semicolon, lexeme [] 9) ∷ (sign.End, lexeme [] 10) ∷ []) ≡ Read (AndStmt NoStmts (StmtAt 0 [] (Only (ExprAt 0 [] (Assign assign.Assign (ExprAt 0 [] (Name (97 ∷ []))) (ExprAt 4 [] (Assign assign.Assign (ExprAt 4 [] (Name (98 ∷ []))) (ExprAt 8 [] (Name (99 ∷ []))))))))))
from_the_right = refl

-- new a(b)(c);
first_list : judged 200 ((sign.New, lexeme [] 0) ∷ (sign.Name, lexeme (97 ∷ []) 4) ∷ (sign.Open, lexeme [] 5) ∷ (sign.Name, lexeme (98 ∷ []) 6) ∷ (sign.Close, lexeme [] 7) ∷ (sign.Open, lexeme [] 8) ∷ (sign.Name, lexeme (99 ∷ []) 9) ∷ (sign.Close, lexeme [] 10) ∷ (sign.Semicolon, lexeme [] 11) ∷ (sign.End, lexeme [] 12) ∷ []) ≡ Read (AndStmt NoStmts (StmtAt 0 [] (Only (ExprAt 0 [] (Call (ExprAt 0 [] (New (ExprAt 4 [] (Name (97 ∷ []))) (AndExpr NoExprs (ExprAt 6 [] (Name (98 ∷ [])))))) (AndExpr NoExprs (ExprAt 9 [] (Name (99 ∷ [])))))))))
first_list = refl

-- if (a) {} else if (b) {}
else_if : judged 200 ((sign.If, lexeme [] 0) ∷ (sign.Open, lexeme [] 3) ∷ (sign.Name, lexeme (97 ∷ []) 4) ∷ (sign.Close, lexeme [] 5) ∷ (sign.OpenBrace, lexeme [] 7) ∷ (sign.CloseBrace, lexeme [] 8) ∷ (sign.Else, lexeme [] 10) ∷ (sign.If, lexeme [] 15) ∷ (sign.Open, lexeme [] 18) ∷ (sign.Name, lexeme (98 ∷ []) 19) ∷ (sign.Close, lexeme [] 20) ∷ (sign.OpenBrace, lexeme [] 22) ∷ (sign.CloseBrace, lexeme [] 23) ∷ (sign.End, lexeme [] 24) ∷ []) ≡ Read (AndStmt NoStmts (StmtAt 0 [] (If (ExprAt 4 [] (Name (97 ∷ []))) NoStmts (AndStmt NoStmts (StmtAt 15 [] (If (ExprAt 19 [] (Name (98 ∷ []))) NoStmts NoStmts))))))
else_if = refl

-- a: b: break a;
labels : judged 200 ((sign.Name, lexeme (97 ∷ []) 0) ∷ (sign.Colon, lexeme [] 1) ∷ (sign.Name, lexeme (98 ∷ []) 3) ∷ (sign.Colon, lexeme [] 4) ∷ (sign.Break, lexeme [] 6) ∷ (sign.Name, lexeme (97 ∷ []) 12) ∷ (sign.Semicolon, lexeme [] 13) ∷ (sign.End, lexeme [] 14) ∷ []) ≡ Read (AndStmt NoStmts (StmtAt 0 (0 ∷ []) (Label (97 ∷ []) (StmtAt 3 (3 ∷ []) (Label (98 ∷ []) (StmtAt 6 (12 ∷ []) (Break (Some (97 ∷ [])))))))))
labels = refl

-- a = new new b;
new_of_new : judged 200 ((sign.Name, lexeme (97 ∷ []) 0) ∷ (sign.Assign, lexeme [] 2) ∷ (sign.New, lexeme [] 4) ∷ (sign.New, lexeme [] 8) ∷ (sign.Name, lexeme (98 ∷ []) 12) ∷ (sign.Semicolon, lexeme [] 13) ∷ (sign.End, lexeme [] 14) ∷ []) ≡ Refused 4
new_of_new = refl

-- a + b = c;
assigned_sum : judged 200 ((sign.Name, lexeme (97 ∷ []) 0) ∷ (sign.Plus, lexeme [] 2) ∷ (sign.Name, lexeme (98 ∷ []) 4) ∷ (sign.Assign, lexeme [] 6) ∷ (sign.Name, lexeme (99 ∷ []) 8) ∷ (sign.Semicolon, lexeme [] 9) ∷ (sign.End, lexeme [] 10) ∷ []) ≡ Refused 4
assigned_sum = refl

-- a = b++ ++;
step_of_step : judged 200 ((sign.Name, lexeme (97 ∷ []) 0) ∷ (sign.Assign, lexeme [] 2) ∷ (sign.Name, lexeme (98 ∷ []) 4) ∷ (sign.PlusPlus, lexeme [] 5) ∷ (sign.PlusPlus, lexeme [] 8) ∷ (sign.Semicolon, lexeme [] 10) ∷ (sign.End, lexeme [] 11) ∷ []) ≡ Refused 3
step_of_step = refl

-- for (i = a ? b in c : d; ; ) { }
in_first_part : judged 200 ((sign.For, lexeme [] 0) ∷ (sign.Open, lexeme [] 4) ∷ (sign.Name, lexeme (105 ∷ []) 5) ∷ (sign.Assign, lexeme [] 7) ∷ (sign.Name, lexeme (97 ∷ []) 9) ∷ (sign.Question, lexeme [] 11) ∷ (sign.Name, lexeme (98 ∷ []) 13) ∷ (sign.In, lexeme [] 15) ∷ (sign.Name, lexeme (99 ∷ []) 18) ∷ (sign.Colon, lexeme [] 20) ∷ (sign.Name, lexeme (100 ∷ []) 22) ∷ (sign.Semicolon, lexeme [] 23) ∷ (sign.Semicolon, lexeme [] 25) ∷ (sign.Close, lexeme [] 27) ∷ (sign.OpenBrace, lexeme [] 29) ∷ (sign.CloseBrace, lexeme [] 31) ∷ (sign.End, lexeme [] 32) ∷ []) ≡ Refused 10
in_first_part = refl

-- for (var k = 1 in o) { }
value_before_in : judged 200 ((sign.For, lexeme [] 0) ∷ (sign.Open, lexeme [] 4) ∷ (sign.Var, lexeme [] 5) ∷ (sign.Name, lexeme (107 ∷ []) 9) ∷ (sign.Assign, lexeme [] 11) ∷ (sign.Number, lexeme (49 ∷ []) 13) ∷ (sign.In, lexeme [] 15) ∷ (sign.Name, lexeme (111 ∷ []) 18) ∷ (sign.Close, lexeme [] 19) ∷ (sign.OpenBrace, lexeme [] 21) ∷ (sign.CloseBrace, lexeme [] 23) ∷ (sign.End, lexeme [] 24) ∷ []) ≡ Refused 6
value_before_in = refl

-- switch (a) { default: b(); default: c(); }
two_defaults : judged 200 ((sign.Switch, lexeme [] 0) ∷ (sign.Open, lexeme [] 7) ∷ (sign.Name, lexeme (97 ∷ []) 8) ∷ (sign.Close, lexeme [] 9) ∷ (sign.OpenBrace, lexeme [] 11) ∷ (sign.Default, lexeme [] 13) ∷ (sign.Colon, lexeme [] 20) ∷ (sign.Name, lexeme (98 ∷ []) 22) ∷ (sign.Open, lexeme [] 23) ∷ (sign.Close, lexeme [] 24) ∷ (sign.Semicolon, lexeme [] 25) ∷ (sign.Default, lexeme [] 27) ∷ (sign.Colon, lexeme [] 34) ∷ (sign.Name, lexeme (99 ∷ []) 36) ∷ (sign.Open, lexeme [] 37) ∷ (sign.Close, lexeme [] 38) ∷ (sign.Semicolon, lexeme [] 39) ∷ (sign.CloseBrace, lexeme [] 41) ∷ (sign.End, lexeme [] 42) ∷ []) ≡ Refused 8
two_defaults = refl

-- a = {01: b};
leading_zero : judged 200 ((sign.Name, lexeme (97 ∷ []) 0) ∷ (sign.Assign, lexeme [] 2) ∷ (sign.OpenBrace, lexeme [] 4) ∷ (sign.Number, lexeme (48 ∷ 49 ∷ []) 5) ∷ (sign.Colon, lexeme [] 7) ∷ (sign.Name, lexeme (98 ∷ []) 9) ∷ (sign.CloseBrace, lexeme [] 10) ∷ (sign.Semicolon, lexeme [] 11) ∷ (sign.End, lexeme [] 12) ∷ []) ≡ Refused 6
leading_zero = refl

-- a = [1, ];
trailing_comma : judged 200 ((sign.Name, lexeme (97 ∷ []) 0) ∷ (sign.Assign, lexeme [] 2) ∷ (sign.OpenSquare, lexeme [] 4) ∷ (sign.Number, lexeme (49 ∷ []) 5) ∷ (sign.Comma, lexeme [] 6) ∷ (sign.CloseSquare, lexeme [] 8) ∷ (sign.Semicolon, lexeme [] 9) ∷ (sign.End, lexeme [] 10) ∷ []) ≡ Refused 3
trailing_comma = refl

-- if (a) { } else while (b) { }
else_alone : judged 200 ((sign.If, lexeme [] 0) ∷ (sign.Open, lexeme [] 3) ∷ (sign.Name, lexeme (97 ∷ []) 4) ∷ (sign.Close, lexeme [] 5) ∷ (sign.OpenBrace, lexeme [] 7) ∷ (sign.CloseBrace, lexeme [] 9) ∷ (sign.Else, lexeme [] 11) ∷ (sign.While, lexeme [] 16) ∷ (sign.Open, lexeme [] 22) ∷ (sign.Name, lexeme (98 ∷ []) 23) ∷ (sign.Close, lexeme [] 24) ∷ (sign.OpenBrace, lexeme [] 26) ∷ (sign.CloseBrace, lexeme [] 28) ∷ (sign.End, lexeme [] 29) ∷ []) ≡ Refused 7
else_alone = refl

-- function () { };
begins_with_function : judged 200 ((sign.Function, lexeme [] 0) ∷ (sign.Open, lexeme [] 9) ∷ (sign.Close, lexeme [] 10) ∷ (sign.OpenBrace, lexeme [] 12) ∷ (sign.CloseBrace, lexeme [] 14) ∷ (sign.Semicolon, lexeme [] 15) ∷ (sign.End, lexeme [] 16) ∷ []) ≡ Refused 7
begins_with_function = refl

-- try { }
try_alone : judged 200 ((sign.Try, lexeme [] 0) ∷ (sign.OpenBrace, lexeme [] 4) ∷ (sign.CloseBrace, lexeme [] 6) ∷ (sign.End, lexeme [] 7) ∷ []) ≡ Refused 1
try_alone = refl

-- ((a));
too_deep : judged 1 ((sign.Open, lexeme [] 0) ∷ (sign.Open, lexeme [] 1) ∷ (sign.Name, lexeme (97 ∷ []) 2) ∷ (sign.Close, lexeme [] 3) ∷ (sign.Close, lexeme [] 4) ∷ (sign.Semicolon, lexeme [] 5) ∷ (sign.End, lexeme [] 6) ∷ []) ≡ Deeper 6
too_deep = refl
