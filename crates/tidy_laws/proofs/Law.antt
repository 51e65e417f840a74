-- The tidied tokens of a program spell it, and are no deeper than others that do.
use Rattle.std.proofs.Common.{ℕ, suc, List, [], ◌∷◌, false, arith}
use Rattle.js_grammar.specs.declared.Infix.TheVariants as infixes
use Rattle.js_grammar.specs.declared.Prefix.TheVariants as prefixes
use Rattle.js_grammar.specs.Grammar.{Deep, Primary, Operand, LeftHand, Unary, Operators, Assignment, Whole, Thing, An, Items, Keys, Maybe, Names, Code, Init, Vars, A, Statements, Block, Cases, Body, Spells, IsProgram}
use Rattle.js_grammar.specs.Grammar.Spells.{name, number, string, this, null, true_word, false_word, paren, array, object, unnamed, named, operand, operand_dot, operand_sub, left_hand, dot, sub, call, new_with, new_alone, unary, post_step, before_operand, operators, looser, between, assignment, choice, assign, whole, comma, no_items, first_item, next_item, no_keys, first_key, next_key, nothing, something, no_names, first_name, next_name, code, empty_body, body_statement, body_function, no_statement, next_statement, block, no_init, init, first_var, next_var, variables, only, if_alone, if_else, else_if, while_loop, do_loop, for_vars, for_items, for_in, for_var_in, continue_loop, continue_label, break_loop, break_label, returns, throws, with_object, switch, no_case, next_case, default_case, label, try_catch, try_finally, try_both}
use Rattle.js_grammar.specs.Unplaced.{unplaced_stmts}
use Rattle.js_tree.specs.Plain.{Expr, Stmts}
use Rattle.tidy_laws.proofs.Mild.{MildExpr, MildExprs, MildOptional, MildProperties, MildDecls, MildStmt, MildStmts, MildClauses, MildFun, MildFuns}
use Rattle.tidy_laws.specs.Laws.{the_end, Respells}
use Rattle.tidy_laws.specs.Told.{AreFit}
use Rattle.tidy_laws.proofs.Again.{stmts_again}
use Rattle.tidy_laws.proofs.Making.{Bound, Found}
use Rattle.tidy_laws.proofs.Rows.{GoodItems, looser_row, tighter_row, new_row, paren_row, name_row, number_row, string_row, this_row, null_row, true_row, false_row, array_row, dot_row, sub_row, call_row, post_row, prefix_row, pair_row, choice_row, assign_row, comma_row}
use Rattle.tidy_laws.proofs.Parts.{no_items_row, first_item_row, next_item_row, GoodKeys, no_keys_row, first_key_row, next_key_row, object_row, GoodMaybe, nothing_row, something_row, GoodInit, no_init_row, init_row, GoodVars, first_var_row, next_var_row, GoodNames, no_names_row, first_name_row, next_name_row, GoodCode, unnamed_row, named_row, GoodStmt, GoodStmts, GoodFuns, stmts_made, code_row}
use Rattle.tidy_laws.proofs.Statements.{GoodBlock, GoodHead, if_row, while_row, do_row, for_vars_row, for_items_row, for_in_row, for_var_in_row, continue_row, continue_to_row, break_row, break_to_row, return_row, throw_row, variables_row, only_row, with_row, GoodCases, switch_row, no_case_row, next_case_row, default_case_row, label_row, try_catch_row, try_finally_row, try_both_row}

module _ (limit : Bound) where
  -- `new` and the operator `in` stand in it only where parentheses may be added freely
  abbrev MildThing : Thing → Type 0
  MildThing (An level e) = MildExpr limit.Loose e
  MildThing (Items b xs) = MildExprs limit.Loose xs
  MildThing (Keys ps at) = MildProperties limit.Loose ps
  MildThing (Maybe v) = MildOptional limit.Loose v
  MildThing (Names xs) = Unit {0}
  MildThing (Code w own f) = MildFun limit.Loose f
  MildThing (Init b v) = MildOptional limit.Loose v
  MildThing (Vars b ds) = MildDecls limit.Loose ds
  MildThing (A s) = MildStmt limit.Loose s
  MildThing (Statements ss) = MildStmts limit.Loose ss
  MildThing (Block ss) = MildStmts limit.Loose ss
  MildThing (Cases cs) = MildClauses limit.Loose cs
  MildThing (Body ss fs) = MildStmts limit.Loose ss × MildFuns limit.Loose fs

  -- what is found of each thing
  abbrev Good : Thing → ℕ → List Deep → Type 0
  Good (An Operand e) d ts = limit.Loose → Found limit Operand e d ts
  Good (An level e) d ts = Found limit level e d ts
  Good (Items b xs) d ts = GoodItems limit b xs d
  Good (Keys ps at) d ts = GoodKeys limit ps at d
  Good (Maybe v) d ts = GoodMaybe limit v d
  Good (Names xs) d ts = GoodNames limit xs d
  Good (Code w own f) d ts = GoodCode limit own f d
  Good (Init b v) d ts = GoodInit limit b v d
  Good (Vars b ds) d ts = GoodVars limit b ds d
  Good (A s) d ts = GoodStmt limit s d
  Good (Statements ss) d ts = GoodStmts limit ss d
  Good (Block ss) d ts = GoodBlock limit ss d
  Good (Cases cs) d ts = GoodCases limit cs d
  Good (Body ss fs) d ts = GoodStmts limit ss d × GoodFuns limit fs d

  -- each token is not too deep, and its text is fit
  abbrev Fine : List Deep → Type 0
  Fine [] = Unit {0}
  Fine (((s, x), d) ∷ ts) = (limit.Allowed d × limit.Fit s x.text) × Fine ts

  abbrev pub AreAllowed : List Deep → Type 0
  AreAllowed [] = Unit {0}
  AreAllowed (((s, x), d) ∷ ts) = limit.Allowed d × AreAllowed ts

  fine : (ts : List Deep) → AreAllowed ts → AreFit limit.Fit ts → Fine ts
  fine [] w f = tt
  fine (((s, x), d) ∷ ts) w f = ((w.0, f.0), fine ts w.1 f.1)

  head : (e : Expr) (d : ℕ) (ts : List Deep) → limit.Allowed (suc d) → Found limit Whole e (suc d) ts → GoodHead limit e d
  head e d ts le f = record { held = ts; room = le; is = f }

  -- row by row
  goods : {thing : Thing} {d : ℕ} {ts rest : List Deep} → Spells thing d ts rest → MildThing thing → Fine ts → Good thing d ts × Fine rest
  unfolding MildExpr
  goods (name {x} {d} {rest}) t w = (name_row limit x d _ (w.0).1 (w.0).0, w.1)
  goods (number {x} {d} {rest}) t w = (number_row limit x d _ (w.0).1 (w.0).0, w.1)
  goods (string {x} {d} {rest}) t w = (string_row limit x d _ (w.0).1 (w.0).0, w.1)
  goods (this {x} {d} {rest}) t w = (this_row limit x d _ (w.0).0, w.1)
  goods (null {x} {d} {rest}) t w = (null_row limit x d _ (w.0).0, w.1)
  goods (true_word {x} {d} {rest}) t w = (true_row limit x d _ (w.0).0, w.1)
  goods (false_word {x} {d} {rest}) t w = (false_row limit x d _ (w.0).0, w.1)
  goods (paren {p} {e = e} {d} {ts} s) t w = let g = goods s t w.1 in (paren_row limit e d p ts (w.0).0 g.0, (g.1).1)
  goods (array {p} {xs = xs} {d} {ts} s) t w = let g = goods s t w.1 in (array_row limit p xs d _ (w.0).0 g.0, (g.1).1)
  goods (object {p} {ps = ps} {at} {d} {ts} s) t w = let g = goods s t w.1 in (object_row limit p ps at d ts (w.0).0 g.0, (g.1).1)
  goods (unnamed {w = v} {f} {d} {ts} s) t w = let g = goods s t w.1 in (unnamed_row limit v f d ts (w.0).0 g.0, g.1)
  goods (named {w = v} {x} {f} {d} {ts} s) t w = let g = goods s t (w.1).1 in (named_row limit v x f d _ ((w.1).0).1 (w.0).0 g.0, g.1)
  goods (operand {e} {d} {ts} s) t w = let g = goods s t w in (λ o. looser_row limit Primary Operand e d ts (omega arith) g.0, g.1)
  goods (operand_dot {e} {x = x} {d} {ts} s) t w =
      let g = goods s t w in
      (λ o. tighter_row limit LeftHand Operand _ d ts o (dot_row limit e x d ts (((g.1).1).0).1 ((g.1).0).0 (looser_row limit Operand LeftHand e d ts (omega arith) (g.0 o))), ((g.1).1).1)
  goods (operand_sub {e} {i} {d = d} {ts} {us} s u) t w =
      let g = goods s t.0 w in
      let k = goods u t.1 (g.1).1 in
      (λ o. tighter_row limit LeftHand Operand _ d ts o (sub_row limit e i d ts us ((g.1).0).0 (looser_row limit Operand LeftHand e d ts (omega arith) (g.0 o)) k.0), (k.1).1)
  goods (left_hand {e} {d} {ts} s) t w = let g = goods s t w in (looser_row limit Primary LeftHand e d ts (omega arith) g.0, g.1)
  goods (dot {e} {x = x} {d} {ts} s) t w = let g = goods s t w in (dot_row limit e x d ts (((g.1).1).0).1 ((g.1).0).0 g.0, ((g.1).1).1)
  goods (sub {e} {i} {d = d} {ts} {us} s u) t w = let g = goods s t.0 w in let k = goods u t.1 (g.1).1 in (sub_row limit e i d ts us ((g.1).0).0 g.0 k.0, (k.1).1)
  goods (call {f} {xs} {d = d} {ts} {us} s u) t w = let g = goods s t.0 w in let k = goods u t.1 (g.1).1 in (call_row limit f xs d ts ((g.1).0).0 g.0 k.0, (k.1).1)
  goods (new_with {f} {xs} {w = v} {d = d} {ts} s u) t w =
      let g = goods s t.1 w.1 in
      let k = goods u t.2 (g.1).1 in
      (new_row limit v f xs d _ ts (w.0).0 ((g.1).0).0 (g.0 t.0) k.0, (k.1).1)
  goods (new_alone {f} {w = v} {d} {ts} s h) t w =
      let g = goods s t.1 w.1 in
      (new_row limit v f _ d _ ts (w.0).0 (limit.free t.0 (suc d)) (g.0 t.0) (no_items_row limit false (suc d)), g.1)
  goods (unary {e} {d} {ts} s) t w = let g = goods s t w in (looser_row limit LeftHand Unary e d ts (omega arith) g.0, g.1)
  goods (post_step {e} {s = z} {o = o} {d} {ts} is s) t w = let g = goods s t w in (post_row limit o z e d ts is ((g.1).0).0 g.0, (g.1).1)
  goods (before_operand {e} {s = z} {w = v} {o = prefixes.Unary o} {d} {ts} is s) t w = let g = goods s t w.1 in (prefix_row limit (prefixes.Unary o) z v e d _ ts is (w.0).0 g.0, g.1)
  goods (before_operand {e} {s = z} {w = v} {o = prefixes.Step o} {d} {ts} is s) t w = let g = goods s t w.1 in (prefix_row limit (prefixes.Step o) z v e d _ ts is (w.0).0 g.0, g.1)
  goods (operators {b} {e} {d} {ts} s) t w = let g = goods s t w in (looser_row limit Unary (Operators b 0) e d ts (omega arith) g.0, g.1)
  goods (looser {b} {n} {e} {d} {ts} s) t w = let g = goods s t w in (looser_row limit (Operators b n) (Operators b (suc n)) e d ts (omega arith) g.0, g.1)
  goods (between {b} {a} {c} {o = infixes.Binary o} {d} {ts} {us} is s u) t w = let g = goods s t.1 w in let k = goods u t.2 (g.1).1 in (pair_row limit b (infixes.Binary o) a c d ts us t ((g.1).0).0 g.0 k.0, k.1)
  goods (between {b} {a} {c} {o = infixes.And} {d} {ts} {us} is s u) t w = let g = goods s t.0 w in let k = goods u t.1 (g.1).1 in (pair_row limit b infixes.And a c d ts us t ((g.1).0).0 g.0 k.0, k.1)
  goods (between {b} {a} {c} {o = infixes.Or} {d} {ts} {us} is s u) t w = let g = goods s t.0 w in let k = goods u t.1 (g.1).1 in (pair_row limit b infixes.Or a c d ts us t ((g.1).0).0 g.0 k.0, k.1)
  goods (assignment {b} {e} {d} {ts} s) t w = let g = goods s t w in (looser_row limit (Operators b 10) (Assignment b) e d ts (omega arith) g.0, g.1)
  goods (choice {b} {a} {c} {e} {d = d} {ts} {us} {vs} s u v) t w =
      let g = goods s t.0 w in
      let k = goods u t.1 (g.1).1 in
      let j = goods v t.2 (k.1).1 in
      (choice_row limit b a c e d ts us vs ((g.1).0).0 g.0 k.0 j.0, j.1)
  goods (assign {b} {a} {e} {o = o} {d} {ts} {us} is s u) t w = let g = goods s t.0 w in let k = goods u t.1 (g.1).1 in (assign_row limit b o a e d ts us ((g.1).0).0 g.0 k.0, k.1)
  goods (whole {e} {d} {ts} s) t w = let g = goods s t w in (looser_row limit (Assignment false) Whole e d ts (omega arith) g.0, g.1)
  goods (comma {a} {e} {d = d} {ts} {us} s u) t w = let g = goods s t.0 w in let k = goods u t.1 (g.1).1 in (comma_row limit a e d ts us ((g.1).0).0 g.0 k.0, k.1)
  goods (no_items {b} {d}) t w = (no_items_row limit b d, w)
  goods (first_item {b} {e} {d} {ts} s) t w = let g = goods s t.1 w in (first_item_row limit b e d ts g.0, g.1)
  goods (next_item {b} {x} {e} {xs} {d = d} {ts} {us} s u) t w = let g = goods s t.0 w in let k = goods u t.1 (g.1).1 in (next_item_row limit b xs x e d us ((g.1).0).0 g.0 k.0, k.1)
  goods (no_keys {d}) t w = (no_keys_row limit d, w)
  goods (first_key {e} {s = z} {x = x} {d = d} {ts} is s) t w = let g = goods s t.1 (w.1).1 in (first_key_row limit x e d ts (limit.laws.keys z x.text is (w.0).1) (w.0).0 g.0, g.1)
  goods (next_key {ps} {n} {v} {e} {at} {s = z} {x = x} {d = d} {us = us} s is u) t w =
      let g = goods s t.0 w in
      let k = goods u t.1 (((g.1).1).1).1 in
      (next_key_row limit ps n v at x e d us (limit.laws.keys z x.text is (((g.1).1).0).1) ((g.1).0).0 g.0 k.0, k.1)
  goods (nothing {d}) t w = (nothing_row limit d, w)
  goods (something {e} {d} {ts} s) t w = let g = goods s t w in (something_row limit e d ts g.0, g.1)
  goods (no_names {d}) t w = (no_names_row limit d, w)
  goods (first_name {x} {d}) t w = (first_name_row limit x d (w.0).1 (w.0).0, w.1)
  goods (next_name {y} {x = x} {xs} {d} s) t w = let g = goods s t w in (next_name_row limit y x xs d (((g.1).1).0).1 ((g.1).0).0 g.0, ((g.1).1).1)
  goods (code {w = v} {own} {params} {body} {funs} {d = d} s u) t w =
      let g = goods s tt w.1 in
      let k = goods u t ((g.1).1).1 in
      (code_row limit v own params body funs d (w.0).0 g.0 (k.0).0 (k.0).1, (k.1).1)
  goods empty_body t w = ((tt, tt), w)
  goods (body_statement s u) t w = let g = goods s ((t.0).0, t.1) w in let k = goods u (t.0).1 g.1 in ((((g.0).0, k.0), (g.0).1), k.1)
  goods (body_function {x = x} s u) t w = let g = goods s (t.0, (t.1).0) w in let k = goods u (t.1).1 ((g.1).1).1 in (((g.0).0, ((g.0).1, (x, (((g.1).1).0).1, k.0))), k.1)
  goods no_statement t w = (tt, w)
  goods (next_statement s u) t w = let g = goods s t.0 w in let k = goods u t.1 g.1 in ((g.0, k.0), k.1)
  goods (block s) t w = let g = goods s t w.1 in (((w.0).0, g.0), (g.1).1)
  goods (no_init {b} {d}) t w = (no_init_row limit b d, w)
  goods (init {b} {e} {d = d} {ts} s) t w = let g = goods s t w.1 in (init_row limit b e d ts (w.0).0 g.0, g.1)
  goods (first_var {b} {v} {x} {d} s) t w = let g = goods s t.1 w.1 in (first_var_row limit b v x d (w.0).1 (w.0).0 g.0, g.1)
  goods (next_var {b} {ds} {n} {at} {u} {v} {x = x} {d} s z) t w = let g = goods s t.0 w in let k = goods z t.1 ((g.1).1).1 in (next_var_row limit b ds n at u v x d (((g.1).1).0).1 ((g.1).0).0 g.0 k.0, k.1)
  goods (variables {ds} {w = v} {d = d} s) t w = let g = goods s t w.1 in (variables_row limit v ds d (w.0).0 g.0, (g.1).1)
  goods (only {e} {s = z} {x} {d = d} {n} {ts} bare s) t w = let g = goods s t w in (only_row limit e z x d n ts bare ((g.1).0).0 g.0, (g.1).1)
  goods (if_alone {e} {ss} {w = v} {d = d} {ts} s u) t w =
      let g = goods s t.0 (w.1).1 in
      let k = goods u t.1 (g.1).1 in
      (if_row limit v e ss _ d (head e d ts ((w.1).0).0 g.0) k.0 tt, k.1)
  goods (if_else {e} {ss} {os} {w = v} {d = d} {ts} s u z) t w =
      let g = goods s t.0 (w.1).1 in
      let k = goods u t.1 (g.1).1 in
      let j = goods z t.2 (k.1).1 in
      (if_row limit v e ss os d (head e d ts ((w.1).0).0 g.0) k.0 (j.0).1, j.1)
  goods (else_if {e} {ss} {w = v} {d = d} {ts} s u z) t w =
      let g = goods s t.0 (w.1).1 in
      let k = goods u t.1 (g.1).1 in
      let j = goods z (t.2).1 (k.1).1 in
      (if_row limit v e ss _ d (head e d ts ((w.1).0).0 g.0) k.0 (tt, j.0), j.1)
  goods (while_loop {e} {ss} {w = v} {d = d} {ts} s u) t w = let g = goods s t.0 (w.1).1 in let k = goods u t.1 (g.1).1 in (while_row limit v e ss d (head e d ts ((w.1).0).0 g.0) k.0, k.1)
  goods (do_loop {e} {ss} {w = v} {d = d} {us = us} s u) t w =
      let g = goods s t.1 w.1 in
      let k = goods u t.0 ((g.1).1).1 in
      (do_row limit v e ss d (head e d us (((g.1).1).0).0 k.0) g.0, ((k.1).1).1)
  goods (for_vars {ds} {test} {xs} {ss} {w = v} {d = d} s u x z) t w =
      let g = goods s t.0 ((w.1).1).1 in
      let k = goods u t.1 (g.1).1 in
      let j = goods x t.2 (k.1).1 in
      let i = goods z t.3 (j.1).1 in
      (for_vars_row limit v ds test xs ss d ((w.1).0).0 g.0 k.0 j.0 i.0, i.1)
  goods (for_items {is} {test} {xs} {ss} {w = v} {d = d} s u x z) t w =
      let g = goods s t.0 (w.1).1 in
      let k = goods u t.1 (g.1).1 in
      let j = goods x t.2 (k.1).1 in
      let i = goods z t.3 (j.1).1 in
      (for_items_row limit v is test xs ss d ((w.1).0).0 g.0 k.0 j.0 i.0, i.1)
  goods (for_in {e} {ss} {w = v} {x = x} {d = d} {ts} s u) t w =
      let g = goods s t.0 (((w.1).1).1).1 in
      let k = goods u t.1 (g.1).1 in
      (for_in_row limit v x e ss d (((w.1).1).0).1 (head e d ts ((w.1).0).0 g.0) k.0, k.1)
  goods (for_var_in {e} {ss} {w = v} {x = x} {d = d} {ts} s u) t w =
      let g = goods s t.0 ((((w.1).1).1).1).1 in
      let k = goods u t.1 (g.1).1 in
      (for_var_in_row limit v x e ss d ((((w.1).1).1).0).1 (head e d ts ((w.1).0).0 g.0) k.0, k.1)
  goods (continue_loop {w = v} {d = d}) t w = (continue_row limit v d (w.0).0, (w.1).1)
  goods (continue_label {w = v} {x} {d = d}) t w = (continue_to_row limit v x d ((w.1).0).1 (w.0).0, ((w.1).1).1)
  goods (break_loop {w = v} {d = d}) t w = (break_row limit v d (w.0).0, (w.1).1)
  goods (break_label {w = v} {x} {d = d}) t w = (break_to_row limit v x d ((w.1).0).1 (w.0).0, ((w.1).1).1)
  goods (returns {v = r} {w = v} {d = d} s) t w = let g = goods s t w.1 in (return_row limit v r d (w.0).0 g.0, (g.1).1)
  goods (throws {e} {w = v} {d = d} {ts} s) t w = let g = goods s t w.1 in (throw_row limit v e d ts (w.0).0 g.0, (g.1).1)
  goods (with_object {e} {ss} {w = v} {d = d} {ts} s u) t w = let g = goods s t.0 (w.1).1 in let k = goods u t.1 (g.1).1 in (with_row limit v e ss d (head e d ts ((w.1).0).0 g.0) k.0, k.1)
  goods (switch {e} {cs} {w = v} {d = d} {ts} s u) t w =
      let g = goods s t.0 (w.1).1 in
      let k = goods u t.1 ((g.1).1).1 in
      (switch_row limit v e cs d (head e d ts ((w.1).0).0 g.0) k.0, (k.1).1)
  goods (no_case {d}) t w = (no_case_row limit d, w)
  goods (next_case {cs} {e} {ss} {d = d} {us = us} s u z) t w =
      let g = goods s t.0 w in
      let k = goods u t.1 (g.1).1 in
      let j = goods z t.2 (k.1).1 in
      (next_case_row limit cs e ss d us ((g.1).0).0 g.0 k.0 j.0, j.1)
  goods (default_case {cs} {ss} {d = d} one s u) t w =
      let g = goods s t.0 w in
      let k = goods u t.2 ((g.1).1).1 in
      (default_case_row limit cs ss d one ((g.1).0).0 g.0 k.0, k.1)
  goods (label {s = z} {x} {d = d} s) t w = let g = goods s t (w.1).1 in (label_row limit x z d (w.0).1 (w.0).0 g.0, g.1)
  goods (try_catch {ss} {cs} {w = v} {x = x} {d = d} s u) t w =
      let g = goods s t.0 w.1 in
      let k = goods u t.1 ((((g.1).1).1).1).1 in
      (try_catch_row limit v x ss cs d ((((g.1).1).1).0).1 g.0 k.0, k.1)
  goods (try_finally {ss} {fs} {w = v} {d = d} s u) t w =
      let g = goods s t.0 w.1 in
      let k = goods u t.2 (g.1).1 in
      (try_finally_row limit v ss fs d g.0 k.0, k.1)
  goods (try_both {ss} {cs} {fs} {w = v} {x = x} {d = d} s u z) t w =
      let g = goods s t.0 w.1 in
      let k = goods u t.1 ((((g.1).1).1).1).1 in
      let j = goods z t.2 (k.1).1 in
      (try_both_row limit v x ss cs fs d ((((g.1).1).1).0).1 g.0 k.0 j.0, j.1)

  -- the tidied tokens of a program spell it
  pub respells : (ts : List Deep) (p : Stmts) → IsProgram ts p → AreAllowed ts → AreFit limit.Fit ts → MildStmts limit.Loose p → Respells limit.Allowed limit.Fit p
  respells ts p is w f t =
      let g = goods is.1 t (fine ts w f) in
      let m = stmts_made limit p 0 g.0 0 limit.start the_end in
      record {
        tokens = m.tokens;
        tree = unplaced_stmts p;
        spells = m.spells;
        same = stmts_again p;
        written = m.written;
      }
