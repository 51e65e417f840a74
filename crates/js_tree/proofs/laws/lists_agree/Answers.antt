use Rattle.js_tree.specs.Plain.{NoExprs, NoStmts, NoFuns, NoProperties, NoDecls, NoClauses}
use Rattle.js_tree.proofs.Listing.{exprs_after, stmts_after, funs_after, properties_after, decls_after, clauses_after}
use Rattle.js_tree.proofs.laws.lists_agree.Goals as goal

pub returns-clause-exprs : goal.returns-clause-exprs
returns-clause-exprs c = λ f ids. exprs_after f NoExprs ids

pub returns-clause-stmts : goal.returns-clause-stmts
returns-clause-stmts c = λ f ids. stmts_after f NoStmts ids

pub returns-clause-funs : goal.returns-clause-funs
returns-clause-funs c = λ f ids. funs_after f NoFuns ids

pub returns-clause-properties : goal.returns-clause-properties
returns-clause-properties c = λ f ps. properties_after f NoProperties ps

pub returns-clause-decls : goal.returns-clause-decls
returns-clause-decls c = λ f ds. decls_after f NoDecls ds

pub returns-clause-clauses : goal.returns-clause-clauses
returns-clause-clauses c = λ f cs. clauses_after f NoClauses cs
