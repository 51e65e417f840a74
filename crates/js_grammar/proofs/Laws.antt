-- The laws on refusals, of this grammar: its machine is complete, sound and closable, and opens one link at a time.
use Rattle.std.proofs.Common.{◌≡◌, ℕ, ◌+◌, List, length}
use Rattle.js_grammar.specs.Grammar.{Token, Deep, IsProgram}
use Rattle.js_grammar.specs.Machine.{step, begin, finished, judged}
use Rattle.js_grammar.proofs.Complete.{complete}
use Rattle.js_grammar.proofs.Sound.{sound}
use Rattle.js_grammar.proofs.Close.{closable}
use Rattle.js_grammar.proofs.Links.{links}
use Rattle.js_tree.specs.Plain.{Stmts}
use Rattle.exact_refusals.specs.Places.{signs, HasTree, IsSyntaxAt, IsTooDeepAt}
use Rattle.exact_refusals.specs.Judge.{Read, Refused, Deeper}
use Rattle.exact_refusals.proofs.Exact as exact

-- the same tokens have one tree, with one depth for each
pub one_tree : (ts us : List Deep) (p q : Stmts) → IsProgram ts p → IsProgram us q → signs ts ≡ signs us → (ts ≡ us) × (p ≡ q)
one_tree = exact.one_tree step finished begin IsProgram complete sound

-- the four sentences on what comes of a text
pub read_means : (limit : ℕ) (input : List Token) (p : Stmts) → judged limit input ≡ Read p → HasTree IsProgram limit input p
read_means = exact.read_means step finished begin IsProgram complete sound

pub tree_means : (limit : ℕ) (input : List Token) (p : Stmts) → HasTree IsProgram limit input p → judged limit input ≡ Read p
tree_means = exact.tree_means step finished begin IsProgram complete sound

pub refused_means : (limit : ℕ) (input : List Token) (n at : ℕ) → judged limit input ≡ Refused n → at + n ≡ length input → IsSyntaxAt IsProgram limit input at
refused_means = exact.refused_means step finished begin IsProgram complete sound closable

pub deeper_means : (limit : ℕ) (input : List Token) (n at : ℕ) → judged limit input ≡ Deeper n → at + n ≡ length input → IsTooDeepAt IsProgram limit input at
deeper_means = exact.deeper_means step finished begin IsProgram complete sound closable links

-- a text has one answer at most
pub one_syntax : (limit : ℕ) (input : List Token) (a b : ℕ) → IsSyntaxAt IsProgram limit input a → IsSyntaxAt IsProgram limit input b → a ≡ b
one_syntax = exact.one_syntax IsProgram

pub one_deep : (limit : ℕ) (input : List Token) (a b : ℕ) → IsTooDeepAt IsProgram limit input a → IsTooDeepAt IsProgram limit input b → a ≡ b
one_deep = exact.one_deep IsProgram

pub one_cause : (limit : ℕ) (input : List Token) (a b : ℕ) → IsSyntaxAt IsProgram limit input a → IsTooDeepAt IsProgram limit input b → ⊥
one_cause = exact.one_cause IsProgram

pub no_tree : (limit : ℕ) (input : List Token) (at : ℕ) (p : Stmts) → IsSyntaxAt IsProgram limit input at → HasTree IsProgram limit input p → ⊥
no_tree = exact.no_tree IsProgram

pub no_flat_tree : (limit : ℕ) (input : List Token) (at : ℕ) (p : Stmts) → IsTooDeepAt IsProgram limit input at → HasTree IsProgram limit input p → ⊥
no_flat_tree = exact.no_flat_tree IsProgram
