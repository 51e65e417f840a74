-- Any texts, and the texts of a script.
use Rattle.std.proofs.Common.{◌≡◌, ℕ, List, [], ◌∷◌, true, Some, subst, ◌∙◌, ◌≤◌, arith}
use Rattle.std.proofs.lemmas.Bool.{false≢true}
use Rattle.exact_refusals.specs.Places.{Within}
use Rattle.js_grammar.specs.declared.Sign.{Sign}
use Rattle.js_grammar.specs.declared.Sign.TheVariants as sign
use Rattle.js_grammar.specs.Grammar.{Deep, IsProgram}
use Rattle.js_grammar.specs.Tables.{is_key}
use Rattle.js_tree.specs.Plain.{Stmts}
use Rattle.js_grammar.specs.Unplaced.{unplaced_stmts}
use Rattle.tidy_laws.specs.Laws.{the_end, Respells}
use Rattle.tidy_laws.specs.Proper.{IsProper, IsAny}
use Rattle.tidy_laws.specs.Tame.{TameStmts}
use Rattle.tidy_laws.specs.Told.{fixed_of, UpTo, AnyDepth, Written, AreFit}
use Rattle.tidy_laws.proofs.Law.{AreAllowed, respells}
use Rattle.tidy_laws.proofs.Making.{IsFitness, Bound}
use Rattle.tidy_laws.proofs.Mild.{any_stmts, tame_stmts}
use Rattle.tidy_laws.proofs.Places.{one_spelling}
use Rattle.tidy_laws.proofs.Tamed.{same_tame}
use Rattle.tidy_laws.proofs.Solid.{solid_units, name_solid, number_solid}

any_fit : (ts : List Deep) → AreFit IsAny ts
any_fit [] = tt
any_fit (t ∷ ts) = (tt, any_fit ts)

-- ## Bounds

-- depths up to a limit
upto : ℕ → (Fit : Sign → List ℕ → Type 0) → IsFitness Fit → Bound
upto limit Fit laws = record {
  Allowed = UpTo limit;
  Stands = λ n d. n ≤ d;
  Loose = ⊥;
  Fit = Fit;
  laws = laws;
  start = omega arith;
  down = λ n d h. omega (arith, h);
  wide = λ n d h. omega (arith, h);
  less = λ n d h. omega (arith, h);
  allowed = λ n d h le. omega (arith, h, le);
  flat = λ d le. omega (arith, le);
  total = λ o. absurd o;
  free = λ o. absurd o;
}

-- any depth
anyhow : (Fit : Sign → List ℕ → Type 0) → IsFitness Fit → Bound
anyhow Fit laws = record {
  Allowed = AnyDepth;
  Stands = λ n d. Unit {0};
  Loose = Unit {0};
  Fit = Fit;
  laws = laws;
  start = tt;
  down = λ n d h. tt;
  wide = λ n d h. tt;
  less = λ n d h. tt;
  allowed = λ n d h le. tt;
  flat = λ d le. tt;
  total = λ o n d. tt;
  free = λ o n. tt;
}

allowed_within : (limit : ℕ) (Fit : Sign → List ℕ → Type 0) (laws : IsFitness Fit) (ts : List Deep) → Within limit ts → AreAllowed (upto limit Fit laws) ts
unfolding upto
allowed_within limit Fit laws [] w = tt
allowed_within limit Fit laws (((s, x), d) ∷ ts) w = (w.0, allowed_within limit Fit laws ts w.1)

all_allowed : (Fit : Sign → List ℕ → Type 0) (laws : IsFitness Fit) (ts : List Deep) → AreAllowed (anyhow Fit laws) ts
unfolding anyhow
all_allowed Fit laws [] = tt
all_allowed Fit laws (t ∷ ts) = (tt, all_allowed Fit laws ts)

any_respelled : (Fit : Sign → List ℕ → Type 0) → IsFitness Fit → (ts : List Deep) (p : Stmts) → IsProgram ts p → AreFit Fit ts → Respells AnyDepth Fit p
unfolding anyhow
any_respelled Fit laws ts p is f = respells (anyhow Fit laws) ts p is (all_allowed Fit laws ts) f (any_stmts p)

-- what spells a program as its tidied text does spells so each that agrees with it apart from places
agreeing : (Allowed : ℕ → Type 0) (Fit : Sign → List ℕ → Type 0) (p q : Stmts) → unplaced_stmts q ≡ unplaced_stmts p → Respells Allowed Fit q → Respells Allowed Fit p
agreeing Allowed Fit p q e r = record {
  tokens = r.tokens;
  tree = r.tree;
  spells = r.spells;
  same = r.same ∙ e;
  written = subst (λ ws. Written Allowed Fit ws r.tokens the_end) (one_spelling q p e) r.written;
}

no_deeper : (Fit : Sign → List ℕ → Type 0) → IsFitness Fit → (limit : ℕ) (ts : List Deep) (p q : Stmts) → IsProgram ts q → Within limit ts → AreFit Fit ts → unplaced_stmts q ≡ unplaced_stmts p → TameStmts p → Respells (UpTo limit) Fit p
unfolding upto
no_deeper Fit laws limit ts p q is w f e t = agreeing (UpTo limit) Fit p q e (respells (upto limit Fit laws) ts q is (allowed_within limit Fit laws ts w) f (tame_stmts q (same_tame p q e t)))

-- ## Any texts

any_fitness : IsFitness IsAny
any_fitness = record { fixed = λ s bytes e. tt; keys = λ s text e f. tt }

pub any_spelled : (ts : List Deep) (p : Stmts) → IsProgram ts p → Respells AnyDepth IsAny p
any_spelled ts p is = any_respelled IsAny any_fitness ts p is (any_fit ts)

pub tame_spelled : (limit : ℕ) (ts : List Deep) (p q : Stmts) → IsProgram ts q → Within limit ts → unplaced_stmts q ≡ unplaced_stmts p → TameStmts p → Respells (UpTo limit) IsAny p
tame_spelled limit ts p q is w e t = no_deeper IsAny any_fitness limit ts p q is w (any_fit ts) e t

-- ## Texts of a script

fixed_proper : (s : Sign) (bytes : List ℕ) → fixed_of s ≡ Some bytes → IsProper s bytes
fixed_proper sign.Name bytes e = absurd (cc e)
fixed_proper sign.Number bytes e = absurd (cc e)
fixed_proper sign.Str bytes e = absurd (cc e)
fixed_proper _ bytes e = tt

key_proper : (s : Sign) (text : List ℕ) → is_key s text ≡ true → IsProper s text → IsProper sign.Str text
key_proper sign.Name text e h = solid_units text (name_solid h)
key_proper sign.Number text e h = solid_units text (number_solid h)
key_proper sign.Str text e h = h
key_proper _ text e h = absurd (false≢true e)

proper_fitness : IsFitness IsProper
proper_fitness = record { fixed = fixed_proper; keys = key_proper }

pub any_proper : (ts : List Deep) (p : Stmts) → IsProgram ts p → AreFit IsProper ts → Respells AnyDepth IsProper p
any_proper ts p is f = any_respelled IsProper proper_fitness ts p is f

pub tame_proper : (limit : ℕ) (ts : List Deep) (p q : Stmts) → IsProgram ts q → Within limit ts → AreFit IsProper ts → unplaced_stmts q ≡ unplaced_stmts p → TameStmts p → Respells (UpTo limit) IsProper p
tame_proper limit ts p q is w f e t = no_deeper IsProper proper_fitness limit ts p q is w f e t
