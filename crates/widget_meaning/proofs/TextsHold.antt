-- The pairs of a style and the steps of a query are those that their texts spell.
use Rattle.std.proofs.Common.{◌≡◌, ℕ, List, Some, ap}
use Rattle.std.proofs.lemmas.Option.{none-some}
use Rattle.exact_refusals.specs.Judge.{Outcome, Read, Refused, Deeper}
use Rattle.query_grammar.specs.Machine.{judged}
use Rattle.query_grammar.specs.Steps.{Step}
use Rattle.query_grammar.proofs.Complete as query_complete
use Rattle.query_grammar.proofs.Sound as query_sound
use Rattle.style_text.specs.Styles.{Pair}
use Rattle.style_text.specs.Machine.{begin, goes}
use Rattle.style_text.proofs.Complete as style_complete
use Rattle.style_text.proofs.Sound as style_sound
use Rattle.widget_meaning.specs.Outcomes.{what_is_read}
use Rattle.widget_meaning.specs.Queries.{QueryLaws}
use Rattle.widget_meaning.specs.Styles.{StyleLaws}

some_same : {A : Type 0} (a b : A) → Some a ≡ Some b → a ≡ b
some_same a b e = cc

-- only what was read has a tree
read_back : {A : Type 0} (r : Outcome A) (tree : A) → what_is_read r ≡ Some tree → r ≡ Read tree
read_back (Read other) tree e = ap Read (some_same other tree e)
read_back (Refused left) tree e = absurd (none-some tree e)
read_back (Deeper left) tree e = absurd (none-some tree e)

pub style_laws : (t : List ℕ) (pairs : List Pair) → StyleLaws t pairs
style_laws t pairs = record {
  found = λ h. ap what_is_read (style_complete.complete t pairs h);
  spelled = λ e. style_sound.sound t pairs (read_back (goes t begin 0) pairs e);
}

pub query_laws : (us : List ℕ) (steps : List Step) → QueryLaws us steps
query_laws us steps = record {
  found = λ h. ap what_is_read (query_complete.complete us steps h);
  spelled = λ e. query_sound.sound us steps (read_back (judged us) steps e);
}
