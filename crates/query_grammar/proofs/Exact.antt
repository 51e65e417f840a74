-- The laws of exact refusals, of queries.
use Rattle.std.proofs.Common.{◌≡◌, ℕ, ◌+◌, List, length}
use Rattle.exact_refusals.specs.Judge.{Refused}
use Rattle.exact_refusals.proofs.Plain as plain
use Rattle.query_grammar.specs.Steps.{Step}
use Rattle.query_grammar.specs.Queries.{QuerySpells, BadQueryPlace}
use Rattle.query_grammar.specs.Machine.{step, done, begin}
use Rattle.query_grammar.proofs.Complete.{go, complete}
use Rattle.query_grammar.proofs.Sound.{sound, closable}

pub one_query : (us : List ℕ) (qs rs : List Step) → QuerySpells us qs → QuerySpells us rs → qs ≡ rs
one_query = plain.one_tree step done begin QuerySpells complete sound

pub refused_is : (us : List ℕ) (left at : ℕ) → go begin us ≡ Refused left → at + left ≡ length us → BadQueryPlace us at
refused_is = plain.refused_is step done begin QuerySpells complete sound closable

pub one_place : (us : List ℕ) (at other : ℕ) → BadQueryPlace us at → BadQueryPlace us other → at ≡ other
one_place us = plain.one_place QuerySpells us

pub no_query : (us : List ℕ) (at : ℕ) (qs : List Step) → BadQueryPlace us at → QuerySpells us qs → ⊥
no_query us = plain.no_tree QuerySpells us
