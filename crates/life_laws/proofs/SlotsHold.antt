-- The laws of slots.
use Rattle.std.proofs.Common.{ℕ, List, refl, arith}
use Rattle.life_laws.specs.Life.{Seen}
use Rattle.life_laws.specs.declared.entry.PickEntry.{PickEntry}
use Rattle.life_laws.specs.declared.entry.Picked.{Picked}
use Rattle.life_laws.specs.SlotLaws.{ItemLaws, PassLaws, SlotLaws, SlotsLaws, SwapLaws}
use Rattle.life_laws.proofs.Passing.{passed_none, passed_on, slot_picked}
use Rattle.life_laws.proofs.Along.{first_picked, none_picked, other_slots}
use Rattle.life_laws.proofs.Chaining.{rest_after}
use Rattle.life_laws.proofs.Housing.{chains_picked, joined_swap, others_in, rest_swap, unspent_given, unspent_picked, unspent_swap}
use Rattle.life_laws.proofs.Giving.{chains_join, gives_advance, gives_event}
use Rattle.life_laws.proofs.SlotsSettling.{all_done, slots_lighter, slots_none, slots_on}

pub pass_laws : (k : ℕ) → PassLaws k
pass_laws k = record {
  none = passed_none;
  more = λ r lives old mid new js ks v left rising h p i same. passed_on k r lives old mid new js ks v left rising h p i same;
  last = λ r lives old mid new js ks v left rising h p last. slot_picked k r lives old mid new js ks v left rising h p last;
  begins = λ r lives old new js ks left t p e. first_picked k r lives old new js ks left t p e;
  idle = λ lives old new js ks left p. none_picked k lives old new js ks left p;
}

pub slot_laws : (homes : List ℕ) (born w k : ℕ) (r : Picked) (cs ds : List (List ℕ)) (old new : List Seen) (js ks : List PickEntry) → SlotLaws homes born w k r cs ds old new js ks
slot_laws homes born w k r cs ds old new js ks = record {
  others = λ u v c h p o at has. other_slots homes born w u k v r cs ds c old new js ks h p o at has;
  unborn = λ h p v l. others_in homes born w k r cs ds old new js ks h p v l;
  chains = λ h p. chains_picked homes born w k r cs ds old new js ks h p;
  unspent = λ h p u. unspent_picked homes born w k r cs ds old new js ks h p u;
  rest = λ p h. rest_after w k r cs ds old new js ks p h;
}

pub item_laws : (homes : List ℕ) (born : ℕ) (cs : List (List ℕ)) (ss : List Seen) → ItemLaws homes born cs ss
item_laws homes born cs ss = record {
  event = λ w e h l. gives_event homes born cs w e ss h l;
  advance = λ d h. gives_advance homes born cs d ss h;
  unspent = λ new e u. unspent_given born ss new e u;
}

pub swap_laws : (homes : List ℕ) (born to : ℕ) (cs : List (List ℕ)) (ss : List Seen) (x : Seen) → SwapLaws homes born to cs ss x
swap_laws homes born to cs ss x = record {
  chains = λ l h. chains_join homes born to 0 to cs l (omega arith) h;
  unspent = λ u. unspent_swap born ss x u;
  joined = λ js z u j. joined_swap born ss _ x js refl z u j;
  rest = λ l r. rest_swap born to cs _ ss _ x l refl refl r;
}

pub slots_laws : (k : ℕ) (homes : List ℕ) → SlotsLaws k homes
slots_laws k homes = record {
  none = λ cs ss js asks room. slots_none k homes cs ss js asks room;
  more = λ w born cs0 cs ds r old mid new js ks ms a0 a1 a2 r0 r1 r2 xs at small chains h p list chosen keeps room.
      slots_on k w homes born cs0 cs ds old mid new js ks ms a0 a1 a2 r0 r1 r2 xs at small chains r h p list chosen keeps room;
  lighter = λ w r cs ds mid new ks ms xs at p list chosen. slots_lighter w k r cs ds mid new ks ms xs at p list chosen;
  done = all_done;
}
