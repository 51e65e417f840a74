-- Sums of weights.
use Rattle.std.proofs.Common.{◌≡◌, ℕ, ◌+◌, Bool, true, false, ◌&&◌, refl, sym, arith}
use Rattle.json_text.specs.declared.weighing.Weight.{Weight}
use Rattle.json_text.specs.Weights.{cell_weight, no_weight, plus, slot_weight}

and_true : (b : Bool) → (b && true) ≡ b
and_true true = refl
and_true false = refl

and_more : (a b c : Bool) → ((a && b) && c) ≡ (a && (b && c))
and_more true b c = refl
and_more false b c = refl

none_added : (a : ℕ) → a + 0 ≡ a
none_added a = omega arith

more_added : (a b c : ℕ) → (a + b) + c ≡ a + (b + c)
more_added a b c = omega arith

-- nothing more
pub plus_none : (a : Weight) → plus a no_weight ≡ a
plus_none a = λ j. record {
  cells = none_added a.cells j;
  slots = none_added a.slots j;
  units = none_added a.units j;
  named = and_true a.named j;
  whole = and_true a.whole j;
  short = and_true a.short j;
}

-- nothing before
pub plus_first : (a : Weight) → plus no_weight a ≡ a
plus_first a = λ j. record {
  cells = first a.cells j;
  slots = first a.slots j;
  units = first a.units j;
  named = a.named;
  whole = a.whole;
  short = a.short;
}
  where
    first : (n : ℕ) → 0 + n ≡ n
    first n = omega arith

-- one after the other
pub plus_more : (a b c : Weight) → plus (plus a b) c ≡ plus a (plus b c)
plus_more a b c = λ j. record {
  cells = more_added a.cells b.cells c.cells j;
  slots = more_added a.slots b.slots c.slots j;
  units = more_added a.units b.units c.units j;
  named = and_more a.named b.named c.named j;
  whole = and_more a.whole b.whole c.whole j;
  short = and_more a.short b.short c.short j;
}

-- what is changed of a weight
pub with_whole : (a : Weight) (b : Bool) → record a { whole = a.whole && b } ≡ plus a (record no_weight { whole = b })
with_whole a b = λ j. record {
  cells = sym (none_added a.cells) j;
  slots = sym (none_added a.slots) j;
  units = sym (none_added a.units) j;
  named = sym (and_true a.named) j;
  whole = a.whole && b;
  short = sym (and_true a.short) j;
}

pub with_cells : (a : Weight) (n : ℕ) → n ≡ a.cells + 1 → record a { cells = n } ≡ plus a cell_weight
with_cells a n e = λ j. record {
  cells = e j;
  slots = sym (none_added a.slots) j;
  units = sym (none_added a.units) j;
  named = sym (and_true a.named) j;
  whole = sym (and_true a.whole) j;
  short = sym (and_true a.short) j;
}

pub with_slots : (a : Weight) (n : ℕ) → n ≡ a.slots + 1 → record a { slots = n } ≡ plus a slot_weight
with_slots a n e = λ j. record {
  cells = sym (none_added a.cells) j;
  slots = e j;
  units = sym (none_added a.units) j;
  named = sym (and_true a.named) j;
  whole = sym (and_true a.whole) j;
  short = sym (and_true a.short) j;
}

pub with_name : (a : Weight) (n : ℕ) (b c : Bool) → n ≡ a.slots + 1 → c ≡ (a.named && b) → record a { slots = n; named = c } ≡ plus a (record no_weight { slots = 1; named = b })
with_name a n b c e f = λ j. record {
  cells = sym (none_added a.cells) j;
  slots = e j;
  units = sym (none_added a.units) j;
  named = f j;
  whole = sym (and_true a.whole) j;
  short = sym (and_true a.short) j;
}

pub with_text : (a : Weight) (n len : ℕ) (b c : Bool) → n ≡ a.units + len → c ≡ (a.short && b) → record a { units = n; short = c } ≡ plus a (record no_weight { units = len; short = b })
with_text a n len b c e f = λ j. record {
  cells = sym (none_added a.cells) j;
  slots = sym (none_added a.slots) j;
  units = e j;
  named = sym (and_true a.named) j;
  whole = sym (and_true a.whole) j;
  short = f j;
}
