-- The laws of picks.
use Rattle.std.proofs.Common.{ℕ, [], refl}
use Rattle.life_laws.specs.Life as todo
use Rattle.life_laws.specs.PickLaws.{JournalLaws, SettleLaws, GiveLaws, OrderLaw}
use Rattle.life_laws.proofs.Joins.{joined_after}
use Rattle.life_laws.proofs.Given.{dues_on, dues_all, images_on, images_all, joined_given}
use Rattle.life_laws.proofs.Ready.{rises, below_length}
use Rattle.life_laws.proofs.Settling.{lighter, quiet}
use Rattle.life_laws.proofs.Asking.{settled_none, settled_on}
use Rattle.life_laws.proofs.Orders.{by_round_robin}

pub journal_laws : JournalLaws
journal_laws = record { picked = joined_after; given = joined_given }

pub settle_laws : (k : ℕ) → SettleLaws k
settle_laws k = record {
  none = settled_none k;
  more = λ w r old mid new js ks ms a0 a1 a2 r0 r1 r2 small h p a.
      settled_on k w old mid new js ks ms a0 a1 a2 r0 r1 r2 a.list a.at small r h p a.those_ready a.chosen a.keeps a.room;
  lighter = λ w at r old new js ks. lighter w k at r old new js ks;
  quiet = quiet 0;
  rising = rises 0;
  there = below_length;
}

pub give_laws : (x : todo.Work) → GiveLaws x
give_laws x = record {
  due_on = λ n ss. dues_on n x ss;
  due_all = dues_all x;
  image_on = λ n ss. images_on n x ss;
  image_all = images_all x;
}

pub order_law : OrderLaw
order_law k old new ks room room_new asks h quiet few turns big short =
    by_round_robin k old new [] ks [] room asks asks room_new h refl refl quiet few turns refl big short
