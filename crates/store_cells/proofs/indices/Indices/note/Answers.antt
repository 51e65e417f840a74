use Rattle.std.proofs.Common.{◌≡◌, ◌+◌, ◌≤◌, ◌∙◌, ℕ, List, ap, arith, refl, subst, suc, sym}
use Rattle.std.specs.BTreeMap.{insert_entry as tree_insert}
use Rattle.std.specs.Ordering.{nat_cmp}
use Rattle.store_cells.specs.Listed.{AreFrom, joined}
use Rattle.store_cells.specs.Numbered.{noted}
use Rattle.store_cells.proofs.Gapless.{from_insert, insert_far, listed_more, push_near, same_near}
use Rattle.store_cells.proofs.indices.Indices.note.Goals as goal

pub check_number-requires : goal.check_number-requires
check_number-requires c = omega (arith, c.if-at-self.true, c.self.invariant.ruled)

pub returns-then-at-self-clause-ok : goal.returns-then-at-self-clause-ok
returns-then-at-self-clause-ok c =
    let s = c.self.inside in
    let at = c.args.at in
    let n = c.args.n in
    sym c.self.view_is
    ∙ same_near 0 at at n s.upto s.far.entries (omega arith) c.if-at-self.true c.in_ok-check_number.ensures
    ∙ ap (noted (suc at) n) c.self.view_is

pub invariant_of-self : goal.invariant_of-self
invariant_of-self c = listed_more c.self.inside.upto _ c.args.at c.args.n c.self.inside.far.entries refl (c.is_next.ensures c.if-is_next.true) c.self.invariant

pub returns-then-is_next-clause-ok : goal.returns-then-is_next-clause-ok
returns-then-is_next-clause-ok c =
    let s = c.self.inside in
    let at = c.args.at in
    let n = c.args.n in
    let h = c.is_next.ensures c.if-is_next.true in
    let one : suc at ≡ s.upto + 1 = omega (arith, h.next) in
    let more = (listed_more s.upto (suc at) at n s.far.entries one h c.self.invariant).from in
    let up : s.upto + 1 ≡ suc s.upto = omega arith in
    ap (λ m. joined m s.far.entries) up
    ∙ push_near 0 at n s.upto s.far.entries (omega (arith, h.next)) h.number more
    ∙ ap (noted (suc at) n) c.self.view_is

pub invariant_of-self-2 : goal.invariant_of-self-2
invariant_of-self-2 c =
    let s = c.self.inside in record {
      from = subst (AreFrom s.upto) (sym c.in_ok-insert.ensures.entries) (from_insert s.upto c.args.at c.args.n s.far.entries (omega (arith, c.if-at-self.false)) c.self.invariant.from);
      ruled = c.self.invariant.ruled;
    }

pub returns-clause-ok : goal.returns-clause-ok
returns-clause-ok c =
    let s = c.self.inside in
    let at = c.args.at in
    let n = c.args.n in
    let le : 0 + s.upto ≤ at = omega (arith, c.if-at-self.false) in
    ap (λ (l : List (ℕ × ℕ)). joined s.upto l) c.in_ok-insert.ensures.entries
    ∙ insert_far 0 at n s.upto s.far.entries le
    ∙ ap (λ (l : List (ℕ × ℕ)). tree_insert nat_cmp l at n) c.self.view_is
