use Rattle.std.proofs.Common.{◌≡◌, ◌++◌, ◌∷◌, [], rules, arith, subst, sym, ap, length, length-append}
use Rattle.std.specs.Prelude.{slice_get}
use Rattle.page_nodes.specs.Ids.{numbers_at}
use Rattle.page_nodes.proofs.Tables.{none_pushed}
use Rattle.page_nodes.proofs.ids.Ids.new.Goals as goal

pub each-preserved : goal.each-preserved
each-preserved c =
    let e : c.push.new.self.items ≡ c.each.owners.items ++ c.with_hasher.result ∷ [] = search rules in
    record {
      long = omega (arith, length-append c.each.owners.items (c.with_hasher.result ∷ []), ap length e, c.each.invariant.long);
      none = λ s value. subst (λ l. numbers_at (slice_get l s) value ≡ []) (sym e) (none_pushed c.each.owners.items c.with_hasher.result c.with_hasher.ensures.empty c.each.invariant.none s value);
    }
