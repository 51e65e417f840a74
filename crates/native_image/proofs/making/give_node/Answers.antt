use Rattle.std.proofs.Common.{sym, ap, ◌∙◌, length, refl}
use Rattle.widget_meaning.specs.Costs.{give, with_counts}
use Rattle.widget_meaning.specs.Values.{Own}
use Rattle.native_image.specs.Image.{beside, image}
use Rattle.native_image.specs.Made.{with_node_bunch}
use Rattle.native_image.specs.Weights.{amounts}
use Rattle.native_image.proofs.Keeping.{keeps_here}
use Rattle.native_image.proofs.making.give_node.Goals as goal

pub make_node-requires : goal.make_node-requires
make_node-requires c = c.requires

pub returns-in_ok-settle-in-Ok-clause-ends : goal.returns-in_ok-settle-in-Ok-clause-ends
returns-in_ok-settle-in-Ok-clause-ends c = λ l b label u is e sound.
    let w = c.args.w.index in
    let made = c.in_ok-value-in-Ok.ensures.made l label is sound.holds in
    let new = beside c.make_node.new.store c.make_node.new.page l b in
    record {
      leaves = λ fs x d.
          c.in-Ok.ensures.due u 1 e refl fs x l b (λ t. give (Own (length t.own.heap)) (with_node_bunch label t))
          ∙ (λ j. give (sym (made.value fs x b) j)
          ((sym (made.state fs x b (amounts c.in-Ok.due)) ∙ ap (with_counts (image fs x w new)) (sym (c.in_ok-settle-in-Ok.ensures fs x l b))) j));
      fine = made.fine;
      fires = tt;
      sound = c.in_ok-value-in-Ok.ensures.sound l sound;
    }

pub returns-in-Err-clause-ends : goal.returns-in-Err-clause-ends
returns-in-Err-clause-ends c = λ l b label u is e sound. record {
  leaves = λ fs x d. c.in-Err.ensures.stop u 1 e refl fs x l b (λ t. give (Own (length t.own.heap)) (with_node_bunch label t));
  fine = tt;
  fires = tt;
  sound = sound;
}

pub returns-in-Err-clause-kept : goal.returns-in-Err-clause-kept
returns-in-Err-clause-kept c = λ l sound. keeps_here c.args.w.index c.args.store.now c.args.page.now l sound.holds
