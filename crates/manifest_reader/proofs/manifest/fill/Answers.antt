use Rattle.std.proofs.Common.{List, map, refl, subst}
use Rattle.manifest_shape.specs.declared.slot.PageEntry.{PageEntry}
use Rattle.manifest_reader.specs.Page.{part_of, AreFilled}
use Rattle.manifest_reader.proofs.manifest.fill.Goals as goal

pub returns-clause-ok : goal.returns-clause-ok
returns-clause-ok c =
    record {
      entries = subst (λ (es : List PageEntry). AreFilled c.args.shape.fuel es (map part_of c.in_ok-entries.entries.items)) c.deref.ensures.value c.in_ok-entries.ensures.filled;
      libs = refl;
      channels = refl;
    }
