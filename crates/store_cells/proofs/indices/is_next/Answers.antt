use Rattle.std.proofs.Common.{◌∙◌, sym}
use Rattle.store_cells.proofs.indices.is_next.Goals as goal

pub returns-in-None : goal.returns-in-None
returns-in-None c = λ e. record {
  next = c.if-at-upto.false;
  ruled = c.if-at-ge-RULED.false;
  number = c.if-n-ruled_number.false ∙ c.ruled_number.ensures;
  absent = sym c.far_at.ensures ∙ c.in-None.is;
}
