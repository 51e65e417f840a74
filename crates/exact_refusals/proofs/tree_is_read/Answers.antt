use Rattle.exact_refusals.specs.Judge.{Takes}
use Rattle.exact_refusals.proofs.Exact.{read_means, tree_means}
use Rattle.exact_refusals.proofs.tree_is_read.Goals as goal

pub returns : goal.returns
returns g c = λ step done begin limit input p.
    (read_means step done begin (Takes step done begin) (λ ts p h. h) (λ ts p h. h) limit input p, tree_means step done begin (Takes step done begin) (λ ts p h. h) (λ ts p h. h) limit input p)
