use Rattle.std.proofs.Common.{ap, sym, ◌∙◌, Option, ℕ}
use Rattle.std.specs.Prelude.{unwrap_or}
use Rattle.list_methods.proofs.array.len_of.Goals as goal

pub returns-in-None : goal.returns-in-None
returns-in-None c = λ fs r w h. ap (λ (o : Option ℕ). unwrap_or o 0) (sym c.in-None.is ∙ c.array_length.ensures.length fs r w h)

pub returns-in-Some : goal.returns-in-Some
returns-in-Some c = λ fs r w h. ap (λ (o : Option ℕ). unwrap_or o 0) (sym c.in-Some.is ∙ c.array_length.ensures.length fs r w h)
