use Rattle.std.proofs.Common.{◌≡◌, subst, sym, ◌∙◌, refl, rules}
use denote.Enum.Bare.{same_true}
use Rattle.js_grammar.specs.contracts.Sign.{the_type}
use Rattle.js_cursor.specs.Reads.{Next}
use Rattle.js_cursor.proofs.steps.expect.Goals as goal

pub returns-then-eq : goal.returns-then-eq
returns-then-eq c =
    let same : c.peek-found.result ≡ c.args.want = same_true the_type (search rules) _ _ (sym c.if-eq.ensures) in
    (refl, subst (λ s. Next c.args.script.now c.args.at s) same c.peek-found.ensures.here, c.peek-found.ensures.inside (λ e. c.requires.no_end (sym same ∙ e)))
