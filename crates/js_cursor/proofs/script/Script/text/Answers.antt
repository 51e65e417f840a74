use Rattle.std.proofs.Common.{◌≡◌, ◌∙◌, arith}
use Rattle.std.proofs.lemmas.Result.{IfOk-weaker}
use Rattle.js_cursor.specs.Reads.{lexeme_at}
use Rattle.js_cursor.proofs.Kept.{kept_at, text_read}
use Rattle.js_cursor.proofs.script.Script.text.Goals as goal

pub index-requires-in-Some : goal.index-requires-in-Some
index-requires-in-Some c =
    let h = kept_at _ _ _ _ _ c.args.at c.in-Some.place c.self.view_is c.self.invariant.1 c.requires (rw c.in-Some.is at c.index.ensures) in
    omega (arith, h.inside)

pub returns-in-Some : goal.returns-in-Some
returns-in-Some c =
    let h = kept_at _ _ _ _ _ c.args.at c.in-Some.place c.self.view_is c.self.invariant.1 c.requires (rw c.in-Some.is at c.index.ensures) in
    IfOk-weaker c.share.result (λ t. t ≡ c.index-in-Some.result.now) (λ t. t ≡ (lexeme_at c.args.self.now c.args.at).text) (λ t is. is ∙ text_read _ _ _ _ h c.index-in-Some.ensures) c.share.ensures
