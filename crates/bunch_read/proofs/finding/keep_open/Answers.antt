use Rattle.std.proofs.Common.{◌≡◌, ◌++◌, [], ◌∷◌, sym, ◌∙◌, if◌then◌else◌}
use Rattle.std.specs.Prelude.{not}
use Rattle.widget_meaning.specs.OwnState.{kept_at}
use Rattle.page_image.specs.Image.{number}
use Rattle.page_image.proofs.Results.{ok_then}
use Rattle.bunch_read.proofs.Opened.{left_out, put_in}
use Rattle.bunch_read.proofs.finding.keep_open.Goals as goal

pub returns-then-is_protected : goal.returns-then-is_protected
returns-then-is_protected c = λ g s shows. left_out c.args.found.now.items c.args.node (kept_at s (number c.args.page.now c.args.w c.args.node)).is_protected (sym (c.is_protected.ensures g s shows) ∙ c.if-is_protected.true)

pub returns : goal.returns
returns c = λ g s shows.
    let b = (kept_at s (number c.args.page.now c.args.w c.args.node)).is_protected in
    ok_then c.push.result (c.push.new.list.items ≡ c.args.found.now.items ++ c.args.node ∷ []) (c.push.new.list.items ≡ c.args.found.now.items ++ (if not b then c.args.node ∷ [] else []))
    (λ e. e ∙ put_in c.args.found.now.items c.args.node b (sym (c.is_protected.ensures g s shows) ∙ c.if-is_protected.false)) c.push.ensures
