use Rattle.std.proofs.Common.{ap, subst, ◌∙◌}
use Rattle.std.specs.Prelude.{option_copied}
use Rattle.js_tree.specs.Forest.{AreInit, IsOptional, init_at, optional_at}
use Rattle.js_tree.specs.declared.nodes.ForInit.{ForInit as Init}
use Rattle.js_flow.specs.Parts.{init_decls}
use Rattle.js_flow.proofs.Listing.{listed}
use Rattle.js_flow.proofs.lists.init_decl.Goals as goal

pub returns-in-Var : goal.returns-in-Var
returns-in-Var c = λ f h.
    let ids = c.in-Var.list.items in
    let same = ap (λ i. init_decls (init_at f i)) c.in-Var.is ∙ c.lists_agree.ensures.decls f ids in
    listed (λ d. (d.name, optional_at f d.init)) (λ d. IsOptional f d.init) ids c.args.n (init_decls (init_at f c.args.init.now)) same (subst (λ (q : Init). AreInit f q) c.in-Var.is h) (option_copied c.decl_in.result) c.decl_in.ensures.value c.decl_in.ensures.room
