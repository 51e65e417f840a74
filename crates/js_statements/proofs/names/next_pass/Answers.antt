use Rattle.std.proofs.Common.{◌<◌, [], None, length, subst, sym}
use Rattle.js_image.specs.Held.{IsFine}
use Rattle.js_image.specs.Image.{no_rest}
use Rattle.js_names.specs.Code.{trees_of}
use Rattle.js_flow.specs.declared.frame.ForInNames.{ForInNames}
use Rattle.js_flow.specs.Fine.{FineNames}
use Rattle.js_statements.proofs.names.next_pass.Goals as goal

pub returns-in-Some-clause-fine : goal.returns-in-Some-clause-fine
returns-in-Some-clause-fine c =
    let fs = trees_of c.args.codes.now.items in
    let w = c.args.w in
    let cells = c.args.store.now.cells in
    let fine = subst (λ (u : ForInNames). IsFine w cells u.object) (sym c.deref.ensures) c.requires.names.0 in
    let less = subst (λ (u : ForInNames). c.in-Some.at < length u.names.items) c.deref.ensures (c.in-Some.ensures fs no_rest w [] [] (record { scope = None; depth = 0 }) c.requires.confined fine).0 in
    rw c.go.ensures (tt, subst (λ (u : ForInNames). FineNames fs w cells u c.args.place × (u.at < length u.names.items)) (sym c.at_name.ensures) (c.requires.names, less))
