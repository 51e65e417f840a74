use Rattle.std.proofs.lemmas.Result.{IfOk-weaker}
use Rattle.js_image.specs.Image.{image, no_rest}
use Rattle.std.proofs.Common.{[]}
use Rattle.list_methods.specs.Arrays.{number}
use Rattle.list_methods.proofs.Arrays.{length_seen}
use Rattle.list_methods.proofs.Lists.{elements_length}
use Rattle.list_methods.proofs.array.values_of.Goals as goal

pub elements-requires : goal.elements-requires
elements-requires c = c.requires.array.held.0

pub returns-clause-seen : goal.returns-clause-seen
returns-clause-seen c = IfOk-weaker c.elements.result _ _ (λ vs h. λ fs r. h fs r c.args.w.index c.args.array.len c.requires.array.held (length_seen c.args.w.index c.args.store.now c.args.array c.requires.array fs r)) c.elements.ensures.found

pub returns-clause-fine : goal.returns-clause-fine
returns-clause-fine c = IfOk-weaker c.elements.result _ _ (λ vs h. h c.requires.confined.0 c.args.w.index c.requires.confined.1 c.requires.array.held) c.elements.ensures.fine

pub returns-clause-len : goal.returns-clause-len
returns-clause-len c = IfOk-weaker c.elements.result _ _ (λ vs h. elements_length c.args.w.index c.args.store.now.cells vs.items (image [] no_rest c.args.w.index c.args.store.now) (number c.args.w.index c.args.store.now c.args.array) c.args.array.len (h [] no_rest c.args.w.index c.args.array.len c.requires.array.held (length_seen c.args.w.index c.args.store.now c.args.array c.requires.array [] no_rest))) c.elements.ensures.found
