use Rattle.std.proofs.Common.{[]}
use Rattle.std.proofs.lemmas.Result.{on_ok_weaker}
use Rattle.js_image.proofs.Units.{kept_then}
use Rattle.list_methods.proofs.Fills.{cut_array, filled}
use Rattle.list_methods.proofs.Lists.{all_stay}
use Rattle.list_methods.proofs.filling.fill.Goals as goal

pub push_all-requires-clause-array : goal.push_all-requires-clause-array
push_all-requires-clause-array c = cut_array c.args.w.index c.args.store.now c.args.array c.requires.array c.shorten.new.store 0 c.shorten.ensures.kept c.in_ok-shorten.ensures.done

pub push_all-requires-clause-values : goal.push_all-requires-clause-values
push_all-requires-clause-values c = all_stay c.args.w.index c.args.store.now.cells c.shorten.new.store.cells (c.shorten.ensures.kept []).grows c.args.values.now c.requires.values

pub returns-clause-done : goal.returns-clause-done
returns-clause-done c = on_ok_weaker c.push_all.result (λ done. filled c.args.w.index c.args.store.now c.args.array c.requires.array c.shorten.new.store c.push_all.new.store c.args.values.now c.requires.values c.shorten.ensures.kept c.in_ok-shorten.ensures.done done) c.push_all.ensures.done

pub returns-clause-kept : goal.returns-clause-kept
returns-clause-kept c = λ fs. kept_then fs c.args.w.index c.args.store.now c.shorten.new.store c.push_all.new.store (c.shorten.ensures.kept fs) (c.push_all.ensures.kept fs)
