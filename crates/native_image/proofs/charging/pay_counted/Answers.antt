use Rattle.std.proofs.Common.{arith}
use Rattle.native_image.proofs.Charges.{too_many}
use Rattle.js_image.specs.Image.{image}
use Rattle.native_image.proofs.charging.pay_counted.Goals as goal

pub returns-in-Err-clause-plan : goal.returns-in-Err-clause-plan
returns-in-Err-clause-plan c = λ n e fs r k. too_many n c.args.units e (omega arith) (image fs r c.args.w.index c.args.store.now) k
