use Rattle.js_names.proofs.Scoped.{declared, differ, named}
use Rattle.js_names.proofs.laws.scopes_of_calls.Goals as goal

pub returns : goal.returns
returns c = record {
  named = λ g n o f vs h. named g n o f vs h;
  declared = λ g n o f vs h. declared g n o f vs h;
  distinct = λ g n h. differ g n h;
}
