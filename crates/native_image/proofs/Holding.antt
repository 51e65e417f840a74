-- What holds whatever is answered.
use Rattle.std.specs.Prelude.{Err, OnOk, Ok, Result}

pub on_ok : {T E : Type 0} (r : Result T E) (P : Type 0) → P → OnOk r P
on_ok (Ok x) P h = h
on_ok (Err e) P h = tt
