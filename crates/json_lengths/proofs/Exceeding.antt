-- Of bytes that are UTF-8 the same is told as of their text.
use Rattle.std.proofs.Common.{◌≡◌, ◌<◌, ℕ, IsUtf8, List, Some, None, sym, ap, subst, ◌∙◌}
use Rattle.serde_json.specs.Data.{Data}
use Rattle.serde_json.specs.Read.{read}
use Rattle.json_shapes.specs.Json.{IsJson, IsJsonFault}
use Rattle.json_shapes.specs.declared.fault.ShapeFault.{ShapeFault}
use Rattle.json_lengths.specs.Lengths.{HasLength, HasLengthOver}

module _ (bytes text : List ℕ) (is : (text ≡ bytes) × IsUtf8 bytes) where
  pub same_fault : (fault : ShapeFault) → IsJsonFault text fault → IsJsonFault bytes fault
  same_fault fault h = subst (λ t. IsJsonFault t fault) is.0 h

  pub no_value : read text ≡ None → (d : Data) → IsJson bytes d → ⊥
  no_value none d json = let some = json.value in let same = ap read is.0 in cc

  pub is_over : (key : List ℕ) (most n : ℕ) → HasLength text key n → (d : Data) × (read text ≡ Some d) → most < n → HasLengthOver bytes key most n
  is_over key most n has found many =
      record {
        value = found.0;
        json = record { utf8 = is.1; value = ap read (sym is.0) ∙ found.1 };
        list = has found.0 found.1;
        many = many;
      }
