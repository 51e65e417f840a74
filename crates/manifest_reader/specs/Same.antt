-- Manifests that are the same, as their callers see them.
use Rattle.std.specs.Prelude.{◌≡◌, map, string_bytes}
use Rattle.manifest_reader.specs.Page.{part_of}
use Rattle.manifest_reader.specs.declared.entry.Manifest.{Manifest}

-- they have the same trees and slots, libraries and channels
pub record IsSame (a b : Manifest) : Type 0 where
  pub entries : map part_of a.entries.items ≡ map part_of b.entries.items
  pub libs : map string_bytes a.libs.items ≡ map string_bytes b.libs.items
  pub channels : a.channels.items ≡ b.channels.items
