-- Elements that are made.
use Rattle.std.specs.Prelude.{ℕ, ◌&&◌, Bool, List, Option, option_to_list}
use Rattle.std.specs.List.{list_all}
use Rattle.plain_tree.specs.Tags.{is_listed_tag}
use Rattle.plain_tree.specs.Words.{is_plain_words}

-- a listed tag, with plain words as its `type` if one is given
abbrev pub may_make : List ℕ → Option (List ℕ) → Bool
may_make tag given = is_listed_tag tag && list_all is_plain_words (option_to_list given)
