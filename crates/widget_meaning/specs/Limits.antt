-- The limits of one widget.
use Rattle.std.specs.Prelude.{ℕ, ◌^◌}
use Rattle.code_units.specs.declared.index.TheConstants.{MAX_LENGTH}

-- objects over its life
abbrev pub max_cells : ℕ
max_cells = 524288

-- slots over its life
abbrev pub max_slots : ℕ
max_slots = 1048576

-- units over its life: what the texts that it made cost, one each
abbrev pub max_units : ℕ
max_units = 2097152

-- nodes over its life
abbrev pub max_nodes : ℕ
max_nodes = 16384

-- of calls one inside the other
abbrev pub max_depth : ℕ
max_depth = 200

-- of units in one text
abbrev pub max_text : ℕ
max_text = 65536

-- of prototypes on a chain
abbrev pub max_chain : ℕ
max_chain = 100

-- waiting timers
abbrev pub max_timers : ℕ
max_timers = 64

-- milliseconds that a timer waits at least
abbrev pub min_delay : ℕ
min_delay = 10

-- kept posts
abbrev pub max_posts : ℕ
max_posts = 256

-- the least radix of a numeral
abbrev pub min_radix : ℕ
min_radix = 2

-- the greatest
abbrev pub max_radix : ℕ
max_radix = 36

-- the first number past the code units of texts, which have 16 bits (no limit of a widget)
abbrev pub past_units : ℕ
past_units = 2 ^ 16

-- the first whole number past the numbers, which go from -(2^53-1) to 2^53-1
abbrev pub past_numbers : ℕ
past_numbers = 2 ^ 53

-- the largest length of an array
abbrev pub max_length : ℕ
max_length = MAX_LENGTH

-- of units in one post
abbrev pub max_post : ℕ
max_post = 1024

-- of arrays and objects one in the other in what is written as JSON
abbrev pub max_nesting : ℕ
max_nesting = 100

-- of nodes one inside the other
abbrev pub max_node_depth : ℕ
max_node_depth = 200
