-- The limits of what is read. The numbers are written here again, so a change of a constant of the
-- code changes no definition.
use Rattle.std.specs.Prelude.{ℕ}
pub use Rattle.link_io.specs.Limits.{longest_input, window_size}

-- the greatest length of a node ID, in bytes
abbrev pub longest_node : ℕ
longest_node = 1024

-- the greatest length of an extension list, in bytes
abbrev pub longest_list : ℕ
longest_list = 65536

-- the greatest number of items in an extension list
abbrev pub most_items : ℕ
most_items = 64

-- The greatest length of a message's head, in bytes. It is that of a SESS_INIT with the longest
-- node ID and the longest list.
abbrev pub longest_head : ℕ
longest_head = 66585
