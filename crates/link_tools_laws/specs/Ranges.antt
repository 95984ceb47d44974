-- Relations: bounds that the types of the options and of the input imply.
use Rattle.std.specs.Prelude.{ℕ, ◌^◌, ◌<◌, ◌≤◌, List, length}
use Rattle.link_tool_option_types.specs.declared.pack.PackOptions.{PackOptions}
use Rattle.link_wire.specs.Bytes.{AreBytes}
use Rattle.link_wire.specs.Limits.{longest_node}

-- the numbers and the node ID fit in the fields of SESS_INIT (RFC 9174 section 4.6)
pub record OptionsFit (options : PackOptions) : Type 0 where
  pub keepalive : options.keepalive < 2 ^ 16
  pub segment_mru : options.segment_mru < 2 ^ 64
  pub transfer_mru : options.transfer_mru < 2 ^ 64
  pub node : AreBytes options.node.items
  pub short : length options.node.items ≤ longest_node

-- the members of the input are bytes, and there are fewer of them than transfer IDs (2^64)
pub record InputFits (bytes : List ℕ) : Type 0 where
  pub are : AreBytes bytes
  pub few : length bytes < 2 ^ 64
