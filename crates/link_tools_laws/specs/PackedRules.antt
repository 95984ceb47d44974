-- The rules that `check` finds broken in a packed stream.
use Rattle.std.specs.{Prelude.{◌≡◌, ℕ, ◌≤◌, Bool, false, List, map, None, Ok, IfSome}, List.{All, flat_map}}
use Rattle.link_tool_option_types.specs.declared.check.CheckOptions.{CheckOptions}
use Rattle.link_tool_option_types.specs.declared.limits.PeerLimits.{PeerLimits}
use Rattle.link_tool_option_types.specs.declared.pack.PackOptions.{PackOptions}
use Rattle.link_wire.specs.Spelling.{sess_init_with}
use Rattle.link_wire.specs.declared.message.Message.{Message}
use Rattle.link_bundle_blocks.specs.Bundle.{verdict}
use Rattle.link_session_rules.specs.NodeIds.{node_id, node_name}
use Rattle.link_session_rules.specs.Session.{keepalive_interval}
use Rattle.link_session_rules.specs.TransferRules.{has_other_item}
use Rattle.link_tool_check.specs.Bundles.{broken_bundles, bundle_check_tool}
use Rattle.link_tool_check.specs.Checking.{check_tool}
use Rattle.link_tools_laws.specs.SameRules.{TransferWithBundle, broken_in_transfer, BreaksSameRules, reports}

-- the limits that are known are at least those for which the stream was packed
pub record IsWithinPeerLimits (options : PackOptions) (peer : PeerLimits) : Type 0 where
  pub segment : IfSome peer.segment (λ limit. options.peer_segment ≤ limit)
  pub transfer : IfSome peer.transfer (λ limit. options.peer_transfer ≤ limit)

-- a SESS_INIT keeps the rules `node-id`, `node-name` and `keepalive-interval`
pub record AreInitRulesKept (init : Message) : Type 0 where
  pub id : node_id init ≡ None
  pub name : node_name init ≡ None
  pub interval : keepalive_interval init ≡ None

-- the SESS_INIT that `pack` writes with these options keeps the rules `node-id`, `node-name` and
-- `keepalive-interval`
abbrev pub OptionsKeepInitRules : PackOptions → Type 0
OptionsKeepInitRules options =
    AreInitRulesKept (sess_init_with options.keepalive options.segment_mru options.transfer_mru
    options.node.items)

-- The transfers of the stream carry the bundles of the input, one after another. `check` writes the
-- lines of the rules that these bundles break, and no others. `check --bundles` reads the input,
-- and writes the lines of the same rules. Both have the same `--own`, and both are run with
-- `--must` or both without. `sender` is the node ID in the SESS_INIT of the stream.
pub record BreaksNoMoreThanItsBundles (options : CheckOptions) (sender bytes stream : List ℕ)
    : Type 0 where
  pub transfers : List TransferWithBundle
  pub good : All (λ (carried : TransferWithBundle).
      verdict carried.bundle.bytes ≡ Ok carried.bundle.info)
      transfers
  pub carries : flat_map (λ (carried : TransferWithBundle). carried.bundle.bytes) transfers ≡ bytes
  -- no extension item has an unknown type
  pub items : All (λ (carried : TransferWithBundle).
      has_other_item carried.first.items.items ≡ false)
      transfers
  pub checked : (must : Bool)
      → (check_tool (record options { must = must })).whole stream
      ≡ reports must (flat_map (broken_in_transfer options.own.items sender) transfers)
  pub joined : (must : Bool)
      → (bundle_check_tool (record { must = must; own = options.own })).whole bytes
      ≡ reports must (broken_bundles options.own.items 0 0
      (map (λ (carried : TransferWithBundle). carried.bundle) transfers))
  pub same : All (BreaksSameRules options.own.items sender) transfers
