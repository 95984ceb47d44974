-- Rules of the node ID of a SESS_INIT (RFC 9174 section 4.6), which may be empty.
use Rattle.std.specs.Prelude.{ℕ, ◌+◌, Bool, ◌&&◌, ◌||◌, ◌==◌, List, length, codes, take, drop, Option, Some, None, if◌then◌else◌}
use Rattle.std.specs.List.{list_all}
use Rattle.link_wire.specs.declared.message.{Message.Message, Message.TheVariants.SessInit}
use Rattle.link_rules_shared.specs.DtnNames.{demux_of, demux_level}
use Rattle.link_rules_shared.specs.NodeIds.{is_unjudged, is_uri}
use Rattle.link_rules_shared.specs.Uri.{first_of, after_mark, is_word}
use Rattle.link_rules_shared.specs.declared.level.{Level.Level, Level.TheVariants.{Should}}
use Rattle.link_session_rules.specs.declared.rule.MessageRule.{MessageRule}
use Rattle.link_session_rules.specs.declared.rule.MessageRule.TheVariants.{NodeId, NodeName}

-- ---- node-id

-- node-id: the node ID of a SESS_INIT is empty or a URI (RFC 9174 section 4.6), with the syntax of
-- its scheme (RFC 9171 sections 4.2.5.1.1 and 4.2.5.1.2)
unfoldable pub node_id : Message → Option MessageRule
node_id (SessInit interval segment_mru transfer_mru node items) =
    if (length node.items == 0) || is_uri node.items
    then None
    else Some (NodeId (length node.items))
node_id message = None

-- ---- node-name

-- Whether the last of two or three numbers is 0, in one digit or more (section 4.2.5.1.2). After
-- two numbers, there is no second point, so the second `after_mark` leaves all bytes.
abbrev pub ends_in_zero : List ℕ → Bool
ends_in_zero part = list_all (λ digit. digit == 0x30) (after_mark 0x2e (after_mark 0x2e part))

-- How strictly a name is forbidden as a node ID, or `None` if it may be one. RFC 9171 names nodes
-- by the schemes dtn and ipn (section 4.2.5.1), but not by dtn:none. A dtn name is judged by its
-- demux, and an ipn name by its last number. An ipn name whose part begins with `!` is not judged.
unfoldable pub name_level : (scheme part : List ℕ) → Option Level
name_level scheme part =
    if is_word (codes "dtn") scheme
    then (if is_word (codes "none") part then Some Should else demux_level (demux_of part))
    else (if is_word (codes "ipn") scheme && (is_unjudged part || ends_in_zero part)
    then None
    else Some Should)

-- The level for a node ID, by the offset of its first colon. A node ID that is no URI breaks
-- node-id, and so it is not judged here.
abbrev pub name_level_at : Option ℕ → List ℕ → Option Level
name_level_at None node = None
name_level_at (Some colon) node =
    if is_uri node then name_level (take colon node) (drop (colon + 1) node) else None

-- the rule that a node ID of `size` bytes breaks, if there is a level for it
abbrev pub if_level : (size : ℕ) → Option Level → Option MessageRule
if_level size None = None
if_level size (Some level) = Some (NodeName size level)

-- node-name: a node ID names a node (RFC 9174 section 4.6). It is the ID of the administrative
-- endpoint of the node (RFC 9171 sections 4.2.5.1 and 4.2.5.2). A node ID that breaks the rule
-- node-id is not judged.
unfoldable pub node_name : Message → Option MessageRule
node_name (SessInit interval segment_mru transfer_mru node items) =
    if_level (length node.items) (name_level_at (first_of 0x3a node.items) node.items)
node_name message = None
