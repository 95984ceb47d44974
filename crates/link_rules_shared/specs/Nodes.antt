-- The node that a node ID names (RFC 9174 section 4.6, RFC 9171 section 4.2.5.2), and the endpoint
-- IDs of this node. Neither a demux nor a service number matters.
use Rattle.std.specs.Prelude.{ℕ, Bool, false, not, ◌&&◌, ◌||◌, ◌==◌, List, codes, drop, if◌then◌else◌}
use Rattle.std.specs.Str.Parse.{digits_value}
use Rattle.link_bundle_types.specs.declared.eid.{Eid.Eid, Eid.TheVariants.{DtnNone, Dtn, Ipn, Ipn3}}
use Rattle.link_rules_shared.specs.DtnNames.{is_dtn_name}
use Rattle.link_rules_shared.specs.NodeIds.{is_number, are_two, is_unjudged, is_uri}
use Rattle.link_rules_shared.specs.Uri.{before_mark, after_mark, is_word}

-- ---- which texts name a node

-- whether a URI of this scheme, with `part` after its colon, names a node: one of scheme dtn does,
-- unless it is dtn:none, and one of scheme ipn, unless its part begins with `!`
abbrev pub part_names_node : (scheme part : List ℕ) → Bool
part_names_node scheme part =
    (is_word (codes "dtn") scheme && not (is_word (codes "none") part))
    || (is_word (codes "ipn") scheme && not (is_unjudged part))

-- whether a text names a node: it is a URI with the syntax of its scheme, and this names one
unfoldable pub names_node : List ℕ → Bool
names_node text = is_uri text && part_names_node (before_mark 0x3a text) (after_mark 0x3a text)

-- ---- the node of a dtn name (RFC 9171 section 4.2.5.1.1)

-- the node name of a dtn name: what is between `//` and the next `/`
abbrev pub node_name_of : List ℕ → List ℕ
node_name_of name = before_mark 0x2f (drop 2 name)

-- whether `name` is a dtn name with the node name of `part`, whatever the case of letters
abbrev pub is_same_dtn_node : (part name : List ℕ) → Bool
is_same_dtn_node part name = is_dtn_name name && is_word (node_name_of part) (node_name_of name)

-- ---- the node of an ipn name (section 4.2.5.1.2)

-- whether bytes are decimal digits with this value, so that leading zeros do not count
unfoldable pub is_decimal_of : (number : ℕ) → (digits : List ℕ) → Bool
is_decimal_of number digits = is_number digits && (digits_value 10 digits == number)

-- Whether `part` has this allocator and this node. It is `node.service`, and then the allocator is
-- 0, or `allocator.node.service`.
abbrev pub is_same_ipn_node : (part : List ℕ) → (allocator node : ℕ) → Bool
is_same_ipn_node part allocator node =
    if are_two part
    then (allocator == 0) && is_decimal_of node (before_mark 0x2e part)
    else (is_decimal_of allocator (before_mark 0x2e part)
    && is_decimal_of node (before_mark 0x2e (after_mark 0x2e part)))

-- ---- the endpoint IDs of a node

-- whether an endpoint ID is one of the node that a URI of this scheme, with `part` after its colon,
-- names
abbrev pub is_node_of_part : (scheme part : List ℕ) → Eid → Bool
is_node_of_part scheme part DtnNone = false
is_node_of_part scheme part (Dtn name) =
    is_word (codes "dtn") scheme && is_same_dtn_node part name.items
is_node_of_part scheme part (Ipn node service) =
    is_word (codes "ipn") scheme && is_same_ipn_node part 0 node
is_node_of_part scheme part (Ipn3 allocator node service) =
    is_word (codes "ipn") scheme && is_same_ipn_node part allocator node

-- whether a text names a node, and an endpoint ID is one of this node
unfoldable pub is_node_of : (text : List ℕ) → Eid → Bool
is_node_of text eid =
    names_node text && is_node_of_part (before_mark 0x3a text) (after_mark 0x3a text) eid
