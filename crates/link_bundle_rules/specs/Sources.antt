-- Whose rules of bundles are judged.
use Rattle.std.specs.Prelude.{ℕ, Bool, true, false, List, [], Option, None, if◌then◌else◌}
use Rattle.link_bundle_types.specs.declared.eid.Eid.{Eid}
use Rattle.link_rules_shared.specs.Nodes.{is_node_of}
use Rattle.link_bundle_rules.specs.declared.source.KnownSource.{KnownSource}
use Rattle.link_bundle_rules.specs.declared.source.KnownSource.TheVariants.{Own, Any, Other}

-- What is known of the source of a bundle. `own` names the node whose bundles are judged; if it is
-- empty, those of every node are. `sender` is the node ID of the entity that sent the bundle, or
-- empty if it is not known.
abbrev pub known_source_of : (own sender : List ℕ) → (source : Eid) → KnownSource
known_source_of [] sender source = if is_node_of sender source then Own else Any
known_source_of own sender source = if is_node_of own source then Own else Other

-- whether the rules that bind the source of a bundle are judged
abbrev pub is_judged : KnownSource → Bool
is_judged Other = false
is_judged _ = true

-- a rule that binds the source, or an item of the source, if such rules are judged
unfoldable pub if_judged : {A : Type 0} → KnownSource → Option A → Option A
if_judged source item = if is_judged source then item else None
