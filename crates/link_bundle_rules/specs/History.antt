-- Relations: what a history keeps of the blocks so far.
use Rattle.std.specs.Prelude.{ℕ, Option}
use Rattle.link_bundle_rules.specs.BundleFacts.{BundleFacts}
use Rattle.link_bundle_rules.specs.declared.history.BundleHistory.{BundleHistory}

-- The bundle whose blocks a history has. The history keeps neither the offset of the first long
-- head outside the data of blocks nor the length of the payload.
abbrev pub bundle_of : BundleHistory → (long_head : Option ℕ) → (payload_length : ℕ) → BundleFacts
bundle_of history long_head payload_length = record {
  primary = history.primary;
  blocks = history.blocks.items;
  security = history.security.items;
  long_head = long_head;
  payload_length = payload_length;
}
