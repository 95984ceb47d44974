-- The bundles of an input: one bundle (RFC 9171 section 4.1) after another, with nothing between.
use Rattle.std.specs.Prelude.{◌≡◌, ℕ, zero, suc, ◌-◌, ◌^◌, ◌≤◌, nat_lt, true, List, [], ◌∷◌, ◌++◌, length, take, drop, sum_by, Option, Some, None, Result, Ok, Err, if◌then◌else◌}
use Rattle.link_cbor.specs.Pieces.{taken}
use Rattle.link_bundle_types.specs.Faults.{lasts}
use Rattle.link_bundle_types.specs.declared.fault.BundleFault.{BundleFault}
use Rattle.link_bundle_types.specs.declared.info.BundleInfo.{BundleInfo}
use Rattle.link_bundle_blocks.specs.Bundle.{verdict, bundle_goes}

-- Why bytes do not begin with a bundle that is accepted. Either the bundle has more bytes than this
-- limit, which is the most that the peer receives, or it has this fault at this offset.
pub data Refusal : Type 0 where
  Longer : (limit : ℕ) → Refusal
  Faulty : (fault : BundleFault) (offset : ℕ) → Refusal

-- a whole bundle: its bytes, and what its blocks say about it
pub record BundleWithInfo : Type 0 where
  pub bytes : List ℕ
  pub info : BundleInfo

-- the number of bytes of some bundles
unfoldable pub size_of : List BundleWithInfo → ℕ
size_of bundles = sum_by (λ (bundle : BundleWithInfo). length bundle.bytes) bundles

-- What follows the accepted bundles of an input. No accepted bundle begins there, and `refusal` is
-- the reason. `before_fault` is the bytes before the byte that shows this. If no byte shows it,
-- since the input ends inside the bundle, it is all bytes of that bundle.
pub record TailAfterBundles : Type 0 where
  pub before_fault : List ℕ
  pub refusal : Refusal

-- The accepted bundles of an input, and what follows them. `rest` is `None` if nothing does.
pub record Divided : Type 0 where
  pub bundles : List BundleWithInfo
  pub rest : Option TailAfterBundles

-- The shortest prefix that is a bundle, or that shows that the bytes do not begin with one. If
-- there is no such prefix, it is all bytes.
abbrev pub bundle_prefix : List ℕ → List ℕ
bundle_prefix bytes = taken bundle_goes [] bytes

-- The bytes begin a bundle that needs more bytes to be whole. They are no longer than `limit`, the
-- most bytes that a bundle may have for the peer.
pub record IsUnfinishedBundle (limit : ℕ) (begun : List ℕ) : Type 0 where
  -- after each shorter prefix, more bytes are needed
  pub front : bundle_prefix begun ≡ begun
  -- after all of the bytes too
  pub goes : bundle_goes begun ≡ true
  pub within : length begun ≤ limit

-- a verdict, with its fault as the reason of a refusal
abbrev pub refused_by : Result BundleInfo (BundleFault × ℕ) → Result BundleInfo Refusal
refused_by (Ok info) = Ok info
refused_by (Err (fault, offset)) = Err (Faulty fault offset)

-- what the blocks of the bundle `front` say, or why it is refused (RFC 9174 section 4.6)
abbrev pub judged_front : (limit : ℕ) → (front : List ℕ) → Result BundleInfo Refusal
judged_front limit front =
    if nat_lt limit (length front) then Err (Longer limit) else refused_by (verdict front)

-- the bytes of a refused `front` that are accepted: none past the limit, and not the byte that
-- shows a fault that lasts
abbrev pub accepted_by : Refusal → (front : List ℕ) → List ℕ
accepted_by (Longer limit) front = take limit front
accepted_by (Faulty fault offset) front =
    if lasts fault then take (length front - 1) front else front

-- this bundle, and then what `more` has
abbrev pub with_bundle : BundleWithInfo → Divided → Divided
with_bundle bundle more = record { bundles = bundle ∷ more.bundles; rest = more.rest }

-- How the input `bytes` is divided, if it begins with `front`. If `front` is accepted, it is the
-- first bundle, and `next` divides the bytes after it. If `front` is refused, the input ends there.
abbrev pub divided_by : (next : List ℕ → Divided) → (front bytes : List ℕ)
    → Result BundleInfo Refusal → Divided
divided_by next front bytes (Ok info) =
    with_bundle (record { bytes = front; info = info }) (next (drop (length front) bytes))
divided_by next front bytes (Err refusal) =
    record {
      bundles = [];
      rest = Some (record { before_fault = accepted_by refusal front; refusal = refusal });
    }

-- At most `count` bundles. If `count` is the number of bytes, the second case never occurs, since
-- each bundle has at least one byte.
unfoldable pub divided_in : (count limit : ℕ) → List ℕ → Divided
divided_in count limit [] = record { bundles = []; rest = None }
divided_in zero limit (byte ∷ bytes) = record { bundles = []; rest = None }
divided_in (suc count) limit (byte ∷ bytes) =
    divided_by (divided_in count limit) (bundle_prefix (byte ∷ bytes)) (byte ∷ bytes)
    (judged_front limit (bundle_prefix (byte ∷ bytes)))

-- an input, divided into its bundles and what follows them
unfoldable pub divided : (limit : ℕ) → List ℕ → Divided
divided limit bytes = divided_in (length bytes) limit bytes

-- these bundles, and then those of `more`
abbrev pub with_bundles : List BundleWithInfo → Divided → Divided
with_bundles bundles more = record { bundles = bundles ++ more.bundles; rest = more.rest }

-- The limit of a tool for which a bundle may have any number of bytes. No input is so long.
abbrev pub bundle_limit : ℕ
bundle_limit = 2 ^ 64 - 1
