-- The result of unpacking a packed stream.
use Rattle.std.specs.Prelude.{◌≡◌, ℕ, suc, ◌+◌, false, List, [], ◌∷◌, ◌++◌, length, None}
use Rattle.link_tool_option_types.specs.declared.wanted.Wanted.{Wanted}
use Rattle.link_tool_option_types.specs.declared.pack.PackOptions.{PackOptions}
use Rattle.link_report.specs.Transfer.{transfer_text}
use Rattle.link_report.specs.declared.judgement.Judgement.TheVariants.{Good}
use Rattle.link_run_judge.specs.Unpacking.{unpack_tool}
use Rattle.link_run_over_bundle_files.specs.Bundles.{BundleWithInfo, divided}

-- `unpack` without options: all data of all transfers
abbrev pub all : Wanted
all = record { only = None; payload = false; keep_going = false }

-- A line for each bundle: its number, its offset in the output, and the judgement that it is good.
-- The first bundle has this number, and begins at `start`.
unfoldable pub good_lines : (number start : ℕ) → List BundleWithInfo → List ℕ
good_lines number start [] = []
good_lines number start (bundle ∷ more) =
    transfer_text (record {
      id = number;
      start = start;
      written = length bundle.bytes;
      length = length bundle.bytes;
      judgement = Good bundle.info;
    })
    ++ good_lines (suc number) (start + length bundle.bytes) more

-- unpacking the stream returns the bundles, and each of them is good
pub record UnpacksToBundles (options : PackOptions) (bytes stream : List ℕ) : Type 0 where
  pub output : ((unpack_tool all).whole stream).texts.output ≡ bytes
  pub report : ((unpack_tool all).whole stream).texts.report
      ≡ good_lines 0 0 (divided options.peer_transfer bytes).bundles
  pub status : ((unpack_tool all).whole stream).status ≡ 0
