-- How `blocks` relates to `unpack`, over the definitions alone.
use Rattle.std.specs.Prelude.{◌≡◌, ℕ, List}
use Rattle.link_run_judge.specs.Unpacking.{unpack_tool}
use Rattle.link_tool_option_types.specs.declared.wanted.Wanted.{Wanted}
use Rattle.link_tool_blocks.specs.Showing.{blocks_tool}
use Rattle.link_tool_option_types.specs.declared.blocks.BlockOptions.{BlockOptions}

-- For each input, `blocks` and `unpack` return the same status, if both have the same `keep_going`.
-- It does not matter which transfers each selects, nor which data `unpack` writes.
abbrev pub HasStatusOfUnpack : Type 0
HasStatusOfUnpack =
    (options : BlockOptions) (wanted : Wanted) (bytes : List ℕ)
    → wanted.keep_going ≡ options.keep_going
    → ((blocks_tool options).whole bytes).status ≡ ((unpack_tool wanted).whole bytes).status
