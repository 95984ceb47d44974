-- The written bytes of transfers, from the latest and those before it.
use Rattle.std.proofs.Common.{◌≡◌, ℕ, ◌+◌, List, ◌∷◌, ◌++◌, length, refl, length-append, arith}
use Rattle.link_run_judge.specs.{Transfers.Transfer, Unpacking.{part_of, parts_of}}
use Rattle.link_tool_option_types.specs.declared.wanted.Wanted.{Wanted}

module _ (wanted : Wanted) where
  pub parts_more : (latest : Transfer) (earlier : List Transfer)
      → parts_of wanted (latest ∷ earlier) ≡ parts_of wanted earlier ++ part_of wanted latest
  unfolding parts_of
  parts_more latest earlier = refl

  pub parts_sum : (latest : Transfer) (earlier : List Transfer) (start written : ℕ)
      → start ≡ length (parts_of wanted earlier) → written ≡ length (part_of wanted latest)
      → start + written ≡ length (parts_of wanted (latest ∷ earlier))
  parts_sum latest earlier start written before part = rw parts_more (omega (arith, before, part, length-append (parts_of wanted earlier) (part_of wanted latest)))
