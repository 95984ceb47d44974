-- The lines of the transfers, when one begins, has more data, or is over.
use Rattle.std.proofs.Common.{◌≡◌, ℕ, Bool, true, false, not, ◌&&◌, ◌==◌, List, [], ◌∷◌, ◌++◌, Option, refl, ap, sym, ◌∙◌, append-nil, append_assoc, if◌then◌else◌}
use Rattle.link_wire.specs.{Codes.is_end, Message.data_length, declared.message.Message.Message}
use Rattle.link_wire.specs.declared.message.SegmentHead.{SegmentHead}
use Rattle.link_transfer.specs.declared.joiner.Turn.{Turn}
use Rattle.link_run_over_transfers.specs.Walk.{abandons, is_last, open_with}
use Rattle.link_run_judge.specs.{Transfers.{Transfer, closes, continued}, TransferJudge.{begun, grown}}
use Rattle.link_run_judge.specs.Unpacking.{is_selected, transfers_at}
use Rattle.link_run_judge.proofs.Effects.{Does, Strays, Passes, Begins, Continues}
use Rattle.link_run_judge.proofs.Heads.{transfers_same, transfer_begins, transfer_continues}
use Rattle.link_tool_blocks.specs.{BlockLines.block_lines, Showing.{end_line, transfer_lines, lines_of}}
use Rattle.link_tool_blocks.specs.Lister.{end_due}
use Rattle.link_tool_blocks.specs.LineLaws.{no_lines}

-- lines, if a transfer is selected, and the line of its end
end_added : (selected : Bool) (lines end : List ℕ)
    → (if selected then lines ++ end else [])
    ≡ (if selected then lines ++ [] else []) ++ (if selected then end else [])
end_added true lines end = ap (λ xs. xs ++ end) (sym (append-nil lines))
end_added false lines end = refl

none_added : (selected : Bool) (lines : List ℕ) → lines ≡ []
    → (if selected then lines ++ [] else []) ≡ []
none_added true lines none = append-nil lines ∙ none
none_added false lines none = refl

module _ (only : Option ℕ) where
  pub lines_of-more : (is_open : Bool) (latest : Transfer) (earlier : List Transfer)
      → lines_of only is_open (latest ∷ earlier)
      ≡ lines_of only false earlier ++ transfer_lines only is_open latest
  unfolding lines_of
  lines_of-more is_open latest earlier = refl

  -- a transfer that is over has the line of its end
  pub ended_lines : (over : Bool) (transfers : List Transfer)
      → lines_of only (not over) transfers
      ≡ lines_of only true transfers ++ end_due only over transfers
  unfolding lines_of
  ended_lines false transfers = sym (append-nil (lines_of only true transfers))
  ended_lines true [] = refl
  ended_lines true (latest ∷ earlier) =
      rw (
        append_assoc (lines_of only false earlier),
        ← end_added (is_selected only latest.first.id) _ (end_line latest),
      ) refl

  -- the latest transfer, if it was open, is abandoned
  abandoned_lines : (opened : Bool) (transfers : List Transfer)
      → lines_of only opened transfers ++ end_due only opened transfers
      ≡ lines_of only false transfers
  abandoned_lines true transfers = sym (ended_lines true transfers)
  abandoned_lines false transfers = append-nil (lines_of only false transfers)

  begun_lines : (head : SegmentHead) (closed : Bool) (earlier : List Transfer)
      → lines_of only true (begun head closed ∷ earlier) ≡ lines_of only false earlier
  begun_lines head closed earlier =
      rw (
        lines_of-more true (begun head closed) earlier,
        none_added (is_selected only head.id) (block_lines head.id []) (no_lines head.id),
        append-nil,
      ) refl

  pub continued_lines : (transfers : List Transfer) (closed : Bool)
      → lines_of only true (continued transfers [] closed) ≡ lines_of only true transfers
  continued_lines [] closed = refl
  continued_lines (latest ∷ earlier) closed =
      rw (
        lines_of-more true (grown latest [] closed) earlier,
        append-nil latest.content,
        lines_of-more true latest earlier,
      ) refl

  -- the lines after a head
  pub head_lines : (transfers : List Transfer) (effect : Option Turn) (sent : Message)
      (opened : Bool) → Does effect sent opened
      → lines_of only (open_with effect (is_last effect && (data_length sent == 0)) opened)
      (transfers_at effect transfers sent)
      ≡ (lines_of only opened transfers ++ end_due only (abandons effect) transfers)
      ++ end_due only (is_last effect && (data_length sent == 0)) (transfers_at effect transfers sent)
  head_lines transfers effect sent opened (Strays is) = rw (is, append-nil, append-nil) refl
  head_lines transfers effect sent opened (Passes is other) =
      rw (is, transfers_same transfers sent [] other, append-nil, append-nil) refl
  head_lines transfers effect sent opened (Begins first abandoned is starts does same) =
      let closing = is_end first.flags && (first.length == 0) in
      rw (does, is, transfer_begins transfers first [] starts)
      (rw (
        ended_lines closing (begun first (closes first []) ∷ transfers),
        begun_lines first (closes first []) transfers,
        same,
        abandoned_lines opened transfers,
      ) refl)
  head_lines transfers effect sent opened (Continues first is starts does also) =
      let closing = is_end first.flags && (first.length == 0) in
      rw (does, is, transfer_continues transfers first [] starts)
      (rw (
        ended_lines closing (continued transfers [] (closes first [])),
        continued_lines transfers (closes first []),
        also,
        append-nil (lines_of only true transfers),
      ) refl)
