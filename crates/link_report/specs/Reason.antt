-- The names of reason codes.
use Rattle.std.specs.Prelude.{ℕ, List, [], ◌∷◌, slice_index_or, codes}
use Rattle.link_report.specs.declared.reason.ReasonOf.{ReasonOf}
use Rattle.link_report.specs.declared.reason.ReasonOf.TheVariants.{Refuse, SessTerm, MsgReject}

-- the names of XFER_REFUSE reasons, from code 00 on (RFC 9174 section 5.2.4)
abbrev pub refuse_names : List (List ℕ)
refuse_names =
    codes "unknown" ∷ codes "completed" ∷ codes "no-resources" ∷ codes "retransmit" ∷
    codes "not-acceptable" ∷ codes "extension-failure" ∷ codes "session-terminating" ∷ []

-- the names of SESS_TERM reasons, from code 00 on (RFC 9174 section 6.1)
abbrev pub term_names : List (List ℕ)
term_names =
    codes "unknown" ∷ codes "idle-timeout" ∷ codes "version-mismatch" ∷ codes "busy" ∷
    codes "contact-failure" ∷ codes "resource-exhaustion" ∷ []

-- the names of MSG_REJECT reasons, from code 00 on, which has none (RFC 9174 section 5.1.2)
abbrev pub reject_names : List (List ℕ)
reject_names =
    codes "?" ∷ codes "message-type-unknown" ∷ codes "message-unsupported"
    ∷ codes "message-unexpected" ∷ []

-- the name of a code, or `?` if it has none
unfoldable pub name_in : List (List ℕ) → ℕ → List ℕ
name_in names code = slice_index_or names code (codes "?")

-- the name of a reason, by the kind of message that has it
abbrev pub name_of : ReasonOf → (reason : ℕ) → List ℕ
name_of Refuse reason = name_in refuse_names reason
name_of SessTerm reason = name_in term_names reason
name_of MsgReject reason = name_in reject_names reason
