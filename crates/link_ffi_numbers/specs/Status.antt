-- The statuses that exports return, by their names in the header. The numbers are written here
-- again, so a change of a constant of the code changes no definition.
use Rattle.std.specs.Prelude.{ℕ}

-- TCPCLKIT_OK: the answer is whole
abbrev pub status_ok : ℕ
status_ok = 0

-- TCPCLKIT_END: nothing is left at the offset
abbrev pub status_end : ℕ
status_end = 1

-- TCPCLKIT_TRUNCATED: the bytes end inside the bundle, the contact header or the message's head
abbrev pub status_truncated : ℕ
status_truncated = 2

-- TCPCLKIT_DATA_TRUNCATED: the bytes end inside the data of the segment
abbrev pub status_data_truncated : ℕ
status_data_truncated = 3

-- TCPCLKIT_FAULT: a fault, which stays one whatever bytes follow
abbrev pub status_fault : ℕ
status_fault = 4

-- TCPCLKIT_TOO_SMALL: a slice that was lent is too small
abbrev pub status_too_small : ℕ
status_too_small = 5

-- TCPCLKIT_RANGE: a number is out of its range
abbrev pub status_range : ℕ
status_range = 6

-- TCPCLKIT_MEMORY: a request for memory was refused
abbrev pub status_memory : ℕ
status_memory = 8

-- TCPCLKIT_SCAN_ENDED: the scan needed no more bytes, and took none
abbrev pub status_scan_ended : ℕ
status_scan_ended = 9
