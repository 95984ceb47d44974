use Rattle.link_cbor.proofs.Tables.{crc16_tables, crc32_tables}
use Rattle.link_cbor.proofs.check.CheckKind.tables.Goals as goal

pub returns-in-Crc16 : goal.returns-in-Crc16
returns-in-Crc16 c = rw c.in-Crc16.is crc16_tables

pub returns-in-Crc32 : goal.returns-in-Crc32
returns-in-Crc32 c = rw c.in-Crc32.is crc32_tables
