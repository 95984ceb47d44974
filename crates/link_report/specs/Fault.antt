-- The lines of faults.
use Rattle.std.specs.Prelude.{ℕ, List, ◌++◌, codes}
use Rattle.link_wire.specs.declared.fault.WireFault.{WireFault}
use Rattle.link_wire.specs.declared.fault.WireFault.TheVariants as wire
use Rattle.link_transfer.specs.declared.fault.OrderFault.{OrderFault}
use Rattle.link_transfer.specs.declared.fault.OrderFault.TheVariants as order
use Rattle.link_report.specs.declared.fault.Fault.{Fault}
use Rattle.link_report.specs.declared.fault.Fault.TheVariants.{Wire, Order, Bundle, TooLong}
use Rattle.link_report.specs.BundleFault.{code_text, bundle_fault_text}
use Rattle.link_report.specs.Text.{hex2, number_text, newline}

-- the text of a fault of the wire (RFC 9174 sections 4.2, 4.5, 4.6, 4.8, 5.1, 5.2 and 6.1)
unfoldable pub wire_text : WireFault → List ℕ
wire_text wire.Truncated = codes "truncated"
wire_text wire.BadMagic = codes "not a contact header"
wire_text (wire.BadVersion version) = number_text (codes "unsupported version ") version
wire_text (wire.UnknownType kind) = codes "unknown message type " ++ hex2 kind
wire_text (wire.NodeIdTooLong size) = number_text (codes "node id too long: ") size
wire_text (wire.ListTooLong size) = number_text (codes "extension list too long: ") size
wire_text wire.TooManyItems = codes "too many extension items"
wire_text wire.ItemsOverrun = codes "extension items overrun their list"

-- the text of a fault of the order of messages (RFC 9174 sections 4, 4.7, 5.1.2, 5.2 and 6.1)
unfoldable pub order_text : OrderFault → List ℕ
order_text order.SecondSessInit = codes "second session initiation"
order_text order.SegmentBeforeSessInit = codes "segment before session initiation"
order_text order.NoSuchOpenTransfer = codes "no such open transfer"
order_text order.StartRepeatsOpenId = codes "start repeats the open transfer"
order_text order.StartAfterSessTerm = codes "start after session termination"

-- the position of a fault of a message: the offset of the message
unfoldable pub offset_text : ℕ → List ℕ
offset_text offset = number_text (codes "byte ") offset ++ codes ": "

-- the position of a fault of a bundle: the bundle's number, and the offset of the fault in it
unfoldable pub bundle_offset_text : ℕ → ℕ → List ℕ
bundle_offset_text number offset =
    number_text (codes "bundle ") number ++ number_text (codes " byte ") offset ++ codes ": "

-- The position of a fault, and its text. The code of a bundle's fault comes before the text. `P1`
-- is the code of a bundle that is longer than the peer's transfer limit.
unfoldable pub place_text : Fault → List ℕ
place_text (Wire offset fault) = offset_text offset ++ wire_text fault
place_text (Order offset fault) = offset_text offset ++ order_text fault
place_text (Bundle number offset fault) =
    bundle_offset_text number offset ++ code_text fault ++ codes " " ++ bundle_fault_text fault
place_text (TooLong number offset) =
    bundle_offset_text number offset ++ codes "P1 longer than the peer's transfer limit"

-- the line of a fault
unfoldable pub fault_text : Fault → List ℕ
fault_text fault = codes "tcpclkit: " ++ place_text fault ++ newline
