-- Reading a list of bytes part by part, in written order.
use Rattle.std.specs.Prelude.{ℕ, List, length, take, drop, Result, Ok, Err, nat_lt, if◌then◌else◌}
use Rattle.byteorder.specs.Endian.{big_number}
use Rattle.link_wire.specs.declared.fault.{WireFault.WireFault, WireFault.TheVariants.Truncated}

-- a part and the bytes after it, or the first fault
abbrev pub Part : Type 0 → Type 0
Part A = Result (A × List ℕ) WireFault

-- one part, and then what depends on its value
infixl 10 ◌>>=◌
-- reading goes on with `f`, or ends at the fault; `do` blocks stand for this
abbrev pub ◌>>=◌ : {A B : Type 0} → Result A WireFault
    → (A → Result B WireFault) → Result B WireFault
(Ok x) >>= f = f x
(Err fault) >>= f = Err fault

-- the next `n` bytes
unfoldable pub bytes_at : ℕ → List ℕ → Part (List ℕ)
bytes_at n bytes =
    if nat_lt (length bytes) n then Err Truncated else Ok (take n bytes, drop n bytes)

-- the next `n` bytes as an unsigned number, the most significant byte first
unfoldable pub number_at : ℕ → List ℕ → Part ℕ
number_at n bytes = do
  (field, bytes) ← bytes_at n bytes
  Ok (big_number n field, bytes)
