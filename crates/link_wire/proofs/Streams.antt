-- A stream is read message by message.
use Rattle.std.proofs.Common.{◌≡◌, ℕ, zero, suc, ◌+◌, ◌-◌, ◌≤◌, List, [], ◌∷◌, ◌++◌, length, drop, Result, Ok, Err, arith, refl, ap, ◌∙◌, length-drop, length-append}
use Rattle.link_wire.proofs.Shrinks.{shrinks_message}
use Rattle.link_wire.specs.Message.{message_at, data_length}
use Rattle.link_wire.specs.Stream.{Clean, Fault, Stream, ended, with_data_of, stream_by, messages_at, stream_at}
use Rattle.link_wire.specs.declared.{fault.WireFault.WireFault, message.Message.Message}

-- two readers that agree on what follows a message
stream_by-same : (f g : ℕ → List ℕ → Stream) (offset size : ℕ)
    (read : Result (Message × List ℕ) WireFault)
    → ((message : Message) (rest : List ℕ) → read ≡ Ok (message, rest) → (at : ℕ)
    → f at (drop (data_length message) rest) ≡ g at (drop (data_length message) rest))
    → stream_by f offset size read ≡ stream_by g offset size read
stream_by-same f g offset size (Err fault) same = refl
stream_by-same f g offset size (Ok (message, rest)) same =
    ap (with_data_of offset message rest) (same message rest refl (offset + (size - length rest) + data_length message))

-- as many turns as there are bytes are enough
enough_turns : (count other offset : ℕ) (bytes : List ℕ) → length bytes ≤ count
    → length bytes ≤ other → messages_at count offset bytes ≡ messages_at other offset bytes
unfolding messages_at
enough_turns count other offset [] p q = refl
enough_turns zero other offset (b ∷ bytes) p q = absurd (omega arith)
enough_turns (suc count) zero offset (b ∷ bytes) p q = absurd (omega arith)
enough_turns (suc count) (suc other) offset (b ∷ bytes) p q =
    stream_by-same (messages_at count) (messages_at other) offset (length (b ∷ bytes)) (message_at (b ∷ bytes)) (λ message rest is at.
    let fewer = shrinks_message.by (b ∷ bytes) message rest is in
    let later = length-drop (data_length message) rest in
    enough_turns count other at (drop (data_length message) rest) (omega arith) (omega arith))

pub stream_at-nil : (offset : ℕ) → stream_at offset [] ≡ ended Clean
unfolding stream_at messages_at
stream_at-nil offset = refl

-- a message, its data, and the stream after it
pub stream_at-message : (offset : ℕ) (bytes : List ℕ) (message : Message) (rest : List ℕ)
    → message_at bytes ≡ Ok (message, rest)
    → stream_at offset bytes
    ≡ with_data_of offset message rest
    (stream_at (offset + (length bytes - length rest) + data_length message)
    (drop (data_length message) rest))
unfolding stream_at messages_at
stream_at-message offset [] message rest is =
    let fewer = shrinks_message.by [] message rest is in absurd (omega arith)
stream_at-message offset (b ∷ bytes) message rest is =
    let fewer = shrinks_message.by (b ∷ bytes) message rest is in
    let later = length-drop (data_length message) rest in
    ap (stream_by (messages_at (length bytes)) offset (length (b ∷ bytes))) is
    ∙ ap (with_data_of offset message rest) (enough_turns (length bytes) (length (drop (data_length message) rest)) _ (drop (data_length message) rest) (omega arith) (omega arith))

pub stream_at-fault : (offset : ℕ) (b : ℕ) (bytes : List ℕ) (fault : WireFault)
    → message_at (b ∷ bytes) ≡ Err fault → stream_at offset (b ∷ bytes) ≡ ended (Fault offset fault)
unfolding stream_at messages_at
stream_at-fault offset b bytes fault is = ap (stream_by (messages_at (length bytes)) offset (length (b ∷ bytes))) is

-- a head at the start of the bytes, its data, and the stream after it
pub stream_at-head : (offset : ℕ) (head : List ℕ) (message : Message)
    → ((more : List ℕ) → message_at (head ++ more) ≡ Ok (message, more)) → (more : List ℕ)
    → stream_at offset (head ++ more)
    ≡ with_data_of offset message more
    (stream_at (offset + length head + data_length message) (drop (data_length message) more))
stream_at-head offset head message is more =
    let size : length (head ++ more) - length more ≡ length head = omega (arith, length-append head more) in
    rw size at (stream_at-message offset (head ++ more) message more (is more))
