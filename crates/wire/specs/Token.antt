-- Document 01, "Packets": tokens.
use Rattle.std.specs.Prelude.{cond, ◌&&◌, List, ℕ, ◌+◌, ◌*◌, ◌/◌, ◌%◌, eqb, length, get_or, Option, Some, None}
use Rattle.wire.specs.Crc.{crc5}
use Rattle.wire.specs.declared.token.Token.{Token}

-- two bytes, little-endian
abbrev pub word : ℕ → ℕ → ℕ
word lo hi = lo + 256 * hi

-- the eleven bits of a token's word: address bits 0-6, endpoint 7-10; SOF has the frame in bits 0-10
abbrev pub address : ℕ → ℕ
address w = w % 128

abbrev pub endpoint : ℕ → ℕ
endpoint w = w / 128 % 16

abbrev pub frame : ℕ → ℕ
frame w = w % 2048

-- CRC5 in bits 11-15
abbrev pub check_field : ℕ → ℕ
check_field w = w / 2048

-- the last two bytes of a token
abbrev pub token_word : List ℕ → ℕ
token_word packet = word (get_or packet 1 0) (get_or packet 2 0)

-- what that word says
abbrev pub token : ℕ → Token
token w = record { address = address w; endpoint = endpoint w; frame = frame w }

-- a token: 3 bytes and the right check
unfoldable pub token_of : List ℕ → Option Token
token_of packet =
    let w = token_word packet in
    cond (eqb (length packet) 3 && eqb (crc5 (frame w)) (check_field w)) (Some (token w)) None
