-- The capture file that Wireshark opens: classic pcap, as a list of bytes.
use Rattle.std.specs.Prelude.{ℕ, zero, suc, ◌/◌, ◌%◌, List, [], ◌∷◌, ◌++◌, length}

-- the low k bytes of a number, the lowest first
abbrev pub low_first : ℕ → ℕ → List ℕ
low_first zero n = []
low_first (suc k) n = n % 256 ∷ low_first k (n / 256)

-- what it begins with: the magic number of time stamps in microseconds, version 2.4, zone 0, accuracy 0, at most 1,028 bytes kept of a packet,
-- link type 294, which is USB 2.0 at full speed
unfoldable pub header_of : List ℕ
header_of = low_first 4 0xA1B2C3D4 ++ low_first 2 2 ++ low_first 2 4 ++ low_first 4 0 ++ low_first 4 0 ++ low_first 4 1028 ++ low_first 4 294

-- in front of a packet: its time in seconds and microseconds, how many of its bytes are kept, how many it had
unfoldable pub head_of : ℕ → ℕ → ℕ → List ℕ
head_of stamp kept original = low_first 4 (stamp / 1000000) ++ low_first 4 (stamp % 1000000) ++ low_first 4 kept ++ low_first 4 original

-- a packet, of which these bytes are kept
unfoldable pub record_of : ℕ → ℕ → List ℕ → List ℕ
record_of stamp original kept = head_of stamp (length kept) original ++ kept

-- the last microsecond of the last second that four bytes hold
abbrev pub last_time : ℕ
last_time = 4294967295999999
