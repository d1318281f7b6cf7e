-- The source documents' residuals, and witnesses. Assumes nothing.
use mathlib.Core.Path.{◌≡◌, refl}
use mathlib.Core.List.{[], ◌∷◌}
use lib.Dec.{lit≤}
use lib.ListN.{replicate}
use Rattle.wire.specs.Crc.{step, after, bits, sent, g5, g16}
use Rattle.wire.specs.Pid.{kind_of}
use Rattle.wire.specs.Data.{verdict_of}
use Rattle.std.specs.Prelude.{None}
use Rattle.wire.proofs.RoundTrip.{ReadsBack, round_trip}

-- the residuals of documents 000 and 004, 800Dh and 01100b highest power first, which is the lowest bit here: along document 003's packet of A9, and
-- along a token of document 01
pub record Residuals : Type 0 where
  pub of_payload : after g16 0xFFFF (sent (0xA9 ∷ 0x80 ∷ 0xC1 ∷ [])) ≡ 0xB001
  pub of_token : after g5 0x1F (sent (0x81 ∷ 0x58 ∷ [])) ≡ 0x06

pub residuals : Residuals
unfolding step after bits sent
residuals = record { of_payload = refl; of_token = refl }

-- what the round trip asks can be had
pub witness : ReadsBack 3 (0xFF ∷ []) (replicate 1027 0)
unfolding kind_of
witness = round_trip 3 (0xFF ∷ []) refl (lit≤ tt) (replicate 1027 0) (lit≤ tt)

pub not_good_witness : verdict_of [] ≡ None
unfolding verdict_of
not_good_witness = refl
