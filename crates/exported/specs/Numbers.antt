-- The numbers that cross where the core has an enum.
use Rattle.std.specs.Prelude.{ℕ, Option, Some, None}
use Rattle.wire.specs.declared.token.Token.{Token}

-- the eleven bits, which are the frame, and address and endpoint too; 2,048 is above them all
abbrev pub token_number : Option Token → ℕ
token_number (Some token) = token.frame
token_number None = 2048
