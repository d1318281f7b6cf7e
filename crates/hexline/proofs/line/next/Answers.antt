-- A character begins a pair, completes one or spoils it, and a bad line stays bad.
use Rattle.std.proofs.Common.{sym}
use Rattle.hexline.proofs.Digits.{joined, unjoined}
use Rattle.hexline.proofs.Lines.{half_other, half_byte}
use Rattle.hexline.proofs.line.next.Goals as goal

pub returns-in-Some : goal.returns-in-Some
returns-in-Some c = λ taken h. half_byte taken _ _ _ _ (rw c.in-Half.is at h) _ _ _ (joined _ _ _ (sym c.in-Some.ensures)) c.keep.ensures

pub returns-in-None : goal.returns-in-None
returns-in-None c = λ taken h. half_other taken _ _ _ _ (rw c.in-Half.is at h) (unjoined _ _ (sym c.in-None.ensures))
