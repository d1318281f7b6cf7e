-- The call is made where the line is good, on its bytes, and only there.
use Rattle.std.proofs.Common.{refl, sym, ◌∙◌}
use Rattle.listing.proofs.Calls.{by_call}
use Rattle.listing.proofs.desk.DeskTaker.answered.Goals as goal

pub returns : goal.returns
returns g c = (
  record { stands = c.begin-self.ensures _; sized = refl },
  λ line h.
      by_call line _ _ _ _ _ _ _ _ (sym (c.is_good.ensures line _ h) ∙ c.if-not-is_good.false) (c.kept-arrived.ensures line h) c.packet-o.ensures refl,
)
