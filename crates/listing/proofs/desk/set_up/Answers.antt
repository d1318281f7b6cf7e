-- Each call is made on the state that the one before it left.
use Rattle.listing.proofs.Steps.{steps}
use Rattle.listing.proofs.desk.set_up.Goals as goal

pub returns : goal.returns
returns c = rw (c.arm-2.ensures, c.bulk-both.ensures, c.arm.ensures, c.bulk-out.ensures, c.set_address.ensures, c.start.ensures) steps
