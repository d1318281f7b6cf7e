-- The next line begins.
use Rattle.usbcalls.proofs.desk.DeskTaker.answered.Goals as goal

pub returns : goal.returns
returns g c = c.begin-self.ensures _ _
