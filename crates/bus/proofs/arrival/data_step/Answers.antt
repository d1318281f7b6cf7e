-- A record that is waited on has room for the payload of any packet.
use Rattle.std.proofs.Common.{length}
use Rattle.wire.specs.Data.{payload_of}
use Rattle.bus.proofs.Serving.{awaiting}
use Rattle.bus.proofs.Within.{payload_short, roomy}
use Rattle.bus.proofs.arrival.data_step.Goals as goal

pub invariant_of-load : goal.invariant_of-load
invariant_of-load c =
    let a = c.args in
    let v = awaiting a.core a.i a.stage c.requires.1 in
    record { roomy = rw (c.record_at-r.ensures, c.read.ensures.payload_given) (roomy a.core c.requires.0.0 a.i v (length (payload_of a.packet.now)) (payload_short a.packet.now)) }
