-- Document 01's proved examples, each line of the table by computing both sides. Assumes nothing.
use mathlib.Core.Path.{refl}
use Rattle.wire.specs.Crc.{step, after, bits, sent, check}
use Rattle.wire.specs.Pid.{kind_of, pid_of}
use Rattle.state.specs.Ranges.{misplaced, endpoint_fits}
use Rattle.state.specs.Spans.{share_byte}
use Rattle.demands.specs.Examples.{AllHold, table}

pub examples : AllHold table
unfolding kind_of pid_of step after bits sent check share_byte misplaced endpoint_fits
examples =
    (refl, (refl, (refl, (refl, (refl, (refl, (refl, (refl, (refl, (refl, (refl, (refl, (refl, (refl, (refl, tt)))))))))))))))
