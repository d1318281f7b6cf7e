-- A checked data PID names its kind by its low four bits.
use Rattle.std.proofs.Common.{sym, ap, ◌∙◌, arith}
use Rattle.wire.specs.Data.{is_data_pid}
use Rattle.wire.proofs.Pids.{checked_kind}
use Rattle.wire.proofs.Reading.{good}
use Rattle.wire.proofs.data.judge.Goals as goal

pub returns : goal.returns
returns c =
    let is = sym c.read.ensures ∙ c.in_ok-kind.was in
    sym
    (good c.args.bytes.now
    (record {
      least = omega arith;
      most = omega arith;
      pid = ap is_data_pid is ∙ sym c.is_data.ensures ∙ c.if-not-is_data.false;
      right = sym c.is_right.ensures ∙ c.if-not-is_right.false;
      named = checked_kind _ is;
    }))
