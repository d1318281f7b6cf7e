-- Under one contract no call has two outcomes. One law, and a line for each call. Assumes nothing.
use Prim.Native.Nat.{ℕ}
use Rattle.laws.proofs.Once.{Once, once}
use Rattle.state.specs.declared.Speed.{Speed}
use Rattle.state.specs.declared.Condition.{Condition}
use Rattle.state.specs.declared.Endpoint.{Endpoint}
use Rattle.state.specs.declared.Core.{Core}
use Rattle.firmware.specs.Device.{start_of, set_address_of, bus_reset_of, system_events_of}
use Rattle.firmware.specs.Records.{configure_of, set_halt_of, clear_halt_of, record_events_of}
use Rattle.firmware.specs.Buffers.{arm_of, disarm_of}

pub start_once : (M : ℕ) (speed : Speed) → Once (start_of M speed)
start_once M speed = once _

module _ (core : Core) where
  pub set_address_once : (address : ℕ) → Once (set_address_of core address)
  set_address_once address = once _

  pub bus_reset_once : (speed : Speed) → Once (bus_reset_of core speed)
  bus_reset_once speed = once _

  pub system_events_once : Once (system_events_of core)
  system_events_once = once _

  module _ (i : ℕ) where
    pub configure_once : (condition : Condition) (e : Endpoint) → Once (configure_of core i condition e)
    configure_once condition e = once _

    pub set_halt_once : Once (set_halt_of core i)
    set_halt_once = once _

    pub clear_halt_once : Once (clear_halt_of core i)
    clear_halt_once = once _

    pub record_events_once : Once (record_events_of core i)
    record_events_once = once _

    pub arm_once : (buffer base length : ℕ) → Once (arm_of core i buffer base length)
    arm_once buffer base length = once _

    pub disarm_once : (buffer : ℕ) → Once (disarm_of core i buffer)
    disarm_once buffer = once _
