-- The masters of a bus, armed one after the other.
use Rattle.std.specs.Prelude.{ℕ, zero, suc, List}
use Rattle.device.specs.Device.{Behaviour}
use Rattle.host.specs.Host.{HostBehaviour}
use Rattle.law.specs.BusModel.{BusModel, arm_at}

-- the first n masters are armed, number 0 first; a refusal leaves the bus as it is
abbrev pub all_armed : (hs : List HostBehaviour) (ds : List Behaviour) → ℕ → BusModel hs ds →
    BusModel hs ds
all_armed hs ds zero u = u
all_armed hs ds (suc n) u = (arm_at hs ds (all_armed hs ds n u) n).1
