-- Transfers against all ports together, as a game of the machine.
use Rattle.std.proofs.Common.{List}
use Rattle.device.specs.Device.{Behaviour}
use Rattle.master.specs.Script.{transfers}
use Rattle.law.proofs.Alone.CursorsStayAlike.{Alike, cursor_laws}
use Rattle.law.proofs.Alone.PortsAsSide.{ports_side}
use Rattle.law.proofs.Alone.SlotsRunOut.{slots_left}
use Rattle.law.proofs.Machine.Game.{Game}

abbrev pub game : List Behaviour → Game
game ds = record { script = transfers; side = ports_side ds; left = slots_left; Alike = Alike; laws = cursor_laws }
