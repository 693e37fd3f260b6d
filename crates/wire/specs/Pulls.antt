-- Which lines are pulled, and the levels that this gives.
use Rattle.std.specs.Prelude.{false, not, ◌||◌}
use Rattle.wire.specs.declared.levels.Levels.{Levels}
use Rattle.wire.specs.declared.pulls.Pulls.{Pulls}

abbrev pub no_pulls : Pulls
no_pulls = record { scl = false; sda = false }

-- of two parts together
abbrev pub pulls_or : Pulls → Pulls → Pulls
pulls_or p q = record { scl = p.scl || q.scl; sda = p.sda || q.sda }

-- a line is high exactly if nobody pulls it
abbrev pub levels_of : Pulls → Levels
levels_of p = record { scl = not p.scl; sda = not p.sda }
