-- What the program prints.
use Rattle.std.specs.Prelude.{ℕ, ◌*◌, List, [], ◌++◌, codes, decimal, Option, Some, None, Result}
use Rattle.std.specs.declared.io.Error.{Error}
use Rattle.transfer.specs.Outcome.{OutcomeModel, outcome_text}
use Rattle.law.specs.BusModel.{BusModel}
use Rattle.law.specs.Limits.{most_ticks_of_turn}
use Rattle.support.specs.Output.{Puts}
use Rattle.support.specs.PrintedRun.{Listened, IsOnlyRun}
use Rattle.text.specs.Digits.{bytes_text}
use Rattle.head.specs.Setup.{head_hosts, head_devices, IsHead}

-- what master n was told last, if it was told anything
abbrev pub told_line : ℕ → Option OutcomeModel → List ℕ
told_line n None = []
told_line n (Some o) =
    codes "master " ++ (decimal n ++ (codes ": " ++ (outcome_text o ++ codes "\n")))

abbrev pub registers_line : List ℕ → List ℕ
registers_line xs = codes "registers:" ++ (bytes_text xs ++ codes "\n")

-- the last outcome of each master, and then the registers
abbrev pub end_text : BusModel head_hosts head_devices → List ℕ
end_text u =
    told_line 0 u.masters.0.meaning.last ++
    (told_line 1 u.masters.1.0.meaning.last ++
    (told_line 2 u.masters.1.1.0.meaning.last ++
    registers_line u.ports.0.meaning.below.bytes))

-- far more than the lists and the polls of the head take
abbrev pub ticks_of_run : ℕ
ticks_of_run = 16 * most_ticks_of_turn

module _ {W : Type 0} (takes : W → List ℕ → W → Type 0)
    (fails : W → List ℕ → Error → W → Type 0) where
  -- the bus has one run, whatever its devices answer, and the lines of it and of its end are written, or a first part of them
  -- where a write fails
  abbrev pub PrintsHead : W → Result (Unit {0}) Error → W → Type 0
  PrintsHead out r after =
      (u : BusModel head_hosts head_devices) × IsHead u ×
      (text : List ℕ) × (end : Listened head_hosts head_devices) ×
      IsOnlyRun head_hosts head_devices 3 ticks_of_run u text end ×
      Puts takes fails (text ++ end_text end.bus) out r after
