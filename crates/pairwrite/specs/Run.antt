-- What the program prints for what it reads.
use Rattle.std.specs.Prelude.{◌≡◌, ℕ, ◌*◌, ◌⊎◌, List, [], ◌∷◌, Err, Result}
use Rattle.std.specs.declared.io.Error.{Error}
use Rattle.host.specs.ListHost.{ListHostModel}
use Rattle.law.specs.Limits.{most_ticks_of_turn}
use Rattle.support.specs.Output.{Puts}
use Rattle.support.specs.PrintedRun.{listened_start, unheld_lines}
use Rattle.pairwrite.specs.Input.{Reads, FailsToRead}
use Rattle.pairwrite.specs.Setup.{Wants, pair_hosts, pair_devices, pair_of}

-- a turn for each of the two masters
abbrev pub ticks_of_run : ℕ
ticks_of_run = 2 * most_ticks_of_turn

-- the lines of the run of the bus of these hosts, until it is at rest, or for two turns at most
abbrev pub run_lines : ListHostModel → ListHostModel → List ℕ
run_lines m n =
    unheld_lines pair_hosts pair_devices 2 ticks_of_run
    (listened_start pair_hosts pair_devices 2 (pair_of m n))

-- fewer than two bytes print nothing; of two, the first is what master 0 writes, and the second what master 1 writes
abbrev pub Prints : List ℕ → List ℕ → Type 0
Prints [] text = text ≡ []
Prints (first ∷ []) text = text ≡ []
Prints (first ∷ second ∷ xs) text =
    (m : ListHostModel) × (n : ListHostModel) × Wants first m × Wants second n ×
    (text ≡ run_lines m n)

module _ {R W : Type 0}
    (gives : R → List ℕ → R → Type 0) (ended : R → Type 0) (read_fails : R → Error → R → Type 0)
    (takes : W → List ℕ → W → Type 0) (write_fails : W → List ℕ → Error → W → Type 0) where
  -- a read fails, and nothing is written; or what is read has a text, and that is written, or a first part of it
  abbrev pub PrintsInput : R → R → W → Result (Unit {0}) Error → W → Type 0
  PrintsInput s t out r after =
      ((e : Error) × (r ≡ Err e) × FailsToRead gives read_fails s t e × (after ≡ out)) ⊎
      ((xs : List ℕ) × (text : List ℕ) × Reads gives ended s xs t × Prints xs text ×
      Puts takes write_fails text out r after)
