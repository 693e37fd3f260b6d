-- An outcome by its kind and the bytes read, and its text.
use Rattle.std.specs.Prelude.{ℕ, List, [], ◌++◌, codes, decimal}
use Rattle.text.specs.Digits.{bytes_text}
use Rattle.transfer.specs.declared.outcome.Outcome.{Outcome}
use Rattle.transfer.specs.declared.outcome.OutcomeKind.{OutcomeKind}
use Rattle.transfer.specs.declared.outcome.OutcomeKind.TheVariants.{Done, NoAnswer, Refused}
use Rattle.transfer.specs.Bytes.{bytes_in}

pub record OutcomeModel : Type 0 where
  pub kind : OutcomeKind
  pub bytes : List ℕ

abbrev pub outcome_model : Outcome → OutcomeModel
outcome_model o = record { kind = o.kind; bytes = bytes_in o.read }

-- only a done outcome has the bytes read
abbrev pub reported_bytes : OutcomeKind → List ℕ → List ℕ
reported_bytes Done xs = xs
reported_bytes (NoAnswer p) xs = []
reported_bytes (Refused p) xs = []

abbrev pub outcome_of_kind : OutcomeKind → List ℕ → OutcomeModel
outcome_of_kind k xs = record { kind = k; bytes = reported_bytes k xs }

abbrev pub kind_text : OutcomeKind → List ℕ → List ℕ
kind_text Done xs = codes "done" ++ bytes_text xs
kind_text (NoAnswer p) xs = codes "no answer to leg " ++ decimal p.leg
kind_text (Refused p) xs =
    codes "byte " ++ (decimal p.byte ++ (codes " of leg " ++ (decimal p.leg ++ codes " refused")))

-- only a done outcome shows the bytes read
abbrev pub outcome_text : OutcomeModel → List ℕ
outcome_text o = kind_text o.kind o.bytes
