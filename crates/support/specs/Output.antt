-- What is written of a text, whole or in part.
use Rattle.std.specs.Prelude.{◌≡◌, ℕ, List, ◌++◌, Option, Result, MatchResult}
use Rattle.std.specs.Io.KnownBytes.{Appends}
use Rattle.std.specs.Fmt.{WritesInCalls}
use Rattle.std.specs.declared.io.Error.{Error}

-- known bytes grow by a first part of the bytes
abbrev pub AppendsFront : Option (List ℕ) → Option (List ℕ) → List ℕ → Type 0
AppendsFront old new bytes =
    (front : List ℕ) × (rest : List ℕ) × (front ++ rest ≡ bytes) × Appends old new front

module _ {W : Type 0} (takes : W → List ℕ → W → Type 0)
    (fails : W → List ℕ → Error → W → Type 0) where
  -- a first part of the text is written, and the writing of what follows it fails with e
  pub record PutsPart (text : List ℕ) (out after : W) (e : Error) : Type 0 where
    pub done : List ℕ
    pub failing : List ℕ
    pub rest : List ℕ
    pub between : W
    pub whole : done ++ (failing ++ rest) ≡ text
    pub written : WritesInCalls takes out done between
    pub failed : fails between failing e after

  -- the text is written, or a first part of it where a write fails
  abbrev pub Puts : List ℕ → W → Result (Unit {0}) Error → W → Type 0
  Puts text out r after =
      MatchResult r (λ done. WritesInCalls takes out text after) (PutsPart text out after)
