-- Texts written one after the other.
use Rattle.std.proofs.Common.{ℕ, List, ◌++◌, [], Ok, Err, Result, OnOk, IfErr, ap, append-nil, append_assoc}
use Rattle.std.proofs.Output.{writes_in_calls_single, writes_in_calls_append}
use Rattle.std.specs.Fmt.{WritesInCalls}
use Rattle.std.specs.declared.io.Error.{Error}
use Rattle.support.specs.Output.{Puts, PutsPart}

module _ {W : Type 0} (takes : W → List ℕ → W → Type 0) (fails : W → List ℕ → Error → W → Type 0) where
  -- what is put after a text that is written
  pub puts_more : (text more : List ℕ) (out between after : W) (r : Result (Unit {0}) Error) → WritesInCalls takes out text between →
      OnOk r (takes between more after) → IfErr r (λ e. fails between more e after) → Puts takes fails (text ++ more) out r after
  puts_more text more out between after (Ok done) written taken failed =
      writes_in_calls_append takes _ _ _ _ _ written (writes_in_calls_single takes _ _ _ taken)
  puts_more text more out between after (Err e) written taken failed = record {
    done = text;
    failing = more;
    rest = [];
    between = between;
    whole = ap (λ x. text ++ x) (append-nil more);
    written = written;
    failed = failed;
  }

  -- of a longer text the same first part is written
  pub puts_less : (text more : List ℕ) (out after : W) (e : Error) → PutsPart takes fails text out after e →
      PutsPart takes fails (text ++ more) out after e
  puts_less text more out after e p = record {
    done = p.done;
    failing = p.failing;
    rest = p.rest ++ more;
    between = p.between;
    whole = rw (← p.whole) (simp append_assoc);
    written = p.written;
    failed = p.failed;
  }
