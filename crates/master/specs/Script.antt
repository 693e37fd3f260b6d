-- What a contender plays, symbol by symbol.
use Rattle.std.specs.Prelude.{Bool}
use Rattle.transfer.specs.Transfer.{TransferModel}
use Rattle.transfer.specs.Outcome.{OutcomeModel}
use Rattle.master.specs.declared.symbol.Symbol.{Symbol}
use Rattle.master.specs.Cursor.{CursorModel, new_cursor, symbol_of, cursor_next, outcome_of}

-- the rules of a master ask no more of what it plays than this
pub record Script : Type 1 where
  -- what it is armed with, where it is in it, and what comes of it
  pub Task : Type 0
  pub Cursor : Type 0
  pub Outcome : Type 0
  pub begin : Task → Cursor
  pub symbol : Cursor → Symbol
  -- what follows once a level was heard under the symbol shown
  pub next : Cursor → Bool → Cursor
  pub outcome : Cursor → Outcome

abbrev pub transfers : Script
transfers = record {
  Task = TransferModel;
  Cursor = CursorModel;
  Outcome = OutcomeModel;
  begin = new_cursor;
  symbol = λ c. symbol_of c.play;
  next = cursor_next;
  outcome = outcome_of;
}
