-- What a run answers.
use Rattle.exchange.specs.declared.run.Run.{Run}
use Rattle.law.specs.RunModel.{RunModel}

abbrev pub run_model : Run → RunModel
run_model r = record { ticks = r.ticks; outcomes = r.outcomes; load = r.load }
