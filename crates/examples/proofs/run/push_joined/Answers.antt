use Rattle.std.proofs.Common.{◌≡◌, option_map, refl, sym, ap, ◌∙◌}
use Rattle.transfer.specs.Outcome.{outcome_model}
use Rattle.host.specs.ListHost.{list_host_model}
use Rattle.exchange.specs.Bus.{bus_model}
use Rattle.law.specs.Limits.{most_ticks_of_turn}
use Rattle.examples.specs.Run.{joined_line, queues_after_run}
use Rattle.examples.proofs.Joined.{never, told_last, line_is, no_line}
use Rattle.examples.proofs.run.push_joined.Goals as goal

pub returns-in-Some : goal.returns-in-Some
returns-in-Some g c =
    let u = bus_model c.queue_bus-bus.result in
    let stands : option_map outcome_model c.last.result ≡ (bus_model c.run.new.self).masters.0.meaning.last =
    c.last.ensures ∙ ap (λ h. (list_host_model h).last) (c.into_host.ensures ∙ c.close-reader.ensures.hosts.0) in
    let last : option_map outcome_model c.last.result ≡ (queues_after_run most_ticks_of_turn u).masters.0.meaning.last =
    told_last u (bus_model c.arm_all.new.bus) (bus_model c.run.new.self) _ _ _ c.arm_all.ensures
    (c.run.ensures.unheld never) c.ticks_of_turns.ensures stands in (
      joined_line (queues_after_run most_ticks_of_turn u).masters.0.meaning.last,
      (u, c.queue_bus-bus.ensures, refl),
      line_is _ _ _ _ (outcome_model c.in-Some.outcome) _
          (ap (option_map outcome_model) (sym c.in-Some.is) ∙ last) c.push_str.ensures.bytes c.push_to.ensures.text
          c.push_str-in-Some.ensures.bytes,
    )

pub returns-in_default : goal.returns-in_default
returns-in_default g c =
    let u = bus_model c.queue_bus-bus.result in
    let stands : option_map outcome_model c.last.result ≡ (bus_model c.run.new.self).masters.0.meaning.last =
    c.last.ensures ∙ ap (λ h. (list_host_model h).last) (c.into_host.ensures ∙ c.close-reader.ensures.hosts.0) in
    let last : option_map outcome_model c.last.result ≡ (queues_after_run most_ticks_of_turn u).masters.0.meaning.last =
    told_last u (bus_model c.arm_all.new.bus) (bus_model c.run.new.self) _ _ _ c.arm_all.ensures
    (c.run.ensures.unheld never) c.ticks_of_turns.ensures stands in (
      joined_line (queues_after_run most_ticks_of_turn u).masters.0.meaning.last,
      (u, c.queue_bus-bus.ensures, refl),
      no_line _ _ (ap (option_map outcome_model) (sym c.in_default.is) ∙ last),
    )
