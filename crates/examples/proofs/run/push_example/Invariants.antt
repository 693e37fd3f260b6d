use Rattle.std.proofs.Common.{◌≡◌, ◌+◌, ◌*◌, ◌≤◌, ◌++◌, length, take}
use Rattle.std.specs.List.{flat_map}
use Rattle.examples.specs.Run.{example_line}
use Rattle.examples.proofs.run.push_example.Given as goal

abbrev pub invariant-loop-choice : goal.invariant-loop-choice
invariant-loop-choice g l =
    (l.text.bytes ≡ l.initial.text.bytes ++ flat_map (example_line l.name l.one l.other) (take l.choice-index l.clocks))
    × (length l.text.bytes ≤ length l.initial.text.bytes + 139 * l.choice-index)
