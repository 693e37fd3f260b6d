-- Where a device is in a selection, which lasts from a select that got yes to the next finish.
use Rattle.std.specs.Prelude.{Bool, true, false}
use Rattle.device.specs.declared.selection.Selection.{Selection}
use Rattle.device.specs.declared.selection.Selection.TheVariants.{Closed, Open, Written}

-- after a select with this answer: inside a selection it opens no other
abbrev pub selection_after_select : Selection → Bool → Selection
selection_after_select Closed true = Open
selection_after_select Closed false = Closed
selection_after_select Open v = Open
selection_after_select Written v = Written

-- after a put with this answer: outside a selection it does not count
abbrev pub selection_after_put : Selection → Bool → Selection
selection_after_put Closed v = Closed
selection_after_put Open true = Written
selection_after_put Open false = Open
selection_after_put Written v = Written

-- whether a put got yes in it
abbrev pub is_written : Selection → Bool
is_written Closed = false
is_written Open = false
is_written Written = true
