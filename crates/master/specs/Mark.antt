-- What a mark says of a master.
use Rattle.std.specs.Prelude.{Bool, true, false}
use Rattle.master.specs.declared.mark.Mark.{Mark}
use Rattle.master.specs.declared.mark.Mark.TheVariants.{Quiet, Told, Lost}

abbrev pub is_told : Mark → Bool
is_told Quiet = false
is_told Told = true
is_told Lost = false

abbrev pub is_lost : Mark → Bool
is_lost Quiet = false
is_lost Told = false
is_lost Lost = true

abbrev pub is_quiet : Mark → Bool
is_quiet Quiet = true
is_quiet Told = false
is_quiet Lost = false
