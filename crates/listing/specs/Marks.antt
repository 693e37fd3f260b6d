-- The lines of a tick, where d is its number in digits: one for each mark.
use Rattle.std.specs.Prelude.{ℕ, suc, ◌+◌, ◌*◌, Bool, if◌then◌else◌, List, [], ◌∷◌, ◌++◌, codes}
use Rattle.std.specs.List.{flat_map}
use Rattle.law.specs.Limits.{most_masters}
use Rattle.master.specs.Mark.{is_told, is_lost, is_quiet}
use Rattle.master.specs.declared.mark.Mark.{Mark}
use Rattle.master.specs.declared.mark.Mark.TheVariants.{Quiet, Told, Lost}
use Rattle.listing.specs.declared.marks.Marks.{Marks}
use Rattle.text.specs.Digits.{digit_code}
use Rattle.wire.specs.Decoder.{byte_text}
use Rattle.wire.specs.declared.decoder.Decoded.{Decoded}
use Rattle.wire.specs.declared.decoder.Decoded.TheVariants.{Nothing, Start, Byte, Stop}

abbrev pub line_of : List ℕ → List ℕ → List ℕ
line_of d mark = d ++ (codes " " ++ (mark ++ codes "\n"))

abbrev pub wire_line : List ℕ → Decoded → List ℕ
wire_line d Start = line_of d (codes "S")
wire_line d (Byte b) = line_of d (byte_text b)
wire_line d Stop = []
wire_line d Nothing = []

-- whether the second is the first
abbrev pub is_mark : Mark → Mark → Bool
is_mark Lost m = is_lost m
is_mark Told m = is_told m
is_mark Quiet m = is_quiet m

-- the numbers of the masters whose mark passes, the lowest first, where the first is master n
abbrev pub numbers : (Mark → Bool) → ℕ → List Mark → List ℕ
numbers p n [] = []
numbers p n (m ∷ ms) = if p m then n ∷ numbers p (suc n) ms else numbers p (suc n) ms

-- each number between two texts
abbrev pub numbers_text : List ℕ → List ℕ → List ℕ → List ℕ
numbers_text before after ns = flat_map (λ n. before ++ (digit_code n ∷ after)) ns

-- a bus has at most 8 masters, so the number of one is a digit
abbrev pub loser_line : List ℕ → ℕ → List ℕ
loser_line d n = line_of d (codes "L " ++ (digit_code n ∷ []))

abbrev pub loser_lines : List ℕ → List Mark → List ℕ
loser_lines d ms = flat_map (loser_line d) (numbers is_lost 0 ms)

abbrev pub told_item : ℕ → List ℕ
told_item n = codes " " ++ (digit_code n ∷ [])

abbrev pub told_text : List Mark → List ℕ
told_text ms = flat_map told_item (numbers is_told 0 ms)

abbrev pub stop_line : List ℕ → Decoded → List Mark → List ℕ
stop_line d Stop ms = line_of d (codes "P" ++ told_text ms)
stop_line d Start ms = []
stop_line d (Byte b) ms = []
stop_line d Nothing ms = []

-- of a number of 64 bits
abbrev pub most_digits : ℕ
most_digits = 20

-- how much the longest line of each kind has beside the number, as " 3A N", " L 7" and " P 0 1 2", with the end of the line
abbrev pub wire_room : ℕ
wire_room = 6

abbrev pub loser_room : ℕ
loser_room = 5

abbrev pub stop_room : ℕ
stop_room = 3 + 2 * most_masters

abbrev pub lines_of : List ℕ → Marks → List ℕ
lines_of d m = (wire_line d m.wire ++ loser_lines d m.masters) ++ stop_line d m.wire m.masters
