-- The masters with a mark, as far as a loop over them has come.
use Rattle.std.proofs.Common.{◌≡◌, ℕ, suc, ◌+◌, ◌<◌, Bool, true, false, cond, List, [], ◌∷◌, ◌++◌, length, take}
use Rattle.std.proofs.Common.{decimal, refl, ◌∙◌, sym, arith}
use Rattle.std.specs.Prelude.{slice_index_or}
use Rattle.std.specs.List.{flat_map}
use Rattle.std.proofs.lemmas.Grind.{flat_map-append}
use Rattle.std.proofs.lemmas.Bool.{lt-ltb}
use Rattle.std.proofs.lemmas.Fmt.{decimal_digit}
use Rattle.std.proofs.lemmas.List.{take_more, length-take-le}
use denote.Enum.Bare.{sameb}
use Rattle.master.specs.contracts.mark.Mark.{the_type}
use Rattle.master.specs.declared.mark.Mark.{Mark}
use Rattle.master.specs.declared.mark.Mark.TheVariants.{Quiet, Told, Lost}
use Rattle.text.specs.Digits.{digit_code}
use Rattle.listing.specs.Marks.{numbers, is_mark}

-- a number below 10 is one digit
pub digit : (n : ℕ) → n < 10 → decimal n ≡ digit_code n ∷ []
digit n h = let code : digit_code n ≡ 48 + n = rw (lt-ltb n 10 h) in decimal_digit n h ∙ rw code

-- what `==` answers
pub marked : (m n : Mark) → sameb the_type n m ≡ is_mark m n
marked Lost Lost = refl
marked Lost Told = refl
marked Lost Quiet = refl
marked Told Lost = refl
marked Told Told = refl
marked Told Quiet = refl
marked Quiet Lost = refl
marked Quiet Told = refl
marked Quiet Quiet = refl

front : (b : Bool) (n : ℕ) (xs ys : List ℕ) → cond b (n ∷ (xs ++ ys)) (xs ++ ys) ≡ cond b (n ∷ xs) xs ++ ys
front true n xs ys = refl
front false n xs ys = refl

numbers_push : (p : Mark → Bool) (n k : ℕ) (ms : List Mark) (m : Mark) → k ≡ n + length ms →
    numbers p n (ms ++ (m ∷ [])) ≡ numbers p n ms ++ cond (p m) (k ∷ []) []
numbers_push p n k [] m e = let here : k ≡ n = omega arith in rw here
numbers_push p n k (x ∷ ms) m e =
    rw (numbers_push p (suc n) k ms m (omega arith)) (front (p x) n (numbers p (suc n) ms) (cond (p m) (k ∷ []) []))

module _ (f : ℕ → List ℕ) (m : Mark) where
  -- what is written for the masters before i
  abbrev pub so_far : ℕ → List Mark → List ℕ
  so_far i ms = flat_map f (numbers (is_mark m) 0 (take i ms))

  pub next : (ms : List Mark) (i : ℕ) (d : Mark) (b : Bool) → i < length ms → is_mark m (slice_index_or ms i d) ≡ b →
      so_far i ms ++ flat_map f (cond b (i ∷ []) []) ≡ so_far (i + 1) ms
  next ms i d b h e =
      let before = length-take-le i ms (omega arith) in
      rw (take_more ms i d h, numbers_push (is_mark m) 0 i (take i ms) (slice_index_or ms i d) (omega (arith, before)), e)
      (sym (flat_map-append f (numbers (is_mark m) 0 (take i ms)) (cond b (i ∷ []) [])))
