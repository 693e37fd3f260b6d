-- What those kept, advanced or finished have in common with the cells before.
use Rattle.std.proofs.Common.{◌≡◌, ℕ, ◌≤◌, Bool, true, false, ◌&&◌, eqb, List, [], ◌∷◌, refl, ◌∙◌, arith}
use Rattle.std.proofs.lemmas.Bool.Decides.{nat_tests}
use Rattle.master.specs.declared.symbol.Symbol.{Symbol}
use Rattle.master.specs.Script.{Script}
use Rattle.law.proofs.Machine.PhasesOfSlot.{rank, holds, Cell, some, alive, Timed, least, stay, advance, finished}
use Rattle.law.proofs.Machine.EventForAll.{some_false, every, least_some, least_below}

module _ (W : Script) where
  pub timed_stay : (n : ℕ) (cs : List (Cell W)) → Timed W cs → Timed W (stay W n cs)
  timed_stay n [] t = tt
  timed_stay n (c ∷ cs) t = grind (arith, timed_stay n cs)

  pub timed_advance : (b : Bool) (cs : List (Cell W)) → Timed W cs → Timed W (advance W b cs)
  timed_advance b [] t = tt
  timed_advance b (c ∷ cs) t = grind (arith, timed_advance b cs)

  pub timed_finished : (cs : List (Cell W)) → Timed W cs → Timed W (finished W cs)
  timed_finished [] t = tt
  timed_finished (c ∷ cs) t = grind (arith, timed_finished cs)

  pub alive_advance : (b : Bool) (cs : List (Cell W)) → alive W (advance W b cs) ≡ alive W cs
  alive_advance b [] = refl
  alive_advance b (c ∷ cs) = grind (arith, alive_advance b cs)

  pub some_stay : (t : Symbol → Bool) (n : ℕ) (cs : List (Cell W)) →
      some W t (stay W n cs) ≡ some W (λ x. eqb (rank x) n && t x) cs
  some_stay t n [] = refl
  some_stay t n (c ∷ cs) = grind (arith, some_stay t n cs)

  -- those of the least rank stay, so what holds of them holds of somebody
  some_left : (t : Symbol → Bool) (n : ℕ) → ((x : Symbol) → rank x ≡ n → t x ≡ true) → n ≤ 4 → (cs : List (Cell W)) →
      least W cs ≡ n → some W t (stay W n cs) ≡ true
  some_left t n each k cs e =
      some_stay t n cs
      ∙ least_some W (λ x. eqb (rank x) n && t x) n (λ x h. let y = each x h in grind (arith, nat_tests)) cs e k

  pub alive_stay : (n : ℕ) (cs : List (Cell W)) → least W cs ≡ n → n ≤ 4 → alive W (stay W n cs) ≡ true
  alive_stay n cs e k = some_left (λ x. true) n (λ x h. refl) k cs e

  pub holds_zero : (cs : List (Cell W)) → least W cs ≡ 0 → some W holds (stay W 0 cs) ≡ true
  holds_zero cs e = some_left holds 0 (λ x h. grind arith) (omega arith) cs e

  pub holds_restart : (cs : List (Cell W)) → least W cs ≡ 2 → some W holds (stay W 2 cs) ≡ true
  holds_restart cs e = some_left holds 2 (λ x h. grind arith) (omega arith) cs e

  pub holds_not : (n : ℕ) (cs : List (Cell W)) → 3 ≤ n → least W cs ≡ n → some W holds (stay W n cs) ≡ false
  holds_not n cs k e =
      let none = every W (λ x. n ≤ rank x) (λ x. (eqb (rank x) n && holds x) ≡ false)
      (λ x h. grind (arith, nat_tests)) cs (least_below W n cs (omega arith)) in
      some_stay holds n cs ∙ some_false W (λ x. eqb (rank x) n && holds x) cs none

  pub alive_least : (cs : List (Cell W)) → alive W cs ≡ true → least W cs ≤ 4
  alive_least [] h = cc
  alive_least (c ∷ cs) h = grind (arith, alive_least cs)
