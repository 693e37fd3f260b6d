-- What one or two reads give.
use Rattle.std.proofs.Common.{◌≡◌, ◌≤◌, ℕ, List, [], ◌∷◌, ◌++◌, Option, Some, None, refl, ap, subst, length, take, arith, inl, inr}
use Rattle.pairwrite.specs.Input.{Reads, first_two}

pub two : (bytes : List ℕ) → length bytes ≡ 2 → (x : ℕ) × (y : ℕ) × (bytes ≡ x ∷ y ∷ [])
two [] e = absurd (omega arith)
two (x ∷ []) e = absurd (omega arith)
two (x ∷ y ∷ []) e = (x, y, refl)
two (x ∷ y ∷ z ∷ bytes) e = absurd (omega arith)

single : (bytes : List ℕ) → length bytes ≡ 1 → (x : ℕ) × (bytes ≡ x ∷ [])
single [] e = absurd (omega arith)
single (x ∷ []) e = (x, refl)
single (x ∷ y ∷ bytes) e = absurd (omega arith)

front : (bytes : List ℕ) (n x y : ℕ) → n ≡ 2 → bytes ≡ x ∷ y ∷ [] → take n bytes ≡ x ∷ y ∷ []
front bytes n x y e same = rw (e, same) refl

first_alone : (bytes : List ℕ) (n x y : ℕ) → n ≡ 1 → bytes ≡ x ∷ y ∷ [] → take n bytes ≡ x ∷ []
first_alone bytes n x y e same = rw (e, same) refl

last_alone : (rest : List ℕ) (m z : ℕ) → m ≡ 1 → rest ≡ z ∷ [] → take m rest ≡ z ∷ []
last_alone rest m z e same = rw (e, same) refl

joined : (bytes rest post : List ℕ) (x y z : ℕ) → bytes ≡ x ∷ y ∷ [] → rest ≡ z ∷ [] → post ≡ [] →
    take 1 bytes ++ (rest ++ post) ≡ x ∷ z ∷ []
joined bytes rest post x y z e f h = rw (e, f, h) refl

module _ {R : Type 0} (gives : R → List ℕ → R → Type 0) (ended : R → Type 0) where
  abbrev pub Read : R → Option (List ℕ) → R → Type 0
  Read s bytes t = (xs : List ℕ) × Reads gives ended s xs t × (bytes ≡ first_two xs)

  -- both bytes come at once
  pub at_once : (s t : R) (bytes : List ℕ) (n : ℕ) → n ≡ 2 → length bytes ≡ 2 → gives s (take n bytes) t →
      Read s (Some bytes) t
  at_once s t bytes n is places given =
      let (x, y, same) = two bytes places in
      (x ∷ y ∷ [], inl (subst (λ b. gives s b t) (front bytes n x y is same) given), ap Some same)

  -- the first comes alone
  module _ (s u t : R) (bytes rest : List ℕ) (n m : ℕ)
      (places : length bytes ≡ 2) (few : n ≤ 2) (some : n ≡ 0 → ⊥) (not_both : n ≡ 2 → ⊥)
      (given : gives s (take n bytes) u) (given_more : gives u (take m rest) t) where
    first : (x y : ℕ) → bytes ≡ x ∷ y ∷ [] → gives s (x ∷ []) u
    first x y same =
        let one : n ≡ 1 = omega arith in
        subst (λ b. gives s b u) (first_alone bytes n x y one same) given

    -- and then the input ends
    pub ends : m ≡ 0 → ended t → Read s None t
    ends none end =
        let (x, y, same) = two bytes places in
        (x ∷ [], (u, first x y same, subst (λ k. gives u (take k rest) t) none given_more, end), refl)

    -- and then the second
    pub one_by_one : (post : List ℕ) → length rest ≡ 1 → post ≡ [] → m ≤ 1 → (m ≡ 0 → ⊥) →
        Read s (Some (take 1 bytes ++ (rest ++ post))) t
    one_by_one post place behind few_more more =
        let (x, y, same) = two bytes places in
        let (z, alone) = single rest place in
        let one : m ≡ 1 = omega arith in (
          x ∷ z ∷ [],
          inr (u, first x y same, subst (λ b. gives u b t) (last_alone rest m z one alone) given_more),
          ap Some (joined bytes rest post x y z same alone behind),
        )
