-- Slots that carry given levels, and what a script played alone comes to.
use Rattle.std.proofs.Common.{◌≡◌, ℕ, zero, suc, ◌-◌, ◌/◌, ◌<◌, ◌≤◌, Bool, true, false, not, ltb}
use Rattle.std.proofs.Common.{◌⊎◌, List, [], ◌∷◌, ◌++◌, map, sym, refl, ap, ◌∙◌, div-one, arith}
use native.Mathlib.Nat.{div-eq_of_lt}
use Rattle.master.specs.declared.symbol.Symbol.{Symbol}
use Rattle.master.specs.declared.symbol.Symbol.TheVariants.{Listen, RepeatedStart}
use Rattle.wire.specs.ByteProgress.{bit_at, shift_in}
use Rattle.master.specs.Script.{Script}
use Rattle.law.specs.Letter.{Letter, restart, bit_letter}
use Rattle.master.specs.Symbol.{bit_symbol}
use Rattle.law.proofs.FarSide.{Side, ends, letter, heard, after, string, last, final, QuietFor}
use Rattle.law.proofs.Alone.BitsOfByte.{shifted_digit}

-- a slot with this symbol, pulled by the side or not, carries this level; the side pulls only where the script listens
abbrev pub CarriesLevel : Symbol → Bool → Bool → Type 0
CarriesLevel x pulled b = ((x ≡ bit_symbol b) × (pulled ≡ false)) ⊎ ((x ≡ Listen) × (not pulled ≡ b))

-- the lowest k bits, and more
abbrev pub low_bits : ℕ → ℕ → List Bool → List Bool
low_bits zero x bs = bs
low_bits (suc k) x bs = bit_at x k ∷ low_bits k x bs

module _ (D : Side) where
  -- a slot that goes on
  pub record Slot (x : Symbol) (s : D.S) (t : Letter) (b : Bool) (u : D.S) : Type 0 where
    pub letter_is : letter D x s ≡ t
    pub heard_is : heard D x s ≡ b
    pub after_is : after D x s ≡ u
    pub open_is : ends x ≡ false
    pub quiet_is : (x ≡ Listen → ⊥) → D.pulls s ≡ false

  pub level_slot : (x : Symbol) (s : D.S) (b : Bool) → CarriesLevel x (D.pulls s) b →
      Slot x s (bit_letter b) b (D.bit s b)
  level_slot x s b h = grind arith

module _ (W : Script) (D : Side) where
  -- these levels, one a slot, and then K
  abbrev pub Carries : W.Cursor → D.S → List Bool → (W.Cursor → D.S → Type 0) → Type 0
  Carries c s [] K = K c s
  Carries c s (b ∷ bs) K = CarriesLevel (W.symbol c) (D.pulls s) b × Carries (W.next c b) (D.bit s b) bs K

  -- eight slots: families of cursors and sides that go by the bits counted and their value
  module _ (K : W.Cursor → D.S → Type 0) (x : ℕ) (c : ℕ → ℕ → W.Cursor) (s : ℕ → ℕ → D.S) (t : ℕ → D.S)
      (level_so : (k v : ℕ) → ltb k 8 ≡ true → CarriesLevel (W.symbol (c k v)) (D.pulls (s k v)) (bit_at x (7 - k)))
      (cursors : (k v : ℕ) (b : Bool) → ltb k 8 ≡ true → W.next (c k v) b ≡ c (suc k) (shift_in v b))
      (sides : (k v : ℕ) (b : Bool) → ltb k 7 ≡ true → D.bit (s k v) b ≡ s (suc k) (shift_in v b))
      (full : (v : ℕ) (b : Bool) → D.bit (s 7 v) b ≡ t (shift_in v b)) where
    -- a slot that carries the next bit of x
    one_bit : (k v w : ℕ) (u : D.S) (bs : List Bool) → ltb k 8 ≡ true →
        shift_in v (bit_at x (7 - k)) ≡ w → D.bit (s k v) (bit_at x (7 - k)) ≡ u →
        Carries (c (suc k) w) u bs K → Carries (c k v) (s k v) (bit_at x (7 - k) ∷ bs) K
    one_bit k v w u bs h e d g = grind arith

    -- in one of the first seven the sides go on by the family
    next_bit : (k v w : ℕ) (bs : List Bool) → ltb k 7 ≡ true → ltb k 8 ≡ true → shift_in v (bit_at x (7 - k)) ≡ w →
        Carries (c (suc k) w) (s (suc k) w) bs K → Carries (c k v) (s k v) (bit_at x (7 - k) ∷ bs) K
    next_bit k v w bs h e d g = grind arith

    -- all eight carry the bits of x
    pub byte : (bs : List Bool) → x < 256 → Carries (c 8 x) (t x) bs K → Carries (c 0 0) (s 0 0) (low_bits 8 x bs) K
    byte bs h r =
        let first : shift_in 0 (bit_at x 7) ≡ x / 128 =
        ap (λ n. shift_in n (bit_at x 7)) (sym (div-eq_of_lt h)) ∙ shifted_digit x 7 h in
        let whole : shift_in (x / 2) (bit_at x 0) ≡ x = shifted_digit x 0 h ∙ div-one x in
        next_bit 0 0 (x / 128) (low_bits 7 x bs) refl refl first
        (next_bit 1 (x / 128) (x / 64) (low_bits 6 x bs) refl refl (shifted_digit x 6 h)
        (next_bit 2 (x / 64) (x / 32) (low_bits 5 x bs) refl refl (shifted_digit x 5 h)
        (next_bit 3 (x / 32) (x / 16) (low_bits 4 x bs) refl refl (shifted_digit x 4 h)
        (next_bit 4 (x / 16) (x / 8) (low_bits 3 x bs) refl refl (shifted_digit x 3 h)
        (next_bit 5 (x / 8) (x / 4) (low_bits 2 x bs) refl refl (shifted_digit x 2 h)
        (next_bit 6 (x / 4) (x / 2) (low_bits 1 x bs) refl refl (shifted_digit x 1 h)
        (one_bit 7 (x / 2) x (t x) bs refl whole (full (x / 2) (bit_at x 0) ∙ ap t whole) r)))))))

module _ (W : Script) (D : Side) (slots_left : W.Cursor → ℕ) where
  -- within its slots a script played alone spells ts, shows the stop at e and leaves the side at u,
  -- and the side pulls only where the script listens
  pub record Comes (c : W.Cursor) (s : D.S) (ts : List Letter) (e : W.Cursor) (u : D.S) : Type 0 where
    pub string_is : (n : ℕ) → slots_left c ≤ n → string W D n c s ≡ ts
    pub final_is : (n : ℕ) → slots_left c ≤ n → final W D n c s ≡ e
    pub last_is : (n : ℕ) → slots_left c ≤ n → last W D n c s ≡ u
    pub quiet : (n : ℕ) → QuietFor W D n c s

  module _ (some_left : (c : W.Cursor) → 1 ≤ slots_left c)
      (fewer : (c : W.Cursor) (b : Bool) → ends (W.symbol c) ≡ false → slots_left (W.next c b) < slots_left c) where
    -- a slot that goes on spells a letter more
    goes : (c : W.Cursor) (s : D.S) (t : Letter) (b : Bool) (v : D.S) (ts : List Letter) (e : W.Cursor) (u : D.S) →
        Slot D (W.symbol c) s t b v → Comes (W.next c b) v ts e u → Comes c s (t ∷ ts) e u
    goes c s t b v ts e u h k = grind arith

    -- and so do slots that carry levels
    pub through : (bs : List Bool) (c : W.Cursor) (s : D.S) (ts : List Letter) (e : W.Cursor) (u : D.S) →
        Carries W D c s bs (λ q v. Comes q v ts e u) → Comes c s (map bit_letter bs ++ ts) e u
    through [] c s ts e u h = h
    through (b ∷ bs) c s ts e u h =
        goes c s (bit_letter b) b (D.bit s b) (map bit_letter bs ++ ts) e u (level_slot D (W.symbol c) s b h.0)
        (through bs (W.next c b) (D.bit s b) ts e u h.1)

    -- a repeated start goes on, and spells its letter
    pub restarts : (c : W.Cursor) (s : D.S) (ts : List Letter) (e : W.Cursor) (u : D.S) →
        W.symbol c ≡ RepeatedStart → D.pulls s ≡ false →
        Comes (W.next c true) (D.begin s) ts e u → Comes c s (restart ∷ ts) e u
    restarts c s ts e u h k d = grind arith
