-- After an A for the call of a leg or a byte written in it somebody is in, and the ports are the leg's after that byte.
use Rattle.std.proofs.Common.{◌≡◌, ℕ, zero, suc, ◌+◌, ◌*◌, ◌<◌, ◌≤◌, Bool, true, false, cond, List, [], ◌∷◌, ◌++◌}
use Rattle.std.proofs.Common.{length, take, map, Some, None, Option, sym, refl, ap, ◌∙◌, subst, arith}
use Rattle.std.specs.Prelude.{slice_index_or}
use Rattle.transfer.specs.declared.leg.Direction.{Direction}
use Rattle.transfer.specs.declared.leg.Direction.TheVariants.{Write}
use Rattle.transfer.specs.declared.outcome.OutcomeKind.{OutcomeKind}
use Rattle.transfer.specs.declared.outcome.OutcomeKind.TheVariants.{Done, NoAnswer, Refused}
use Rattle.transfer.specs.Transfer.{TransferModel}
use Rattle.transfer.specs.Leg.{BodyModel, writes, reads, LegModel, body_size, body_direction}
use Rattle.transfer.specs.Octets.{IsOctets}
use Rattle.device.specs.Device.{Behaviour}
use Rattle.master.specs.Cursor.{in_leg, cursor_at, CursorModel, new_cursor}
use Rattle.master.specs.Script.{Script, transfers}
use Rattle.port.specs.Port.{PortModel}
use Rattle.law.specs.AskedLaw.{leg_of, acknowledge_at, body_writes}
use Rattle.law.specs.Bank.{Bank, bank_map}
use Rattle.law.specs.TransferResult.{AddressedDevice, DeviceInLeg, device_after_take, device_after_leg}
use Rattle.transfer.specs.Leg.{address_byte}
use Rattle.law.specs.TransferResult.{byte_levels, LegResult, leg_end, any_in, write_result, read_result, body_result}
use Rattle.law.specs.TransferResult.{leg_result, result_after_leg, transfer_result}
use Rattle.law.specs.Facts.{devices_after_puts}
use Rattle.transfer.specs.Leg.{write_leg}
use Rattle.transfer.specs.Legal.{IsLegalBody, IsLegalLeg, IsLegalSecond, IsLegal}
use Rattle.law.specs.Letter.{Letter, zero as low, stop, restart, one, bit_letter}
use Rattle.law.proofs.FarSide.{Side, ends as ends_with, heard, after, string, last}
use Rattle.law.proofs.Alone.ByteLawsHold.{took, ninth, later, nine}
use Rattle.law.proofs.Alone.PlayedIsCarried.{opened_ports, carried_alone}
use Rattle.law.proofs.Alone.LegBitByBit.{calls, notes, closing, address_plays, written_plays, leg_plays}
use Rattle.law.proofs.Alone.PortsWithinByte.{addressing_at, writing_at, acknowledging_at, called_for, put_to_all}
use Rattle.law.proofs.Alone.PortsWithinByte.{write_on, ready, gets_ready, opened_is}
use Rattle.law.proofs.Alone.PortsAsSide.{ports_side}
use Rattle.law.proofs.Alone.SlotsOfLevels.{Carries, low_bits, level_slot, Slot}
use Rattle.law.proofs.Alone.SlotsRunOut.{slots_left}

-- the slots of given levels
module _ (W : Script) (D : Side) where
  abbrev play : D.S → List Bool → D.S
  play s [] = s
  play s (b ∷ bs) = play (D.bit s b) bs

  play_on : (bs cs : List Bool) (s : D.S) → play s (bs ++ cs) ≡ play (play s bs) cs
  play_on [] cs s = refl
  play_on (b ∷ bs) cs s = play_on bs cs (D.bit s b)

  -- where a script carries levels to these ports, they play to them
  plays_to : (bs : List Bool) (c : W.Cursor) (s u : D.S) → Carries W D c s bs (λ q v. v ≡ u) → play s bs ≡ u
  plays_to [] c s u h = h
  plays_to (b ∷ bs) c s u h = plays_to bs (W.next c b) (D.bit s b) u h.1

  one_slot : (k : ℕ) (c : W.Cursor) (s v : D.S) (b : Bool) → Slot D (W.symbol c) s (bit_letter b) b v →
      last W D (suc k) c s ≡ last W D k (W.next c b) v
  one_slot k c s v b h = rw (h.open_is, h.heard_is, h.after_is)

  -- the side after some of the slots of given levels
  last_in : (m : ℕ) (bs : List Bool) (K : W.Cursor → D.S → Type 0) (c : W.Cursor) (s : D.S) →
      m ≤ length bs → Carries W D c s bs K → last W D m c s ≡ play s (take m bs)
  last_in zero bs K c s h k = refl
  last_in (suc m) [] K c s h k = absurd (omega arith)
  last_in (suc m) (b ∷ bs) K c s h k = one_slot m c s (D.bit s b) b (level_slot D (W.symbol c) s b k.0)
      ∙ last_in m bs K (W.next c b) (D.bit s b) (omega arith) k.1

  -- and after all of them and some slots more
  last_past : (m n : ℕ) (bs : List Bool) (c : W.Cursor) (s u : D.S) →
      n ≡ length bs + m → Carries W D c s bs (λ q v. last W D m q v ≡ u) → last W D n c s ≡ u
  last_past m n [] c s u e h = let z : n ≡ m = omega arith in ap (λ j. last W D j c s) z ∙ h
  last_past m zero (b ∷ bs) c s u e h = absurd (omega arith)
  last_past m (suc n) (b ∷ bs) c s u e h = one_slot n c s (D.bit s b) b (level_slot D (W.symbol c) s b h.0)
      ∙ last_past m n bs (W.next c b) (D.bit s b) u (omega arith) h.1

  longer_either : (v : Bool) (j : ℕ) (ts us : List Letter) →
      (slice_index_or ts j one ≡ low → slice_index_or us j one ≡ low) →
      slice_index_or (cond v [] ts) j one ≡ low → slice_index_or (cond v [] us) j one ≡ low
  longer_either true j ts us g e = e
  longer_either false j ts us g e = g e

  -- a letter of fewer slots is one of more
  string_longer : (k n j : ℕ) (c : W.Cursor) (s : D.S) → k ≤ n →
      slice_index_or (string W D k c s) j one ≡ low → slice_index_or (string W D n c s) j one ≡ low
  string_longer zero n zero c s h e = cc
  string_longer zero n (suc j) c s h e = cc
  string_longer (suc k) zero j c s h e = absurd (omega arith)
  string_longer (suc k) (suc n) zero c s h e = e
  string_longer (suc k) (suc n) (suc j) c s h e =
      let u = after D (W.symbol c) s in
      let q = W.next c (heard D (W.symbol c) s) in
      longer_either (ends_with (W.symbol c)) j (string W D k q u) (string W D n q u)
      (λ z. string_longer k n j q u (omega arith) z) e

-- letters and levels
-- a level 0 stands within the levels
low_there : (ls : List Bool) (i : ℕ) → slice_index_or ls i true ≡ false → i < length ls
low_there [] i e = cc
low_there (v ∷ ls) zero e = omega arith
low_there (v ∷ ls) (suc i) e = let z = low_there ls i e in omega arith

-- a letter 0 within the levels is a level 0, and so is one before the stop
low_level : (ls : List Bool) (us : List Letter) (i : ℕ) → i < length ls →
    slice_index_or (map bit_letter ls ++ us) i one ≡ low → slice_index_or ls i true ≡ false
low_level [] us i h e = absurd (omega arith)
low_level (v ∷ ls) us zero h e = grind (arith, e)
low_level (v ∷ ls) us (suc i) h e = low_level ls us i (omega arith) e

low_before_stop : (ls : List Bool) (i : ℕ) →
    slice_index_or (map bit_letter ls ++ (stop ∷ [])) i one ≡ low → slice_index_or ls i true ≡ false
low_before_stop [] zero e = cc
low_before_stop [] (suc i) e = cc
low_before_stop (v ∷ ls) zero e = grind (arith, e)
low_before_stop (v ∷ ls) (suc i) e = low_before_stop ls i e

-- the letters behind a repeated start
past_restart : (ls : List Bool) (us : List Letter) (i n : ℕ) → n ≡ suc (length ls + i) →
    slice_index_or (map bit_letter ls ++ (restart ∷ us)) n one ≡ slice_index_or us i one
past_restart [] us i zero h = absurd (omega arith)
past_restart [] us i (suc n) h = let z : n ≡ i = omega arith in ap (λ m. slice_index_or us m one) z
past_restart (v ∷ ls) us i zero h = absurd (omega arith)
past_restart (v ∷ ls) us i (suc n) h = past_restart ls us i n (omega arith)

writes_within : (b : BodyModel) → body_writes b ≤ body_size b
writes_within (writes xs) = omega arith
writes_within (reads n) = omega arith

-- nine levels further on, a byte and its acknowledge
abbrev past_byte : ℕ → ℕ
past_byte k = suc (suc (suc (suc (suc (suc (suc (suc (suc k))))))))

abbrev leg : ℕ → BodyModel → LegModel
leg a b = record { address = a; body = b }

-- the cursor at the start of a leg, where leg o may follow and these bytes are read already
abbrev leg_begun : LegModel → Option LegModel → ℕ → List ℕ → CursorModel
leg_begun g o l ys = cursor_at (in_leg g o 0 0) (notes l ys 0 Done)

module _ (ds : List Behaviour) where
  -- at most n levels, and n where the leg is done
  record Long (n : ℕ) (r : LegResult ds) : Type 0 where
    pub most : length r.levels ≤ n
    pub all : r.kind ≡ Done → length r.levels ≡ n

  longer_by : (n x : ℕ) (r s : LegResult ds) (t : Bool) → s.levels ≡ [] → (s.kind ≡ Done → ⊥) →
      Long n r → Long (9 + n) (took ds x r s t)
  longer_by n x r s t p q h = record { most = grind (arith, h.most, p); all = λ k. grind (arith, h.all, p, q, k) }

  write_long : (l : ℕ) (xs : List ℕ) (n : ℕ) (e : Bank DeviceInLeg ds) → Long (9 * length xs) (write_result ds l xs n e)
  write_long l [] n e = record { most = omega arith; all = λ k. refl }
  write_long l (x ∷ xs) n e =
      let w = put_to_all ds x e in
      let r = write_result ds l xs (suc n) w in
      let s = leg_end ds (Refused (record { leg = l; byte = n })) w in
      let m : 9 + 9 * length xs ≡ 9 * suc (length xs) = omega arith in
      subst (λ k. Long k (took ds x r s (any_in ds w))) m
      (longer_by (9 * length xs) x r s (any_in ds w) refl (λ k. cc) (write_long l xs (suc n) w))

  read_long : (n : ℕ) (e : Bank DeviceInLeg ds) → Long (9 * n) (read_result ds n e)
  read_long zero e = record { most = omega arith; all = λ k. refl }
  read_long (suc n) e =
      let h = read_long n (bank_map device_after_take ds e) in
      let q = h.most in
      record { most = omega arith; all = λ k. let z = h.all k in omega arith }

  body_long : (l : ℕ) (b : BodyModel) (e : Bank DeviceInLeg ds) → Long (9 * body_size b) (body_result ds l b e)
  body_long l (writes xs) e = write_long l xs 0 e
  body_long l (reads n) e = read_long n e

  leg_long : (l : ℕ) (g : LegModel) (d : Bank AddressedDevice ds) →
      Long (9 * suc (body_size g.body)) (leg_result ds l g d)
  leg_long l g d =
      let e = called_for ds g.address (body_direction g.body) d in
      let s = leg_end ds (NoAnswer (record { leg = l })) e in
      let m : 9 + 9 * body_size g.body ≡ 9 * suc (body_size g.body) = omega arith in
      subst (λ k. Long k (leg_result ds l g d)) m
      (longer_by (9 * body_size g.body) (address_byte g.address g.body) (body_result ds l g.body e) s (any_in ds e)
      refl (λ k. cc) (body_long l g.body e))

  abbrev E : Side
  E = ports_side ds

  abbrev plays : Bank PortModel ds → List Bool → Bank PortModel ds
  plays s bs = play transfers E s bs

  -- the ports before a byte that is written, before the acknowledge of a byte, and before the call of a leg
  abbrev writes_on : Bank DeviceInLeg ds → Bank PortModel ds
  writes_on w = bank_map (writing_at 0 0) ds w

  abbrev answers : Direction → Bank DeviceInLeg ds → Bank PortModel ds
  answers r w = bank_map (acknowledging_at r) ds w

  abbrev starts : Bank AddressedDevice ds → Bank PortModel ds
  starts d = bank_map (addressing_at 0 0) ds d

  -- the bits of a written byte
  bits_put : (x : ℕ) (w : Bank DeviceInLeg ds) → x < 256 →
      plays (writes_on w) (low_bits 8 x []) ≡ answers Write (put_to_all ds x w)
  bits_put x w h =
      let u = answers Write (put_to_all ds x w) in
      let c = cursor_at (in_leg (write_leg 0 (x ∷ [])) None 1 0) (notes 0 [] 0 Done) in
      plays_to transfers E (low_bits 8 x []) c (writes_on w) u
      (written_plays ds None (λ q v. v ≡ u) 0 (x ∷ []) 0 x (notes 0 [] 0 Done) w [] refl h refl)

  -- and its acknowledge
  byte_put : (x : ℕ) (w : Bank DeviceInLeg ds) → x < 256 →
      plays (writes_on w) (byte_levels x false) ≡ writes_on (put_to_all ds x w)
  byte_put x w h = play_on transfers E (low_bits 8 x []) (false ∷ []) (writes_on w)
      ∙ (ap (λ u. E.bit u false) (bits_put x w h) ∙ write_on ds (put_to_all ds x w) false)

  leg_called : (a : ℕ) (b : BodyModel) (d : Bank AddressedDevice ds) → a < 128 →
      plays (starts d) (byte_levels (address_byte a b) false) ≡ ready ds b (called_for ds a (body_direction b) d)
  leg_called a b d h =
      let x = address_byte a b in
      let e = called_for ds a (body_direction b) d in
      let u = answers (body_direction b) e in
      let z : plays (starts d) (low_bits 8 x []) ≡ u =
      plays_to transfers E (low_bits 8 x []) (leg_begun (leg a b) None 0 []) (starts d) u
      (address_plays ds None (λ c w. w ≡ u) (leg a b) x (notes 0 [] 0 Done) d [] (calls a b h) refl) in
      play_on transfers E (low_bits 8 x []) (false ∷ []) (starts d) ∙ (ap (λ w. E.bit w false) z ∙ gets_ready ds b e)

  -- the levels after the acknowledge of a byte that somebody took
  after_bits : (x m : ℕ) (r s : LegResult ds) (t : Bool) (p q u : Bank PortModel ds) → t ≡ true →
      plays p (byte_levels x false) ≡ q → plays q (take m r.levels) ≡ u →
      plays p (take (past_byte m) (took ds x r s t).levels) ≡ u
  after_bits x m r s t p q u e f h = grind (arith, e, f, h)

  someone_took : (x : ℕ) (r s : LegResult ds) (t : Bool) (k : ℕ) → s.levels ≡ [] →
      slice_index_or (took ds x r s t).levels (past_byte k) true ≡ false → t ≡ true
  someone_took x r s t k e h = grind arith

  -- after these levels somebody of these devices is in, and each port is ready for what follows
  abbrev GoesOn : BodyModel → Bank PortModel ds → List Bool → Bank DeviceInLeg ds → Type 0
  GoesOn b p ls w = (any_in ds w ≡ true) × (plays p ls ≡ ready ds b w)

  put_played : (l : ℕ) (xs : List ℕ) (n : ℕ) (e : Bank DeviceInLeg ds) (y : ℕ) → IsOctets xs → y < length xs →
      let ls = (write_result ds l xs n e).levels in
      slice_index_or ls (9 * y + 8) true ≡ false →
      GoesOn (writes xs) (writes_on e) (take (suc (9 * y + 8)) ls) (devices_after_puts ds (take (suc y) xs) e)
  put_played l [] n e y o h q = absurd (omega arith)
  put_played l (x ∷ xs) n e zero o h q =
      let w = put_to_all ds x e in
      let r = write_result ds l xs (suc n) w in
      let s = leg_end ds (Refused (record { leg = l; byte = n })) w in
      let t : any_in ds w ≡ true = ninth ds x r s (any_in ds w) q in
      (t, after_bits x 0 r s (any_in ds w) (writes_on e) (writes_on w) (writes_on w) t (byte_put x e (o 0)) refl)
  put_played l (x ∷ xs) n e (suc y) o h q =
      let w = put_to_all ds x e in
      let t = any_in ds w in
      let r = write_result ds l xs (suc n) w in
      let s = leg_end ds (Refused (record { leg = l; byte = n })) w in
      let ls = (took ds x r s t).levels in
      let p : slice_index_or ls (past_byte (9 * y + 8)) true ≡ false = rw (nine y) at q in
      let z = put_played l xs (suc n) w y (λ j. o (suc j)) (omega arith) (later ds x r s t (9 * y + 8) refl p) in (
        z.0,
        ap (λ m. plays (writes_on e) (take (suc m) ls)) (nine y)
            ∙ after_bits x (suc (9 * y + 8)) r s t (writes_on e) (writes_on w)
            (writes_on (devices_after_puts ds (take (suc y) xs) w))
            (someone_took x r s t (9 * y + 8) refl p) (byte_put x e (o 0)) z.1,
      )

  call_played : (l a : ℕ) (b : BodyModel) (d : Bank AddressedDevice ds) → a < 128 →
      let ls = (leg_result ds l (leg a b) d).levels in
      slice_index_or ls 8 true ≡ false → GoesOn b (starts d) (take 9 ls) (called_for ds a (body_direction b) d)
  call_played l a b d h q =
      let e = called_for ds a (body_direction b) d in
      let r = body_result ds l b e in
      let s = leg_end ds (NoAnswer (record { leg = l })) e in
      let x = address_byte a b in
      let t : any_in ds e ≡ true = ninth ds x r s (any_in ds e) q in
      (t, after_bits x 0 r s (any_in ds e) (starts d) (ready ds b e) (ready ds b e) t (leg_called a b d h) refl)

  -- the devices in a leg after its first m bytes
  abbrev after_first : BodyModel → ℕ → Bank DeviceInLeg ds → Bank DeviceInLeg ds
  after_first (writes xs) m e = devices_after_puts ds (take m xs) e
  after_first (reads n) m e = e

  abbrev pub in_leg_after : LegModel → ℕ → Bank AddressedDevice ds → Bank DeviceInLeg ds
  in_leg_after g m d = after_first g.body m (called_for ds g.address (body_direction g.body) d)

  leg_played : (l a : ℕ) (b : BodyModel) (d : Bank AddressedDevice ds) (m : ℕ) →
      a < 128 → IsLegalBody b → m ≤ body_writes b →
      let ls = (leg_result ds l (leg a b) d).levels in
      slice_index_or ls (9 * m + 8) true ≡ false →
      GoesOn b (starts d) (take (suc (9 * m + 8)) ls) (in_leg_after (leg a b) m d)
  leg_played l a (writes xs) d zero n o h q = call_played l a (writes xs) d n q
  leg_played l a (writes xs) d (suc y) n o h q =
      let e = called_for ds a Write d in
      let t = any_in ds e in
      let r = write_result ds l xs 0 e in
      let s = leg_end ds (NoAnswer (record { leg = l })) e in
      let ls = (took ds (a * 2) r s t).levels in
      let p : slice_index_or ls (past_byte (9 * y + 8)) true ≡ false = rw (nine y) at q in
      let z = put_played l xs 0 e y o.0 (omega arith) (later ds (a * 2) r s t (9 * y + 8) refl p) in (
        z.0,
        ap (λ m. plays (starts d) (take (suc m) ls)) (nine y)
            ∙ after_bits (a * 2) (suc (9 * y + 8)) r s t (starts d) (writes_on e)
            (writes_on (devices_after_puts ds (take (suc y) xs) e))
            (someone_took (a * 2) r s t (9 * y + 8) refl p) (leg_called a (writes xs) d n) z.1,
      )
  leg_played l a (reads n) d zero k o h q = call_played l a (reads n) d k q
  leg_played l a (reads n) d (suc y) k o h q = absurd (omega arith)

  abbrev up_to : ℕ → CursorModel → Bank PortModel ds → Bank PortModel ds
  up_to m c s = last transfers E m c s

  -- after j slots and the acknowledge the ports are those of devices that were called for leg g and given its first m
  -- bytes, somebody still in
  pub record HasAnswered (j : ℕ) (c : CursorModel) (s : Bank PortModel ds) (g : LegModel) (m : ℕ) : Type 0 where
    pub before : Bank AddressedDevice ds
    pub some : any_in ds (in_leg_after g m before) ≡ true
    pub then : up_to (suc j) c s ≡ ready ds g.body (in_leg_after g m before)

  -- some slots of a leg
  slots_of_leg : (g : LegModel) (l : ℕ) (o : Option LegModel) (ys : List ℕ) (d : Bank AddressedDevice ds) (m : ℕ) →
      IsLegalLeg g →
      let ls = (leg_result ds l g d).levels in
      m ≤ length ls → up_to m (leg_begun g o l ys) (starts d) ≡ plays (starts d) (take m ls)
  slots_of_leg g l o ys d m h n =
      last_in transfers E m (leg_result ds l g d).levels (λ c u. Unit {0}) (leg_begun g o l ys) (starts d) n
      (leg_plays ds o (λ c u. Unit {0}) g l ys d h (λ u q. tt))

  leg_answered : (l : ℕ) (g : LegModel) (o : Option LegModel) (ys : List ℕ) (d : Bank AddressedDevice ds) (m : ℕ) →
      IsLegalLeg g → m ≤ body_writes g.body → slice_index_or (leg_result ds l g d).levels (9 * m + 8) true ≡ false →
      HasAnswered (9 * m + 8) (leg_begun g o l ys) (starts d) g m
  leg_answered l g o ys d m f h q =
      let n = low_there (leg_result ds l g d).levels (9 * m + 8) q in
      let z = leg_played l g.address g.body d m (omega (arith, f.most)) f.within h q in
      record { before = d; some = z.0; then = slots_of_leg g l o ys d (suc (9 * m + 8)) f (omega arith) ∙ z.1 }

  -- the devices after a leg
  abbrev pub devices_after_leg : LegResult ds → Bank AddressedDevice ds
  devices_after_leg r = bank_map device_after_leg ds r.devices

  -- leg 0
  first_answered : (g : LegModel) (o : Option LegModel) (d : Bank AddressedDevice ds) (m : ℕ) →
      IsLegalLeg g → m ≤ body_writes g.body →
      let r = leg_result ds 0 g d in
      (k : OutcomeKind) → r.kind ≡ k → slice_index_or (result_after_leg ds r k o).letters (9 * m + 8) one ≡ low →
      HasAnswered (9 * m + 8) (leg_begun g o 0 []) (starts d) g m
  first_answered g o d m f h (NoAnswer p) e q =
      leg_answered 0 g o [] d m f h (low_before_stop (leg_result ds 0 g d).levels (9 * m + 8) q)
  first_answered g o d m f h (Refused p) e q =
      leg_answered 0 g o [] d m f h (low_before_stop (leg_result ds 0 g d).levels (9 * m + 8) q)
  first_answered g None d m f h Done e q =
      leg_answered 0 g None [] d m f h (low_before_stop (leg_result ds 0 g d).levels (9 * m + 8) q)
  first_answered g (Some i) d m f h Done e q =
      let r = leg_result ds 0 g d in
      let z = (leg_long 0 g d).all e in
      let s = leg_result ds 1 i (devices_after_leg r) in
      let u = writes_within g.body in
      let rest = restart ∷ (map bit_letter s.levels ++ (stop ∷ [])) in
      leg_answered 0 g (Some i) [] d m f h (low_level r.levels rest (9 * m + 8) (omega arith) q)

  -- a leg, the repeated start, and some slots of the next
  past_leg : (g f : LegModel) (d : Bank AddressedDevice ds) (m n : ℕ) → IsLegalLeg g →
      let r = leg_result ds 0 g d in
      r.kind ≡ Done → n ≡ length r.levels + suc m →
      up_to n (leg_begun g (Some f) 0 []) (starts d) ≡
      up_to m (leg_begun f None 1 r.bytes) (starts (devices_after_leg r))
  past_leg g f d m n h k e =
      let r = leg_result ds 0 g d in
      let c = leg_begun f None 1 r.bytes in
      let v = up_to m c (starts (devices_after_leg r)) in
      last_past transfers E (suc m) n r.levels (leg_begun g (Some f) 0 []) (starts d) v e
      (leg_plays ds (Some f) (λ c u. up_to (suc m) c u ≡ v) g 0 [] d h
      (λ u q. subst (λ z. up_to (suc m) (closing z (Some f) (notes 0 r.bytes 0 z)) u ≡ v) (sym k)
      (ap (up_to m c) q.start)))

  -- where the acknowledge stands in leg 1 behind leg g
  abbrev second_place : LegModel → ℕ → ℕ
  second_place g m = 9 * suc (body_size g.body) + suc (9 * m + 8)

  -- a leg that is not done has no letter 0 so late
  too_late : (g : LegModel) (d : Bank AddressedDevice ds) (m : ℕ) → let r = leg_result ds 0 g d in
      slice_index_or (map bit_letter r.levels ++ (stop ∷ [])) (second_place g m) one ≡ low → ⊥
  too_late g d m q =
      let r = leg_result ds 0 g d in
      let z = (leg_long 0 g d).most in
      let u = low_there r.levels (second_place g m) (low_before_stop r.levels (second_place g m) q) in
      omega arith

  -- leg 1
  second_answered : (g i : LegModel) (d : Bank AddressedDevice ds) (m : ℕ) →
      IsLegalLeg g → IsLegalLeg i → m ≤ body_writes i.body →
      let r = leg_result ds 0 g d in
      let n = second_place g m in
      (k : OutcomeKind) → r.kind ≡ k → slice_index_or (result_after_leg ds r k (Some i)).letters n one ≡ low →
      HasAnswered n (leg_begun g (Some i) 0 []) (starts d) i m
  second_answered g i d m j f h (NoAnswer p) e q = absurd (too_late g d m q)
  second_answered g i d m j f h (Refused p) e q = absurd (too_late g d m q)
  second_answered g i d m j f h Done e q =
      let r = leg_result ds 0 g d in
      let s = leg_result ds 1 i (devices_after_leg r) in
      let n = second_place g m in
      let z = (leg_long 0 g d).all e in
      let rest = map bit_letter s.levels ++ (stop ∷ []) in
      let u = leg_answered 1 i None r.bytes (devices_after_leg r) m f h
      (low_before_stop s.levels (9 * m + 8) (sym (past_restart r.levels rest (9 * m + 8) n (omega arith)) ∙ q)) in
      record {
        before = u.before;
        some = u.some;
        then = past_leg g i d (suc (9 * m + 8)) (suc n) j e (omega arith) ∙ u.then;
      }

  transfer_answered : (t : TransferModel) (d : Bank AddressedDevice ds) (k m : ℕ) (g : LegModel) →
      IsLegal t → leg_of t k ≡ Some g → m ≤ body_writes g.body →
      slice_index_or (transfer_result ds t d).letters (acknowledge_at t k m) one ≡ low →
      HasAnswered (acknowledge_at t k m) (new_cursor t) (starts d) g m
  transfer_answered t d zero m g l e h q = let z : t.first ≡ g = cc in
      subst (λ w. IsLegalLeg w →
      slice_index_or (transfer_result ds (record t { first = w }) d).letters (9 * m + 8) one ≡ low →
      HasAnswered (9 * m + 8) (leg_begun w t.second 0 []) (starts d) g m)
      (sym z) (λ f. first_answered g t.second d m f h (leg_result ds 0 g d).kind refl) l.first_leg q
  transfer_answered t d (suc zero) m g l e h q = let n = second_place t.first m in
      subst (λ o. IsLegalSecond o →
      slice_index_or (transfer_result ds (record t { second = o }) d).letters n one ≡ low →
      HasAnswered n (leg_begun t.first o 0 []) (starts d) g m)
      (sym e) (λ f. second_answered t.first g d m l.first_leg f h (leg_result ds 0 t.first d).kind refl) l.second_leg q
  transfer_answered t d (suc (suc k)) m g l e h q = cc

  -- within some slots a letter is the carried string's
  pub low_carried : (t : TransferModel) (d : Bank AddressedDevice ds) (i j : ℕ) → IsLegal t →
      slice_index_or (string transfers E i (new_cursor t) (opened_ports ds d)) j one ≡ low →
      slice_index_or (transfer_result ds t d).letters j one ≡ low
  low_carried t d i j g q =
      let n = i + slots_left (new_cursor t) in
      let z = string_longer transfers E i n j (new_cursor t) (opened_ports ds d) (omega arith) q in
      sym (ap (λ l. slice_index_or l j one) (carried_alone ds t d n g (omega arith)).same_letters) ∙ z

  pub answered : (t : TransferModel) (d : Bank AddressedDevice ds) (k m : ℕ) (g : LegModel) →
      IsLegal t → leg_of t k ≡ Some g → m ≤ body_writes g.body →
      slice_index_or (transfer_result ds t d).letters (acknowledge_at t k m) one ≡ low →
      HasAnswered (acknowledge_at t k m) (new_cursor t) (opened_ports ds d) g m
  answered t d k m g l e h q =
      subst (λ s. HasAnswered (acknowledge_at t k m) (new_cursor t) s g m) (sym (opened_is ds d))
      (transfer_answered t d k m g l e h q)
