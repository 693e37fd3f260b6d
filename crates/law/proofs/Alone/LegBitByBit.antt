-- A leg played bit by bit is the leg carried byte by byte.
use Rattle.std.proofs.Common.{◌≡◌, ℕ, zero, suc, ◌+◌, ◌-◌, ◌*◌, ◌/◌, ◌%◌, ◌<◌, ◌≤◌, Bool, true, false}
use Rattle.std.proofs.Common.{cond, not, eqb, ltb, List, [], ◌∷◌, ◌++◌, length, drop, Option, sym}
use Rattle.std.proofs.Common.{refl, ap, ◌∙◌, subst, inl, inr, append_assoc, append-nil, arith}
use Rattle.std.specs.Prelude.{slice_index_or}
use lib.Dec.{eqb-suc-zero}
use Rattle.std.proofs.lemmas.Bool.{lt-ltb, le-ltb}
use Rattle.std.proofs.lemmas.Bool.Decides.{nat_tests}
use Rattle.transfer.specs.declared.leg.Direction.{Direction}
use Rattle.transfer.specs.declared.leg.Direction.TheVariants.{Write}
use Rattle.transfer.specs.declared.outcome.OutcomeKind.{OutcomeKind}
use Rattle.transfer.specs.declared.outcome.OutcomeKind.TheVariants.{Done, NoAnswer, Refused}
use Rattle.transfer.specs.Leg.{BodyModel, writes, reads, LegModel, body_direction, direction_of}
use Rattle.transfer.specs.Octets.{IsOctets}
use Rattle.device.specs.Device.{Behaviour}
use Rattle.master.specs.declared.symbol.Symbol.TheVariants.{Listen}
use Rattle.law.specs.Bank.{Bank, bank_map, bank_list}
use Rattle.law.specs.TransferResult.{AddressedDevice, DeviceInLeg, device_after_take, byte_given_by}
use Rattle.law.specs.TransferResult.{joint_byte, byte_levels, LegResult, leg_end, with_byte}
use Rattle.transfer.specs.Leg.{address_byte}
use Rattle.law.specs.TransferResult.{any_in, write_result, read_result, body_result, leg_result}
use Rattle.master.specs.Cursor.{in_leg, at_end, Notes, CursorModel, cursor_at, byte_of_leg, master_sends}
use Rattle.master.specs.Cursor.{symbol_in_leg, failure_kind, after_leg, after_byte, cursor_next}
use Rattle.wire.specs.ByteProgress.{bit_at, shift_in}
use Rattle.port.specs.Port.{PortModel}
use Rattle.master.specs.Script.{transfers}
use Rattle.master.specs.Symbol.{bit_symbol}
use Rattle.transfer.specs.Leg.{write_leg, read_leg}
use Rattle.transfer.specs.Legal.{IsLegalBody, IsLegalLeg}
use Rattle.law.proofs.Alone.PortsWithinByte.{addressing_at, writing_at, acknowledging_at, reading_at, out_at}
use Rattle.law.proofs.Alone.PortsWithinByte.{joined_byte, reading_pulls, called_for, put_to_all, address_more}
use Rattle.law.proofs.Alone.PortsWithinByte.{address_full, write_more, write_full, read_more, write_on, read_none}
use Rattle.law.proofs.Alone.PortsWithinByte.{ready, gets_ready, one_more, no_more, address_quiet, write_quiet}
use Rattle.law.proofs.Alone.PortsWithinByte.{acknowledge_pulls, eighth_quiet, Rests, rests_writing, rests_out}
use Rattle.law.proofs.Alone.PortsAsSide.{ports_side}
use Rattle.law.proofs.Alone.SlotsOfLevels.{Carries, low_bits, byte}

-- what a cursor in leg l notes
abbrev pub notes : ℕ → List ℕ → ℕ → OutcomeKind → Notes
notes l xs v k = record { leg = l; bytes = xs; value = v; kind = k }

abbrev leg : ℕ → BodyModel → LegModel
leg a b = record { address = a; body = b }

-- the cursor at the end of a leg that came to this
abbrev pub closing : OutcomeKind → Option LegModel → Notes → CursorModel
closing Done o n = after_leg o n
closing (NoAnswer p) o n = cursor_at at_end n
closing (Refused p) o n = cursor_at at_end n

not_not : (b : Bool) → not (not b) ≡ b
not_not true = refl
not_not false = refl

below : (k : ℕ) → ltb k 7 ≡ true → ltb k 8 ≡ true
below k e = grind (arith, nat_tests)

-- the direction that the last bit of a calling byte says
abbrev direction_in : ℕ → Direction
direction_in x = direction_of (eqb (x % 2) 1)

-- the byte that calls for a leg says its address and its direction
pub record Calls (g : LegModel) (x : ℕ) : Type 0 where
  pub sent_is : byte_of_leg g 0 ≡ x
  pub small : x < 256
  pub address_is : x / 2 ≡ g.address
  pub direction_is : direction_in x ≡ body_direction g.body

even_write : (a : ℕ) → eqb (a * 2 % 2) 1 ≡ false
even_write a = grind (arith, nat_tests)

odd_read : (a : ℕ) → eqb ((a * 2 + 1) % 2) 1 ≡ true
odd_read a = grind (arith, nat_tests)

-- and so does the byte that a transfer sends
pub calls : (a : ℕ) (b : BodyModel) → a < 128 → Calls (leg a b) (address_byte a b)
calls a (writes xs) h = record {
  sent_is = refl;
  small = omega arith;
  address_is = omega arith;
  direction_is = ap direction_of (even_write a);
}
calls a (reads n) h = record {
  sent_is = refl;
  small = omega arith;
  address_is = omega arith;
  direction_is = ap direction_of (odd_read a);
}

-- byte y of xs is x, and zs come after it
record Here (xs : List ℕ) (y x : ℕ) (zs : List ℕ) : Type 0 where
  pub found : slice_index_or xs y 0 ≡ x
  pub rest : drop (suc y) xs ≡ zs
  pub inside : y < length xs

here : (xs : List ℕ) (y x : ℕ) (zs : List ℕ) → drop y xs ≡ x ∷ zs → Here xs y x zs
here [] zero x zs e = cc
here [] (suc y) x zs e = cc
here (w ∷ ws) zero x zs e = record { found = cc; rest = cc; inside = omega arith }
here (w ∷ ws) (suc y) x zs e = grind (arith, here ws y)

-- y bytes or fewer
over : (xs : List ℕ) (y : ℕ) → drop y xs ≡ [] → length xs ≤ y
over [] y e = omega arith
over (w ∷ ws) zero e = cc
over (w ∷ ws) (suc y) e = omega (arith, over ws y e)

-- a leg with o to come, after which K is to hold
module _ (ds : List Behaviour) (o : Option LegModel) (K : CursorModel → Bank PortModel ds → Type 0) where
  -- these levels are carried, and then K
  abbrev Goes : CursorModel → Bank PortModel ds → List Bool → Type 0
  Goes c s bs = Carries transfers (ports_side ds) c s bs K

  -- at bit k of byte y of a leg, counted from the one that calls for it
  abbrev at_bit : LegModel → ℕ → ℕ → Notes → CursorModel
  at_bit g y k m = cursor_at (in_leg g o y k) m

  own_next : (g : LegModel) (y k : ℕ) (m : Notes) (b : Bool) → master_sends g y ≡ true → ltb k 8 ≡ true →
      cursor_next (at_bit g y k m) b ≡ at_bit g y (suc k) m
  own_next g y k m b a e = rw (e, a)

  own_shown : (g : LegModel) (y k : ℕ) → master_sends g y ≡ true → ltb k 8 ≡ true →
      symbol_in_leg g y k ≡ bit_symbol (bit_at (byte_of_leg g y) (7 - k))
  own_shown g y k a e = rw (a, e)

  -- the byte that calls for a leg, up to its acknowledge
  pub address_plays : (g : LegModel) (x : ℕ) (m : Notes) (d : Bank AddressedDevice ds) (bs : List Bool) → Calls g x →
      let r = body_direction g.body in
      Goes (at_bit g 0 8 m) (bank_map (acknowledging_at r) ds (called_for ds g.address r d)) bs →
      Goes (at_bit g 0 0 m) (bank_map (addressing_at 0 0) ds d) (low_bits 8 x bs)
  address_plays g x m d bs h r =
      byte transfers (ports_side ds) K x (λ k v. at_bit g 0 k m) (λ k v. bank_map (addressing_at k v) ds d)
      (λ v. bank_map (acknowledging_at (direction_in v)) ds (called_for ds (v / 2) (direction_in v) d))
      (λ k v e. inl (
        own_shown g 0 k refl e ∙ ap (λ z. bit_symbol (bit_at z (7 - k))) h.sent_is,
        address_quiet ds d k v,
      ))
      (λ k v b e. own_next g 0 k m b refl e)
      (λ k v b e. address_more ds d k v b e)
      (λ v b. address_full ds d v b)
      bs h.small (rw (h.direction_is, h.address_is) r)

  -- a byte that is written, up to its acknowledge
  pub written_plays : (a : ℕ) (xs : List ℕ) (y x : ℕ) (m : Notes) (d : Bank DeviceInLeg ds) (bs : List Bool) →
      slice_index_or xs y 0 ≡ x → x < 256 →
      Goes (at_bit (write_leg a xs) (suc y) 8 m) (bank_map (acknowledging_at Write) ds (put_to_all ds x d)) bs →
      Goes (at_bit (write_leg a xs) (suc y) 0 m) (bank_map (writing_at 0 0) ds d) (low_bits 8 x bs)
  written_plays a xs y x m d bs f h r =
      let g = write_leg a xs in
      byte transfers (ports_side ds) K x (λ k v. at_bit g (suc y) k m) (λ k v. bank_map (writing_at k v) ds d)
      (λ v. bank_map (acknowledging_at Write) ds (put_to_all ds v d))
      (λ k v e. inl (
        own_shown g (suc y) k refl e ∙ ap (λ z. bit_symbol (bit_at z (7 - k))) f,
        write_quiet ds d k v,
      ))
      (λ k v b e. own_next g (suc y) k m b refl e)
      (λ k v b e. write_more ds d k v b e)
      (λ v b. write_full ds d v b)
      bs h r

  -- a byte that is read, up to its acknowledge
  read_plays : (a n y l : ℕ) (xs : List ℕ) (d : Bank DeviceInLeg ds) (bs : List Bool) →
      let x = joint_byte (bank_list byte_given_by ds d) in
      Goes (at_bit (read_leg a n) (suc y) 8 (notes l xs x Done)) (bank_map (reading_at 8) ds d) bs →
      Goes (at_bit (read_leg a n) (suc y) 0 (notes l xs 0 Done)) (bank_map (reading_at 0) ds d) (low_bits 8 x bs)
  read_plays a n y l xs d bs r =
      byte transfers (ports_side ds) K x place (λ k v. bank_map (reading_at k) ds d)
      (λ v. bank_map (reading_at 8) ds d)
      (λ k v e. inr (listens k e, ap not (reading_pulls ds d k e) ∙ not_not (bit_at x (7 - k))))
      gathers
      (λ k v b e. read_more ds d k b (below k e))
      (λ v b. read_more ds d 7 b refl)
      bs (joined_byte (bank_list byte_given_by ds d)) r
    where
      x : ℕ
      x = joint_byte (bank_list byte_given_by ds d)

      place : ℕ → ℕ → CursorModel
      place k v = at_bit (read_leg a n) (suc y) k (notes l xs v Done)

      listens : (k : ℕ) → ltb k 8 ≡ true → symbol_in_leg (read_leg a n) (suc y) k ≡ Listen
      listens k e = rw e

      gathers : (k v : ℕ) (b : Bool) → ltb k 8 ≡ true → cursor_next (place k v) b ≡ place (suc k) (shift_in v b)
      gathers k v b e = rw e

  -- after A for a byte of its own the master goes on
  heard_yes : (g : LegModel) (y : ℕ) (m : Notes) (r : Direction) (e : Bank DeviceInLeg ds)
      (u : Bank PortModel ds) (bs : List Bool) →
      master_sends g y ≡ true → any_in ds e ≡ true →
      (ports_side ds).bit (bank_map (acknowledging_at r) ds e) false ≡ u →
      Goes (after_byte g o y m) u bs → Goes (at_bit g y 8 m) (bank_map (acknowledging_at r) ds e) (false ∷ bs)
  heard_yes g y m r e u bs a i q k = (inr (rw a, rw (acknowledge_pulls ds e r, i)), rw (a, q) k)

  -- and after N it ends
  heard_no : (g : LegModel) (y l : ℕ) (xs : List ℕ) (r : Direction) (e : Bank DeviceInLeg ds) (u : Bank PortModel ds) →
      master_sends g y ≡ true → any_in ds e ≡ false →
      (ports_side ds).bit (bank_map (acknowledging_at r) ds e) true ≡ u →
      K (cursor_at at_end (notes l xs 0 (failure_kind l y))) u →
      Goes (at_bit g y 8 (notes l xs 0 Done)) (bank_map (acknowledging_at r) ds e) (true ∷ [])
  heard_no g y l xs r e u a i q k = (inr (rw a, rw (acknowledge_pulls ds e r, i)), rw (a, q) k)

  -- K at the end of a leg that came to this
  abbrev Ends : ℕ → List ℕ → LegResult ds → Type 0
  Ends l xs r = (u : Bank PortModel ds) → Rests ds u r.devices →
      K (closing r.kind o (notes l (xs ++ r.bytes) 0 r.kind)) u

  -- leg l, a write of xs, after the bytes ys of an earlier leg
  module _ (a l : ℕ) (xs ys : List ℕ) where
    -- the bytes zs of it, from byte y on
    write_bytes : (zs : List ℕ) (y : ℕ) (d : Bank DeviceInLeg ds) →
        drop y xs ≡ zs → IsOctets zs → Ends l ys (write_result ds l zs y d) →
        Goes (after_byte (write_leg a xs) o y (notes l ys 0 Done)) (bank_map (writing_at 0 0) ds d)
        (write_result ds l zs y d).levels
    write_bytes [] y d e f k =
        rw (le-ltb y (length xs) (over xs y e))
        (rw append-nil at (k (bank_map (writing_at 0 0) ds d) (rests_writing ds d)))
    write_bytes (x ∷ zs) y d e f k =
        let r = here xs y x zs e in
        rw (lt-ltb y (length xs) r.inside) (go (any_in ds w) refl k (write_bytes zs (suc y) w r.rest (λ j. f (suc j))))
      where
        g : LegModel
        g = write_leg a xs

        m : Notes
        m = notes l ys 0 Done

        w : Bank DeviceInLeg ds
        w = put_to_all ds x d

        u : Bank PortModel ds
        u = bank_map (writing_at 0 0) ds w

        rest : LegResult ds
        rest = write_result ds l zs (suc y) w

        yes_so : LegResult ds
        yes_so = with_byte ds (byte_levels x false) [] rest

        no_so : LegResult ds
        no_so = with_byte ds (byte_levels x true) [] (leg_end ds (Refused (record { leg = l; byte = y })) w)

        go : (t : Bool) → any_in ds w ≡ t → Ends l ys (cond t yes_so no_so) →
            (Ends l ys rest → Goes (after_byte g o (suc y) m) u rest.levels) →
            Goes (at_bit g (suc y) 0 m) (bank_map (writing_at 0 0) ds d) (cond t yes_so no_so).levels
        go true i k ih = written_plays a xs y x m d (false ∷ rest.levels) (here xs y x zs e).found (f 0)
            (heard_yes g (suc y) m Write w u rest.levels refl i (write_on ds w false) (ih k))
        go false i k ih = written_plays a xs y x m d (true ∷ []) (here xs y x zs e).found (f 0)
            (heard_no g (suc y) l ys Write w u refl i (write_on ds w true)
            (rw append-nil at (k u (rests_writing ds w))))

  -- leg l, a read of c bytes: byte y, with n to come after it, and ys read so far
  read_bytes : (a c l : ℕ) (ys : List ℕ) (n y : ℕ) (d : Bank DeviceInLeg ds) → y + suc n ≡ c →
      Ends l ys (read_result ds (suc n) d) →
      Goes (at_bit (read_leg a c) (suc y) 0 (notes l ys 0 Done)) (bank_map (reading_at 0) ds d)
      (read_result ds (suc n) d).levels
  read_bytes a c l ys zero y d e k =
      let h : ltb (suc y) c ≡ false = le-ltb (suc y) c (omega arith) in
      let w = bank_map device_after_take ds d in
      read_plays a c y l ys d (true ∷ []) (
        inl (rw h, eighth_quiet ds d),
        rw (h, no_more ds d) (k (bank_map out_at ds w) (rests_out ds w)),
      )
  read_bytes a c l ys (suc n) y d e k =
      let h : ltb (suc y) c ≡ true = lt-ltb (suc y) c (omega arith) in
      let x = joint_byte (bank_list byte_given_by ds d) in
      let w = bank_map device_after_take ds d in
      let rest = (read_result ds (suc n) w).levels in
      let at_start = at_bit (read_leg a c) (suc y) 0 (notes l ys 0 Done) in
      subst (λ t. Goes at_start (bank_map (reading_at 0) ds d) (low_bits 8 x (t ∷ rest))) (sym (eqb-suc-zero n))
      (read_plays a c y l ys d (false ∷ rest) (
        inl (rw h, eighth_quiet ds d),
        rw (h, one_more ds d)
            (read_bytes a c l (ys ++ (x ∷ [])) n (suc y) w (omega arith) (λ u q. rw append_assoc (k u q))),
      ))

  -- after N for the call the ports wait for the start or stop that follows
  gets_none : (b : BodyModel) (e : Bank DeviceInLeg ds) →
      Rests ds ((ports_side ds).bit (bank_map (acknowledging_at (body_direction b)) ds e) true) e
  gets_none (writes xs) e = rw (write_on ds e true) (rests_writing ds e)
  gets_none (reads n) e = rw (read_none ds e) (rests_out ds e)

  body_plays : (a : ℕ) (b : BodyModel) (l : ℕ) (ys : List ℕ) (e : Bank DeviceInLeg ds) →
      IsLegalBody b → Ends l ys (body_result ds l b e) →
      Goes (after_byte (leg a b) o 0 (notes l ys 0 Done)) (ready ds b e) (body_result ds l b e).levels
  body_plays a (writes xs) l ys e f k = write_bytes a l xs ys xs 0 e refl f.0 k
  body_plays a (reads zero) l ys e f k = absurd (omega arith)
  body_plays a (reads (suc n)) l ys e f k =
      rw (lt-ltb 0 (suc n) (omega arith)) (read_bytes a (suc n) l ys n 0 e (omega arith) k)

  pub leg_plays : (g : LegModel) (l : ℕ) (ys : List ℕ) (d : Bank AddressedDevice ds) → IsLegalLeg g →
      Ends l ys (leg_result ds l g d) →
      Goes (at_bit g 0 0 (notes l ys 0 Done)) (bank_map (addressing_at 0 0) ds d) (leg_result ds l g d).levels
  leg_plays g l ys d f k = go (any_in ds e) refl k
    where
      r : Direction
      r = body_direction g.body

      e : Bank DeviceInLeg ds
      e = called_for ds g.address r d

      m : Notes
      m = notes l ys 0 Done

      x : ℕ
      x = address_byte g.address g.body

      says : Calls g x
      says = calls g.address g.body (omega (arith, f.most))

      rest : LegResult ds
      rest = body_result ds l g.body e

      yes_so : LegResult ds
      yes_so = with_byte ds (byte_levels x false) [] rest

      no_so : LegResult ds
      no_so = with_byte ds (byte_levels x true) [] (leg_end ds (NoAnswer (record { leg = l })) e)

      after_no : Bank PortModel ds
      after_no = (ports_side ds).bit (bank_map (acknowledging_at r) ds e) true

      go : (t : Bool) → any_in ds e ≡ t → Ends l ys (cond t yes_so no_so) →
          Goes (at_bit g 0 0 m) (bank_map (addressing_at 0 0) ds d) (cond t yes_so no_so).levels
      go true i k = address_plays g x m d (false ∷ rest.levels) says
          (heard_yes g 0 m r e (ready ds g.body e) rest.levels refl i (gets_ready ds g.body e)
          (body_plays g.address g.body l ys e f.within k))
      go false i k = address_plays g x m d (true ∷ []) says
          (heard_no g 0 l ys r e after_no refl i refl (rw append-nil at (k after_no (gets_none g.body e))))
