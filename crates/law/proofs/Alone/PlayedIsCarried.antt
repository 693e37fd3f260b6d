-- A transfer played bit by bit is the transfer carried byte by byte.
use Rattle.std.proofs.Common.{◌≡◌, ℕ, ◌≤◌, List, [], ◌∷◌, ◌++◌, map, Some, None}
use Rattle.std.proofs.Common.{Option, sym, refl, ap, ◌∙◌, subst, le_refl, arith}
use Rattle.transfer.specs.declared.outcome.OutcomeKind.{OutcomeKind}
use Rattle.transfer.specs.declared.outcome.OutcomeKind.TheVariants.{Done, NoAnswer, Refused}
use Rattle.transfer.specs.Transfer.{TransferModel}
use Rattle.transfer.specs.Leg.{LegModel}
use Rattle.device.specs.Device.{Behaviour}
use Rattle.law.specs.Bank.{Bank, bank_map}
use Rattle.law.specs.TransferResult.{AddressedDevice, DeviceInLeg, device_after_leg, leg_result, TransferResult}
use Rattle.law.specs.TransferResult.{result_at_stop, result_after_leg, transfer_result}
use Rattle.master.specs.Cursor.{at_end, at_restart, in_leg, Notes, CursorModel}
use Rattle.master.specs.Cursor.{cursor_at, new_cursor, outcome_of}
use Rattle.port.specs.Port.{PortModel}
use Rattle.master.specs.Script.{transfers}
use Rattle.law.specs.Letter.{Letter, stop, restart, bit_letter}
use Rattle.transfer.specs.Legal.{IsLegalLeg, IsLegalSecond, IsLegal}
use Rattle.law.proofs.FarSide.{string, last, final, QuietFor}
use Rattle.law.proofs.Alone.LegBitByBit.{notes, closing, leg_plays}
use Rattle.law.proofs.Alone.PortsWithinByte.{addressing_at, Rests, opened_is}
use Rattle.law.proofs.Alone.PortsAsSide.{ports_side, idle_ports}
use Rattle.law.proofs.Alone.SlotsOfLevels.{Comes, through, restarts}
use Rattle.law.proofs.Alone.SlotsRunOut.{slots_left, some_left, fewer}

module _ (ds : List Behaviour) where
  -- the ports after the start of a turn that finds these devices
  abbrev pub opened_ports : Bank AddressedDevice ds → Bank PortModel ds
  opened_ports d = (ports_side ds).begin (idle_ports ds d)

  -- within n slots a transfer played bit by bit comes to what it comes to byte by byte
  pub record Agrees (t : TransferModel) (d : Bank AddressedDevice ds) (n : ℕ) : Type 0 where
    pub same_letters :
        string transfers (ports_side ds) n (new_cursor t) (opened_ports d) ≡ (transfer_result ds t d).letters
    pub same_outcome :
        outcome_of (final transfers (ports_side ds) n (new_cursor t) (opened_ports d)) ≡
        (transfer_result ds t d).outcome
    pub same_devices :
        last transfers (ports_side ds) n (new_cursor t) (opened_ports d) ≡
        idle_ports ds (transfer_result ds t d).devices
    -- the ports pull SDA only where the script listens
    pub quiet : (m : ℕ) → QuietFor transfers (ports_side ds) m (new_cursor t) (opened_ports d)

  abbrev Goes : CursorModel → Bank PortModel ds → List Letter → CursorModel → Bank PortModel ds → Type 0
  Goes c s ts e u = Comes transfers (ports_side ds) slots_left c s ts e u

  -- leg l, after the bytes ys of an earlier one, before its first bit
  abbrev in_call : LegModel → ℕ → Option LegModel → List ℕ → CursorModel
  in_call g l o ys = cursor_at (in_leg g o 0 0) (notes l ys 0 Done)

  -- the ports in the first bit of a leg that finds these devices
  abbrev called : Bank AddressedDevice ds → Bank PortModel ds
  called d = bank_map (addressing_at 0 0) ds d

  -- the ports after the stop that follows a leg with these devices
  abbrev after_stop : Bank DeviceInLeg ds → Bank PortModel ds
  after_stop e = idle_ports ds (bank_map device_after_leg ds e)

  stops_at : (n : Notes) (e : Bank DeviceInLeg ds) (u : Bank PortModel ds) → Rests ds u e →
      Goes (cursor_at at_end n) u (stop ∷ []) (cursor_at at_end n) (after_stop e)
  stops_at n e u h = grind arith

  -- with no leg to come the stop follows, whatever the leg came to
  last_leg : (k : OutcomeKind) (n : Notes) (e : Bank DeviceInLeg ds) (u : Bank PortModel ds) → Rests ds u e →
      Goes (closing k None n) u (stop ∷ []) (cursor_at at_end n) (after_stop e)
  last_leg k n e u h = grind arith

  -- leg l, after the bytes ys of an earlier one, and what follows it
  leg_goes : (g : LegModel) (l : ℕ) (o : Option LegModel) (ys : List ℕ) (d : Bank AddressedDevice ds)
      (ts : List Letter) (e : CursorModel) (v : Bank PortModel ds) → IsLegalLeg g →
      let r = leg_result ds l g d in
      ((u : Bank PortModel ds) → Rests ds u r.devices →
      Goes (closing r.kind o (notes l (ys ++ r.bytes) 0 r.kind)) u ts e v) →
      Goes (in_call g l o ys) (called d) (map bit_letter r.levels ++ ts) e v
  leg_goes g l o ys d ts e v h k =
      through transfers (ports_side ds) slots_left some_left fewer (leg_result ds l g d).levels
      (in_call g l o ys) (called d) ts e v
      (leg_plays ds o (λ c u. Goes c u ts e v) g l ys d h k)

  second_leg : (g : LegModel) (ys : List ℕ) (d : Bank AddressedDevice ds) → IsLegalLeg g →
      let r = leg_result ds 1 g d in
      Goes (in_call g 1 None ys) (called d) (map bit_letter r.levels ++ (stop ∷ []))
      (cursor_at at_end (notes 1 (ys ++ r.bytes) 0 r.kind)) (after_stop r.devices)
  second_leg g ys d h =
      let r = leg_result ds 1 g d in
      let n = notes 1 (ys ++ r.bytes) 0 r.kind in
      leg_goes g 1 None ys d (stop ∷ []) (cursor_at at_end n) (after_stop r.devices) h
      (λ u q. last_leg r.kind n r.devices u q)

  -- a repeated start, a leg and the stop
  goes_again : (g : LegModel) (ys : List ℕ) (e : Bank DeviceInLeg ds) (u : Bank PortModel ds) →
      IsLegalLeg g → Rests ds u e →
      let r = leg_result ds 1 g (bank_map device_after_leg ds e) in
      Goes (cursor_at (at_restart g) (notes 0 ys 0 Done)) u (restart ∷ (map bit_letter r.levels ++ (stop ∷ [])))
      (cursor_at at_end (notes 1 (ys ++ r.bytes) 0 r.kind)) (after_stop r.devices)
  goes_again g ys e u h q =
      let d = bank_map device_after_leg ds e in
      let r = leg_result ds 1 g d in
      restarts transfers (ports_side ds) slots_left some_left fewer
      (cursor_at (at_restart g) (notes 0 ys 0 Done)) u (map bit_letter r.levels ++ (stop ∷ []))
      (cursor_at at_end (notes 1 (ys ++ r.bytes) 0 r.kind)) (after_stop r.devices)
      refl q.quiet (rw q.start (second_leg g ys d h))

  -- a transfer played alone comes to this result
  record Plays (t : TransferModel) (d : Bank AddressedDevice ds) (r : TransferResult ds) : Type 0 where
    pub shows_stop : CursorModel
    pub says : outcome_of shows_stop ≡ r.outcome
    pub comes : Goes (new_cursor t) (called d) r.letters shows_stop (idle_ports ds r.devices)

  -- one leg and the stop
  stops_after : (t : TransferModel) (d : Bank AddressedDevice ds) (k : OutcomeKind) → IsLegalLeg t.first →
      (leg_result ds 0 t.first d).kind ≡ k → ((n : Notes) → closing k t.second n ≡ cursor_at at_end n) →
      Plays t d (result_at_stop ds [] (leg_result ds 0 t.first d))
  stops_after t d k h i c =
      let r = leg_result ds 0 t.first d in
      let n = notes 0 r.bytes 0 r.kind in
      let ended = cursor_at at_end n in
      let closes : closing r.kind t.second n ≡ ended = ap (λ z. closing z t.second n) i ∙ c n in
      record {
        shows_stop = ended;
        says = refl;
        comes = leg_goes t.first 0 t.second [] d (stop ∷ []) ended (after_stop r.devices) h
            (λ u q. subst (λ e. Goes e u (stop ∷ []) ended (after_stop r.devices)) (sym closes)
            (stops_at n r.devices u q));
      }

  plays : (g : LegModel) (o : Option LegModel) (d : Bank AddressedDevice ds) → IsLegalLeg g → IsLegalSecond o →
      (k : OutcomeKind) → (leg_result ds 0 g d).kind ≡ k →
      Plays (record { first = g; second = o }) d (result_after_leg ds (leg_result ds 0 g d) k o)
  plays g o d h j (NoAnswer p) i = stops_after (record { first = g; second = o }) d (NoAnswer p) h i (λ n. refl)
  plays g o d h j (Refused p) i = stops_after (record { first = g; second = o }) d (Refused p) h i (λ n. refl)
  plays g None d h j Done i = stops_after (record { first = g; second = None }) d Done h i (λ n. refl)
  plays g (Some f) d h j Done i =
      let r = leg_result ds 0 g d in
      let w = leg_result ds 1 f (bank_map device_after_leg ds r.devices) in
      let ended = cursor_at at_end (notes 1 (r.bytes ++ w.bytes) 0 w.kind) in
      let ts = restart ∷ (map bit_letter w.levels ++ (stop ∷ [])) in
      record {
        shows_stop = ended;
        says = refl;
        comes = leg_goes g 0 (Some f) [] d ts ended (after_stop w.devices) h
            (λ u q. subst (λ z. Goes (closing z (Some f) (notes 0 r.bytes 0 z)) u ts ended (after_stop w.devices))
            (sym i) (goes_again f r.bytes r.devices u j q));
      }

  pub carried_alone : (t : TransferModel) (d : Bank AddressedDevice ds) (n : ℕ) → IsLegal t →
      slots_left (new_cursor t) ≤ n → Agrees t d n
  carried_alone t d n h b =
      let p = plays t.first t.second d h.first_leg h.second_leg (leg_result ds 0 t.first d).kind refl in
      record {
        same_letters = rw (opened_is ds d) (p.comes.string_is n b);
        same_outcome = rw (opened_is ds d) (ap outcome_of (p.comes.final_is n b) ∙ p.says);
        same_devices = rw (opened_is ds d) (p.comes.last_is n b);
        quiet = λ m. rw (opened_is ds d) (p.comes.quiet m);
      }

  -- within the slots that its cursor has left at the most
  pub agrees : (t : TransferModel) (d : Bank AddressedDevice ds) → IsLegal t → Agrees t d (slots_left (new_cursor t))
  agrees t d h = carried_alone t d (slots_left (new_cursor t)) h (le_refl (slots_left (new_cursor t)))
