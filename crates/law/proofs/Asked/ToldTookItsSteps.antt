-- Who is told at a stop: the outcome is its own, and its steps are those that the devices take.
use Rattle.std.proofs.Common.{◌≡◌, ℕ, zero, suc, ◌+◌, Bool, true, false, cond, List, [], ◌∷◌, map, Some, None, Option}
use Rattle.std.proofs.Common.{sym, refl, ap, ◌∙◌, arith}
use Rattle.std.specs.Prelude.{slice_index_or}
use Rattle.std.proofs.lemmas.Option.{cond_some}
use Rattle.std.specs.Option.{option_map}
use Rattle.transfer.specs.Transfer.{TransferModel}
use Rattle.transfer.specs.Outcome.{OutcomeModel}
use Rattle.device.specs.Device.{Behaviour}
use Rattle.host.specs.Host.{HostBehaviour}
use Rattle.master.specs.declared.symbol.Symbol.{Symbol}
use Rattle.master.specs.Cursor.{new_cursor}
use Rattle.master.specs.Script.{Script, transfers}
use Rattle.wire.specs.declared.event.Event.{Event}
use Rattle.wire.specs.declared.event.Event.TheVariants.{Stop}
use Rattle.law.specs.Bank.{Bank, bank_list}
use Rattle.law.specs.Book.{Entry, outcome_if_least, outcomes_of_turn, told_at_stop, book_told, Turn, closed, opened}
use Rattle.law.specs.Book.{Book, least_result, devices_after, contender_results, book_after_stop, book_after}
use Rattle.law.specs.TransferResult.{AddressedDevice, TransferResult, transfer_result}
use Rattle.transfer.specs.Legal.{IsLegal}
use Rattle.law.specs.Letter.{Letter, zero as low, stop, restart, one, same_string}
use Rattle.law.proofs.FarSide.{Side, ends, letter, heard, after, string, last}
use Rattle.law.proofs.Alone.PlayedIsCarried.{opened_ports, carried_alone}
use Rattle.law.proofs.Alone.PortsAsSide.{ports_side}
use Rattle.law.proofs.Alone.SlotsRunOut.{slots_left}
use Rattle.law.proofs.LetterByRank.{same_of}
use Rattle.law.proofs.Machine.Arbitration.{at}
use Rattle.law.proofs.Bus.BookAsMachine.{contenders, contenders_legal, contests_of}
use Rattle.law.proofs.Bus.LeastStringLeads.{LegalIf, carry, carried_at, lead, lead_legal, least_is}
use Rattle.law.proofs.Bus.LawOfUse.{legal_at}
use Rattle.law.proofs.Asked.DeviceMaps.{idle_same}

-- the letter of a slot says what the side takes in it
module _ (D : Side) where
  abbrev taken_by : Letter → D.S → D.S
  taken_by low s = D.bit s false
  taken_by stop s = D.finish s
  taken_by restart s = D.begin s
  taken_by one s = D.bit s true

  abbrev last_letter : Letter → Bool
  last_letter low = false
  last_letter stop = true
  last_letter restart = false
  last_letter one = false

  after_is : (x : Symbol) (s : D.S) → after D x s ≡ taken_by (letter D x s) s
  after_is x s = grind arith

  ends_is : (x : Symbol) (s : D.S) → ends x ≡ last_letter (letter D x s)
  ends_is x s = grind arith

module _ (W : Script) (D : Side) where
  -- where both end alike and go on alike
  ends_both : (v w : Bool) (ts us : List Letter) (p q u r : D.S) → v ≡ w → p ≡ q →
      cond v [] ts ≡ cond w [] us → (ts ≡ us → u ≡ r) → cond v p u ≡ cond w q r
  ends_both v w ts us p q u r e f h k = grind (arith, k)

  -- two scripts that spell the same leave the side the same
  same_last : (n : ℕ) (c e : W.Cursor) (s : D.S) →
      string W D n c s ≡ string W D n e s → last W D n c s ≡ last W D n e s
  same_last zero c e s h = refl
  same_last (suc n) c e s h =
      let x = W.symbol c in
      let y = W.symbol e in
      let u = after D x s in
      let v = after D y s in
      let p = W.next c (heard D x s) in
      let q = W.next e (heard D y s) in
      let l : letter D x s ≡ letter D y s = cc in
      let t : cond (ends x) [] (string W D n p u) ≡ cond (ends y) [] (string W D n q v) = cc in
      let a : u ≡ v = after_is D x s ∙ (ap (λ k. taken_by D k s) l ∙ sym (after_is D y s)) in
      let d : ends x ≡ ends y = ends_is D x s ∙ (ap (last_letter D) l ∙ sym (ends_is D y s)) in
      ends_both (ends x) (ends y) (string W D n p u) (string W D n q v) u v (last W D n p u) (last W D n q v) d a t
      (λ k. ap (last W D n p) a ∙ same_last n p q v (ap (string W D n p) (sym a) ∙ k))

module _ (ds : List Behaviour) (d : Bank AddressedDevice ds) where
  abbrev alone : TransferModel → TransferResult ds
  alone t = transfer_result ds t d

  -- transfers with the same string leave the devices the same
  same_devices : (t u : TransferModel) → IsLegal t → IsLegal u →
      same_string (alone t).letters (alone u).letters ≡ true → (alone t).devices ≡ (alone u).devices
  same_devices t u j k h =
      let n = slots_left (new_cursor t) + slots_left (new_cursor u) in
      let a = carried_alone ds t d n j (omega arith) in
      let b = carried_alone ds u d n k (omega arith) in
      let letters = a.same_letters ∙ (same_of (alone t).letters (alone u).letters h ∙ sym b.same_letters) in
      idle_same ds (alone t).devices (alone u).devices
      (sym a.same_devices
      ∙ (same_last transfers (ports_side ds) n (new_cursor t) (new_cursor u) (opened_ports ds d) letters
      ∙ b.same_devices))

  -- where nobody is told
  nothing_at : (cs : List (Option (TransferResult ds))) (i : ℕ) →
      slice_index_or (map {B = Option OutcomeModel} (λ c. None) cs) i None ≡ None
  nothing_at [] i = refl
  nothing_at (c ∷ cs) zero = refl
  nothing_at (c ∷ cs) (suc i) = nothing_at cs i

  -- one that is told
  told_one : (best c : TransferResult ds) (o : OutcomeModel) → outcome_if_least ds best (Some c) ≡ Some o →
      (o ≡ c.outcome) × (same_string c.letters best.letters ≡ true)
  told_one best c o h = let z = cond_some (same_string c.letters best.letters) c.outcome o h in (sym z.1, z.0)

  -- whoever is told has the string of the best, and is told its own outcome
  record Won (q : Option (TransferResult ds)) (c : TransferResult ds) (o : OutcomeModel) : Type 0 where
    pub best : TransferResult ds
    pub leads : q ≡ Some best
    pub own : o ≡ c.outcome
    pub same : same_string c.letters best.letters ≡ true

  won : (q : Option (TransferResult ds)) (cs : List (Option (TransferResult ds))) (i : ℕ) (c : TransferResult ds)
      (o : OutcomeModel) → slice_index_or cs i None ≡ Some c →
      slice_index_or (outcomes_of_turn ds q cs) i None ≡ Some o →
      Won q c o
  won None cs i c o e h = let z = sym (nothing_at cs i) ∙ h in cc
  won (Some best) [] i c o e h = cc
  won (Some best) (x ∷ cs) zero c o e h =
      let z = told_one best c o (ap (outcome_if_least ds best) (sym e) ∙ h) in
      record { best = best; leads = refl; own = z.0; same = z.1 }
  won (Some best) (x ∷ cs) (suc i) c o e h = won (Some best) cs i c o e h

  -- the best is the result of a contender's transfer
  lead_of : (o : Option TransferModel) (best : TransferResult ds) → LegalIf o → option_map (carry ds d) o ≡ Some best →
      (u : TransferModel) × IsLegal u × (best ≡ alone u)
  lead_of None best k e = cc
  lead_of (Some u) best k e = (u, k, let z : alone u ≡ best = cc in sym z)

module _ (hs : List HostBehaviour) (ds : List Behaviour) where
  nobody_at : (gs : List HostBehaviour) (ps : Bank Entry gs) (i : ℕ) →
      slice_index_or (bank_list {X = Option OutcomeModel} (λ h x. None) gs ps) i None ≡ None
  nobody_at [] ps i = refl
  nobody_at (g ∷ gs) ps zero = refl
  nobody_at (g ∷ gs) ps (suc i) = nobody_at gs ps.1 i

  -- master i contends for transfer t
  module _ (b : Book hs ds) (i : ℕ) (t : TransferModel) (c : at (contenders hs b.entries) i ≡ Some t) where
    abbrev own : TransferResult ds
    own = transfer_result ds t b.devices

    abbrev results : List (Option (TransferResult ds))
    results = contender_results hs ds b

    legal : IsLegal t
    legal = legal_at (contenders hs b.entries) i t (contenders_legal hs b.entries) c

    contest : slice_index_or results i None ≡ Some own
    contest = ap (λ cs. slice_index_or cs i None) (contests_of hs ds b)
        ∙ carried_at ds b.devices (contenders hs b.entries) i t c

    -- only a stop that closes a turn tells
    stop_turn : (o : OutcomeModel) (v : Turn) → slice_index_or (told_at_stop hs ds b v) i None ≡ Some o → v ≡ opened
    stop_turn o opened h = refl
    stop_turn o closed h = let z = sym (nobody_at hs b.entries i) ∙ h in cc

    pub tells_at_stop : (o : OutcomeModel) (e : Event) → slice_index_or (book_told hs ds b e) i None ≡ Some o →
        (e ≡ Stop) × (b.turn ≡ opened)
    tells_at_stop o e h = grind (arith, h, nobody_at hs b.entries i)

    devices_then : (best : TransferResult ds) (e : Event) → e ≡ Stop → b.turn ≡ opened →
        least_result ds results ≡ Some best → (book_after hs ds b e).devices ≡ best.devices
    devices_then best e p v l = ap (λ x. (book_after hs ds b x).devices) p
        ∙ (ap (λ w. (book_after_stop hs ds b w).devices) v ∙ ap (λ q. devices_after ds q b.devices) l)

    module _ (o : OutcomeModel) (e : Event) (h : slice_index_or (book_told hs ds b e) i None ≡ Some o) where
      tells_won : Won ds b.devices (least_result ds results) own o
      tells_won =
          let z = tells_at_stop o e h in
          let open_then = ap (λ v. slice_index_or (told_at_stop hs ds b v) i None) z.1 in
          let stop_then = ap (λ x. slice_index_or (book_told hs ds b x) i None) z.0 in
          won ds b.devices (least_result ds results) results i own o contest (sym open_then ∙ (sym stop_then ∙ h))

      pub tells_own : o ≡ (transfer_result ds t b.devices).outcome
      tells_own = tells_won.own

      -- the devices after a stop are those after the transfer of whoever is told
      pub devices_won : (book_after hs ds b e).devices ≡ (transfer_result ds t b.devices).devices
      devices_won =
          let w = tells_won in
          let z = tells_at_stop o e h in
          let l = contenders hs b.entries in
          let k = contenders_legal hs b.entries in
          let leads = sym (least_is ds b.devices l k) ∙ (ap (least_result ds) (sym (contests_of hs ds b)) ∙ w.leads) in
          let u = lead_of ds b.devices (lead ds b.devices l) w.best (lead_legal ds b.devices l k) leads in
          devices_then w.best e z.0 z.1 w.leads
          ∙ (ap (λ c. c.devices) u.2
          ∙ sym (same_devices ds b.devices t u.0 legal u.1
          (ap (λ c. same_string own.letters c.letters) (sym u.2) ∙ w.same)))
