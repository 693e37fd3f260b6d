-- The law of what the ports asked of their devices in a turn holds over every use of a bus.
use Rattle.std.proofs.Common.{◌≡◌, ℕ, zero, suc, ◌+◌, ◌<◌, Bool, true, false, ◌⊎◌, List, [], ◌∷◌, ◌++◌, length}
use Rattle.std.proofs.Common.{length-append, Some, None, sym, refl, ap, ap₂, ◌∙◌, subst, inl, inr, arith}
use Rattle.std.proofs.lemmas.List.{get_or-append-add}
use Rattle.std.specs.Prelude.{slice_index_or}
use Rattle.transfer.specs.declared.outcome.OutcomeKind.TheVariants.{Done}
use Rattle.transfer.specs.Transfer.{TransferModel}
use Rattle.transfer.specs.Leg.{LegModel}
use Rattle.transfer.specs.Outcome.{OutcomeModel}
use Rattle.device.specs.Device.{Behaviour, Step}
use Rattle.host.specs.Host.{HostBehaviour}
use Rattle.master.specs.declared.mark.Mark.{Mark}
use Rattle.master.specs.declared.mark.Mark.TheVariants.{Quiet, Lost}
use Rattle.master.specs.Cursor.{new_cursor}
use Rattle.master.specs.Script.{transfers}
use Rattle.master.specs.Master.{HostedMaster}
use Rattle.port.specs.Port.{PortModel}
use Rattle.wire.specs.declared.event.Event.TheVariants.{Fall}
use Rattle.wire.specs.Wire.{signal, busy_after}
use Rattle.law.specs.AskedLaw.{all_noting_steps, all_nothing_noted, all_steps, steps_alone, leg_of, acknowledge_at}
use Rattle.law.specs.AskedLaw.{Acknowledged, AtSomePort, handed_over, called_before, read_before, all_at, JoinedFrom}
use Rattle.law.specs.AskedLaw.{addresses, Contends, StillIn, HearsA, AskedLaw, EveryAsked}
use Rattle.law.specs.Bank.{Bank, bank_map}
use Rattle.law.specs.Book.{opened, book_told, book_after}
use Rattle.law.specs.BusModel.{no_holds, levels_at, told_at, ClocksInRange}
use Rattle.law.specs.TransferResult.{AddressedDevice, TransferResult, transfer_result}
use Rattle.transfer.specs.Leg.{read_leg}
use Rattle.transfer.specs.Legal.{IsLegal}
use Rattle.law.specs.Letter.{Letter, zero as low, one}
use Rattle.law.specs.Monitor.{monitor_after_event, marked_after}
use Rattle.law.specs.Use.{Use, lists_appended, event_at, marks_of, monitor_with_event, steps_then, use_after_tick, use_after}
use Rattle.law.specs.Use.{new_use}
use Rattle.law.proofs.FarSide.{string, last}
use Rattle.law.proofs.Asked.ReportedHandedOver.{joined_alone, joined_as, reported_alone}
use Rattle.law.proofs.Alone.PortsAsSide.{unheld, ports_side}
use Rattle.law.proofs.Asked.RecordAfterA.{played_reached}
use Rattle.law.proofs.Alone.PlayedIsCarried.{opened_ports}
use Rattle.law.proofs.Asked.PointsOfUse.{SoFarAlone}
use Rattle.law.proofs.Asked.NotingBusAlongside.{ports_stay, Alongside, same_event, same_marks, same_told, asked_many}
use Rattle.law.proofs.Asked.NotingBusAlongside.{asked_noted, SideBySide, noting_use, side_by_side, beside}
use Rattle.law.proofs.Bus.BookAsMachine.{contenders, contenders_legal}
use Rattle.law.proofs.Machine.CellsOfTurn.{some_of}
use Rattle.law.proofs.Bus.LawOfUse.{legal_at}
use Rattle.law.proofs.Asked.DeviceMaps.{Morphisms, devices_at, port_addresses, device_addresses, same_addresses}
use Rattle.law.proofs.Asked.DeviceMaps.{devices_at_unheld, ports_to, devices_to, addresses_to, played_to, spelled_to}
use Rattle.law.proofs.Asked.DeviceMaps.{carried_devices, carried_outcome}
use Rattle.law.proofs.Asked.NotesAreAsks.{NotingDevices, NotingPorts, lists_appended_cancel, forgetting, after_these}
use Rattle.law.proofs.Asked.NotesAreAsks.{noted_by, length_noted, bare_unnoted, noted_again, noted_after}
use Rattle.law.proofs.Asked.NotesAreAsks.{noted_by_after, noted_unheld, same_holds}
use Rattle.law.proofs.Asked.NothingAskedAtRest.{nothing_at_rest}
use Rattle.law.proofs.Asked.ToldTookItsSteps.{tells_own, tells_at_stop, devices_won}

-- who is not marked before a tick and not in it is not marked after it
unmarked_after : (vs : List Bool) (ks : List Mark) (i : ℕ) → slice_index_or vs i false ≡ false →
    (slice_index_or ks i Quiet ≡ Lost → ⊥) → slice_index_or (marked_after vs ks) i false ≡ false
unmarked_after [] ks i e n = refl
unmarked_after (v ∷ vs) [] i e n = e
unmarked_after (v ∷ vs) (k ∷ ks) zero e n = grind (arith, e, n)
unmarked_after (v ∷ vs) (k ∷ ks) (suc i) e n = unmarked_after vs ks i e n

-- the letter behind these
last_low : (ts : List Letter) (n : ℕ) → length ts ≡ n → slice_index_or (ts ++ (low ∷ [])) n one ≡ low
last_low ts n e = let m : n ≡ length ts + 0 = omega arith in
    ap (λ i. slice_index_or (ts ++ (low ∷ [])) i one) m ∙ get_or-append-add ts (low ∷ []) 0 one

module _ (hs : List HostBehaviour) (ds : List Behaviour) where
  abbrev es : List Behaviour
  es = all_noting_steps ds

  -- the noting bus beside a bus, and its next tick
  module _ (y : Use hs es) (x : Use hs ds) (both : SideBySide hs ds y x (no_holds ds)) where
    abbrev s : Alongside hs ds y x
    s = both.alongside

    abbrev d : Bank AddressedDevice ds
    d = x.book.devices

    abbrev new : NotingDevices ds
    new = all_nothing_noted ds d

    abbrev then : Use hs es
    then = use_after_tick hs es y (same_holds ds (no_holds ds))

    -- the noting bus began the turn with what its book has noted
    abbrev before : List (List Step)
    before = all_steps ds y.book.devices

    abbrev after_before : Morphisms es es
    after_before = after_these ds y.book.devices

    noted_then : noted_by ds then.bus.ports ≡ lists_appended before (steps_then hs ds x)
    noted_then = asked_noted hs ds y x s (no_holds ds)

    again : devices_to after_before new ≡ y.book.devices
    again = ap (λ z. devices_to after_before (all_nothing_noted ds z)) (sym s.devices) ∙ noted_again ds y.book.devices

    -- so steps that it noted since are those asked
    cancelled : (ss : List (List Step)) → length ss ≡ length ds →
        lists_appended before ss ≡ lists_appended before (steps_then hs ds x) → ss ≡ steps_then hs ds x
    cancelled ss n e = let m = length_noted ds y.book.devices in
        lists_appended_cancel before ss (steps_then hs ds x) (n ∙ sym m) (asked_many hs ds y x s ∙ sym m) e

    contends_too : (i : ℕ) (t : TransferModel) → Contends hs ds x i t → Contends hs es y i t
    contends_too i t c = ap (λ b. slice_index_or (contenders hs b) i None) s.entries ∙ c

    legal : (i : ℕ) (t : TransferModel) → Contends hs ds x i t → IsLegal t
    legal i t c = legal_at (contenders hs x.book.entries) i t (contenders_legal hs x.book.entries) c

    tells_too : (i : ℕ) (o : OutcomeModel) → slice_index_or (told_at hs ds x.bus) i None ≡ Some o →
        slice_index_or (book_told hs es y.book (event_at hs es y.bus)) i None ≡ Some o
    tells_too i o h = ap (λ ts. slice_index_or ts i None) (sym both.noting_law_here.tick.tells ∙ same_told hs ds y x s)
        ∙ h

    -- whoever is told
    module _ (i : ℕ) (t : TransferModel) (c : Contends hs ds x i t) (o : OutcomeModel)
        (h : slice_index_or (told_at hs ds x.bus) i None ≡ Some o) where
      abbrev result : TransferResult es
      result = transfer_result es t new

      devices_then : devices_at es then.bus.ports ≡ devices_to after_before result.devices
      devices_then =
          let e = event_at hs es y.bus in
          let mine = contends_too i t c in
          let tells = tells_too i o h in
          let stops = (tells_at_stop hs es y.book i t mine o e tells).0 in
          both.noting_law_next.point.devices (ap (busy_after y.bus.wire.busy) stops)
          ∙ (devices_won hs es y.book i t mine o e tells
          ∙ (ap (λ z. (transfer_result es t z).devices) (sym again)
          ∙ carried_devices es es after_before t new (legal i t c)))

      once : steps_then hs ds x ≡ steps_alone ds t d
      once = sym (cancelled (steps_alone ds t d) (length_noted ds result.devices)
          (sym (noted_after ds y.book.devices result.devices) ∙ (ap (all_steps ds) (sym devices_then) ∙ noted_then)))

      own : o ≡ result.outcome
      own =
          let tells = ap (λ ts. slice_index_or ts i None) (sym both.law_here.tick.tells) ∙ h in
          tells_own hs ds x.book i t c o (event_at hs ds x.bus) tells
          ∙ (ap (λ q. (transfer_result ds t q).outcome) (sym (bare_unnoted ds d))
          ∙ carried_outcome es ds (forgetting ds) t new (legal i t c))

      reported : o.kind ≡ Done → (k a n : ℕ) → leg_of t k ≡ Some (read_leg a n) → (z : ℕ) → z < n →
          JoinedFrom (all_at z (handed_over a (called_before t k) (addresses hs ds x) (steps_then hs ds x)))
          (slice_index_or o.bytes (read_before t k + z) 0)
      reported done k a n e z f =
          let handed = λ (os : List ℕ) (rs : List (List Step)). all_at z (handed_over a (called_before t k) os rs) in
          let reports = λ (q : OutcomeModel). slice_index_or q.bytes (read_before t k + z) 0 in
          joined_as (handed (device_addresses ds d) (steps_alone ds t d))
          (handed (addresses hs ds x) (steps_then hs ds x))
          (reports result.outcome) (reports o) (ap₂ handed (sym s.placed) (sym once)) (ap reports (sym own))
          (reported_alone ds d a n z f t k (ap (λ q. q.kind) (sym own) ∙ done) e)

    addresses_then : port_addresses es then.bus.ports ≡ addresses hs ds x
    addresses_then = ports_stay es y.bus.ports (signal y.bus.wire (levels_at hs es y.bus)) (same_holds ds (no_holds ds))
        ∙ (sym (addresses_to (forgetting ds) y.bus.ports) ∙ ap (λ u. port_addresses ds u.ports) s.bus)

    addresses_unheld : (p : NotingPorts ds) → port_addresses es (bank_map unheld es p) ≡ port_addresses es p
    addresses_unheld p = same_addresses es (bank_map unheld es p)
        ∙ (ap (device_addresses es) (devices_at_unheld es p) ∙ sym (same_addresses es p))

    -- an A that is heard at a fall in an open turn
    module _ (t : TransferModel) (k : ℕ) (g : LegModel) (n : ℕ) (hears : HearsA hs ds x t k g n) where
      falls_too : event_at hs es y.bus ≡ Fall
      falls_too = same_event hs ds y x s ∙ hears.fall

      same_book : then.book ≡ y.book
      same_book = ap (book_after hs es y.book) falls_too

      turn_too : then.book.turn ≡ opened
      turn_too = ap (λ b. b.turn) same_book ∙ (s.turn ∙ hears.turn)

      -- what the monitor saw before it marks
      saw : (F : List Behaviour) (z : Use hs F) → z.book.turn ≡ opened → event_at hs F z.bus ≡ Fall →
          monitor_with_event hs F z.monitor z.book (event_at hs F z.bus) ≡ monitor_after_event z.monitor Fall
      saw F z o e = grind (arith, o, e)

      saw_too : monitor_with_event hs es y.monitor y.book (event_at hs es y.bus) ≡ monitor_after_event x.monitor Fall
      saw_too = saw es y (s.turn ∙ hears.turn) falls_too ∙ ap (λ w. monitor_after_event w Fall) s.monitor

      -- nobody is marked at a fall
      nobody_lost : (i : ℕ) → slice_index_or (marks_of hs ds x.bus) i Quiet ≡ Lost → ⊥
      nobody_lost i e =
          let fallen = ap (λ w. w.risen) (saw ds x hears.turn hears.fall) in
          let z : false ≡ true = sym fallen ∙ (both.law_here.tick.loses i e).risen in
          cc

      contends_then : (i : ℕ) (t : TransferModel) → Contends hs ds x i t → Contends hs es then i t
      contends_then i t c = ap (λ b. slice_index_or (contenders hs b.entries) i None) same_book ∙ contends_too i t c

      contended : (i : ℕ) (t : TransferModel) → Contends hs es then i t → Contends hs ds x i t
      contended i t c = ap (λ b. slice_index_or (contenders hs b) i None) (sym s.entries)
          ∙ (ap (λ b. slice_index_or (contenders hs b.entries) i None) (sym same_book) ∙ c)

      still_in : (i : ℕ) (t : TransferModel) → StillIn hs ds x i t → StillIn hs es then i t
      still_in i t (c, inl m) = (
        contends_then i t c,
        inl
            (ap (λ w. slice_index_or (marked_after w.marked (marks_of hs es y.bus)) i false) saw_too
            ∙ (ap (λ ks. slice_index_or (marked_after x.monitor.marked ks) i false) (same_marks hs ds y x s)
            ∙ unmarked_after x.monitor.marked (marks_of hs ds x.bus) i m (nobody_lost i))),
      )
      still_in i t (c, inr l) = (contends_then i t c, inr (λ j u e. l j u (contended j u e)))

      abbrev place : ℕ
      place = acknowledge_at t k n

      spelled : then.monitor.spelled ≡ hears.so_far ++ (low ∷ [])
      spelled = ap (λ w. w.spelled) (saw_too
          ∙ (sym (saw ds x hears.turn hears.fall) ∙ ap (monitor_with_event hs ds x.monitor x.book) hears.fall))
          ∙ hears.acknowledge

      spelled_long : length then.monitor.spelled ≡ suc place
      spelled_long = ap (λ l. length l) spelled
          ∙ (let z = length-append hears.so_far (low ∷ []) in let w = hears.place in omega arith)

      abbrev Answers : List ℕ → List (List Step) → Type 0
      Answers os rs = AtSomePort os rs g.address (Acknowledged g.body n)

      reached_by : IsLegal t → (then.monitor.spelled ≡ []) ⊎ SoFarAlone hs es then t →
          Answers (addresses hs ds x) (steps_then hs ds x)
      reached_by l (inl z) =
          let q : length then.monitor.spelled ≡ 0 = ap length z in
          let r = spelled_long in
          absurd (omega arith)
      reached_by l (inr f) =
          let m = f.slots_gone in
          let c = new_cursor t in
          let string_of = λ (q : NotingDevices ds). string transfers (ports_side es) m c (opened_ports es q) in
          let ports_of = λ (j : ℕ) (q : NotingDevices ds). last transfers (ports_side es) j c (opened_ports es q) in
          let gone : m ≡ suc place = sym f.many ∙ spelled_long in
          let side : NotingPorts ds = ports_of (suc place) new in
          let devices : then.book.devices ≡ devices_to after_before new = ap (λ b. b.devices) same_book ∙ sym again in
          let letters : then.monitor.spelled ≡ string_of new = f.letters
          ∙ (ap string_of devices ∙ spelled_to es es after_before m t new) in
          let there : slice_index_or (string_of new) place one ≡ low =
          sym (ap (λ l. slice_index_or l place one) letters)
          ∙ (ap (λ l. slice_index_or l place one) spelled ∙ last_low hears.so_far place hears.place) in
          let same_side : bank_map unheld es then.bus.ports ≡ ports_to after_before side = f.ports
          ∙ (ap₂ ports_of gone devices ∙ played_to es es after_before (suc place) t new) in
          let many = length_noted ds (devices_at es side) in
          let noted : noted_by ds side ≡ steps_then hs ds x = cancelled (noted_by ds side) many
          (sym (noted_by_after ds y.book.devices side)
          ∙ (sym (ap (noted_by ds) same_side) ∙ (noted_unheld ds then.bus.ports ∙ noted_then))) in
          let placed : port_addresses es side ≡ addresses hs ds x = sym (addresses_to after_before side)
          ∙ (sym (ap (port_addresses es) same_side) ∙ (addresses_unheld then.bus.ports ∙ addresses_then)) in
          subst (λ os. Answers os (steps_then hs ds x)) placed (subst (λ rs. Answers (port_addresses es side) rs) noted
          (played_reached ds t new m k n g l hears.leg hears.bytes there))

      reached : (i : ℕ) → StillIn hs ds x i t → Answers (addresses hs ds x) (steps_then hs ds x)
      reached i h = reached_by (legal i t h.0) (both.noting_stands.so_far turn_too i t (still_in i t h))

    asked_law : AskedLaw hs ds x
    asked_law = record {
      reached = λ i t h k g n z. reached t k g n z i h;
      reported = λ i t o c h. reported i t c o h;
      alone = joined_alone;
      resting = nothing_at_rest hs ds x both.at_rest;
      once = λ e o i t c h. let q = some_of (slice_index_or (told_at hs ds x.bus) i None) h in once i t c q.0 q.1;
    }

  pub every_asked : (ms : Bank HostedMaster hs) (ps : Bank PortModel ds) → ClocksInRange hs ms → EveryAsked hs ds ms ps
  every_asked ms ps clocked cs =
      let x = use_after hs ds (new_use hs ds ms ps) cs in
      let b = beside hs ds ms ps clocked cs in
      asked_law (noting_use hs ds ms ps x b) x (side_by_side hs ds ms ps clocked x b (no_holds ds))
