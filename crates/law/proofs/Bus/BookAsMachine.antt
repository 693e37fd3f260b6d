-- The turn book as the machine's book: both go the same way at every arm and event, and hosts hear what the book tells.
use Rattle.std.proofs.Common.{◌≡◌, ℕ, zero, suc, Bool, true, false, cond, List, [], ◌∷◌, is_some, Some, None, Option, Result, sym, refl, ap}
use Rattle.std.proofs.Common.{◌∙◌, ap₂, arith}
use Rattle.std.specs.Option.{option_map}
use Rattle.transfer.specs.declared.draft.Transfer.{Transfer}
use Rattle.transfer.specs.Transfer.{TransferModel, transfer_model}
use Rattle.transfer.specs.Outcome.{OutcomeModel}
use Rattle.device.specs.Device.{Behaviour}
use Rattle.host.specs.Host.{HostBehaviour}
use Rattle.master.specs.declared.arming.Arming.{Arming}
use Rattle.master.specs.declared.arming.Arming.TheVariants.{Unarmed, Armed}
use Rattle.wire.specs.declared.event.Event.{Event}
use Rattle.wire.specs.declared.event.Event.TheVariants.{Rise, Fall, Start, Stop, SteadyHigh, SteadyLow}
use Rattle.master.specs.Arming.{is_armed, answer_to_arm}
use Rattle.law.specs.Bank.{Bank, bank_map, bank_list, any_true}
use Rattle.law.specs.Book.{Entry, entry_is_armed, entry_contending, wanted_if, contender_transfer, entry_after_turn, arm_entry_at}
use Rattle.law.specs.Book.{entries_after_turn, least_result, outcomes_of_turn, devices_after, Turn, closed, opened, Book, book_arm}
use Rattle.law.specs.Book.{contender_results, book_after_opening, told_at_stop, book_after_stop, book_told, book_after}
use Rattle.law.specs.TransferResult.{AddressedDevice, transfer_result}
use Rattle.port.specs.Port.{PortModel}
use Rattle.master.specs.Script.{transfers}
use Rattle.law.proofs.Alone.PortsAsSide.{ports_side, idle_ports}
use Rattle.law.proofs.Alone.SealedIsLegal.{legal_transfer}
use Rattle.law.proofs.Machine.BookOfMachine.{any, answer, answer_if, armed_if, arm_book, nobody, disarm, disarm_one, Book as MachineBook}
use Rattle.law.proofs.Machine.BookOfMachine.{book, feed, stop_tells, book_tells as machine_tells}
use Rattle.law.proofs.Bus.LeastStringLeads.{LegalIf, AllLegal, carry_all, lead, told_are, devices_are}
use Rattle.law.proofs.Bus.HostsAsOne.{Meanings, wants_of, hears_all}
use Rattle.law.proofs.Bus.TransfersAsGame.{game}

abbrev pub meaning_of : (h : HostBehaviour) → Entry h → h.Meaning
meaning_of h x = x.meaning

-- the task of a master that is armed
abbrev pub task_of : (h : HostBehaviour) → Entry h → Option TransferModel
task_of h x = wanted_if h (entry_is_armed h x) (h.want x.meaning)

abbrev pub tasks : (hs : List HostBehaviour) → Bank Entry hs → List (Option TransferModel)
tasks hs es = bank_list task_of hs es

abbrev pub contenders : (hs : List HostBehaviour) → Bank Entry hs → List (Option TransferModel)
contenders hs es = bank_list contender_transfer hs es

abbrev pub meanings : (hs : List HostBehaviour) → Bank Entry hs → Meanings hs
meanings hs es = bank_map meaning_of hs es

abbrev pub turn_if : Turn → List (Option TransferModel) → Option (List (Option TransferModel))
turn_if opened l = Some l
turn_if closed l = None

-- who is armed wants something
abbrev pub WantsIf : Arming (Unit {0}) → Option Transfer → Type 0
WantsIf Unarmed w = Unit {0}
WantsIf (Armed t) w = is_some w ≡ true

-- what arming comes to, where the host wants w
abbrev arms_by : Arming (Unit {0}) → Option Transfer → Result (Unit {0}) ℕ × Arming (Unit {0})
arms_by a w = answer_to_arm a (option_map (λ t. tt) w)

abbrev pub Kept : (hs : List HostBehaviour) → Bank Entry hs → Type 0
Kept [] es = Unit {0}
Kept (h ∷ hs) es = WantsIf es.0.arming (h.want es.0.meaning) × Kept hs es.1

-- an arm
arms_one : (h : HostBehaviour) (a : Arming (Unit {0})) (w : Option Transfer) →
    wanted_if h (is_armed (arms_by a w).1) w ≡ armed_if (wanted_if h (is_armed a) w) (option_map transfer_model w)
arms_one h a w = grind arith

pub arm_tasks : (hs : List HostBehaviour) (es : Bank Entry hs) (n : ℕ) →
    tasks hs (arm_entry_at hs es n).1 ≡ arm_book (tasks hs es) (wants_of hs (meanings hs es)) n
arm_tasks [] es n = refl
arm_tasks (h ∷ hs) es zero = ap (λ o. o ∷ tasks hs es.1) (arms_one h es.0.arming (h.want es.0.meaning))
arm_tasks (h ∷ hs) es (suc n) = ap (λ l. task_of h es.0 ∷ l) (arm_tasks hs es.1 n)

pub arm_meanings : (hs : List HostBehaviour) (es : Bank Entry hs) (n : ℕ) → meanings hs (arm_entry_at hs es n).1 ≡ meanings hs es
arm_meanings [] es n = refl
arm_meanings (h ∷ hs) es zero = refl
arm_meanings (h ∷ hs) es (suc n) = ap (λ r. (es.0.meaning, r)) (arm_meanings hs es.1 n)

arm_contenders : (hs : List HostBehaviour) (es : Bank Entry hs) (n : ℕ) → contenders hs (arm_entry_at hs es n).1 ≡ contenders hs es
arm_contenders [] es n = refl
arm_contenders (h ∷ hs) es zero = refl
arm_contenders (h ∷ hs) es (suc n) = grind (arith, arm_contenders hs es.1 n)

answers_one : (h : HostBehaviour) (a : Arming (Unit {0})) (w : Option Transfer) → WantsIf a w →
    (arms_by a w).0 ≡ answer_if (wanted_if h (is_armed a) w) (option_map transfer_model w)
answers_one h a w k = grind arith

pub arm_answers : (hs : List HostBehaviour) (es : Bank Entry hs) (n : ℕ) → Kept hs es →
    (arm_entry_at hs es n).0 ≡ answer (tasks hs es) (wants_of hs (meanings hs es)) n
arm_answers [] es n k = refl
arm_answers (h ∷ hs) es zero k = answers_one h es.0.arming (h.want es.0.meaning) k.0
arm_answers (h ∷ hs) es (suc n) k = arm_answers hs es.1 n k.1

kept_arms : (a : Arming (Unit {0})) (w : Option Transfer) → WantsIf a w → WantsIf (arms_by a w).1 w
kept_arms a w k = grind arith

arm_kept : (hs : List HostBehaviour) (es : Bank Entry hs) (n : ℕ) → Kept hs es → Kept hs (arm_entry_at hs es n).1
arm_kept [] es n k = tt
arm_kept (h ∷ hs) es zero k = (kept_arms es.0.arming (h.want es.0.meaning) k.0, k.1)
arm_kept (h ∷ hs) es (suc n) k = (k.0, arm_kept hs es.1 n k.1)

-- a turn opens
pub any_armed : (hs : List HostBehaviour) (es : Bank Entry hs) → Kept hs es → any (tasks hs es) ≡ any_true (bank_list entry_is_armed hs es)
any_armed [] es k = refl
any_armed (h ∷ hs) es k = grind (arith, any_armed hs es.1 k.1)

enter_tasks : (hs : List HostBehaviour) (es : Bank Entry hs) → tasks hs (bank_map entry_contending hs es) ≡ tasks hs es
enter_tasks [] es = refl
enter_tasks (h ∷ hs) es = grind (arith, enter_tasks hs)

enter_contenders : (hs : List HostBehaviour) (es : Bank Entry hs) → contenders hs (bank_map entry_contending hs es) ≡ tasks hs es
enter_contenders [] es = refl
enter_contenders (h ∷ hs) es = grind (arith, enter_contenders hs)

enter_meanings : (hs : List HostBehaviour) (es : Bank Entry hs) → meanings hs (bank_map entry_contending hs es) ≡ meanings hs es
enter_meanings [] es = refl
enter_meanings (h ∷ hs) es = grind (arith, enter_meanings hs)

enter_kept : (hs : List HostBehaviour) (es : Bank Entry hs) → Kept hs es → Kept hs (bank_map entry_contending hs es)
enter_kept [] es k = tt
enter_kept (h ∷ hs) es k = (k.0, enter_kept hs es.1 k.1)

leave_meanings : (hs : List HostBehaviour) (es : Bank Entry hs) (ts : List (Option OutcomeModel)) →
    meanings hs (entries_after_turn hs es ts) ≡ hears_all hs (meanings hs es) ts
leave_meanings [] es ts = refl
leave_meanings (h ∷ hs) es [] = grind (arith, leave_meanings hs)
leave_meanings (h ∷ hs) es (t ∷ ts) = grind (arith, leave_meanings hs es.1 ts)

leave_task : (h : HostBehaviour) (x : Entry h) (t : Option OutcomeModel) → task_of h (entry_after_turn h x t) ≡ disarm_one (task_of h x) t
leave_task h x t = grind arith

leave_no_tasks : (hs : List HostBehaviour) (es : Bank Entry hs) → tasks hs (entries_after_turn hs es []) ≡ tasks hs es
leave_no_tasks [] es = refl
leave_no_tasks (h ∷ hs) es = grind (arith, leave_no_tasks hs)

leave_tasks : (hs : List HostBehaviour) (es : Bank Entry hs) (ts : List (Option OutcomeModel)) →
    tasks hs (entries_after_turn hs es ts) ≡ disarm (tasks hs es) ts
leave_tasks [] es ts = refl
leave_tasks (h ∷ hs) es [] = ap (λ l. task_of h es.0 ∷ l) (leave_no_tasks hs es.1)
leave_tasks (h ∷ hs) es (t ∷ ts) = ap₂ ◌∷◌ (leave_task h es.0 t) (leave_tasks hs es.1 ts)

leave_kept : (hs : List HostBehaviour) (es : Bank Entry hs) (ts : List (Option OutcomeModel)) → Kept hs es →
    Kept hs (entries_after_turn hs es ts)
leave_kept [] es ts k = tt
leave_kept (h ∷ hs) es [] k = (k.0, leave_kept hs es.1 [] k.1)
leave_kept (h ∷ hs) es (o ∷ ts) k = grind (arith, leave_kept hs es.1 ts)

legal_if : (h : HostBehaviour) (v : Bool) (w : Option Transfer) → LegalIf (wanted_if h v w)
legal_if h true None = tt
legal_if h true (Some t) = legal_transfer t
legal_if h false w = tt

pub contenders_legal : (hs : List HostBehaviour) (es : Bank Entry hs) → AllLegal (contenders hs es)
contenders_legal [] es = tt
contenders_legal (h ∷ hs) es = (legal_if h es.0.contends (h.want es.0.meaning), contenders_legal hs es.1)

contests_are : (ds : List Behaviour) (d : Bank AddressedDevice ds) (hs : List HostBehaviour) (es : Bank Entry hs) →
    bank_list (λ h x. option_map (λ t. transfer_result ds t d) (contender_transfer h x)) hs es ≡ carry_all ds d (contenders hs es)
contests_are ds d [] es = refl
contests_are ds d (h ∷ hs) es = grind (arith, contests_are ds d hs)

nobody_is : (hs : List HostBehaviour) (es : Bank Entry hs) → bank_list {X = Option OutcomeModel} (λ h x. None) hs es ≡ nobody (tasks hs es)
nobody_is [] es = refl
nobody_is (h ∷ hs) es = ap (λ l. None ∷ l) (nobody_is hs es.1)

unheard : (hs : List HostBehaviour) (es : Bank Entry hs) (m : Meanings hs) → hears_all hs m (bank_list (λ h x. None) hs es) ≡ m
unheard [] es m = refl
unheard (h ∷ hs) es m = ap (λ r. (m.0, r)) (unheard hs es.1 m.1)

somebody_leads : (ds : List Behaviour) (d : Bank AddressedDevice ds) (l : List (Option TransferModel)) → any l ≡ true →
    (q : TransferModel) × (lead ds d l ≡ Some q)
somebody_leads ds d [] h = cc
somebody_leads ds d (None ∷ l) h = somebody_leads ds d l h
somebody_leads ds d (Some t ∷ l) h = (_, refl)

module _ (hs : List HostBehaviour) (ds : List Behaviour) where
  abbrev pub machine_book : List (Option TransferModel) → Bank PortModel ds → Option (List (Option TransferModel)) →
      MachineBook transfers (ports_side ds)
  machine_book os s t = book transfers (ports_side ds) os s t

  abbrev pub booked : Book hs ds → MachineBook transfers (ports_side ds)
  booked b = machine_book (tasks hs b.entries) (idle_ports ds b.devices) (turn_if b.turn (contenders hs b.entries))

  abbrev fed : MachineBook transfers (ports_side ds) → Event → MachineBook transfers (ports_side ds)
  fed b e = feed (game ds) b e

  -- who is armed wants something, and an open turn has a contender
  pub record Sound (b : Book hs ds) : Type 0 where
    pub kept : Kept hs b.entries
    pub contended : b.turn ≡ opened → any (contenders hs b.entries) ≡ true

  pub contests_of : (b : Book hs ds) → contender_results hs ds b ≡ carry_all ds b.devices (contenders hs b.entries)
  contests_of b = contests_are ds b.devices hs b.entries

  pub armed_booked : (b : Book hs ds) (n : ℕ) → booked (book_arm hs ds b n).1 ≡
      machine_book (arm_book (tasks hs b.entries) (wants_of hs (meanings hs b.entries)) n) (idle_ports ds b.devices)
      (turn_if b.turn (contenders hs b.entries))
  armed_booked b n = let es = b.entries in
      λ i. machine_book (arm_tasks hs es n i) (idle_ports ds b.devices) (turn_if b.turn (arm_contenders hs es n i))

  pub armed_sound : (b : Book hs ds) (n : ℕ) → Sound b → Sound (book_arm hs ds b n).1
  armed_sound b n k = record {
    kept = arm_kept hs b.entries n k.kept;
    contended = λ e. ap any (arm_contenders hs b.entries n) ∙ k.contended e;
  }

  abbrev of_parts : Bank Entry hs → Bank AddressedDevice ds → Turn → Book hs ds
  of_parts es d v = record { entries = es; devices = d; turn = v }

  opens_if : (es : Bank Entry hs) (d : Bank AddressedDevice ds) (w : Bool) →
      booked (cond w (of_parts (bank_map entry_contending hs es) d opened) (of_parts es d closed)) ≡
      machine_book (tasks hs es) (idle_ports ds d) (cond w (Some (tasks hs es)) None)
  opens_if es d true = λ i. machine_book (enter_tasks hs es i) (idle_ports ds d) (Some (enter_contenders hs es i))
  opens_if es d false = refl

  opens_booked : (es : Bank Entry hs) (d : Bank AddressedDevice ds) (v : Turn) → Kept hs es →
      booked (book_after_opening hs ds (of_parts es d v) v) ≡ fed (booked (of_parts es d v)) SteadyHigh
  opens_booked es d opened k = refl
  opens_booked es d closed k =
      opens_if es d (any_true (bank_list entry_is_armed hs es))
      ∙ ap (λ w. machine_book (tasks hs es) (idle_ports ds d) (cond w (Some (tasks hs es)) None)) (sym (any_armed hs es k))

  -- whom an open turn tells at its stop
  stop_told : (es : Bank Entry hs) (d : Bank AddressedDevice ds) →
      told_at_stop hs ds (of_parts es d opened) opened ≡
      stop_tells (game ds) (tasks hs es) (idle_ports ds d) (Some (contenders hs es))
  stop_told es d =
      ap (λ cs. outcomes_of_turn ds (least_result ds cs) cs) (contests_of (of_parts es d opened))
      ∙ told_are ds d (contenders hs es) (contenders_legal hs es)

  closes_booked : (es : Bank Entry hs) (d : Bank AddressedDevice ds) (v : Turn) → (v ≡ opened → any (contenders hs es) ≡ true) →
      booked (book_after_stop hs ds (of_parts es d v) v) ≡ fed (booked (of_parts es d v)) Stop
  closes_booked es d closed h = refl
  closes_booked es d opened h =
      let ts = told_at_stop hs ds (of_parts es d opened) opened in
      let us = stop_tells (game ds) (tasks hs es) (idle_ports ds d) (Some (contenders hs es)) in
      let told = stop_told es d in
      let armed : tasks hs (entries_after_turn hs es ts) ≡ disarm (tasks hs es) us =
      leave_tasks hs es ts ∙ ap (disarm (tasks hs es)) told in
      let q = somebody_leads ds d (contenders hs es) (h refl) in
      let side = ap (λ cs. idle_ports ds (devices_after ds (least_result ds cs) d)) (contests_of (of_parts es d opened))
      ∙ devices_are ds d (contenders hs es) q.0 (contenders_legal hs es) q.1 in
      λ i. machine_book (armed i) (side i) None

  pub fed_booked : (b : Book hs ds) (e : Event) → Sound b → booked (book_after hs ds b e) ≡ fed (booked b) e
  fed_booked b SteadyHigh k = opens_booked b.entries b.devices b.turn k.kept
  fed_booked b Stop k = closes_booked b.entries b.devices b.turn k.contended
  fed_booked b (Rise x) k = refl
  fed_booked b Fall k = refl
  fed_booked b Start k = refl
  fed_booked b SteadyLow k = refl

  stop_tells_booked : (es : Bank Entry hs) (d : Bank AddressedDevice ds) (v : Turn) →
      told_at_stop hs ds (of_parts es d v) v ≡
      stop_tells (game ds) (tasks hs es) (idle_ports ds d) (turn_if v (contenders hs es))
  stop_tells_booked es d opened = stop_told es d
  stop_tells_booked es d closed = nobody_is hs es

  pub tells_booked : (b : Book hs ds) (e : Event) → book_told hs ds b e ≡ machine_tells (game ds) (booked b) e
  tells_booked b Stop = stop_tells_booked b.entries b.devices b.turn
  tells_booked b SteadyHigh = nobody_is hs b.entries
  tells_booked b (Rise x) = nobody_is hs b.entries
  tells_booked b Fall = nobody_is hs b.entries
  tells_booked b Start = nobody_is hs b.entries
  tells_booked b SteadyLow = nobody_is hs b.entries

  opens_sound : (es : Bank Entry hs) (d : Bank AddressedDevice ds) (v : Turn) (w : Bool) → any_true (bank_list entry_is_armed hs es) ≡ w →
      Sound (of_parts es d v) →
      Sound (cond w (of_parts (bank_map entry_contending hs es) d opened) (of_parts es d v))
  opens_sound es d v true e k = record {
    kept = enter_kept hs es k.kept;
    contended = λ t. ap any (enter_contenders hs es) ∙ (any_armed hs es k.kept ∙ e);
  }
  opens_sound es d v false e k = k

  fed_open : (es : Bank Entry hs) (d : Bank AddressedDevice ds) (v : Turn) → Sound (of_parts es d v) →
      Sound (book_after_opening hs ds (of_parts es d v) v)
  fed_open es d opened k = k
  fed_open es d closed k = opens_sound es d closed (any_true (bank_list entry_is_armed hs es)) refl k

  fed_closed : (es : Bank Entry hs) (d : Bank AddressedDevice ds) (v : Turn) → Sound (of_parts es d v) →
      Sound (book_after_stop hs ds (of_parts es d v) v)
  fed_closed es d closed k = k
  fed_closed es d opened k = record {
    kept = leave_kept hs es (told_at_stop hs ds (of_parts es d opened) opened) k.kept;
    contended = λ t. cc;
  }

  pub fed_sound : (b : Book hs ds) (e : Event) → Sound b → Sound (book_after hs ds b e)
  fed_sound b SteadyHigh k = fed_open b.entries b.devices b.turn k
  fed_sound b Stop k = fed_closed b.entries b.devices b.turn k
  fed_sound b (Rise x) k = k
  fed_sound b Fall k = k
  fed_sound b Start k = k
  fed_sound b SteadyLow k = k

  -- hosts hear what the book tells
  opens_heard : (es : Bank Entry hs) (d : Bank AddressedDevice ds) (v : Turn) →
      meanings hs (book_after_opening hs ds (of_parts es d v) v).entries ≡ meanings hs es
  opens_heard es d opened = refl
  opens_heard es d closed = go (any_true (bank_list entry_is_armed hs es)) where
    go : (w : Bool) → meanings hs (cond w (of_parts (bank_map entry_contending hs es) d opened) (of_parts es d closed)).entries ≡
        meanings hs es
    go true = enter_meanings hs es
    go false = refl

  closes_heard : (es : Bank Entry hs) (d : Bank AddressedDevice ds) (v : Turn) →
      meanings hs (book_after_stop hs ds (of_parts es d v) v).entries ≡
      hears_all hs (meanings hs es) (told_at_stop hs ds (of_parts es d v) v)
  closes_heard es d opened = leave_meanings hs es (told_at_stop hs ds (of_parts es d opened) opened)
  closes_heard es d closed = sym (unheard hs es (meanings hs es))

  pub heard_after : (b : Book hs ds) (e : Event) →
      meanings hs (book_after hs ds b e).entries ≡ hears_all hs (meanings hs b.entries) (book_told hs ds b e)
  heard_after b Stop = closes_heard b.entries b.devices b.turn
  heard_after b SteadyHigh = opens_heard b.entries b.devices b.turn ∙ sym (unheard hs b.entries (meanings hs b.entries))
  heard_after b (Rise x) = sym (unheard hs b.entries (meanings hs b.entries))
  heard_after b Fall = sym (unheard hs b.entries (meanings hs b.entries))
  heard_after b Start = sym (unheard hs b.entries (meanings hs b.entries))
  heard_after b SteadyLow = sym (unheard hs b.entries (meanings hs b.entries))
