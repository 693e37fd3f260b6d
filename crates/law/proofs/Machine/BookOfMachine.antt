-- The book beside the machine, by lists: who is armed, who contends and who is told; what its monitor notes; and what a tick shows.
use Rattle.std.proofs.Common.{◌≡◌, ℕ, zero, suc, ◌≤◌, Bool, true, false, cond, not, ◌||◌, List, [], ◌∷◌, ◌++◌, is_some}
use Rattle.std.proofs.Common.{Some, None, Ok, Err, Option, Result, map}
use Rattle.std.specs.Prelude.{slice_index_or}
use Rattle.std.specs.List.{list_any}
use Rattle.std.specs.Option.{option_map}
use Rattle.wire.specs.declared.event.Event.{Event}
use Rattle.wire.specs.declared.event.Event.TheVariants.{Rise, Fall, Start, Stop, SteadyHigh, SteadyLow}
use Rattle.master.specs.declared.arming.Arming.{Arming}
use Rattle.master.specs.declared.arming.Arming.TheVariants.{Unarmed, Armed}
use Rattle.master.specs.MasterState.{MasterModel, VerdictModel, quiet, lost, told, arm_master}
use Rattle.master.specs.Script.{Script}
use Rattle.law.specs.Limits.{most_letters}
use Rattle.law.proofs.FarSide.{Side}
use Rattle.law.proofs.Machine.BusAsMachine.{Bus, tick_verdicts}
use Rattle.law.specs.Monitor.{Monitor, letters_of_bit, monitor_after_event as sees_event}
use Rattle.law.specs.Law.{FirstDifference}
use Rattle.law.specs.Letter.{Letter, same_string, first_or_same}
use Rattle.law.proofs.Machine.Arbitration.{at, Quiet, alone, alone_side, alone_end}
use Rattle.law.proofs.Machine.Game.{Game}

-- for each master a task, or none
abbrev pub Tasks : Script → Type 0
Tasks W = List (Option W.Task)

abbrev pub Answer : Type 0
Answer = Result (Unit {0}) ℕ

-- how many are there
abbrev pub count : {A : Type 0} → List (Option A) → ℕ
count [] = 0
count (None ∷ l) = count l
count (Some a ∷ l) = suc (count l)

abbrev pub any : {A : Type 0} → List (Option A) → Bool
any l = list_any is_some l

-- l with f at the place n, applied to what bs has there too
abbrev pub at_place : {A B : Type 0} → (A → B → A) → List A → List B → ℕ → List A
at_place f [] bs n = []
at_place f (a ∷ l) [] n = a ∷ l
at_place f (a ∷ l) (b ∷ bs) zero = f a b ∷ l
at_place f (a ∷ l) (b ∷ bs) (suc n) = a ∷ at_place f l bs n

-- what holds of any list and itself, of f at the head, and of longer lists with the same head
pub at_place_has : {A B : Type 0} (f : A → B → A) (Q : List A → List A → Type 0) → ((l : List A) → Q l l) →
    ((a : A) (b : B) (l : List A) → Q (a ∷ l) (f a b ∷ l)) → ((a : A) (l k : List A) → Q l k → Q (a ∷ l) (a ∷ k)) →
    (l : List A) (bs : List B) (n : ℕ) → Q l (at_place f l bs n)
at_place_has f Q same here on [] bs n = same []
at_place_has f Q same here on (a ∷ l) [] n = same (a ∷ l)
at_place_has f Q same here on (a ∷ l) (b ∷ bs) zero = here a b l
at_place_has f Q same here on (a ∷ l) (b ∷ bs) (suc n) =
    on a l (at_place f l bs n) (at_place_has f Q same here on l bs n)

-- arm, by the table: no such master, armed already, nothing wanted
abbrev pub answer_if : {A : Type 0} → Option A → Option A → Answer
answer_if (Some q) w = Err 6
answer_if None None = Err 7
answer_if None (Some p) = Ok tt

abbrev pub armed_if : {A : Type 0} → Option A → Option A → Option A
armed_if (Some q) w = Some q
armed_if None w = w

abbrev pub answer : {A : Type 0} → List (Option A) → List (Option A) → ℕ → Answer
answer [] ws i = Err 5
answer (o ∷ os) [] i = Err 5
answer (o ∷ os) (w ∷ ws) zero = answer_if o w
answer (o ∷ os) (w ∷ ws) (suc i) = answer os ws i

abbrev pub arm_book : {A : Type 0} → List (Option A) → List (Option A) → ℕ → List (Option A)
arm_book os ws i = at_place armed_if os ws i

abbrev pub nobody : {A B : Type 0} → List (Option A) → List (Option B)
nobody os = map (λ o. None) os

abbrev pub disarm_one : {A B : Type 0} → Option A → Option B → Option A
disarm_one o None = o
disarm_one o (Some t) = None

abbrev pub disarm : {A B : Type 0} → List (Option A) → List (Option B) → List (Option A)
disarm [] ts = []
disarm (o ∷ os) [] = o ∷ os
disarm (o ∷ os) (t ∷ ts) = disarm_one o t ∷ disarm os ts

module _ (W : Script) where
  abbrev pub task_of : Arming W.Task → Option W.Task
  task_of Unarmed = None
  task_of (Armed t) = Some t

  abbrev pub armeds : List (MasterModel W) → Tasks W
  armeds ms = map (λ m. task_of m.arming) ms

  -- master i pulls a line
  abbrev pub pulling : List (MasterModel W) → ℕ → Bool
  pulling [] i = false
  pulling (m ∷ ms) zero = m.pulls.scl || m.pulls.sda
  pulling (m ∷ ms) (suc i) = pulling ms i

  abbrev pub is_lost : VerdictModel W → Bool
  is_lost quiet = false
  is_lost lost = true
  is_lost (told o) = false

  abbrev pub telling : VerdictModel W → Option W.Outcome
  telling quiet = None
  telling lost = None
  telling (told o) = Some o

  abbrev pub tellings : List (VerdictModel W) → List (Option W.Outcome)
  tellings ks = map telling ks

  abbrev pub arm_masters : List (MasterModel W) → Tasks W → ℕ → List (MasterModel W)
  arm_masters ms ws i = at_place (λ m w. (arm_master W m w).1) ms ws i

  -- where each contender begins
  abbrev pub begin_one : Option W.Task → Option W.Cursor
  begin_one o = option_map W.begin o

  abbrev pub begins : Tasks W → List (Option W.Cursor)
  begins l = map begin_one l

module _ (W : Script) (D : Side) where
  pub record Book : Type 0 where
    -- the task of each master armed
    pub armed : Tasks W
    -- as the last stop left it
    pub side : D.S
    -- the contenders of the open turn
    pub turn : Option (Tasks W)

  abbrev pub book : Tasks W → D.S → Option (Tasks W) → Book
  book os s t = record { armed = os; side = s; turn = t }

  abbrev pub opens : Tasks W → Option (Tasks W) → Option (Tasks W)
  opens os None = cond (any os) (Some os) None
  opens os (Some l) = Some l

-- the letters so far, and the level of the last rise, which counts at the next fall if no start or stop comes between
pub record Spell : Type 0 where
  pub latched : Option Bool
  pub letters : List Letter

abbrev pub spell : Option Bool → List Letter → Spell
spell o ls = record { latched = o; letters = ls }

-- once a bit that was latched has counted
abbrev pub fallen : Option Bool → List Letter → Spell
fallen o ls = spell None (ls ++ letters_of_bit o)

abbrev pub monitor_at : ℕ → Bool → List Bool → Spell → Monitor
monitor_at n r v z = record { falls = n; risen = r; marked = v; latch = z.latched; spelled = z.letters }

abbrev pub falses : {A : Type 0} → List (Option A) → List Bool
falses os = map (λ o. false) os

module _ (W : Script) where
  abbrev pub marks_too : List Bool → List (VerdictModel W) → List Bool
  marks_too [] ks = []
  marks_too (v ∷ vs) [] = v ∷ vs
  marks_too (v ∷ vs) (k ∷ ks) = (v || is_lost W k) ∷ marks_too vs ks

  -- a turn that opens is watched afresh
  abbrev pub turned : Monitor → Tasks W → Option (Tasks W) → Event → Monitor
  turned w os (Some l) e = sees_event w e
  turned w os None SteadyHigh = cond (any os) (monitor_at 0 false (falses os) (spell None [])) w
  turned w os None Fall = sees_event w Fall
  turned w os None (Rise x) = sees_event w (Rise x)
  turned w os None Start = sees_event w Start
  turned w os None Stop = sees_event w Stop
  turned w os None SteadyLow = sees_event w SteadyLow

  abbrev pub noted : Monitor → List (VerdictModel W) → Monitor
  noted w ks = record w { marked = marks_too w.marked ks }

  abbrev pub sees : Monitor → Tasks W → Option (Tasks W) → Event → List (VerdictModel W) → Monitor
  sees w os t e ks = noted (turned w os t e) ks

module _ (W : Script) (D : Side) where
  abbrev pub tick_tells : Bus W D → List (Option W.Outcome)
  tick_tells u = tellings W (tick_verdicts W D u)

  abbrev pub arm_bus : Bus W D → Tasks W → ℕ → Bus W D
  arm_bus u ws i = record { wire = u.wire; masters = arm_masters W u.masters ws i; side = u.side; hold = u.hold }

module _ (G : Game) where
  abbrev W : Script
  W = G.script

  abbrev D : Side
  D = G.side

  -- a task carried alone: its string, its outcome and the side after it
  abbrev pub task_string : W.Task → D.S → List Letter
  task_string t s = alone G (W.begin t) s

  abbrev pub task_outcome : W.Task → D.S → W.Outcome
  task_outcome t s = W.outcome (alone_end G (W.begin t) s)

  abbrev pub task_side : W.Task → D.S → D.S
  task_side t s = alone_side G (W.begin t) s

  abbrev pub pick : W.Task → Option W.Task → D.S → W.Task
  pick t None s = t
  pick t (Some u) s = cond (first_or_same (task_string t s) (task_string u s)) t u

  -- the first of those with the least string
  abbrev pub leader : Tasks W → D.S → Option W.Task
  leader [] s = None
  leader (None ∷ l) s = leader l s
  leader (Some t ∷ l) s = Some (pick t (leader l s) s)

  abbrev pub wins : W.Task → Option W.Task → D.S → Bool
  wins t None s = false
  wins t (Some u) s = same_string (task_string t s) (task_string u s)

  -- each contender with the leader's string, with the outcome that it is told, carried alone
  abbrev pub outcomes : Tasks W → Option W.Task → D.S → List (Option W.Outcome)
  outcomes [] q s = []
  outcomes (None ∷ l) q s = None ∷ outcomes l q s
  outcomes (Some t ∷ l) q s = cond (wins t q s) (Some (task_outcome t s)) None ∷ outcomes l q s

  abbrev pub leader_side : Option W.Task → D.S → D.S
  leader_side None s = s
  leader_side (Some t) s = task_side t s

  -- at a stop each contender's task is carried alone from the side that the last stop left, once it has seen the start
  abbrev pub stop_tells : Tasks W → D.S → Option (Tasks W) → List (Option W.Outcome)
  stop_tells os s None = nobody os
  stop_tells os s (Some l) = outcomes l (leader l (D.begin s)) (D.begin s)

  -- whom a tick with this event tells, by the book
  abbrev pub book_tells : Book W D → Event → List (Option W.Outcome)
  book_tells b Stop = stop_tells b.armed b.side b.turn
  book_tells b (Rise x) = nobody b.armed
  book_tells b Fall = nobody b.armed
  book_tells b Start = nobody b.armed
  book_tells b SteadyHigh = nobody b.armed
  book_tells b SteadyLow = nobody b.armed

  abbrev pub feed_stop : Tasks W → D.S → Option (Tasks W) → Book W D
  feed_stop os s None = book W D os s None
  feed_stop os s (Some l) =
      let q = leader l (D.begin s) in
      let ts = outcomes l q (D.begin s) in
      book W D (disarm os ts) (leader_side q (D.begin s)) None

  abbrev pub feed : Book W D → Event → Book W D
  feed b SteadyHigh = book W D b.armed b.side (opens W D b.armed b.turn)
  feed b Stop = feed_stop b.armed b.side b.turn
  feed b (Rise x) = b
  feed b Fall = b
  feed b Start = b
  feed b SteadyLow = b

  -- what a mark of a loss says: t is the open turn, s the side at rest, v who was marked before, and w is noted with this tick's event
  pub record Loses (t : Option (Tasks W)) (s : D.S) (v : List Bool) (w : Monitor) (i : ℕ) : Type 0 where
    pub turn : Tasks W
    pub now : t ≡ Some turn
    pub task : W.Task
    pub contends : at turn i ≡ Some task
    pub before : slice_index_or v i false ≡ false
    pub risen : w.risen ≡ true
    pub letter : ℕ
    pub falls : w.falls ≡ suc letter
    pub least : W.Task
    pub leads : leader turn (D.begin s) ≡ Some least
    pub first : FirstDifference (task_string least (D.begin s)) (task_string task (D.begin s)) letter

  -- what a stop says of a contender i with the task p: s is the side at rest, v who was marked, ts who is told
  pub record Stopped (l : Tasks W) (s : D.S) (v : List Bool) (ts : List (Option W.Outcome)) (i : ℕ) (p : W.Task) : Type 0 where
    -- told are those never marked
    pub unmarked : is_some (at ts i) ≡ not (slice_index_or v i false)
    -- and those whose string is below each contender's
    pub least : is_some (at ts i) ≡ true → (j : ℕ) (q : W.Task) → at l j ≡ Some q →
        first_or_same (task_string p (D.begin s)) (task_string q (D.begin s)) ≡ true
    pub wins : ((j : ℕ) (q : W.Task) → at l j ≡ Some q →
        first_or_same (task_string p (D.begin s)) (task_string q (D.begin s)) ≡ true) → is_some (at ts i) ≡ true

  -- what was spelled, the stop included, is the least string
  pub record Spelled (l : Tasks W) (s : D.S) (letters : List Letter) : Type 0 where
    pub least : W.Task
    pub leads : leader l (D.begin s) ≡ Some least
    pub whole : letters ≡ task_string least (D.begin s)

  -- what scripts and the side must satisfy; Fits: what may be armed; Rest: how a stop leaves the side
  pub record Plays (Fits : W.Task → Type 0) (Rest : D.S → Type 0) : Type 0 where
    pub alike : (t u : W.Task) → Fits t → Fits u → G.Alike (W.begin t) (W.begin u)
    pub short : (t : W.Task) → Fits t → G.left (W.begin t) ≤ most_letters
    pub quiet : (t : W.Task) (s : D.S) → Fits t → Rest s → Quiet G (W.begin t) (D.begin s)
    pub calm : (s : D.S) → Rest s → D.pulls s ≡ false
    pub rests : (t : W.Task) (s : D.S) → Fits t → Rest s → Rest (task_side t (D.begin s))
