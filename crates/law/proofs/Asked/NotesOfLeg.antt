-- What a device notes of its steps in a leg: a select and what follows it if its port matches, and otherwise nothing.
use Rattle.std.proofs.Common.{◌≡◌, ℕ, zero, suc, Bool, true, false, cond, ◌⊎◌, inl, inr, List, [], ◌∷◌, ◌++◌, length}
use Rattle.std.proofs.Common.{append_assoc, append-nil, sym, refl, ap, ◌∙◌, subst, arith}
use Rattle.std.proofs.lemmas.Bool.{cond_both}
use Rattle.transfer.specs.declared.leg.Direction.{Direction}
use Rattle.transfer.specs.declared.leg.Direction.TheVariants.{Read}
use Rattle.transfer.specs.declared.outcome.OutcomeKind.TheVariants.{NoAnswer, Refused}
use Rattle.transfer.specs.Leg.{BodyModel, writes, reads, body_direction}
use Rattle.device.specs.Device.{Behaviour, Step, select, put, take, finish}
use Rattle.transfer.specs.Address.{answers_to}
use Rattle.law.specs.AskedLaw.{with_step, noting_steps, all_noting_steps, before_select, steps_of_calls, bytes_handed}
use Rattle.law.specs.Bank.{Bank, bank_map}
use Rattle.law.specs.TransferResult.{AddressedDevice, DeviceInLeg, device_after_select, device_after_call}
use Rattle.law.specs.TransferResult.{device_with_answer, device_after_put, device_after_take, device_after_leg}
use Rattle.transfer.specs.Leg.{address_byte}
use Rattle.law.specs.TransferResult.{LegResult, leg_end, any_in, write_result, read_result, body_result, leg_result}
use Rattle.law.proofs.Alone.ByteLawsHold.{took}
use Rattle.law.proofs.Alone.PortsWithinByte.{called_for, put_to_all}
use Rattle.law.proofs.Asked.NotesAreAsks.{NotingDevices, NotingInLeg}

abbrev NoSelect : List Step → Type 0
NoSelect [] = Unit {0}
NoSelect (select r v ∷ ss) = ⊥
NoSelect (put x v ∷ ss) = NoSelect ss
NoSelect (take x ∷ ss) = NoSelect ss
NoSelect (finish ∷ ss) = NoSelect ss

-- steps with no select among them are all of one call, and hold no further call
all_before : (ms : List Step) → NoSelect ms → before_select ms ≡ ms
all_before [] h = refl
all_before (select r v ∷ ms) h = elim h [ ]
all_before (put x v ∷ ms) h = ap (λ l. put x v ∷ l) (all_before ms h)
all_before (take x ∷ ms) h = ap (λ l. take x ∷ l) (all_before ms h)
all_before (finish ∷ ms) h = ap (λ l. finish ∷ l) (all_before ms h)

no_calls : (ms : List Step) → NoSelect ms → steps_of_calls ms ≡ []
no_calls [] h = refl
no_calls (select r v ∷ ms) h = elim h [ ]
no_calls (put x v ∷ ms) h = no_calls ms h
no_calls (take x ∷ ms) h = no_calls ms h
no_calls (finish ∷ ms) h = no_calls ms h

one_step : (ms : List Step) (s : Step) → NoSelect ms → NoSelect (s ∷ []) → NoSelect (ms ++ (s ∷ []))
one_step [] s h k = k
one_step (select r v ∷ ms) s h k = h
one_step (put x v ∷ ms) s h k = one_step ms s h k
one_step (take x ∷ ms) s h k = one_step ms s h k
one_step (finish ∷ ms) s h k = one_step ms s h k

-- what is handed over in steps and in those behind them
handed_on : (ms ls : List Step) → bytes_handed (ms ++ ls) ≡ bytes_handed ms ++ bytes_handed ls
handed_on [] ls = refl
handed_on (s ∷ ms) ls = grind (arith, handed_on ms ls)

-- a further select takes nothing from the steps before the first
before_next : (ks ms : List Step) (r : Direction) (v : Bool) →
    before_select (ks ++ (select r v ∷ ms)) ≡ before_select ks
before_next [] ms r v = refl
before_next (s ∷ ks) ms r v = grind (arith, before_next ks ms r v)

-- a select with no other behind it is one call more
pub one_call : (ks ms : List Step) (r : Direction) (v : Bool) → NoSelect ms →
    steps_of_calls (ks ++ (select r v ∷ ms)) ≡ steps_of_calls ks ++ (ms ∷ [])
one_call [] ms r v h = λ i. all_before ms h i ∷ no_calls ms h i
one_call (s ∷ ks) ms r v h = grind (arith, before_next ks ms r v, one_call ks ms r v h)

-- from one record to another a device was called once, and handed these bytes over
pub record CalledOnce (hs : List ℕ) (ks ls : List Step) : Type 0 where
  pub way : Direction
  pub answer : Bool
  pub steps : List Step
  pub no_select : NoSelect steps
  pub handed : bytes_handed steps ≡ hs
  pub noted : ls ≡ ks ++ (select way answer ∷ steps)

-- the same of a port that matches; with any other nothing was noted
abbrev pub Since : Bool → List ℕ → List Step → List Step → Type 0
Since v hs ks ls = ((v ≡ true) × CalledOnce hs ks ls) ⊎ ((v ≡ false) × (hs ≡ []) × (ls ≡ ks))

since_step : (v : Bool) (s : Step) (hs : List ℕ) (ks ls : List Step) → NoSelect (s ∷ []) → (v ≡ false → ⊥) →
    Since v hs ks ls → Since v (hs ++ bytes_handed (s ∷ [])) ks (ls ++ (s ∷ []))
since_step v s hs ks ls n in_leg (inr h) = absurd (in_leg h.0)
since_step v s hs ks ls n in_leg (inl h) = let c = h.1 in inl (
  h.0,
  record {
    way = c.way;
    answer = c.answer;
    steps = c.steps ++ (s ∷ []);
    no_select = one_step c.steps s c.no_select n;
    handed = handed_on c.steps (s ∷ []) ∙ ap (λ l. l ++ bytes_handed (s ∷ [])) c.handed;
    noted = ap (λ l. l ++ (s ∷ [])) c.noted ∙ append_assoc ks (select c.way c.answer ∷ c.steps) (s ∷ []);
  },
)

-- the calls of a record after a leg: one more, if the port matches
pub record Calls (v : Bool) (ks ls : List Step) : Type 0 where
  pub call : List (List Step)
  pub last : steps_of_calls ls ≡ steps_of_calls ks ++ call
  pub one : length call ≡ cond v 1 0

pub calls_since : (v : Bool) (hs : List ℕ) (ks ls : List Step) → Since v hs ks ls → Calls v ks ls
calls_since v hs ks ls (inl h) = let c = h.1 in record {
  call = c.steps ∷ [];
  last = ap steps_of_calls c.noted ∙ one_call ks c.steps c.way c.answer c.no_select;
  one = ap (λ w. cond w 1 0) (sym h.0);
}
calls_since v hs ks ls (inr h) = record {
  call = [];
  last = ap steps_of_calls h.2 ∙ sym (append-nil (steps_of_calls ks));
  one = ap (λ w. cond w 1 0) (sym h.0);
}

module _ (b : Behaviour) where
  -- the bytes that a device hands over in a read of n
  abbrev pub gave_if : Bool → ℕ → b.Meaning → List ℕ
  gave_if false n m = []
  gave_if true zero m = []
  gave_if true (suc n) m = (b.take m).0 ∷ gave_if true n (b.take m).1

  gave_none : (t : Bool) (m : b.Meaning) → gave_if t 0 m ≡ []
  gave_none t m = grind arith

-- a device that notes its steps, before a leg that calls for this address
module _ (a : ℕ) (b : Behaviour) (d : AddressedDevice (noting_steps b)) where
  abbrev N : Behaviour
  N = noting_steps b

  abbrev matches : Bool
  matches = answers_to d.address a

  -- the same in the leg, once it has handed these bytes over
  pub record InLeg (hs : List ℕ) (p : DeviceInLeg N) : Type 0 where
    pub address : p.address ≡ d.address
    pub since : Since matches hs d.meaning.steps p.meaning.steps
    pub out : matches ≡ false → p.inside ≡ false
    pub unowed : matches ≡ false → p.yes ≡ false

  -- and after the stop or repeated start that ends it
  pub record AfterLeg (hs : List ℕ) (p : AddressedDevice N) : Type 0 where
    pub address : p.address ≡ d.address
    pub since : Since matches hs d.meaning.steps p.meaning.steps

  call_in : (r : Direction) → InLeg [] (device_after_call N a r d)
  call_in r = cond_both matches
      (device_after_select N d (N.select d.meaning r)) (device_after_select N d (false, d.meaning)) (InLeg [])
      (λ e. record {
        address = refl;
        since = inl (
          e,
          record {
            way = r;
            answer = (b.select d.meaning.meaning r).0;
            steps = [];
            no_select = tt;
            handed = refl;
            noted = refl;
          },
        );
        out = λ h. let z : true ≡ false = sym e ∙ h in cc;
        unowed = λ h. let z : true ≡ false = sym e ∙ h in cc;
      })
      (λ e. record { address = refl; since = inr (e, refl, refl); out = λ h. refl; unowed = λ h. refl })

  step_in : (hs : List ℕ) (p : DeviceInLeg N) (s : Step) (m : b.Meaning) (t : Bool) →
      NoSelect (s ∷ []) → p.inside ≡ true →
      InLeg hs p → InLeg (hs ++ bytes_handed (s ∷ [])) (record p { meaning = with_step b p.meaning s m; inside = t })
  step_in hs p s m t n i h = let in_leg : (matches ≡ false → ⊥) = λ e. (let z : true ≡ false = sym i ∙ h.out e in cc) in
      record {
        address = h.address;
        since = since_step matches s hs d.meaning.steps p.meaning.steps n in_leg h.since;
        out = λ e. absurd (in_leg e);
        unowed = h.unowed;
      }

  put_in : (x : ℕ) (hs : List ℕ) (p : DeviceInLeg N) → InLeg hs p → InLeg hs (device_after_put N x p)
  put_in x hs p h =
      let q = b.put p.meaning.meaning x in
      let w : DeviceInLeg N = device_with_answer N p (N.put p.meaning x) in
      cond_both p.inside w p (InLeg hs)
      (λ i. subst (λ l. InLeg l w) (append-nil hs) (step_in hs p (put x q.0) q.1 q.0 tt i h))
      (λ i. h)

  settle_in : (hs : List ℕ) (p : DeviceInLeg N) → InLeg hs p → AfterLeg hs (device_after_leg N p)
  settle_in hs p h = let ks = d.meaning.steps in let ls = p.meaning.steps in
      record {
        address = h.address;
        since = cond_both p.yes (N.finish p.meaning) p.meaning (λ m. Since matches hs ks m.steps)
            (λ i. subst (λ l. Since matches l ks (ls ++ (finish ∷ []))) (append-nil hs)
            (since_step matches finish hs ks ls tt (λ e. (let z : true ≡ false = sym i ∙ h.unowed e in cc)) h.since))
            (λ i. h.since);
      }

  -- with n bytes still to be taken
  record Reading (n : ℕ) (hs : List ℕ) (p : DeviceInLeg N) : Type 0 where
    pub so_far : List ℕ
    pub within : InLeg so_far p
    pub whole : so_far ++ gave_if b p.inside n p.meaning.meaning ≡ hs

  take_in : (n : ℕ) (hs : List ℕ) (p : DeviceInLeg N) → Reading (suc n) hs p → Reading n hs (device_after_take N p)
  take_in n hs p h =
      let m = p.meaning.meaning in
      let q = b.take m in
      let xs = h.so_far in
      cond_both p.inside (record p { meaning = with_step b p.meaning (take q.0) q.1; inside = true }) p (Reading n hs)
      (λ i. record {
        so_far = xs ++ (q.0 ∷ []);
        within = step_in xs p (take q.0) q.1 true tt i h.within;
        whole = append_assoc xs (q.0 ∷ []) (gave_if b true n q.1)
            ∙ (ap (λ t. xs ++ gave_if b t (suc n) m) (sym i) ∙ h.whole);
      })
      (λ i. record {
        so_far = xs;
        within = h.within;
        whole = ap (λ t. xs ++ gave_if b t n m) i ∙ (ap (λ t. xs ++ gave_if b t (suc n) m) (sym i) ∙ h.whole);
      })

  no_more : (hs : List ℕ) (p : DeviceInLeg N) → Reading 0 hs p → InLeg hs p
  no_more hs p h = let none = gave_none b p.inside p.meaning.meaning in
      subst (λ l. InLeg l p) (sym (append-nil h.so_far) ∙ (ap (λ l. h.so_far ++ l) (sym none) ∙ h.whole)) h.within

-- something holds of each device and the same later
abbrev Relates : (Behaviour → Type 0) → Type 1
Relates F = (b : Behaviour) → AddressedDevice (noting_steps b) → F (noting_steps b) → Type 0

abbrev pub Together : (F : Behaviour → Type 0) → Relates F →
    (ds : List Behaviour) → NotingDevices ds → Bank F (all_noting_steps ds) → Type 0
Together F R [] d e = Unit {0}
Together F R (b ∷ ds) d e = R b d.0 e.0 × Together F R ds d.1 e.1

together_each : (F G : Behaviour → Type 0) (R : Relates F) (S : Relates G) (g : (b : Behaviour) → F b → G b) →
    ((b : Behaviour) (d : AddressedDevice (noting_steps b)) (p : F (noting_steps b)) →
    R b d p → S b d (g (noting_steps b) p)) →
    (ds : List Behaviour) (d : NotingDevices ds) (e : Bank F (all_noting_steps ds)) →
    Together F R ds d e → Together G S ds d (bank_map g (all_noting_steps ds) e)
together_each F G R S g f [] d e h = tt
together_each F G R S g f (b ∷ ds) d e h = (f b d.0 e.0 h.0, together_each F G R S g f ds d.1 e.1 h.1)

together_first : (G : Behaviour → Type 0) (S : Relates G) (g : (b : Behaviour) → AddressedDevice b → G b) →
    ((b : Behaviour) (d : AddressedDevice (noting_steps b)) → S b d (g (noting_steps b) d)) →
    (ds : List Behaviour) (d : NotingDevices ds) → Together G S ds d (bank_map g (all_noting_steps ds) d)
together_first G S g f [] d = tt
together_first G S g f (b ∷ ds) d = (f b d.0, together_first G S g f ds d.1)

pub together_still : (F : Behaviour → Type 0) (R S : Relates F) →
    ((b : Behaviour) (d : AddressedDevice (noting_steps b)) (p : F (noting_steps b)) → R b d p → S b d p) →
    (ds : List Behaviour) (d : NotingDevices ds) (e : Bank F (all_noting_steps ds)) →
    Together F R ds d e → Together F S ds d e
together_still F R S f [] d e h = tt
together_still F R S f (b ∷ ds) d e h = (f b d.0 e.0 h.0, together_still F R S f ds d.1 e.1 h.1)

-- what a device hands over where it is called for n bytes
abbrev pub gives_in : ℕ → ℕ → (b : Behaviour) → AddressedDevice (noting_steps b) → List ℕ
gives_in a n b d = let p = device_after_call (noting_steps b) a Read d in gave_if b p.inside n p.meaning.meaning

-- a written byte, acknowledged or not, changes neither the devices nor the bytes read
pub took_keeps : (es : List Behaviour) (P : List ℕ → Bank DeviceInLeg es → Type 0)
    (x : ℕ) (r s : LegResult es) (t : Bool) →
    P r.bytes r.devices → P s.bytes s.devices → let u = took es x r s t in P u.bytes u.devices
took_keeps es P x r s true p q = p
took_keeps es P x r s false p q = q

module _ (a : ℕ) where
  abbrev In : Relates DeviceInLeg
  In b d p = (hs : List ℕ) × InLeg a b d hs p

  abbrev pub After : Relates AddressedDevice
  After b d p = (hs : List ℕ) × AfterLeg a b d hs p

  -- in a read of c bytes with n still to be taken, and with none
  abbrev ReadingIn : ℕ → ℕ → Relates DeviceInLeg
  ReadingIn c n b d p = Reading a b d n (gives_in a c b d) p

  abbrev ReadIn : ℕ → Relates DeviceInLeg
  ReadIn c b d p = InLeg a b d (gives_in a c b d) p

  -- after a read of c bytes
  abbrev pub AfterRead : ℕ → Relates AddressedDevice
  AfterRead c b d p = AfterLeg a b d (gives_in a c b d) p

  module _ (ds : List Behaviour) where
    abbrev es : List Behaviour
    es = all_noting_steps ds

    put_noted : (x : ℕ) (d : NotingDevices ds) (e : NotingInLeg ds) →
        Together DeviceInLeg In ds d e → Together DeviceInLeg In ds d (put_to_all es x e)
    put_noted x d e h = together_each DeviceInLeg DeviceInLeg In In (λ b. device_after_put b x)
        (λ b d p q. (q.0, put_in a b d x q.0 p q.1)) ds d e h

    write_noted : (l : ℕ) (xs : List ℕ) (n : ℕ) (d : NotingDevices ds) (e : NotingInLeg ds) →
        Together DeviceInLeg In ds d e → Together DeviceInLeg In ds d (write_result es l xs n e).devices
    write_noted l [] n d e h = h
    write_noted l (x ∷ xs) n d e h =
        let w = put_to_all es x e in
        let z = put_noted x d e h in
        took_keeps es (λ xs w. Together DeviceInLeg In ds d w) x (write_result es l xs (suc n) w)
        (leg_end es (Refused (record { leg = l; byte = n })) w) (any_in es w) (write_noted l xs (suc n) d w z) z

    read_noted : (c n : ℕ) (d : NotingDevices ds) (e : NotingInLeg ds) →
        Together DeviceInLeg (ReadingIn c n) ds d e → Together DeviceInLeg (ReadIn c) ds d (read_result es n e).devices
    read_noted c zero d e h = together_still DeviceInLeg (ReadingIn c 0) (ReadIn c)
        (λ b d p q. no_more a b d (gives_in a c b d) p q) ds d e h
    read_noted c (suc n) d e h = read_noted c n d (bank_map device_after_take es e)
        (together_each DeviceInLeg DeviceInLeg (ReadingIn c (suc n)) (ReadingIn c n) device_after_take
        (λ b d p q. take_in a b d n (gives_in a c b d) p q) ds d e h)

    called_noted : (r : Direction) (d : NotingDevices ds) → Together DeviceInLeg In ds d (called_for es a r d)
    called_noted r d = together_first DeviceInLeg In (λ b. device_after_call b a r) (λ b d. ([], call_in a b d r)) ds d

    read_called : (c : ℕ) (d : NotingDevices ds) →
        Together DeviceInLeg (ReadIn c) ds d (read_result es c (called_for es a Read d)).devices
    read_called c d = read_noted c c d (called_for es a Read d)
        (together_first DeviceInLeg (ReadingIn c c) (λ b. device_after_call b a Read)
        (λ b d. record { so_far = []; within = call_in a b d Read; whole = refl }) ds d)

    body_noted : (l : ℕ) (g : BodyModel) (d : NotingDevices ds) →
        Together DeviceInLeg In ds d (body_result es l g (called_for es a (body_direction g) d)).devices
    body_noted l (writes xs) d = let r = body_direction (writes xs) in
        write_noted l xs 0 d (called_for es a r d) (called_noted r d)
    body_noted l (reads n) d = together_still DeviceInLeg (ReadIn n) In (λ b d p q. (gives_in a n b d, q)) ds d
        (read_result es n (called_for es a Read d)).devices (read_called n d)

    -- after a leg
    pub leg_noted : (l : ℕ) (g : BodyModel) (d : NotingDevices ds) →
        let r = leg_result es l (record { address = a; body = g }) d in
        Together AddressedDevice After ds d (bank_map device_after_leg es r.devices)
    leg_noted l g d =
        let e = called_for es a (body_direction g) d in
        together_each DeviceInLeg AddressedDevice In After device_after_leg
        (λ b d p q. (q.0, settle_in a b d q.0 p q.1)) ds d
        (leg_result es l (record { address = a; body = g }) d).devices
        (took_keeps es (λ xs w. Together DeviceInLeg In ds d w) (address_byte a g) (body_result es l g e)
        (leg_end es (NoAnswer (record { leg = l })) e) (any_in es e)
        (body_noted l g d) (called_noted (body_direction g) d))

    -- and after a read that is called for
    pub read_leg_noted : (c : ℕ) (d : NotingDevices ds) → let r = read_result es c (called_for es a Read d) in
        Together AddressedDevice (AfterRead c) ds d (bank_map device_after_leg es r.devices)
    read_leg_noted c d =
        together_each DeviceInLeg AddressedDevice (ReadIn c) (AfterRead c) device_after_leg
        (λ b d p q. settle_in a b d (gives_in a c b d) p q) ds d
        (read_result es c (called_for es a Read d)).devices (read_called c d)
