-- A byte that a transfer carried alone reports somebody handed over, and it has the 1 bits that all had who did.
use Rattle.std.proofs.Common.{◌≡◌, ℕ, zero, suc, ◌+◌, ◌<◌, Bool, true, false, cond, List, [], ◌∷◌, ◌++◌, length}
use Rattle.std.proofs.Common.{append_assoc, append-nil, Some, None, Option, sym, refl, ap, ap₂, ◌∙◌, subst, inl, inr}
use Rattle.std.proofs.Common.{arith}
use Rattle.std.specs.Prelude.{slice_index_or}
use lib.Bits.{bit_and, and_comm}
use Rattle.std.proofs.Math.ListN.{get_or-append}
use Rattle.std.specs.List.{slice_get}
use Rattle.std.specs.Option.{option_to_list}
use Rattle.std.proofs.lemmas.Bool.{cond_both, or_cases}
use Rattle.std.proofs.lemmas.List.{get_or-append-add}
use Rattle.transfer.specs.declared.leg.Direction.TheVariants.{Read}
use Rattle.transfer.specs.declared.outcome.OutcomeKind.{OutcomeKind}
use Rattle.transfer.specs.declared.outcome.OutcomeKind.TheVariants.{Done, NoAnswer, Refused}
use Rattle.transfer.specs.Transfer.{TransferModel}
use Rattle.transfer.specs.Leg.{BodyModel, writes, reads, LegModel, body_direction}
use Rattle.transfer.specs.Outcome.{outcome_of_kind}
use Rattle.device.specs.Device.{Behaviour, Step}
use Rattle.transfer.specs.Address.{answers_to}
use Rattle.law.specs.AskedLaw.{noting_steps, all_noting_steps, all_nothing_noted, all_steps, leg_of, steps_of_calls}
use Rattle.law.specs.AskedLaw.{bytes_handed, called_before, handed_over, all_at, body_reads, read_before, JoinedFrom}
use Rattle.law.specs.Bank.{Bank, bank_map, bank_list}
use Rattle.law.specs.TransferResult.{AddressedDevice, DeviceInLeg, device_after_take, byte_given_by, device_after_leg}
use Rattle.law.specs.TransferResult.{joint_byte, LegResult, leg_end, any_in, write_result, read_result}
use Rattle.transfer.specs.Leg.{address_byte}
use Rattle.law.specs.TransferResult.{body_result, leg_result, result_after_leg, TransferResult, transfer_result}
use Rattle.transfer.specs.Leg.{read_leg}
use Rattle.law.proofs.Alone.ByteLawsHold.{took, mask}
use Rattle.law.proofs.Asked.DeviceMaps.{device_addresses}
use Rattle.law.proofs.Asked.NotesAreAsks.{NotingDevices, NotingInLeg}
use Rattle.law.proofs.Asked.SomebodyInAfterA.{devices_after_leg}
use Rattle.law.proofs.Asked.NotesOfLeg.{took_keeps, one_call, Since, calls_since, gave_if, Together, together_still}
use Rattle.law.proofs.Asked.NotesOfLeg.{gives_in, After, AfterRead, leg_noted, read_leg_noted}
use Rattle.law.proofs.Alone.PortsWithinByte.{joined_byte, called_for, put_to_all}

pub joined_alone : (x : ℕ) → x < 256 → joint_byte (x ∷ []) ≡ x
joined_alone x h = mask x h

-- of equals
pub joined_as : (xs ys : List ℕ) (x y : ℕ) → xs ≡ ys → x ≡ y → JoinedFrom xs x → JoinedFrom ys y
joined_as xs ys x y e f h = record { any = λ n. h.any (e ∙ n); byte = sym f ∙ (h.byte ∙ ap joint_byte e) }

-- what each device hands over in a read of n bytes
abbrev hands : ℕ → (ds : List Behaviour) → NotingInLeg ds → List (List ℕ)
hands n [] e = []
hands n (b ∷ ds) e = gave_if b e.0.inside n e.0.meaning.meaning ∷ hands n ds e.1

module _ (b : Behaviour) where
  -- one device more gives the first byte too
  first_one : (m : b.Meaning) (t : Bool) (n z : ℕ) (xss : List (List ℕ)) → z < 256 → z ≡ joint_byte (all_at 0 xss) →
      bit_and (cond t (b.take m).0 255) z ≡ joint_byte (all_at 0 (gave_if b t (suc n) m ∷ xss))
  first_one m t n z xss h e = grind (arith, and_comm 255 z, mask z h, e)

  abbrev byte_at : ℕ → b.Meaning → ℕ → Bool → List ℕ
  byte_at n m k t = option_to_list (slice_get (gave_if b t n m) k)

  -- once a byte is taken the others are one place nearer
  later_one : (p : DeviceInLeg (noting_steps b)) (n k : ℕ) → let q = device_after_take (noting_steps b) p in
      byte_at n q.meaning.meaning k q.inside ≡ byte_at (suc n) p.meaning.meaning (suc k) p.inside
  later_one p n k =
      let m = p.meaning.meaning in
      cond_both p.inside (record p { meaning = ((noting_steps b).take p.meaning).1; inside = true }) p
      (λ q. byte_at n q.meaning.meaning k q.inside ≡ byte_at (suc n) m (suc k) p.inside)
      (λ i. ap (byte_at (suc n) m (suc k)) (sym i))
      (λ i. ap (byte_at n m k) i ∙ ap (byte_at (suc n) m (suc k)) (sym i))

first_hands : (n : ℕ) (ds : List Behaviour) (e : NotingInLeg ds) →
    joint_byte (bank_list byte_given_by (all_noting_steps ds) e) ≡ joint_byte (all_at 0 (hands (suc n) ds e))
first_hands n [] e = refl
first_hands n (b ∷ ds) e =
    let xs = bank_list byte_given_by (all_noting_steps ds) e.1 in
    first_one b e.0.meaning.meaning e.0.inside n (joint_byte xs) (hands (suc n) ds e.1)
    (joined_byte xs) (first_hands n ds e.1)

later_hands : (n k : ℕ) (ds : List Behaviour) (e : NotingInLeg ds) →
    all_at k (hands n ds (bank_map device_after_take (all_noting_steps ds) e)) ≡ all_at (suc k) (hands (suc n) ds e)
later_hands n k [] e = refl
later_hands n k (b ∷ ds) e = ap₂ ◌++◌ (later_one b e.0 n k) (later_hands n k ds e.1)

read_gives : (n y : ℕ) (ds : List Behaviour) (e : NotingInLeg ds) → y < n →
    slice_index_or (read_result (all_noting_steps ds) n e).bytes y 0 ≡ joint_byte (all_at y (hands n ds e))
read_gives zero y ds e h = absurd (omega arith)
read_gives (suc n) zero ds e h = first_hands n ds e
read_gives (suc n) (suc y) ds e h =
    read_gives n y ds (bank_map device_after_take (all_noting_steps ds) e) (omega arith)
    ∙ ap joint_byte (later_hands n y ds e)

-- who is in hands a byte over for each
gives_one : (b : Behaviour) (t : Bool) (n y : ℕ) (m : b.Meaning) (xs : List ℕ) → t ≡ true → y < n →
    option_to_list (slice_get (gave_if b t n m) y) ++ xs ≡ [] → ⊥
gives_one b false n y m xs i h e = cc
gives_one b true zero y m xs i h e = omega arith
gives_one b true (suc n) zero m xs i h e = cc
gives_one b true (suc n) (suc y) m xs i h e = gives_one b true n y (b.take m).1 xs i (omega arith) e

none_behind : (xs ys : List ℕ) → xs ++ ys ≡ [] → ys ≡ []
none_behind [] ys e = e
none_behind (x ∷ xs) ys e = cc

some_hands : (n y : ℕ) (ds : List Behaviour) (e : NotingInLeg ds) →
    y < n → any_in (all_noting_steps ds) e ≡ true → all_at y (hands n ds e) ≡ [] → ⊥
some_hands n y [] e h i k = cc
some_hands n y (b ∷ ds) e h i k =
    let m = e.0.meaning.meaning in
    let later = all_at y (hands n ds e.1) in
    elim (or_cases e.0.inside (any_in (all_noting_steps ds) e.1) i) [
      | inl j ↦ gives_one b e.0.inside n y m later j h k
      | inr j ↦ some_hands n y ds e.1 h j
          (none_behind (option_to_list (slice_get (gave_if b e.0.inside n m) y)) later k)
    ]

read_hands : (n y : ℕ) (ds : List Behaviour) (e : NotingInLeg ds) → y < n → any_in (all_noting_steps ds) e ≡ true →
    JoinedFrom (all_at y (hands n ds e)) (slice_index_or (read_result (all_noting_steps ds) n e).bytes y 0)
read_hands n y ds e h i = record { any = some_hands n y ds e h i; byte = read_gives n y ds e h }

-- a call stays where it is, whatever is called later
one_handed : (v : Bool) (hs : List ℕ) (ks ls rs : List Step) (c : ℕ) (cs : List (List Step)) → Since v hs ks ls →
    steps_of_calls rs ≡ steps_of_calls ls ++ cs → (v ≡ true → length (steps_of_calls ks) ≡ c) →
    cond v (bytes_handed (slice_index_or (steps_of_calls rs) c [])) [] ≡ hs
one_handed v hs ks ls rs c cs (inl h) e g =
    let q = h.1 in
    let xs = steps_of_calls ks in
    let last : steps_of_calls ls ≡ xs ++ (q.steps ∷ []) = ap steps_of_calls q.noted
    ∙ one_call ks q.steps q.way q.answer q.no_select in
    let all : steps_of_calls rs ≡ xs ++ (q.steps ∷ cs) = e
    ∙ (ap (λ l. l ++ cs) last ∙ append_assoc xs (q.steps ∷ []) cs) in
    let n : c ≡ length xs + 0 = (let z = g h.0 in omega arith) in
    ap (λ w. cond w (bytes_handed (slice_index_or (steps_of_calls rs) c [])) []) h.0
    ∙ (ap bytes_handed ((λ i. slice_index_or (all i) (n i) []) ∙ get_or-append-add xs (q.steps ∷ cs) 0 []) ∙ q.handed)
one_handed v hs ks ls rs c cs (inr h) e g =
    ap (λ w. cond w (bytes_handed (slice_index_or (steps_of_calls rs) c [])) []) h.0 ∙ sym h.1

-- more calls, if any
abbrev More : (b : Behaviour) → AddressedDevice (noting_steps b) → AddressedDevice (noting_steps b) → Type 0
More b d p = (cs : List (List Step)) × (steps_of_calls p.meaning.steps ≡ steps_of_calls d.meaning.steps ++ cs)

no_calls_more : (ds : List Behaviour) (d : NotingDevices ds) → Together AddressedDevice More ds d d
no_calls_more [] d = tt
no_calls_more (b ∷ ds) d = (([], sym (append-nil (steps_of_calls d.0.meaning.steps))), no_calls_more ds d.1)

leg_more : (a : ℕ) (ds : List Behaviour) (d e : NotingDevices ds) →
    Together AddressedDevice (After a) ds d e → Together AddressedDevice More ds d e
leg_more a ds d e h = together_still AddressedDevice (After a) More
    (λ b d p q. let c = calls_since (answers_to d.address a) q.0 d.meaning.steps p.meaning.steps q.1.since in
    (c.call, c.last)) ds d e h

-- how often a port with this address was called in an earlier leg at f
abbrev called_in : ℕ → ℕ → ℕ
called_in f o = cond (answers_to o f) 1 0

module _ (a n : ℕ) where
  -- what was handed over in leg 0, and in leg 1
  handed_first : (ds : List Behaviour) (d : Bank AddressedDevice ds) (e z : NotingDevices ds) →
      let new = all_nothing_noted ds d in
      Together AddressedDevice (AfterRead a n) ds new e → Together AddressedDevice More ds e z →
      handed_over a (λ o. 0) (device_addresses ds d) (all_steps ds z) ≡
      hands n ds (called_for (all_noting_steps ds) a Read new)
  handed_first [] d e z h k = refl
  handed_first (b ∷ ds) d e z h k =
      let gives = gives_in a n b (all_nothing_noted (b ∷ ds) d).0 in
      ap₂ ◌∷◌
      (one_handed (answers_to d.0.address a) gives [] e.0.meaning.steps z.0.meaning.steps
      0 k.0.0 h.0.since k.0.1 (λ v. refl))
      (handed_first ds d.1 e.1 z.1 h.1 k.1)

  handed_second : (f : ℕ) (ds : List Behaviour) (d : Bank AddressedDevice ds) (e z : NotingDevices ds) →
      Together AddressedDevice (After f) ds (all_nothing_noted ds d) e →
      Together AddressedDevice (AfterRead a n) ds e z →
      handed_over a (called_in f) (device_addresses ds d) (all_steps ds z) ≡
      hands n ds (called_for (all_noting_steps ds) a Read e)
  handed_second f [] d e z h k = refl
  handed_second f (b ∷ ds) d e z h k =
      let o = d.0.address in
      let after = z.0.meaning.steps in
      let c = calls_since (answers_to o f) h.0.0 [] e.0.meaning.steps h.0.1.since in
      let handed = bytes_handed (slice_index_or (steps_of_calls after) (called_in f o) []) in
      ap₂ ◌∷◌
      (ap (λ v. cond (answers_to v a) handed []) (sym h.0.1.address)
      ∙ one_handed (answers_to e.0.address a) (gives_in a n b e.0) e.0.meaning.steps after after
      (called_in f o) [] k.0.since (sym (append-nil (steps_of_calls after))) (λ v. ap length c.last ∙ c.one))
      (handed_second f ds d.1 e.1 z.1 h.1 k.1)

-- a transfer that is done has a last leg that is, and reports its bytes
named_done : (k : OutcomeKind) (ys : List ℕ) → (outcome_of_kind k ys).kind ≡ Done →
    (k ≡ Done) × ((outcome_of_kind k ys).bytes ≡ ys)
named_done k ys h = grind (arith, h)

-- the bytes of a leg that is done
module _ (es : List Behaviour) where
  read_length : (n : ℕ) (e : Bank DeviceInLeg es) → length (read_result es n e).bytes ≡ n
  read_length zero e = refl
  read_length (suc n) e = omega (arith, read_length n (bank_map device_after_take es e))

  write_bytes : (l : ℕ) (xs : List ℕ) (n : ℕ) (e : Bank DeviceInLeg es) → (write_result es l xs n e).bytes ≡ []
  write_bytes l [] n e = refl
  write_bytes l (x ∷ xs) n e =
      let w = put_to_all es x e in
      let s = leg_end es (Refused (record { leg = l; byte = n })) w in
      took_keeps es (λ ys d. ys ≡ []) x (write_result es l xs (suc n) w) s (any_in es w)
      (write_bytes l xs (suc n) w) refl

  body_length : (l : ℕ) (g : BodyModel) (e : Bank DeviceInLeg es) → length (body_result es l g e).bytes ≡ body_reads g
  body_length l (writes xs) e = ap length (write_bytes l xs 0 e)
  body_length l (reads n) e = read_length n e

  -- what follows the address of a leg that is done, and that somebody is in
  abbrev Answered : ℕ → LegModel → Bank AddressedDevice es → LegResult es → Type 0
  Answered l g d r =
      let e = called_for es g.address (body_direction g.body) d in
      let b = body_result es l g.body e in
      (r.bytes ≡ b.bytes) × (r.devices ≡ b.devices) × (any_in es e ≡ true)

  answered : (l : ℕ) (g : LegModel) (d : Bank AddressedDevice es) →
      (leg_result es l g d).kind ≡ Done → Answered l g d (leg_result es l g d)
  answered l g d = go (any_in es e) refl
    where
      e : Bank DeviceInLeg es
      e = called_for es g.address (body_direction g.body) d

      r : Bool → LegResult es
      r t = took es (address_byte g.address g.body) (body_result es l g.body e)
          (leg_end es (NoAnswer (record { leg = l })) e) t

      go : (t : Bool) → any_in es e ≡ t → (r t).kind ≡ Done → Answered l g d (r t)
      go true i k = (refl, refl, i)
      go false i k = cc

module _ (ds : List Behaviour) (d : Bank AddressedDevice ds) (a n y : ℕ) (h : y < n) where
  abbrev rs : List Behaviour
  rs = all_noting_steps ds

  abbrev new : NotingDevices ds
  new = all_nothing_noted ds d

  -- what was handed over for the byte, if a port with address o was called (c o) times before
  abbrev by : (ℕ → ℕ) → NotingDevices ds → List ℕ
  by c z = all_at y (handed_over a c (device_addresses ds d) (all_steps ds z))

  -- a byte of a read in leg 0, whatever is read behind it
  in_first : (more : List ℕ) (z : NotingDevices ds) → let r = leg_result rs 0 (read_leg a n) new in
      r.kind ≡ Done → Together AddressedDevice More ds (devices_after_leg rs r) z →
      JoinedFrom (by (λ o. 0) z) (slice_index_or (r.bytes ++ more) y 0)
  in_first more z k m =
      let r = leg_result rs 0 (read_leg a n) new in
      let q = answered rs 0 (read_leg a n) new k in
      let e = called_for rs a Read new in
      let s = subst (λ w. Together AddressedDevice (AfterRead a n) ds new (bank_map device_after_leg rs w)) (sym q.1)
      (read_leg_noted a ds n new) in
      let bytes : slice_index_or (read_result rs n e).bytes y 0 ≡ slice_index_or (r.bytes ++ more) y 0 =
      sym (get_or-append r.bytes more 0 y (omega (arith, ap length q.0, read_length rs n e))
      ∙ ap (λ l. slice_index_or l y 0) q.0) in
      joined_as (all_at y (hands n ds e)) (by (λ o. 0) z) (slice_index_or (read_result rs n e).bytes y 0)
      (slice_index_or (r.bytes ++ more) y 0)
      (ap (all_at y) (sym (handed_first a n ds d (devices_after_leg rs r) z s m))) bytes (read_hands n y ds e h q.2)

  -- a byte of a read in leg 1, behind leg w
  in_second : (w : LegModel) →
      let r = leg_result rs 0 w new in
      let q = leg_result rs 1 (read_leg a n) (devices_after_leg rs r) in
      r.kind ≡ Done → q.kind ≡ Done →
      JoinedFrom (by (called_in w.address) (devices_after_leg rs q))
      (slice_index_or (r.bytes ++ q.bytes) (body_reads w.body + y) 0)
  in_second w k j =
      let r = leg_result rs 0 w new in
      let s = devices_after_leg rs r in
      let q = leg_result rs 1 (read_leg a n) s in
      let u = answered rs 1 (read_leg a n) s j in
      let e = called_for rs a Read s in
      let f = subst (λ p. Together AddressedDevice (AfterRead a n) ds s (bank_map device_after_leg rs p)) (sym u.1)
      (read_leg_noted a ds n s) in
      let long : length r.bytes ≡ body_reads w.body = ap length (answered rs 0 w new k).0
      ∙ body_length rs 0 w.body (called_for rs w.address (body_direction w.body) new) in
      let all = r.bytes ++ q.bytes in
      let bytes : slice_index_or (read_result rs n e).bytes y 0 ≡ slice_index_or all (body_reads w.body + y) 0 =
      sym (ap (λ m. slice_index_or all (m + y) 0) (sym long)
      ∙ (get_or-append-add r.bytes q.bytes y 0 ∙ ap (λ l. slice_index_or l y 0) u.0)) in
      joined_as (all_at y (hands n ds e)) (by (called_in w.address) (devices_after_leg rs q))
      (slice_index_or (read_result rs n e).bytes y 0) (slice_index_or all (body_reads w.body + y) 0)
      (ap (all_at y) (sym (handed_second a n w.address ds d s (devices_after_leg rs q)
      (leg_noted w.address ds 0 w.body new) f)))
      bytes (read_hands n y ds e h u.2)

  first_told : (o : Option LegModel) → let r = leg_result rs 0 (read_leg a n) new in (k : OutcomeKind) → r.kind ≡ k →
      let c = result_after_leg rs r k o in
      c.outcome.kind ≡ Done → JoinedFrom (by (λ o. 0) c.devices) (slice_index_or c.outcome.bytes y 0)
  first_told None Done e g =
      let r = leg_result rs 0 (read_leg a n) new in
      let z = named_done r.kind r.bytes g in
      subst (λ l. JoinedFrom (by (λ o. 0) (devices_after_leg rs r)) (slice_index_or l y 0))
      (sym (z.1 ∙ sym (append-nil r.bytes)))
      (in_first [] (devices_after_leg rs r) z.0 (no_calls_more ds (devices_after_leg rs r)))
  first_told (Some w) Done e g =
      let r = leg_result rs 0 (read_leg a n) new in
      let s = devices_after_leg rs r in
      let q = leg_result rs 1 w s in
      let z = named_done q.kind (r.bytes ++ q.bytes) g in
      subst (λ l. JoinedFrom (by (λ o. 0) (devices_after_leg rs q)) (slice_index_or l y 0)) (sym z.1)
      (in_first q.bytes (devices_after_leg rs q) e
      (leg_more w.address ds s (devices_after_leg rs q) (leg_noted w.address ds 1 w.body s)))
  first_told o (NoAnswer p) e g =
      let r = leg_result rs 0 (read_leg a n) new in let z = sym e ∙ (named_done r.kind r.bytes g).0 in cc
  first_told o (Refused p) e g =
      let r = leg_result rs 0 (read_leg a n) new in let z = sym e ∙ (named_done r.kind r.bytes g).0 in cc

  second_told : (w : LegModel) → let r = leg_result rs 0 w new in (k : OutcomeKind) → r.kind ≡ k →
      let c = result_after_leg rs r k (Some (read_leg a n)) in
      c.outcome.kind ≡ Done →
      JoinedFrom (by (called_in w.address) c.devices) (slice_index_or c.outcome.bytes (body_reads w.body + y) 0)
  second_told w Done e g =
      let r = leg_result rs 0 w new in
      let q = leg_result rs 1 (read_leg a n) (devices_after_leg rs r) in
      let z = named_done q.kind (r.bytes ++ q.bytes) g in
      subst (λ l. JoinedFrom (by (called_in w.address) (devices_after_leg rs q))
      (slice_index_or l (body_reads w.body + y) 0))
      (sym z.1) (in_second w e z.0)
  second_told w (NoAnswer p) e g =
      let r = leg_result rs 0 w new in let z = sym e ∙ (named_done r.kind r.bytes g).0 in cc
  second_told w (Refused p) e g =
      let r = leg_result rs 0 w new in let z = sym e ∙ (named_done r.kind r.bytes g).0 in cc

  -- a transfer carried alone by devices that have noted nothing
  abbrev result : TransferModel → TransferResult rs
  result t = transfer_result rs t new

  pub reported_alone : (t : TransferModel) (k : ℕ) → (result t).outcome.kind ≡ Done → leg_of t k ≡ Some (read_leg a n) →
      JoinedFrom (by (called_before t k) (result t).devices)
      (slice_index_or (result t).outcome.bytes (read_before t k + y) 0)
  reported_alone t zero g e =
      let z : t.first ≡ read_leg a n = cc in
      let p : 0 + y ≡ y = omega arith in
      subst (λ w. let c = result (record t { first = w }) in
      c.outcome.kind ≡ Done → JoinedFrom (by (λ o. 0) c.devices) (slice_index_or c.outcome.bytes (0 + y) 0))
      (sym z) (λ f. let c = result (record t { first = read_leg a n }) in
      subst (λ m. JoinedFrom (by (λ o. 0) c.devices) (slice_index_or c.outcome.bytes m 0)) (sym p)
      (first_told t.second (leg_result rs 0 (read_leg a n) new).kind refl f)) g
  reported_alone t (suc zero) g e =
      subst (λ o. let c = result (record t { second = o }) in c.outcome.kind ≡ Done →
      JoinedFrom (by (called_in t.first.address) c.devices)
      (slice_index_or c.outcome.bytes (body_reads t.first.body + y) 0))
      (sym e) (λ f. second_told t.first (leg_result rs 0 t.first new).kind refl f) g
  reported_alone t (suc (suc k)) g e = cc
