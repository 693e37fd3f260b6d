-- After an A for the call of a leg or a byte written in it some device has noted the leg's select and its bytes so far.
use Rattle.std.proofs.Common.{◌≡◌, ℕ, suc, ◌≤◌, true, false, List, [], ◌∷◌, ◌++◌, map, take as first, append_assoc}
use Rattle.std.proofs.Common.{append-nil, Some, sym, ap, ◌∙◌, subst, inl, inr}
use Rattle.std.specs.Prelude.{slice_index_or}
use Rattle.std.proofs.lemmas.Bool.{cond_both, or_cases}
use Rattle.std.proofs.lemmas.List.{map-append}
use Rattle.transfer.specs.declared.leg.Direction.{Direction}
use Rattle.transfer.specs.declared.leg.Direction.TheVariants.{Write, Read}
use Rattle.transfer.specs.Transfer.{TransferModel}
use Rattle.transfer.specs.Leg.{BodyModel, writes, reads, LegModel}
use Rattle.device.specs.Device.{Behaviour, select, put, take}
use Rattle.master.specs.Cursor.{new_cursor}
use Rattle.master.specs.Script.{transfers}
use Rattle.transfer.specs.Address.{answers_to}
use Rattle.law.specs.AskedLaw.{noting_steps, all_noting_steps, leg_of, acknowledge_at, EndsWith, Acknowledged}
use Rattle.law.specs.AskedLaw.{AtSomePort, body_writes}
use Rattle.law.specs.Bank.{bank_map}
use Rattle.law.specs.TransferResult.{AddressedDevice, DeviceInLeg, device_after_select, device_after_call}
use Rattle.law.specs.TransferResult.{device_with_answer, device_after_put, device_after_take, any_in}
use Rattle.law.specs.Facts.{devices_after_puts}
use Rattle.transfer.specs.Leg.{write_leg, read_leg}
use Rattle.transfer.specs.Legal.{IsLegal}
use Rattle.law.specs.Letter.{zero as low, one}
use Rattle.law.proofs.FarSide.{string, last}
use Rattle.law.proofs.Asked.SomebodyInAfterA.{in_leg_after, HasAnswered, low_carried, answered}
use Rattle.law.proofs.Alone.PortsWithinByte.{writing_at, reading_at, called_for, put_to_all, ready}
use Rattle.law.proofs.Alone.PortsAsSide.{ports_side}
use Rattle.law.proofs.Alone.PlayedIsCarried.{opened_ports}
use Rattle.law.proofs.Asked.DeviceMaps.{port_addresses}
use Rattle.law.proofs.Asked.NotesAreAsks.{NotingDevices, NotingInLeg, NotingPorts, noted_by}

module _ (a : ℕ) (r : Direction) where
  -- who is in was called for, and its steps end with this select and these bytes
  abbrev Took : (b : Behaviour) → List ℕ → DeviceInLeg (noting_steps b) → Type 0
  Took b ys p = p.inside ≡ true →
      (answers_to p.address a ≡ true) × EndsWith p.meaning.steps (select r true ∷ map (λ x. put x true) ys)

  called_took : (b : Behaviour) (d : AddressedDevice (noting_steps b)) →
      Took b [] (device_after_call (noting_steps b) a r d)
  called_took b d = let ss = d.meaning.steps in
      cond_both (answers_to d.address a)
      (device_after_select (noting_steps b) d ((noting_steps b).select d.meaning r))
      (device_after_select (noting_steps b) d (false, d.meaning))
      (Took b [])
      (λ e h. (e, (ss, ap (λ v. ss ++ (select r v ∷ [])) h)))
      (λ e h. cc)

  put_took : (b : Behaviour) (x : ℕ) (ys : List ℕ) (p : DeviceInLeg (noting_steps b)) →
      Took b ys p → Took b (ys ++ (x ∷ [])) (device_after_put (noting_steps b) x p)
  put_took b x ys p h =
      cond_both p.inside (device_with_answer (noting_steps b) p ((noting_steps b).put p.meaning x)) p
      (Took b (ys ++ (x ∷ [])))
      (λ e i. let z = h e in (
        z.0,
        (
          z.1.0,
          ap (λ v. p.meaning.steps ++ (put x v ∷ [])) i
              ∙ (ap (λ l. l ++ (put x true ∷ [])) z.1.1
              ∙ (append_assoc z.1.0 (select r true ∷ map (λ x. put x true) ys) (put x true ∷ [])
              ∙ ap (λ l. z.1.0 ++ (select r true ∷ l)) (sym (map-append (λ x. put x true) ys (x ∷ []))))),
        ),
      ))
      (λ e i. let z : false ≡ true = sym e ∙ i in cc)

  abbrev AllTook : List ℕ → (ds : List Behaviour) → NotingInLeg ds → Type 0
  AllTook ys [] e = Unit {0}
  AllTook ys (b ∷ ds) e = Took b ys e.0 × AllTook ys ds e.1

  all_called : (ds : List Behaviour) (d : NotingDevices ds) → AllTook [] ds (called_for (all_noting_steps ds) a r d)
  all_called [] d = tt
  all_called (b ∷ ds) d = (called_took b d.0, all_called ds d.1)

  all_put : (x : ℕ) (ys : List ℕ) (ds : List Behaviour) (e : NotingInLeg ds) →
      AllTook ys ds e → AllTook (ys ++ (x ∷ [])) ds (put_to_all (all_noting_steps ds) x e)
  all_put x ys [] e h = tt
  all_put x ys (b ∷ ds) e h = (put_took b x ys e.0 h.0, all_put x ys ds e.1 h.1)

  -- all that are in took the bytes of these puts
  all_puts : (xs ys : List ℕ) (ds : List Behaviour) (e : NotingInLeg ds) →
      AllTook ys ds e → AllTook (ys ++ xs) ds (devices_after_puts (all_noting_steps ds) xs e)
  all_puts [] ys ds e h = subst (λ l. AllTook l ds e) (sym (append-nil ys)) h
  all_puts (x ∷ xs) ys ds e h =
      let w = put_to_all (all_noting_steps ds) x e in
      subst (λ l. AllTook l ds (devices_after_puts (all_noting_steps ds) xs w)) (append_assoc ys (x ∷ []) xs)
      (all_puts xs (ys ++ (x ∷ [])) ds w (all_put x ys ds e h))

-- called for a read, it gives a first byte at once
read_took : (n m a : ℕ) (b : Behaviour) (p : DeviceInLeg (noting_steps b)) → p.inside ≡ true → Took a Read b [] p →
    (answers_to p.address a ≡ true) × Acknowledged (reads n) m (device_after_take (noting_steps b) p).meaning.steps
read_took n m a b p i h =
    let z = h i in
    let q = b.take p.meaning.meaning in (
      z.0,
      cond_both p.inside
          (record { address = p.address; meaning = ((noting_steps b).take p.meaning).1; yes = p.yes; inside = true }) p
          (λ w. Acknowledged (reads n) m w.meaning.steps)
          (λ e. (
            q.0,
            (
              z.1.0,
              ap (λ l. l ++ (take q.0 ∷ [])) z.1.1 ∙ append_assoc z.1.0 (select Read true ∷ []) (take q.0 ∷ []),
            ),
          ))
          (λ e. let y : true ≡ false = sym i ∙ e in cc),
    )

-- of some port the steps noted are those of a device that acknowledged this call and this many bytes
abbrev Reached : (ds : List Behaviour) → LegModel → ℕ → NotingPorts ds → Type 0
Reached ds g m s = AtSomePort (port_addresses (all_noting_steps ds) s) (noted_by ds s) g.address (Acknowledged g.body m)

module _ (a m : ℕ) where
  writing : (xs : List ℕ) (ds : List Behaviour) (w : NotingInLeg ds) → let es = all_noting_steps ds in
      AllTook a Write (first m xs) ds w → any_in es w ≡ true →
      Reached ds (write_leg a xs) m (bank_map (writing_at 0 0) es w)
  writing xs [] w h k = cc
  writing xs (b ∷ ds) w h k = elim (or_cases w.0.inside (any_in (all_noting_steps ds) w.1) k) [
    | inl i ↦ inl (h.0 i)
    | inr i ↦ inr (writing xs ds w.1 h.1 i)
  ]

  reading : (n : ℕ) (ds : List Behaviour) (w : NotingInLeg ds) → let es = all_noting_steps ds in
      AllTook a Read [] ds w → any_in es w ≡ true → Reached ds (read_leg a n) m (bank_map (reading_at 0) es w)
  reading n [] w h k = cc
  reading n (b ∷ ds) w h k = elim (or_cases w.0.inside (any_in (all_noting_steps ds) w.1) k) [
    | inl i ↦ inl (read_took n m a b w.0 i h.0)
    | inr i ↦ inr (reading n ds w.1 h.1 i)
  ]

  in_leg_reached : (b : BodyModel) (ds : List Behaviour) (d : NotingDevices ds) →
      let g : LegModel = record { address = a; body = b } in
      let w = in_leg_after (all_noting_steps ds) g m d in
      any_in (all_noting_steps ds) w ≡ true → Reached ds g m (ready (all_noting_steps ds) b w)
  in_leg_reached (writes xs) ds d h =
      let es = all_noting_steps ds in
      let e = called_for es a Write d in
      writing xs ds (devices_after_puts es (first m xs) e)
      (all_puts a Write (first m xs) [] ds e (all_called a Write ds d)) h
  in_leg_reached (reads n) ds d h = reading n ds (called_for (all_noting_steps ds) a Read d) (all_called a Read ds d) h

-- once the slots up to this acknowledge are gone, and its own
pub played_reached : (ds : List Behaviour) (t : TransferModel) (d : NotingDevices ds) (i k m : ℕ) (g : LegModel) →
    let es = all_noting_steps ds in
    IsLegal t → leg_of t k ≡ Some g → m ≤ body_writes g.body →
    let s = opened_ports es d in
    slice_index_or (string transfers (ports_side es) i (new_cursor t) s) (acknowledge_at t k m) one ≡ low →
    Reached ds g m (last transfers (ports_side es) (suc (acknowledge_at t k m)) (new_cursor t) s)
played_reached ds t d i k m g l e h q =
    let es = all_noting_steps ds in
    let j = acknowledge_at t k m in
    let p : HasAnswered es j (new_cursor t) (opened_ports es d) g m =
    answered es t d k m g l e h (low_carried es t d i j l q) in
    subst (Reached ds g m) (sym p.then) (in_leg_reached g.address m g.body ds p.before p.some)
