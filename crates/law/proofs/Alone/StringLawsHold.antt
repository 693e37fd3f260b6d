-- The laws of strings hold: one stop, at the end; at most most_letters; none begins another; a string says the outcome.
use Rattle.std.proofs.Common.{◌≡◌, ℕ, suc, ◌≤◌, Bool, cond, ltb, ◌⊎◌, List, [], ◌∷◌, ◌++◌, map, length, Some}
use Rattle.std.proofs.Common.{None, Option, sym, refl, ap, ◌∙◌, inl, inr, append_assoc, le_refl, arith}
use Rattle.std.specs.Prelude.{slice_index_or}
use Rattle.std.proofs.Math.Seq.{get_or-append_seam}
use Rattle.std.proofs.lemmas.Bool.{ne_eqb}
use Rattle.transfer.specs.declared.outcome.OutcomeKind.{OutcomeKind}
use Rattle.transfer.specs.declared.outcome.OutcomeKind.TheVariants.{Done, NoAnswer, Refused}
use Rattle.transfer.specs.Transfer.{TransferModel}
use Rattle.transfer.specs.Leg.{LegModel}
use Rattle.device.specs.Device.{Behaviour}
use Rattle.law.specs.Bank.{Bank, bank_map}
use Rattle.law.specs.TransferResult.{AddressedDevice, device_after_leg, leg_result}
use Rattle.law.specs.TransferResult.{LegResult, result_after_leg, transfer_result}
use Rattle.master.specs.Cursor.{at_end, cursor_at, new_cursor, outcome_of}
use Rattle.master.specs.Script.{Script, transfers}
use Rattle.law.specs.Letter.{Letter, stop, restart, rank, bit_letter, first_or_same}
use Rattle.law.proofs.FarSide.{Side, ends, heard, after, string}
use Rattle.law.proofs.Alone.CursorsStayAlike.{open_alike}
use Rattle.law.proofs.Alone.PlayedIsCarried.{opened_ports, agrees}
use Rattle.transfer.specs.Legal.{IsLegal}
use Rattle.law.specs.Limits.{most_letters}
use Rattle.law.specs.Facts.{WithoutStop, OneStop, IsParting, IsBit, ZeroAgainstOne}
use Rattle.law.specs.Facts.{condition, SameConditions, StringLaws}
use Rattle.law.proofs.Alone.PortsAsSide.{ports_side}
use Rattle.law.proofs.Alone.SlotsRunOut.{slots_left, at_most}
use Rattle.law.proofs.LetterByRank.{same_rank, cases_letter}
use Rattle.law.proofs.Alone.StringSaysOutcome.{Twins, same_end}

bit_no_stop : (b : Bool) → bit_letter b ≡ stop → ⊥
bit_no_stop b h = grind arith

bits_no_stop : (bs : List Bool) → WithoutStop (map bit_letter bs)
bits_no_stop [] = tt
bits_no_stop (b ∷ bs) = (bit_no_stop b, bits_no_stop bs)

both_no_stop : (ts us : List Letter) → WithoutStop ts → WithoutStop us → WithoutStop (ts ++ us)
both_no_stop [] us h k = k
both_no_stop (t ∷ ts) us h k = (h.0, both_no_stop ts us h.1 k)

-- a string with its stop at the end, and more, is no other
none_begins : (ts us vs : List Letter) → WithoutStop ts → WithoutStop us →
    (ts ++ (stop ∷ [])) ++ vs ≡ us ++ (stop ∷ []) → vs ≡ []
none_begins [] [] vs h k e = cc
none_begins [] (u ∷ us) vs h k e = absurd (k.0 (cc))
none_begins (t ∷ ts) [] vs h k e = absurd (h.0 (cc))
none_begins (t ∷ ts) (u ∷ us) vs h k e = none_begins ts us vs h.1 k.1 (cc)

parting_later : (t : Letter) (ts us : List Letter) → IsParting ts us → IsParting (t ∷ ts) (t ∷ us)
parting_later t ts us p = record {
  front = t ∷ p.front;
  one_letter = p.one_letter;
  other_letter = p.other_letter;
  one_rest = p.one_rest;
  other_rest = p.other_rest;
  one_is = ap (λ r. t ∷ r) p.one_is;
  other_is = ap (λ r. t ∷ r) p.other_is;
  differ = p.differ;
}

parting_here : (t u : Letter) (ts us : List Letter) → (t ≡ u → ⊥) → IsParting (t ∷ ts) (u ∷ us)
parting_here t u ts us h = record {
  front = [];
  one_letter = t;
  other_letter = u;
  one_rest = ts;
  other_rest = us;
  one_is = refl;
  other_is = refl;
  differ = h;
}

-- two strings with their stops are the same or part
parting : (ts us : List Letter) → WithoutStop ts → WithoutStop us →
    (ts ++ (stop ∷ []) ≡ us ++ (stop ∷ [])) ⊎ IsParting (ts ++ (stop ∷ [])) (us ++ (stop ∷ []))
parting [] [] h k = inl refl
parting [] (u ∷ us) h k = inr (parting_here stop u [] (us ++ (stop ∷ [])) (λ e. k.0 (sym e)))
parting (t ∷ ts) [] h k = inr (parting_here t stop (ts ++ (stop ∷ [])) [] h.0)
parting (t ∷ ts) (u ∷ us) h k = go (cases_letter t u) (parting ts us h.1 k.1)
  where
    vs : List Letter
    vs = ts ++ (stop ∷ [])

    ws : List Letter
    ws = us ++ (stop ∷ [])

    go : (t ≡ u) ⊎ (t ≡ u → ⊥) → (vs ≡ ws) ⊎ IsParting vs ws → (t ∷ vs ≡ u ∷ ws) ⊎ IsParting (t ∷ vs) (u ∷ ws)
    go (inr d) r = inr (parting_here t u vs ws d)
    go (inl e) (inl r) = inl (λ i. e i ∷ r i)
    go (inl e) (inr r) = inr (rw e (parting_later u vs ws r))

-- two bits that differ are 0 and 1
zero_against_one : (t u : Letter) → (t ≡ u → ⊥) → IsBit t → IsBit u → ZeroAgainstOne t u
zero_against_one t u h k e = grind arith

-- letters that differ, with the same condition or none, are 0 and 1
bits_or_same : (t u : Letter) → (t ≡ u → ⊥) → condition t ≡ condition u → ZeroAgainstOne t u
bits_or_same t u h k = grind arith

-- strings with the same conditions part at a bit
bits_decide : (ts us : List Letter) (p : IsParting ts us) → SameConditions ts us →
    ZeroAgainstOne p.one_letter p.other_letter
bits_decide ts us p h =
    let k = length p.front in
    let one_at : slice_index_or ts k stop ≡ p.one_letter =
    ap (λ r. slice_index_or r k stop) p.one_is ∙ get_or-append_seam p.front p.one_letter p.one_rest stop in
    let other_at : slice_index_or us k stop ≡ p.other_letter =
    ap (λ r. slice_index_or r k stop) p.other_is ∙ get_or-append_seam p.front p.other_letter p.other_rest stop in
    bits_or_same p.one_letter p.other_letter p.differ (sym (ap condition one_at) ∙ h k ∙ ap condition other_at)

-- the first letter that differs says which string is the first
first_by_letter : (ts : List Letter) (t u : Letter) (vs ws : List Letter) → (t ≡ u → ⊥) →
    first_or_same (ts ++ (t ∷ vs)) (ts ++ (u ∷ ws)) ≡ ltb (rank t) (rank u)
first_by_letter [] t u vs ws d = rw (ne_eqb (rank t) (rank u) (λ e. d (same_rank t u e)))
first_by_letter (r ∷ ts) t u vs ws d = grind (arith, first_by_letter ts)

module _ (W : Script) (D : Side) where
  -- within n slots at most n letters
  bounded : (n : ℕ) (c : W.Cursor) (s : D.S) → length (string W D n c s) ≤ n
  bounded ℕ.zero c s = omega arith
  bounded (suc n) c s = go (ends (W.symbol c)) (string W D n next later) (bounded n next later)
    where
      next : W.Cursor
      next = W.next c (heard D (W.symbol c) s)

      later : D.S
      later = after D (W.symbol c) s

      go : (i : Bool) (ts : List Letter) → length ts ≤ n → suc (length (cond i [] ts)) ≤ suc n
      go i ts h = grind arith

module _ (ds : List Behaviour) where
  one_leg : (r : LegResult ds) → OneStop (map bit_letter r.levels ++ (stop ∷ []))
  one_leg r = record { front = map bit_letter r.levels; front_stop = refl; no_other = bits_no_stop r.levels }

  -- whatever leg r came to, with o to come
  one_stop : (r : LegResult ds) (k : OutcomeKind) (o : Option LegModel) → OneStop (result_after_leg ds r k o).letters
  one_stop r (NoAnswer p) o = one_leg r
  one_stop r (Refused p) o = one_leg r
  one_stop r Done None = one_leg r
  one_stop r Done (Some g) =
      let second = leg_result ds 1 g (bank_map device_after_leg ds r.devices) in
      let ts = map bit_letter r.levels in
      let us = map bit_letter second.levels in
      record {
        front = ts ++ (restart ∷ us);
        front_stop = sym (append_assoc ts (restart ∷ us) (stop ∷ []));
        no_other = both_no_stop ts (restart ∷ us) (bits_no_stop r.levels)
            ((λ e. let z = ap rank e in omega arith), bits_no_stop second.levels);
      }

  carried_stop : (t : TransferModel) (d : Bank AddressedDevice ds) → OneStop (transfer_result ds t d).letters
  carried_stop t d = let r = leg_result ds 0 t.first d in one_stop r r.kind t.second

  short : (t : TransferModel) (d : Bank AddressedDevice ds) → IsLegal t →
      length (transfer_result ds t d).letters ≤ most_letters
  short t d h =
      let n = slots_left (new_cursor t) in
      let played = string transfers (ports_side ds) n (new_cursor t) (opened_ports ds d) in
      let same : length played ≡ length (transfer_result ds t d).letters = ap length (agrees ds t d h).same_letters in
      omega (arith, bounded transfers (ports_side ds) n (new_cursor t) (opened_ports ds d), at_most t h)

module _ (ds es : List Behaviour) where
  same_outcome : (t u : TransferModel) (d : Bank AddressedDevice ds) (e : Bank AddressedDevice es) →
      IsLegal t → IsLegal u →
      (transfer_result ds t d).letters ≡ (transfer_result es u e).letters →
      (transfer_result ds t d).outcome ≡ (transfer_result es u e).outcome
  same_outcome t u d e h k q =
      let a = agrees ds t d h in
      let b = agrees es u e k in
      let n = slots_left (new_cursor t) in
      let m = slots_left (new_cursor u) in
      let twins : Twins (new_cursor t) (new_cursor u) =
      record { one_way = open_alike t u h k; back = open_alike u t k h; notes_same = refl } in
      let same_notes =
      same_end (ports_side ds) (ports_side es) n m (new_cursor t) (new_cursor u)
      (opened_ports ds d) (opened_ports es e) twins
      (le_refl n) (le_refl m) (a.same_letters ∙ q ∙ sym b.same_letters) in
      sym a.same_outcome ∙ ap (λ n. outcome_of (cursor_at at_end n)) same_notes ∙ b.same_outcome

pub string_laws : (ds es : List Behaviour) → StringLaws ds es
string_laws ds es = record {
  one_stop = carried_stop ds;
  at_most = short ds;
  none_begins = λ t u d e ts q.
      let a = carried_stop ds t d in
      let b = carried_stop es u e in
      none_begins a.front b.front ts a.no_other b.no_other (sym (ap (λ r. r ++ ts) a.front_stop) ∙ q ∙ b.front_stop);
  same_outcome = same_outcome ds es;
  parting = λ t u d e.
      let a = carried_stop ds t d in
      let b = carried_stop es u e in
      rw (a.front_stop, b.front_stop) (parting a.front b.front a.no_other b.no_other);
  zero_against_one = λ t u d e p h k. zero_against_one p.one_letter p.other_letter p.differ h k;
  bits_decide = λ t u d e h p. bits_decide (transfer_result ds t d).letters (transfer_result es u e).letters p h;
  first_by_letter = λ t u d e p.
      rw (p.one_is, p.other_is) (first_by_letter p.front p.one_letter p.other_letter p.one_rest p.other_rest p.differ);
}
