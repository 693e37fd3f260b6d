-- At every point of a turn a contender that was never marked lost has carried, so far, what it carries alone.
use Rattle.std.proofs.Common.{◌≡◌, ℕ, zero, suc, ◌≤◌, Bool, true, false, ◌&&◌, ◌⊎◌, List, [], ◌∷◌, ◌++◌}
use Rattle.std.proofs.Common.{length, is_some, Some, unwrap_or, Option, sym, refl, ap, ◌∙◌, ap₂, subst, inl, inr}
use Rattle.std.proofs.Common.{length-append, arith}
use Rattle.std.specs.Prelude.{slice_index_or}
use Rattle.std.proofs.lemmas.Bool.{cases_Bool}
use Rattle.master.specs.declared.symbol.Symbol.{Symbol}
use Rattle.master.specs.Script.{Script}
use Rattle.law.proofs.FarSide.{Side, ends, letter, heard, after, string, last}
use Rattle.law.proofs.Machine.PhasesOfSlot.{early_lost, Cell, out, live, advance, cursors, alive}
use Rattle.law.proofs.Machine.Arbitration.{Joint, at, lead, slot, slots, opened}
use Rattle.law.proofs.Machine.BookOfMachine.{Tasks, begins}
use Rattle.law.proofs.Machine.FateOfContender.{next_live, next_side, slots_next}
use Rattle.law.proofs.Machine.SlotsOfTurn.{Run, spelled, alive_at}
use Rattle.law.proofs.Machine.CellsOfTurn.{Within, marked, never, contender}
use Rattle.law.proofs.Machine.SlotsTellLeast.{over_later, begun_at, stayed}
use Rattle.law.proofs.Machine.Invariant.{Point, Turn, marks, Stands, idle, claims, begun, low, rose, high}
use Rattle.law.proofs.Machine.Game.{Game}

module _ (W : Script) where
  -- a contender that was never marked is live
  live_at : (f : Symbol → Bool) (l : Tasks W) (cs : List (Cell W)) (i : ℕ) (q : W.Task) → Within W l cs →
      at l i ≡ Some q → slice_index_or (marked W f l cs) i false ≡ false →
      (p : W.Cursor) × (at (cursors W cs) i ≡ Some p)
  live_at f [] cs i q h a m = cc
  live_at f (o ∷ l) [] i q h a m = elim h [ ]
  live_at f (o ∷ l) (out c ∷ cs) zero q h a m =
      let z : (is_some o && true) ≡ true = ap (λ x. is_some x && true) a in
      let y : true ≡ false = sym z ∙ m in
      cc
  live_at f (o ∷ l) (live c p ∷ cs) zero q h a m = (p, refl)
  live_at f (o ∷ l) (out c ∷ cs) (suc i) q h a m = live_at f l cs i q h a m
  live_at f (o ∷ l) (live c p ∷ cs) (suc i) q h a m = live_at f l cs i q h.1 a m

  -- and so is one without a rival: whoever is live contends
  abbrev NoRival : Tasks W → ℕ → Type 0
  NoRival l i = (j : ℕ) (q : W.Task) → at l j ≡ Some q → j ≡ i

  lone_at : (l : Tasks W) (cs : List (Cell W)) (i : ℕ) → Within W l cs → alive W cs ≡ true → NoRival l i →
      (p : W.Cursor) × (at (cursors W cs) i ≡ Some p)
  lone_at l cs i h v n =
      let c = alive_at W cs v in
      let q = contender W l cs h c.0 c.1.0 c.1.1 in
      (c.1.0, ap (λ j. at (cursors W cs) j) (sym (n c.0 q.0 q.1)) ∙ c.1.1)

  -- master i was not marked, or has no rival
  abbrev pub StillIn : List Bool → Tasks W → ℕ → Type 0
  StillIn v l i = (slice_index_or v i false ≡ false) ⊎ NoRival l i

  either_at : (f : Symbol → Bool) (l : Tasks W) (cs : List (Cell W)) (i : ℕ) (q : W.Task) → Within W l cs →
      alive W cs ≡ true → at l i ≡ Some q → StillIn (marked W f l cs) l i →
      (p : W.Cursor) × (at (cursors W cs) i ≡ Some p)
  either_at f l cs i q h a b (inl m) = live_at f l cs i q h b m
  either_at f l cs i q h a b (inr n) = lone_at l cs i h a n

  -- a survivor goes on
  goes_on_at : (b : Bool) (cs : List (Cell W)) (i : ℕ) (p : W.Cursor) → at (cursors W cs) i ≡ Some p →
      at (cursors W (advance W b cs)) i ≡ Some (W.next p b)
  goes_on_at b [] i p a = cc
  goes_on_at b (out c ∷ cs) zero p a = cc
  goes_on_at b (live c r ∷ cs) zero p a = let z : r ≡ p = cc in ap (λ x. Some (W.next x b)) z
  goes_on_at b (out c ∷ cs) (suc i) p a = goes_on_at b cs i p a
  goes_on_at b (live c r ∷ cs) (suc i) p a = goes_on_at b cs i p a

module _ (W : Script) (D : Side) where
  -- what task q did alone since the start, so far
  pub record SoFar (P : Point W D) (q : W.Task) : Type 0 where
    pub slots_gone : ℕ
    pub letters : P.monitor.spelled ≡ string W D slots_gone (W.begin q) (D.begin P.booked.side)
    pub many : length P.monitor.spelled ≡ slots_gone
    pub side : P.machine.side ≡ last W D slots_gone (W.begin q) (D.begin P.booked.side)

  -- before the first letter nothing is said
  abbrev pub ForNow : Point W D → W.Task → Type 0
  ForNow P q = (P.monitor.spelled ≡ []) ⊎ SoFar P q

module _ (G : Game) where
  abbrev W : Script
  W = G.script

  abbrev D : Side
  D = G.side

  -- the contest after k slots from here
  abbrev after_slots : ℕ → List (Option W.Cursor) → D.S → Joint G
  after_slots k l s = slots G k (opened G l s)

  spelled_long : (k : ℕ) (l : List (Option W.Cursor)) (s : D.S) → length (spelled G l s k) ≡ k
  spelled_long zero l s = refl
  spelled_long (suc k) l s =
      let c = after_slots k l s in
      let z = length-append (spelled G l s k) (letter D (lead W c.live) c.side ∷ []) in
      let w = spelled_long k l s in
      omega arith

  spelled_next : (k : ℕ) (l : List (Option W.Cursor)) (s : D.S) → ends (lead W l) ≡ false →
      spelled G l s (suc k) ≡ letter D (lead W l) s ∷ spelled G (next_live G l s) (next_side G l s) k
  spelled_next zero l s e = refl
  spelled_next (suc k) l s e =
      ap₂ (λ x j. x ++ (letter D (lead W j.live) j.side ∷ [])) (spelled_next k l s e) (slots_next G k l s e)

  -- after k slots the side and what was spelled are those of this cursor alone
  abbrev AsAlone : ℕ → List (Option W.Cursor) → D.S → W.Cursor → Type 0
  AsAlone k l s p = (last W D k p s ≡ (after_slots k l s).side) × (string W D k p s ≡ spelled G l s k)

  -- one slot more, in front
  one_more : (k : ℕ) (l : List (Option W.Cursor)) (s : D.S) (p : W.Cursor) →
      W.symbol p ≡ lead W l → ends (lead W l) ≡ false →
      AsAlone k (next_live G l s) (next_side G l s) (W.next p (heard D (lead W l) s)) → AsAlone (suc k) l s p
  one_more k l s p g d h =
      let x = lead W l in
      let q = W.next p (heard D x s) in (
        (let w : last W D (suc k) p s ≡ last W D k q (after D x s) = rw (g, d) in
            w ∙ h.0 ∙ sym (ap (λ x. x.side) (slots_next G k l s d))),
        (let w : string W D (suc k) p s ≡ letter D x s ∷ string W D k q (after D x s) = rw (g, d) in
            w ∙ ap (λ y. letter D x s ∷ y) h.1 ∙ sym (spelled_next k l s d)),
      )

  -- so it is of a contender that is live n slots on
  as_alone : (k n : ℕ) (l : List (Option W.Cursor)) (s : D.S) (i : ℕ) (p r : W.Cursor) → k ≤ n → at l i ≡ Some p →
      (after_slots n l s).over ≡ false → at (after_slots n l s).live i ≡ Some r → AsAlone k l s p
  as_alone zero n l s i p r e a o b = (refl, refl)
  as_alone (suc k) zero l s i p r e a o b = absurd (omega arith)
  as_alone (suc k) (suc n) l s i p r e a o b = elim (cases_Bool (ends (lead W l))) [
    | inl d ↦ let z = over_later G n 0 (slot G (opened G l s)) (omega arith) d in cc
    | inr d ↦
        let f = stayed G n l s i p r d a b in
        let nx = slots_next G n l s d in
        one_more k l s p f.0 d
        (as_alone k n (next_live G l s) (next_side G l s) i (W.next p (heard D (lead W l) s)) r (omega arith) f.1
        (sym (ap (λ x. x.over) nx) ∙ o) (sym (ap (λ x. at x.live i) nx) ∙ b))
  ]

  -- k slots, where n are gone
  so_far : (P : Point W D) (l : Tasks W) (i : ℕ) (x : W.Task) (k : ℕ) {n r : ℕ} {ps : List (Option W.Cursor)} {s : D.S}
      (p : W.Cursor) →
      let s0 = D.begin P.booked.side in
      k ≤ n → Run G (begins W l) s0 n r ps s → at l i ≡ Some x → at ps i ≡ Some p →
      P.monitor.spelled ≡ spelled G (begins W l) s0 k → P.machine.side ≡ (after_slots k (begins W l) s0).side →
      ForNow W D P x
  so_far P l i x k {n} p e q here c b d =
      let s0 = D.begin P.booked.side in
      let a = as_alone k n (begins W l) s0 i (W.begin x) p e (begun_at W l i x here)
      (ap (λ z. z.over) q.runs) (ap (λ z. at z.live i) q.runs ∙ c) in
      inr (record {
        slots_gone = k;
        letters = b ∙ sym a.1;
        many = ap length b ∙ spelled_long k (begins W l) s0;
        side = d ∙ sym a.0;
      })

  module _ {Fits : W.Task → Type 0} {Rest : D.S → Type 0} where
    -- a contender still in is live
    live_still : (T : Turn G Fits Rest) (f : Symbol → Bool) (l : Tasks W) → Some T.contenders ≡ Some l →
        (i : ℕ) (q : W.Task) → at l i ≡ Some q → StillIn W (marks G f T) l i →
        (at T.contenders i ≡ Some q) × ((p : W.Cursor) × (at (cursors W T.cells) i ≡ Some p))
    live_still T f l e i q b c =
        let z : l ≡ T.contenders = cc in
        let here : at T.contenders i ≡ Some q = ap (λ m. at m i) (sym z) ∙ b in (
          here,
          either_at W f T.contenders T.cells i q T.within T.living here
              (subst (λ j. StillIn W (marks G f T) j i) z c),
        )

    pub carried_so_far : {P : Point W D} {n : ℕ} → Stands G Fits Rest P n → (l : Tasks W) → P.booked.turn ≡ Some l →
        (i : ℕ) (q : W.Task) → at l i ≡ Some q → StillIn W P.monitor.marked l i → ForNow W D P q
    carried_so_far (idle os s w cs a t g q y) l f i x b c = cc
    carried_so_far (claims T q) l f i x b c = inl refl
    carried_so_far (begun T e n m m' q) l f i x b c = inl refl
    carried_so_far {P} (low T k r s d h e n m m' m'' q) l f i x b c =
        let p = live_still T never l f i x b c in
        so_far P T.contenders i x k p.1.0 (omega arith) q p.0 p.1.1 refl (sym (ap (λ z. z.side) q.runs))
    carried_so_far {P} (rose T k r s o n j m q) l f i x b c =
        let p = live_still T (early_lost o) l f i x b c in
        so_far P T.contenders i x k p.1.0 (omega arith) q p.0 p.1.1 refl (sym (ap (λ z. z.side) q.runs))
    carried_so_far {P} (high T k r g s d o e n j m m' t most side q) l f i x b c =
        let p = live_still T never l f i x b c in
        let bit = unwrap_or o true in
        so_far P T.contenders i x g (W.next p.1.0 bit) most q p.0 (goes_on_at W bit T.cells i p.1.0 p.1.1) refl
        (sym side)
