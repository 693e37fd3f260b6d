-- What a turn's slots say of the least string: who leads, who loses and when, and what the stop tells.
use Rattle.std.proofs.Common.{◌≡◌, ℕ, zero, suc, ◌+◌, ◌<◌, ◌≤◌, Bool, true, false, cond, eqb, leb, ◌⊎◌, List, [], ◌∷◌}
use Rattle.std.proofs.Common.{◌++◌, length, take, is_some, Some, None, Option, sym, refl, ap, ◌∙◌, subst, ap₂, inl, inr}
use Rattle.std.proofs.Common.{arith, take_all, take-suc}
use Rattle.std.proofs.lemmas.Bool.{cases_lt, cases_Bool, leb-true, leb-false, eqb-true}
use Rattle.master.specs.Script.{Script}
use Rattle.law.proofs.FarSide.{Side, ends, final}
use Rattle.law.proofs.Machine.PhasesOfSlot.{rank}
use Rattle.law.specs.Law.{FirstDifference}
use Rattle.law.specs.Letter.{Letter, zero as low, same_string, first_or_same}
use Rattle.law.proofs.LetterByRank.{same_of, same_refl}
use Rattle.law.proofs.Machine.Arbitration.{at, common, lead, keep, Joint, moved, slot, slots, opened, joint, Live, alone, alone_end}
use Rattle.law.proofs.Machine.BookOfMachine.{Tasks, begin_one, begins, task_string, pick, leader, wins, leader_side}
use Rattle.law.proofs.Machine.LeadingSymbol.{rank_inj, at_keep}
use Rattle.law.proofs.Machine.FateOfContender.{next_level, next_live, next_side, slots_next, text, gone}
use Rattle.law.proofs.Machine.LeastStringWins.{Arbitrated, settled, lexb_anti, most, common_whole}
use Rattle.law.proofs.Machine.SlotsOfTurn.{Run, slots_last, spelled, rank_ends, after_stop}
use Rattle.law.proofs.Machine.Game.{Game}

module _ (W : Script) where
  pub at_begins : (l : Tasks W) (i : ℕ) → at (begins W l) i ≡ begin_one W (at l i)
  at_begins [] i = refl
  at_begins (o ∷ l) zero = refl
  at_begins (o ∷ l) (suc i) = at_begins l i

  pub begun_at : (l : Tasks W) (i : ℕ) (t : W.Task) → at l i ≡ Some t → at (begins W l) i ≡ Some (W.begin t)
  begun_at l i t e = at_begins l i ∙ ap (begin_one W) e

  begun_from : (o : Option W.Task) (p : W.Cursor) → begin_one W o ≡ Some p →
      (t : W.Task) × (o ≡ Some t) × (W.begin t ≡ p)
  begun_from None p e = cc
  begun_from (Some t) p e = (t, refl, cc)

  pub task_at : (l : Tasks W) (i : ℕ) (p : W.Cursor) → at (begins W l) i ≡ Some p →
      (t : W.Task) × (at l i ≡ Some t) × (W.begin t ≡ p)
  task_at l i p e = begun_from (at l i) p (sym (at_begins l i) ∙ e)

module _ (G : Game) where
  abbrev W : Script
  W = G.script

  abbrev D : Side
  D = G.side

  pub leader_in : (l : Tasks W) (s : D.S) (q : W.Task) → leader G l s ≡ Some q → (j : ℕ) × (at l j ≡ Some q)
  leader_in [] s q e = cc
  leader_in (None ∷ l) s q e = let r = leader_in l s q e in (suc r.0, r.1)
  leader_in (Some p ∷ l) s q e = go (leader G l s) refl e (leader_in l s)
    where
      go : (o : Option W.Task) → leader G l s ≡ o → Some (pick G p o s) ≡ Some q →
          ((q : W.Task) → leader G l s ≡ Some q → (j : ℕ) × (at l j ≡ Some q)) → (j : ℕ) × (at (Some p ∷ l) j ≡ Some q)
      go None d e ih = (0, e)
      go (Some r) d e ih = two (first_or_same (task_string G p s) (task_string G r s)) e
        where
          two : (v : Bool) → Some (cond v p r) ≡ Some q → (j : ℕ) × (at (Some p ∷ l) j ≡ Some q)
          two true e = (0, e)
          two false e = let x = ih r d in (suc x.0, x.1 ∙ e)

  -- where t is below each string and somebody has it, the leader has it
  leader_has : (t : List Letter) (l : Tasks W) (s : D.S) →
      ((i : ℕ) (p : W.Task) → at l i ≡ Some p → first_or_same t (task_string G p s) ≡ true) →
      (i : ℕ) (p : W.Task) → at l i ≡ Some p → task_string G p s ≡ t →
      (q : W.Task) × (leader G l s ≡ Some q) × (task_string G q s ≡ t)
  leader_has t [] s below i p e h = cc
  leader_has t (None ∷ l) s below zero p e h = cc
  leader_has t (None ∷ l) s below (suc i) p e h = leader_has t l s (λ i p e. below (suc i) p e) i p e h
  leader_has t (Some r ∷ l) s below zero p e h = go (leader G l s) refl
    where
      r_has : task_string G r s ≡ t
      r_has = cc

      go : (o : Option W.Task) → leader G l s ≡ o →
          (q : W.Task) × (Some (pick G r o s) ≡ Some q) × (task_string G q s ≡ t)
      go None d = (r, refl, r_has)
      go (Some x) d =
          let j = leader_in l s x d in
          let b : first_or_same (task_string G r s) (task_string G x s) ≡ true =
          ap (λ u. first_or_same u (task_string G x s)) r_has ∙ below (suc j.0) x j.1 in
          (r, ap (λ v. Some (cond v r x)) b, r_has)
  leader_has t (Some r ∷ l) s below (suc i) p e h =
      let x = leader_has t l s (λ i p e. below (suc i) p e) i p e h in
      rw x.1 (two (first_or_same (task_string G r s) (task_string G x.0 s)) x.0 refl x.2)
    where
      two : (v : Bool) (q : W.Task) → first_or_same (task_string G r s) (task_string G q s) ≡ v →
          task_string G q s ≡ t → (w : W.Task) × (Some (cond v r q) ≡ Some w) × (task_string G w s ≡ t)
      two true q b h =
          let above = ap (first_or_same (task_string G r s)) (sym h) ∙ b in
          (r, refl, lexb_anti (task_string G r s) t above (below 0 r refl))
      two false q b h = (q, refl, h)

  over_once : (x : Joint G) → x.over ≡ true → (slot G x).over ≡ true
  over_once x e = rw e

  pub over_later : (n k : ℕ) (j : Joint G) → k ≤ n → (slots G k j).over ≡ true → (slots G n j).over ≡ true
  over_later zero k j h e = let z : k ≡ 0 = omega arith in subst (λ x. (slots G x j).over ≡ true) z e
  over_later (suc n) k j h e = go (cases_lt n k) (λ g. over_later n k j g e)
    where
      go : (n < k) ⊎ (k ≤ n) → (k ≤ n → (slots G n j).over ≡ true) → (slots G (suc n) j).over ≡ true
      go (inl g) ih = let z : k ≡ suc n = omega arith in subst (λ x. (slots G x j).over ≡ true) z e
      go (inr g) ih = ap (λ x. x.over) (slots_last G n j) ∙ over_once (slots G n j) (ih g)

  -- who is live later showed the leading symbol, and goes on
  pub stayed : (k : ℕ) (l : Live G) (s : D.S) (i : ℕ) (p r : W.Cursor) → ends (lead W l) ≡ false → at l i ≡ Some p →
      at (joint G l s (suc k)).live i ≡ Some r →
      (W.symbol p ≡ lead W l) × (at (next_live G l s) i ≡ Some (W.next p (next_level G l s)))
  stayed k l s i p r d a b = by_rank (eqb (rank (lead W l)) (rank (W.symbol p))) refl
    where
      then : (v : Bool) → eqb (rank (lead W l)) (rank (W.symbol p)) ≡ v →
          at (next_live G l s) i ≡ cond v (Some (W.next p (next_level G l s))) None
      then v f =
          at_keep W (lead W l) (next_level G l s) l i ∙ ap (keep W (lead W l) (next_level G l s)) a
          ∙ ap (λ v. cond v (Some (W.next p (next_level G l s))) None) f

      by_rank : (v : Bool) → eqb (rank (lead W l)) (rank (W.symbol p)) ≡ v →
          (W.symbol p ≡ lead W l) × (at (next_live G l s) i ≡ Some (W.next p (next_level G l s)))
      by_rank true f =
          (rank_inj (W.symbol p) (lead W l) (sym (eqb-true (rank (lead W l)) (rank (W.symbol p)) f)), then true f)
      by_rank false f =
          let h = gone G k (opened G (next_live G l s) (next_side G l s)) i (then false f) in
          let y : Some r ≡ None = sym b ∙ ap (λ x. at x.live i) (slots_next G k l s d) ∙ h in
          cc

  -- the cursor carried alone, after k slots of all together
  final_at : (k n m : ℕ) (l : Live G) (s : D.S) (i : ℕ) (p r : W.Cursor) → m ≡ k + n → at l i ≡ Some p →
      (joint G l s k).over ≡ false → at (joint G l s k).live i ≡ Some r →
      final W D m p s ≡ final W D n r (joint G l s k).side
  final_at zero n m l s i p r e a o b =
      let z : p ≡ r = cc in
      let y : m ≡ n = omega arith in
      ap₂ (λ x y. final W D x y s) y z
  final_at (suc k) n zero l s i p r e a o b = absurd (omega arith)
  final_at (suc k) n (suc m) l s i p r e a o b = elim (cases_Bool (ends (lead W l))) [
    | inl d ↦ let z = over_later k 0 (slot G (opened G l s)) (omega arith) d in cc
    | inr d ↦
        let f = stayed k l s i p r d a b in
        let nx = slots_next G k l s d in
        let q = W.next p (next_level G l s) in
        let w : final W D (suc m) p s ≡ final W D m q (next_side G l s) = rw (f.0, d) in
        w ∙ final_at k n m (next_live G l s) (next_side G l s) i q r (omega arith) f.1 (sym (ap (λ x. x.over) nx) ∙ o)
        (sym (ap (λ x. at x.live i) nx) ∙ b) ∙ sym (ap (λ x. final W D n r x.side) nx)
  ]

  fuel_final : (n m : ℕ) (p : W.Cursor) (s : D.S) → G.left p ≤ n → G.left p ≤ m → final W D n p s ≡ final W D m p s
  fuel_final zero m p s h k = absurd (omega (arith, G.laws.some_left p))
  fuel_final (suc n) zero p s h k = absurd (omega (arith, G.laws.some_left p))
  fuel_final (suc n) (suc m) p s h k = grind (arith, fuel_final n m)

  -- l: the contenders, t: the least of their strings
  module _ (l : Tasks W) {s0 : D.S} {k r : ℕ} {ps : Live G} {s : D.S} (run : Run G (begins W l) s0 k r ps s) where
    abbrev own : W.Task → List Letter
    own q = task_string G q s0

    -- all contenders together, after n slots
    abbrev all : ℕ → Joint G
    all n = joint G (begins W l) s0 n

    -- master i's cursor after the slot that is shown now
    abbrev goes_on : ℕ → Option W.Cursor
    goes_on i = keep W (lead W ps) (next_level G ps s) (at ps i)

    t : List Letter
    t = text G (most G (begins W l)) (begins W l) s0

    facts : (i : ℕ) (q : W.Task) → at l i ≡ Some q → Arbitrated G (begins W l) s0 t
    unfolding t
    facts i q a = settled G (begins W l) s0 run.paired i (W.begin q) (begun_at W l i q a)

    in_after : (i : ℕ) (q : W.Task) → at l i ≡ Some q → (n : ℕ) → n ≤ length t →
        is_some (at (all n).live i) ≡ leb n (common t (own q))
    in_after i q a n h = (facts i q a).live i (W.begin q) (begun_at W l i q a) n h

    -- t is below the string of each contender
    below : (i : ℕ) (q : W.Task) → at l i ≡ Some q → first_or_same t (own q) ≡ true
    below i q a = (facts i q a).least i (W.begin q) (begun_at W l i q a)

    goes : (all k).over ≡ false
    goes = ap (λ x. x.over) run.runs

    now : (i : ℕ) → at (all k).live i ≡ at ps i
    now i = ap (λ x. at x.live i) run.runs

    soon : all (suc k) ≡ moved G (lead W ps) ps s
    soon = slots_last G k (opened G (begins W l) s0) ∙ ap (slot G) run.runs

    soon_at : (i : ℕ) → at (all (suc k)).live i ≡ goes_on i
    soon_at i = ap (λ x. at x.live i) soon ∙ at_keep W (lead W ps) (next_level G ps s) ps i

    before : (i : ℕ) (q : W.Task) → at l i ≡ Some q → k < length t
    before i q a = elim (cases_lt k (length t)) [
      | inl h ↦ h
      | inr h ↦
          let z = over_later k (length t) (opened G (begins W l) s0) h (facts i q a).over in
          let g = goes in
          cc
    ]

    led : (i : ℕ) (q : W.Task) → at l i ≡ Some q → (q : W.Task) × (leader G l s0 ≡ Some q) × (own q ≡ t)
    led i q a =
        let w = (facts i q a).winner in
        let c = task_at W l w.0 w.1.0 w.1.1 in
        leader_has t l s0 below w.0 c.0 c.1 (ap (λ p. alone G p s0) c.2 ∙ w.1.2)

    -- who shows more than the least symbol: its string first differs here
    pub loses_at : (i : ℕ) (q : W.Task) (p : W.Cursor) → at l i ≡ Some q → at ps i ≡ Some p →
        (rank (lead W ps) ≡ rank (W.symbol p) → ⊥) →
        (x : W.Task) × (leader G l s0 ≡ Some x) × FirstDifference (own x) (own q) k
    loses_at i q p a b d =
        let u = own q in
        let h = before i q a in
        let v1 : true ≡ leb k (common t u) = sym (ap is_some (now i ∙ b)) ∙ in_after i q a k (omega arith) in
        let v2 : false ≡ leb (suc k) (common t u) = sym (ap is_some drops) ∙ in_after i q a (suc k) h in
        let c1 : k ≤ common t u = leb-true k (common t u) (sym v1) in
        let c2 : common t u < suc k = leb-false (suc k) (common t u) (sym v2) in
        let ne : u ≡ t → ⊥ = λ e. let z : common t u ≡ length t = ap (common t) e ∙ common_whole t in omega arith in
        let g = (facts i q a).lost i (W.begin q) (begun_at W l i q a) ne in
        let cl = g.1.in_t in
        let in_then = sym (in_after i q a g.0 (omega arith)) ∙ g.2 in
        let out_next = sym (in_after i q a (suc g.0) (omega arith)) ∙ g.3 in
        let g1 : g.0 ≤ common t u = leb-true g.0 (common t u) in_then in
        let g2 : common t u < suc g.0 = leb-false (suc g.0) (common t u) out_next in
        let e : g.0 ≡ k = omega arith in
        let x = led i q a in
        (x.0, x.1, subst (λ z. FirstDifference z u k) (sym x.2) (subst (λ z. FirstDifference t u z) e g.1))
      where
        differs : (v : Bool) → eqb (rank (lead W ps)) (rank (W.symbol p)) ≡ v →
            cond v (Some (W.next p (next_level G ps s))) None ≡ None
        differs true e = absurd (d (eqb-true (rank (lead W ps)) (rank (W.symbol p)) e))
        differs false e = refl

        drops : at (all (suc k)).live i ≡ None
        drops =
            soon_at i ∙ ap (keep W (lead W ps) (next_level G ps s)) b
            ∙ differs (eqb (rank (lead W ps)) (rank (W.symbol p))) refl

    -- who wins, by the strings alone
    pub wins_least : (i : ℕ) (q : W.Task) → at l i ≡ Some q → wins G q (leader G l s0) s0 ≡ true →
        (j : ℕ) (p : W.Task) → at l j ≡ Some p → first_or_same (own q) (own p) ≡ true
    wins_least i q a h j p b =
        let x = led i q a in
        let d : same_string (own q) (own x.0) ≡ true = sym (ap (λ o. wins G q o s0) x.1) ∙ h in
        ap (λ u. first_or_same u (own p)) (same_of (own q) (own x.0) d ∙ x.2) ∙ below j p b

    pub least_wins : (i : ℕ) (q : W.Task) → at l i ≡ Some q →
        ((j : ℕ) (p : W.Task) → at l j ≡ Some p → first_or_same (own q) (own p) ≡ true) →
        wins G q (leader G l s0) s0 ≡ true
    least_wins i q a h =
        let x = led i q a in
        let j = leader_in l s0 x.0 x.1 in
        let e : own q ≡ own x.0 =
        lexb_anti (own q) (own x.0) (h j.0 x.0 j.1) (ap (λ u. first_or_same u (own q)) x.2 ∙ below i q a) in
        ap (λ o. wins G q o s0) x.1 ∙ ap (λ u. same_string u (own x.0)) e ∙ same_refl (own x.0)

    -- the stop
    module _ (stops : rank (lead W ps) ≡ 1) where
      last_slot : (i : ℕ) (q : W.Task) → at l i ≡ Some q → length t ≡ suc k
      last_slot i q a =
          let h = before i q a in
          elim (cases_lt (suc k) (length t)) [
            | inl z ↦
                let y = (facts i q a).early (suc k) z in
                let x = ap (λ x. x.over) soon ∙ rank_ends (lead W ps) stops in
                cc
            | inr z ↦ omega arith
          ]

      pub stop_wins : (i : ℕ) (q : W.Task) → at l i ≡ Some q →
          wins G q (leader G l s0) s0 ≡ is_some (keep W (lead W ps) (next_level G ps s) (at ps i))
      stop_wins i q a =
          let x = led i q a in
          ap (λ o. wins G q o s0) x.1 ∙ go (is_some (goes_on i)) refl (same_string (own q) (own x.0)) x.0 refl x.2
        where
          f : Arbitrated G (begins W l) s0 t
          f = facts i q a

          end_at : is_some (at (all (length t)).live i) ≡ is_some (goes_on i)
          end_at = ap (λ n. is_some (at (all n).live i)) (last_slot i q a) ∙ ap is_some (soon_at i)

          go : (v : Bool) → is_some (goes_on i) ≡ v → (w : Bool) (y : W.Task) → same_string (own q) (own y) ≡ w →
              own y ≡ t → w ≡ v
          go true e true y d h = refl
          go false e false y d h = refl
          go true e false y d h =
              let won = f.won i (W.begin q) (begun_at W l i q a) (end_at ∙ e) in
              let z : same_string (own q) (own y) ≡ true = ap₂ same_string won h ∙ same_refl t in
              cc
          go false e true y d h =
              let z : own q ≡ t = same_of (own q) (own y) d ∙ h in
              let w : is_some (at (all (length t)).live i) ≡ true =
              f.wins i (W.begin q) (begun_at W l i q a)
              (λ k p e. ap (λ u. first_or_same u (alone G p s0)) z ∙ f.least k p e) in
              let g = end_at in
              cc

      pub stop_names : (i : ℕ) (q : W.Task) (p : W.Cursor) → at l i ≡ Some q → at ps i ≡ Some p →
          W.symbol p ≡ lead W ps → alone_end G (W.begin q) s0 ≡ p
      stop_names i q p a b e =
          let d : ends (W.symbol p) ≡ true = ap ends e ∙ rank_ends (lead W ps) stops in
          let n = G.left (W.begin q) in
          let c = begun_at W l i q a in
          let g = final_at k (suc n) (k + suc n) (begins W l) s0 i (W.begin q) p refl c goes (now i ∙ b) in
          fuel_final n (k + suc n) (W.begin q) s0 (omega arith) (omega arith) ∙ g ∙ (rw d refl)

      pub stop_side : (i : ℕ) (q : W.Task) → at l i ≡ Some q → leader_side G (leader G l s0) s0 ≡ D.finish s
      stop_side i q a =
          let x = led i q a in
          let j = leader_in l s0 x.0 x.1 in
          let z = (facts i q a).ended j.0 (W.begin x.0) (begun_at W l j.0 x.0 j.1) x.2 in
          let at_end = ap (λ n. (all n).side) (last_slot i q a) ∙ ap (λ y. y.side) soon in
          ap (λ o. leader_side G o s0) x.1 ∙ sym z ∙ at_end ∙ after_stop D (lead W ps) s stops

      spelled_take : (i : ℕ) (q : W.Task) → at l i ≡ Some q → (n : ℕ) → n ≤ length t →
          spelled G (begins W l) s0 n ≡ take n t
      spelled_take i q a zero h = refl
      spelled_take i q a (suc n) h =
          ap₂ (λ x y. x ++ (y ∷ [])) (spelled_take i q a n (omega arith)) ((facts i q a).letters n (omega arith))
          ∙ sym (take-suc t n low (omega arith))

      -- what was spelled is the least string
      pub stop_spells : (i : ℕ) (q : W.Task) → at l i ≡ Some q →
          (x : W.Task) × (leader G l s0 ≡ Some x) × (spelled G (begins W l) s0 (suc k) ≡ own x)
      stop_spells i q a =
          let x = led i q a in
          let n = last_slot i q a in
          (x.0, x.1, spelled_take i q a (suc k) (omega arith) ∙ take_all (suc k) t (omega arith) ∙ sym x.2)
