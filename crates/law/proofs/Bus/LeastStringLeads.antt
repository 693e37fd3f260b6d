-- Who leads by the letters of carried alone is who leads slot by slot; and who is carried is a contender.
use Rattle.std.proofs.Common.{◌≡◌, ℕ, zero, suc, Bool, cond, List, [], ◌∷◌, map, Some, None, Option, sym, refl, ap, ◌∙◌, subst, ap₂}
use Rattle.std.proofs.Common.{arith}
use Rattle.std.specs.Prelude.{slice_index_or}
use Rattle.std.specs.Option.{option_map}
use Rattle.transfer.specs.Transfer.{TransferModel}
use Rattle.device.specs.Device.{Behaviour}
use Rattle.law.specs.Bank.{Bank}
use Rattle.law.specs.Book.{first_of_two, least_result, outcome_if_least, outcomes_of_turn, devices_after}
use Rattle.law.specs.TransferResult.{AddressedDevice, TransferResult, transfer_result}
use Rattle.port.specs.Port.{PortModel}
use Rattle.law.specs.Letter.{Letter, same_string, first_or_same}
use Rattle.law.proofs.Alone.PlayedIsCarried.{opened_ports, agrees}
use Rattle.transfer.specs.Legal.{IsLegal}
use Rattle.law.proofs.Alone.PortsAsSide.{idle_ports}
use Rattle.law.proofs.Machine.Arbitration.{at}
use Rattle.law.proofs.Machine.BookOfMachine.{task_string, task_outcome, task_side, pick, leader, wins, outcomes, leader_side}
use Rattle.law.proofs.Bus.TransfersAsGame.{game}

abbrev pub LegalIf : Option TransferModel → Type 0
LegalIf None = Unit {0}
LegalIf (Some t) = IsLegal t

abbrev pub AllLegal : List (Option TransferModel) → Type 0
AllLegal [] = Unit {0}
AllLegal (o ∷ l) = LegalIf o × AllLegal l

module _ (ds : List Behaviour) (d : Bank AddressedDevice ds) where
  abbrev pub side : Bank PortModel ds
  side = opened_ports ds d

  abbrev pub carry : TransferModel → TransferResult ds
  carry t = transfer_result ds t d

  abbrev pub carry_all : List (Option TransferModel) → List (Option (TransferResult ds))
  carry_all l = map (option_map carry) l

  abbrev pub text : TransferModel → List Letter
  text t = task_string (game ds) t side

  pub text_is : (t : TransferModel) → IsLegal t → text t ≡ (carry t).letters
  text_is t k = (agrees ds t d k).same_letters

  pub lexb_is : (t u : TransferModel) → IsLegal t → IsLegal u →
      first_or_same (text t) (text u) ≡ first_or_same (carry t).letters (carry u).letters
  lexb_is t u k l = ap₂ first_or_same (text_is t k) (text_is u l)

  pub same_is : (t u : TransferModel) → IsLegal t → IsLegal u →
      same_string (text t) (text u) ≡ same_string (carry t).letters (carry u).letters
  same_is t u k l = ap₂ same_string (text_is t k) (text_is u l)

  abbrev pub lead : List (Option TransferModel) → Option TransferModel
  lead l = leader (game ds) l side

  pub lead_legal : (l : List (Option TransferModel)) → AllLegal l → LegalIf (lead l)
  lead_legal [] k = tt
  lead_legal (o ∷ l) k = grind (arith, lead_legal l)

  carry_cond : (b : Bool) (t u : TransferModel) → carry (cond b t u) ≡ cond b (carry t) (carry u)
  carry_cond b t u = grind arith

  pick_is : (t : TransferModel) (o : Option TransferModel) → IsLegal t → LegalIf o →
      carry (pick (game ds) t o side) ≡ first_of_two ds (carry t) (option_map carry o)
  pick_is t None k l = refl
  pick_is t (Some u) k l = carry_cond (first_or_same (text t) (text u)) t u ∙ ap (λ v. cond v (carry t) (carry u)) (lexb_is t u k l)

  pub least_is : (l : List (Option TransferModel)) → AllLegal l → least_result ds (carry_all l) ≡ option_map carry (lead l)
  least_is [] k = refl
  least_is (None ∷ l) k = least_is l k.1
  least_is (Some t ∷ l) k = ap (λ o. Some (first_of_two ds (carry t) o)) (least_is l k.1)
      ∙ ap (λ c. Some c) (sym (pick_is t (lead l) k.0 (lead_legal l k.1)))

  told_one : (t u : TransferModel) → IsLegal t → IsLegal u →
      cond (wins (game ds) t (Some u) side)
      (Some (task_outcome (game ds) t side)) None ≡ outcome_if_least ds (carry u) (Some (carry t))
  told_one t u k l = ap₂ (λ v o. cond v (Some o) None) (same_is t u k l) (agrees ds t d k).same_outcome

  pub outcomes_are : (l : List (Option TransferModel)) (q : Option TransferModel) → AllLegal l → LegalIf q →
      outcomes (game ds) l q side ≡ outcomes_of_turn ds (option_map carry q) (carry_all l)
  outcomes_are [] None k g = refl
  outcomes_are [] (Some u) k g = refl
  outcomes_are (None ∷ l) None k g = ap (λ r. None ∷ r) (outcomes_are l None k.1 g)
  outcomes_are (None ∷ l) (Some u) k g = grind (arith, outcomes_are l)
  outcomes_are (Some t ∷ l) None k g = ap (λ r. None ∷ r) (outcomes_are l None k.1 g)
  outcomes_are (Some t ∷ l) (Some u) k g = ap₂ ◌∷◌ (told_one t u k.0 g) (outcomes_are l (Some u) k.1 g)

  -- whom a stop tells
  pub told_are : (l : List (Option TransferModel)) → AllLegal l →
      outcomes_of_turn ds (least_result ds (carry_all l)) (carry_all l) ≡ outcomes (game ds) l (lead l) side
  told_are l k = ap (λ q. outcomes_of_turn ds q (carry_all l)) (least_is l k) ∙ sym (outcomes_are l (lead l) k (lead_legal l k))

  -- the devices after it; without a contender nothing is carried
  after_one : (q : TransferModel) → IsLegal q → idle_ports ds (carry q).devices ≡ task_side (game ds) q side
  after_one q k = sym (agrees ds q d k).same_devices

  pub devices_are : (l : List (Option TransferModel)) (q : TransferModel) → AllLegal l → lead l ≡ Some q →
      idle_ports ds (devices_after ds (least_result ds (carry_all l)) d) ≡ leader_side (game ds) (lead l) side
  devices_are l q k e =
      ap (λ c. idle_ports ds (devices_after ds c d)) (least_is l k ∙ ap (option_map carry) e)
      ∙ (after_one q (legal e) ∙ ap (λ o. leader_side (game ds) o side) (sym e)) where
        legal : lead l ≡ Some q → IsLegal q
        legal e = subst LegalIf e (lead_legal l k)

  mapped_some : (o : Option TransferModel) (c : TransferResult ds) → option_map (carry) o ≡ Some c →
      (t : TransferModel) × (o ≡ Some t) × (c ≡ carry t)
  mapped_some None c e = cc
  mapped_some (Some t) c e = (t, refl, let f : c ≡ carry t = cc in f)

  -- who is carried is a contender
  pub carried_from : (l : List (Option TransferModel)) (i : ℕ) (c : TransferResult ds) → slice_index_or (carry_all l) i None ≡ Some c →
      (t : TransferModel) × (at l i ≡ Some t) × (c ≡ carry t)
  carried_from [] i c e = cc
  carried_from (o ∷ l) zero c e = mapped_some o c e
  carried_from (o ∷ l) (suc i) c e = carried_from l i c e

  pub carried_at : (l : List (Option TransferModel)) (i : ℕ) (t : TransferModel) → at l i ≡ Some t →
      slice_index_or (carry_all l) i None ≡ Some (carry t)
  carried_at [] i t e = cc
  carried_at (o ∷ l) zero t e = cc
  carried_at (o ∷ l) (suc i) t e = carried_at l i t e
