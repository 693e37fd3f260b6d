-- Masters, ports and sizes put together from what the code makes.
use Rattle.std.proofs.Common.{◌≡◌, ℕ, suc, true, List, Some, Option, sym, ap, ◌∙◌, subst}
use Rattle.device.specs.RegisterFile.{register_file}
use Rattle.device.specs.declared.register_file.RegisterFile.{RegisterFile}
use Rattle.device.specs.contracts.register_file.RegisterFileDevice.TheImpl.{ghosts}
use Rattle.host.specs.Host.{HostBehaviour}
use Rattle.host.specs.declared.poll_host.PollHost.{PollHost}
use Rattle.host.specs.contracts.poll_host.PollHostHost.TheImpl.{ghosts as poll_ghosts}
use Rattle.law.specs.Bank.{Bank}
use Rattle.law.specs.BusModel.{BusModel, new_bus}
use Rattle.master.specs.declared.master.Master.{Master}
use Rattle.master.specs.Master.{HostedMaster, hosted_master}
use Rattle.port.specs.declared.port.Port.{Port}
use Rattle.port.specs.Port.{PortModel, port_model}
use Rattle.bench.specs.Counting.{Works}
use Rattle.bench.specs.Sizes.{is_masters, is_ports, hosts, devices, WritesQuick, WritesSlow, AtOdds, file_at, files, MeasuredWith, Measured}

-- four files in front of those after them
pub four_files : (address n : ℕ) (p q r s : PortModel register_file) (rest : Bank PortModel (devices n)) →
    p ≡ file_at address → q ≡ file_at (suc address) → r ≡ file_at (suc (suc address)) → s ≡ file_at (suc (suc (suc address))) →
    rest ≡ files (suc (suc (suc (suc address)))) n →
    ◌≡◌ {A = Bank PortModel (devices (suc (suc (suc (suc n)))))} (p, (q, (r, (s, rest)))) (files address (suc (suc (suc (suc n)))))
four_files address n p q r s rest a b c d e = λ i. (a i, (b i, (c i, (d i, e i))))

abbrev pub Four : Type 0 → Type 0
Four B = Port RegisterFile × (Port RegisterFile × (Port RegisterFile × (Port RegisterFile × B)))

abbrev port_of : Port RegisterFile → PortModel register_file
port_of p = port_model ghosts p

-- four ports in front of those after them
abbrev pub four_model : {B : Type 0} (n : ℕ) → (B → Bank PortModel (devices n)) → Four B →
    Bank PortModel (devices (suc (suc (suc (suc n)))))
four_model n model b = (port_of b.0, (port_of b.1.0, (port_of b.1.1.0, (port_of b.1.1.1.0, model b.1.1.1.1))))

abbrev pub FourAt : {B : Type 0} → ℕ → Four B → B → Type 0
FourAt a b rest = (port_of b.0 ≡ file_at a) × (port_of b.1.0 ≡ file_at (suc a)) × (port_of b.1.1.0 ≡ file_at (suc (suc a))) ×
    (port_of b.1.1.1.0 ≡ file_at (suc (suc (suc a)))) × (b.1.1.1.1 ≡ rest)

pub four_more : {B : Type 0} (n a : ℕ) (model : B → Bank PortModel (devices n)) (b : Four B) (rest : B) → FourAt a b rest →
    model rest ≡ files (suc (suc (suc (suc a)))) n →
    four_model n model b ≡ files a (suc (suc (suc (suc n))))
four_more n a model b rest at after = four_files a n _ _ _ _ _ at.0 at.1 at.2 at.3 (ap model at.4 ∙ after)

module _ (hs : List HostBehaviour) (b : Bank HostedMaster hs) (masters ports ticks : ℕ) (r : Option ℕ) where
  -- a bus with n ports
  pub is_measured_with : (n : ℕ) (u : BusModel hs (devices n)) (p : Bank PortModel (devices n)) (count : ℕ) →
      is_ports n ≡ true → ports ≡ n → u ≡ new_bus hs (devices n) b p → p ≡ files 80 n →
      (v : BusModel hs (devices n)) × Works hs (devices n) masters ticks u count v → r ≡ Some count →
      MeasuredWith hs b masters ports ticks r
  is_measured_with n u p count size e bus ports_are works is = (
    (λ no. let z = sym (ap is_ports e ∙ size) ∙ no in cc),
    (λ yes. subst (λ k. (v : BusModel hs (devices k)) × (count : ℕ) × Works hs (devices k) masters ticks
        (new_bus hs (devices k) b (files 80 k)) count v × (r ≡ Some count)) (sym e) (
          works.0,
          count,
          subst (λ w. Works hs (devices n) masters ticks w count works.0)
              (bus ∙ ap (λ p. new_bus hs (devices n) b p) ports_are) works.1,
          is,
        )),
  )

-- n masters
pub is_measured : (masters ports ticks n : ℕ) (r : Option ℕ) (b : Bank HostedMaster (hosts n)) → is_masters n ≡ true → masters ≡ n →
    AtOdds true n b →
    MeasuredWith (hosts n) b masters ports ticks r → Measured masters ports ticks r
is_measured masters ports ticks n r b size e odds measured = (
  (λ no. let z = sym (ap is_masters e ∙ size) ∙ no in cc),
  (λ yes. subst (λ k. (b : Bank HostedMaster (hosts k)) × AtOdds true k b × MeasuredWith (hosts k) b masters ports ticks r) (sym e)
      (b, odds, measured)),
)

abbrev pub Two : Type 0 → Type 0
Two B = Master PollHost × (Master PollHost × B)

abbrev pub two_model : {B : Type 0} (n : ℕ) → (B → Bank HostedMaster (hosts n)) → Two B → Bank HostedMaster (hosts (suc (suc n)))
two_model n model b = (hosted_master poll_ghosts b.0, (hosted_master poll_ghosts b.1.0, model b.1.1))

abbrev pub TwoAtOdds : {B : Type 0} → Two B → B → Type 0
TwoAtOdds b rest = WritesQuick (hosted_master poll_ghosts b.0) × WritesSlow (hosted_master poll_ghosts b.1.0) × (b.1.1 ≡ rest)

-- two masters at odds in front of those after them
pub two_more : {B : Type 0} (n : ℕ) (model : B → Bank HostedMaster (hosts n)) (b : Two B) (rest : B) → TwoAtOdds b rest →
    AtOdds true n (model rest) → AtOdds true (suc (suc n)) (two_model n model b)
two_more n model b rest two after = (two.0, (two.1, subst (λ r. AtOdds true n (model r)) (sym two.2) after))
