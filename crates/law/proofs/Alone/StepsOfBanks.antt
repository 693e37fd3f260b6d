-- Banks: one step after another is one step, and what the step makes of each is what it makes of all.
use Rattle.std.proofs.Common.{◌≡◌, Bool, false, ◌||◌, List, [], ◌∷◌, refl}
use Rattle.device.specs.Device.{Behaviour}
use Rattle.law.specs.Bank.{Bank, bank_map, bank_list, any_true}

-- a step of each device, and a question to it
abbrev pub Each : (Behaviour → Type 0) → (Behaviour → Type 0) → Type 1
Each F G = (b : Behaviour) → F b → G b

abbrev pub Asks : (Behaviour → Type 0) → Type 1
Asks F = (b : Behaviour) → F b → Bool

-- whether one of them answers true
abbrev pub any : {F : Behaviour → Type 0} → Asks F → (ds : List Behaviour) → Bank F ds → Bool
any q ds d = any_true (bank_list q ds d)

-- two steps are one
pub each_each : {F G H : Behaviour → Type 0} (f : Each F G) (g : Each G H) (h : Each F H) →
    ((b : Behaviour) (x : F b) → g b (f b x) ≡ h b x) → (ds : List Behaviour) (d : Bank F ds) →
    bank_map g ds (bank_map f ds d) ≡ bank_map h ds d
each_each f g h e [] d = refl
each_each f g h e (b ∷ ds) d = λ i. (e b d.0 i, each_each f g h e ds d.1 i)

-- two steps in a row come to two others
pub each_pair : {F G I H : Behaviour → Type 0} (f : Each F G) (g : Each G H) (h : Each F I) (k : Each I H) →
    ((b : Behaviour) (x : F b) → g b (f b x) ≡ k b (h b x)) → (ds : List Behaviour) (d : Bank F ds) →
    bank_map g ds (bank_map f ds d) ≡ bank_map k ds (bank_map h ds d)
each_pair f g h k e [] d = refl
each_pair f g h k e (b ∷ ds) d = λ i. (e b d.0 i, each_pair f g h k e ds d.1 i)

-- a step, and then a question, is a question
pub any_each : {F G : Behaviour → Type 0} (f : Each F G) (q : Asks G) (r : Asks F) →
    ((b : Behaviour) (x : F b) → q b (f b x) ≡ r b x) → (ds : List Behaviour) (d : Bank F ds) →
    any q ds (bank_map f ds d) ≡ any r ds d
any_each f q r e [] d = refl
any_each f q r e (b ∷ ds) d = λ i. e b d.0 i || any_each f q r e ds d.1 i

pub none_each : {F G : Behaviour → Type 0} (f : Each F G) (q : Asks G) →
    ((b : Behaviour) (x : F b) → q b (f b x) ≡ false) → (ds : List Behaviour) (d : Bank F ds) →
    any q ds (bank_map f ds d) ≡ false
none_each f q e [] d = refl
none_each f q e (b ∷ ds) d = rw (e b d.0) (none_each f q e ds d.1)
