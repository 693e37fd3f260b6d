-- The register file: 16 bytes and a pointer, which the first byte of a write sets.
use Rattle.std.specs.Prelude.{◌≡◌, ℕ, ◌+◌, ◌%◌, Bool, true, false, if◌then◌else◌, List, replicate, nat_lt, slice_index, slice_set}
use Rattle.transfer.specs.declared.leg.Direction.{Direction}
use Rattle.transfer.specs.declared.leg.Direction.TheVariants.{Write, Read}
use Rattle.device.specs.declared.register_file.RegisterFile.{RegisterFile}
use Rattle.device.specs.Device.{Behaviour}
use Rattle.device.specs.Limits.{register_count}

pub record RegisterFileModel : Type 0 where
  pub bytes : List ℕ
  pub pointer : ℕ
  -- whether the next byte put is the pointer
  pub awaits : Bool

abbrev pub register_file_model : RegisterFile → RegisterFileModel
register_file_model f = record { bytes = f.bytes; pointer = f.pointer; awaits = f.awaits_pointer }

abbrev pub new_registers : RegisterFileModel
new_registers = record { bytes = replicate register_count 0; pointer = 0; awaits = false }

-- the last register is followed by the first
abbrev pub next_pointer : ℕ → ℕ
next_pointer p = (p + 1) % register_count

abbrev pub file_after_select : RegisterFileModel → Direction → RegisterFileModel
file_after_select m Write = record m { awaits = true }
file_after_select m Read = m

-- a byte put that is the pointer: one beyond the last register gets no
abbrev pub answer_to_pointer : RegisterFileModel → ℕ → Bool × RegisterFileModel
answer_to_pointer m x =
    if nat_lt x register_count then (true, record m { pointer = x; awaits = false }) else (false, m)

abbrev pub file_after_store : RegisterFileModel → ℕ → RegisterFileModel
file_after_store m x = record {
  bytes = slice_set m.bytes m.pointer x;
  pointer = next_pointer m.pointer;
  awaits = false;
}

abbrev pub file_after_take : RegisterFileModel → RegisterFileModel
file_after_take m = record m { pointer = next_pointer m.pointer }

abbrev pub register_file : Behaviour
register_file = record {
  Meaning = RegisterFileModel;
  select = λ m d. (true, file_after_select m d);
  put = λ m x. if m.awaits then answer_to_pointer m x else (true, file_after_store m x);
  take = λ m. (slice_index m.bytes m.pointer, file_after_take m);
  finish = λ m. m;
  holds = λ m h. h ≡ 0;
}
