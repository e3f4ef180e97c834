-- What a shelf tells of its files, and what a read of a whole file finds.
use Rattle.std.specs.Prelude.{◌≡◌, ℕ, ◌+◌, ◌-◌, ◌^◌, zero, suc, List, map, min, nat_eq, nat_lt, Bool, ◌&&◌, if◌then◌else◌, Option, None, Some, IsSome, IfSome}
use Rattle.std.specs.Prelude.{IsSomeAnd, is_some, String, string_bytes}
use Rattle.std.specs.List.{find, list_any}
use Rattle.std.specs.Option.{option_map}
use Rattle.std.specs.Str.{bytes_eq}
use Rattle.std.specs.declared.alloc.Global.{Global}
use Rattle.std.specs.Global.{Vec}

-- the bytes of the file of each name, where the shelf tells its files
abbrev pub Files : Type 0
Files = Option (List ℕ → Option (List ℕ))

-- the shelf tells its files, and the one of this name has these bytes
abbrev pub Holds : Files → List ℕ → List ℕ → Type 0
Holds files name file = IsSomeAnd files (λ held. held name ≡ Some file)

-- where the shelf tells its files, one has this name
abbrev pub IsHeld : Files → List ℕ → Type 0
IsHeld files name = IfSome files (λ held. IsSome (held name))

-- where the shelf tells its files, none has this name
abbrev pub IsMissing : Files → List ℕ → Type 0
IsMissing files name = IfSome files (λ held. held name ≡ None)

-- what is held in memory: the files by name in order, the numbers of the calls that fail, and how many calls there were
pub record MemoryFiles : Type 0 where
  pub files : List (List ℕ × List ℕ)
  pub failing : List ℕ
  pub calls : ℕ

-- files by name as lists of bytes
abbrev pub file_list : List (String Global × Vec ℕ) → List (List ℕ × List ℕ)
file_list files = map (λ file. (string_bytes file.0, file.1.items)) files

-- the bytes of an optional file
abbrev pub option_bytes : Option (Vec ℕ) → Option (List ℕ)
option_bytes file = option_map (λ bytes. bytes.items) file

-- the bytes of the first file of this name
abbrev pub file_in : List (List ℕ × List ℕ) → List ℕ → Option (List ℕ)
file_in files name = option_map (λ file. file.1) (find (λ file. bytes_eq file.0 name) files)

-- whether the call of this number, from 1, is to fail; a call has a number only below 2 ^ 64
abbrev pub is_listed : List ℕ → ℕ → Bool
is_listed failing number = nat_lt number (2 ^ 64) && list_any (λ listed. nat_eq listed number) failing

-- whether the next call is to fail
abbrev pub is_next_listed : MemoryFiles → Bool
is_next_listed memory = is_listed memory.failing (memory.calls + 1)

-- how many calls there are after one more, as far as 64 bits count
abbrev pub calls_after : MemoryFiles → ℕ
calls_after memory = min (memory.calls + 1) (2 ^ 64 - 1)

-- how many of the first calls were to fail
unfoldable pub listed_calls : List ℕ → ℕ → ℕ
listed_calls failing zero = 0
listed_calls failing (suc calls) = listed_calls failing calls + (if is_listed failing (suc calls) then 1 else 0)

-- the faults of a name: the calls that were to fail, and for a name that isn't held every call
abbrev pub fault_count : MemoryFiles → List ℕ → ℕ
fault_count memory name = if is_some (file_in memory.files name) then listed_calls memory.failing memory.calls else memory.calls
