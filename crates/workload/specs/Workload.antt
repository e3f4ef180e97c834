-- The texts of a workload, made from a number n: a module whose function goes 99 rounds through 1,000 masks, each of the one before; a list of two
-- mutants for each mask, one with a wider mask and one with a remainder, whose divisor is 10 where the mask's number plus n is a multiple of 100, and
-- else 1000; and a suite of one test.
--     module_text        the module
--     mutants_text n     the list of mutants
--     tests_text         the suite
--     texts_of n         the three
--     workload_file n    the file of each name: `module`, `mutants`, `tests`
use Rattle.std.specs.Prelude.{ℕ, zero, suc, ◌+◌, ◌-◌, ◌^◌, ◌%◌, ◌==◌, List, [], ◌∷◌, ◌++◌, if◌then◌else◌, codes, decimal, Option, None, Some, is_some}
use Rattle.std.specs.Str.{bytes_eq}

-- ---- the module

-- the mask of number j + 1, of what mask j gives
abbrev pub mask_line : ℕ → List ℕ
mask_line j = codes "  %x" ++ decimal (j + 1) ++ codes " = and i32 %x" ++ decimal j ++ codes ", 127\n"

-- the masks 1 to n
unfoldable pub mask_lines : ℕ → List ℕ
mask_lines zero = []
mask_lines (suc n) = mask_lines n ++ mask_line n

abbrev pub module_head : List ℕ
module_head =
    codes "define i32 @l() {\nentry:\n  br label %loop\nloop:\n"
    ++ codes "  %i = phi i32 [ 0, %entry ], [ %j, %loop ]\n  %x0 = and i32 %i, 127\n"

abbrev pub module_tail : List ℕ
module_tail =
    codes "  %j = add i32 %i, 1\n  %c = icmp ult i32 %j, 99\n"
    ++ codes "  br i1 %c, label %loop, label %done\ndone:\n  ret i32 %x999\n}\n"

abbrev pub module_text : List ℕ
module_text = module_head ++ mask_lines 999 ++ module_tail

-- ---- the mutants

-- what the mask of number k is taken of
abbrev pub masked : ℕ → List ℕ
masked zero = codes "%i"
masked (suc j) = codes "%x" ++ decimal j

abbrev pub divisor : ℕ → ℕ → ℕ
divisor n k = if k % 100 == (100 - n % 100) % 100 then 10 else 1000

-- the two records for the mask of number k
abbrev pub wider_record : ℕ → List ℕ
wider_record k = codes "l;" ++ decimal (k + 3) ++ codes ";and i32 " ++ masked k ++ codes ", 255\n"

abbrev pub remainder_record : ℕ → ℕ → List ℕ
remainder_record n k = codes "l;" ++ decimal (k + 3) ++ codes ";urem i32 " ++ masked k ++ codes ", " ++ decimal (divisor n k) ++ 10 ∷ []

-- those for the masks below a number
unfoldable pub records : ℕ → ℕ → List ℕ
records n zero = []
records n (suc k) = records n k ++ wider_record k ++ remainder_record n k

abbrev pub mutants_text : ℕ → List ℕ
mutants_text n = codes "function;instruction;replacement\n" ++ records n 1000

-- ---- the suite

abbrev pub tests_text : List ℕ
tests_text = codes "name;function;arguments;input;budget;expected\nload;l;;;100000;\n"

-- ---- the files

pub record Texts : Type 0 where
  pub «module» : List ℕ
  pub mutants : List ℕ
  pub tests : List ℕ

abbrev pub texts_of : ℕ → Texts
texts_of n = record { «module» = module_text; mutants = mutants_text n; tests = tests_text }

-- the file of a name
abbrev pub file_in : Texts → List ℕ → Option (List ℕ)
file_in texts name =
    if bytes_eq name (codes "module") then Some texts.«module» else
    if bytes_eq name (codes "mutants") then Some texts.mutants else
    if bytes_eq name (codes "tests") then Some texts.tests else None

abbrev pub workload_file : ℕ → List ℕ → Option (List ℕ)
workload_file n = file_in (texts_of n)

-- the faults of a name: no read of a file that is held fails, and each other one misses. A count that is at its greatest counts as risen (`Rose`), so
-- the count of a name that isn't held may stay as it is.
abbrev pub fault_count : Texts → List ℕ → ℕ
fault_count texts name = if is_some (file_in texts name) then 0 else 2 ^ 64 - 1
