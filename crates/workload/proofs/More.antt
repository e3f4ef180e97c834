-- One more of the lines of a text.
use Rattle.std.proofs.Common.{◌≡◌, ℕ, suc, ◌+◌, [], ◌++◌, refl, ap, ◌∙◌, add-one}
use Rattle.workload.specs.Workload.{mask_line, mask_lines, records, wider_record, remainder_record}

pub masks_none : mask_lines 0 ≡ []
unfolding mask_lines
masks_none = refl

one_mask : (j : ℕ) → mask_lines (suc j) ≡ mask_lines j ++ mask_line j
unfolding mask_lines
one_mask j = refl

pub masks_more : (j : ℕ) → mask_lines (j + 1) ≡ mask_lines j ++ mask_line j
masks_more j = ap mask_lines (add-one j) ∙ one_mask j

pub records_none : (n : ℕ) → records n 0 ≡ []
unfolding records
records_none n = refl

two_records : (n k : ℕ) → records n (suc k) ≡ records n k ++ wider_record k ++ remainder_record n k
unfolding records
two_records n k = refl

pub records_more : (n k : ℕ) → records n (k + 1) ≡ records n k ++ wider_record k ++ remainder_record n k
records_more n k = ap (records n) (add-one k) ∙ two_records n k
