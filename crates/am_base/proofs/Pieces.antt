-- Pieces of a file that are read in a row, and of a text that are written in a row.
use Rattle.std.proofs.Common.{◌≡◌, ℕ, ◌+◌, ◌-◌, ◌≤◌, List, ◌++◌, length, take, drop, ap, refl, append_assoc, None, Some, arith, ◌<◌, get_or, true, String}
use Rattle.std.proofs.Common.{string_bytes}
use Rattle.std.specs.declared.alloc.Global.{Global}
use Rattle.std.specs.Global.{Vec}
use Rattle.std.specs.Str.{bytes_eq}
use Rattle.am_base.specs.Files.{file_in, file_list}
use Rattle.std.proofs.Math.Seq.{take-add, take-append-add, drop-cons}
use Rattle.std.proofs.lemmas.List.{length-drop, length-take, length-take-le, take_all, take-append-le}
use borrow.Rule.Slice.PartMut.{mid_of, put_mid, post_of, same_len_mid}
use Rattle.am_base.specs.Text.{Written, appended}

appended-append : (old : Written) (first second : List ℕ) → appended (appended old first) second ≡ appended old (first ++ second)
appended-append None first second = refl
appended-append (Some bytes) first second = ap Some (append_assoc bytes first second)

-- the part of a slice from a place on is the rest of its list
rest_of : (place : ℕ) (piece : List ℕ) → take (length piece - place) (drop place piece) ≡ drop place piece
rest_of place piece = take_all (length piece - place) (drop place piece) (omega (arith, length-drop place piece))

-- one more piece was written
pub appended-more : (old now new : Written) (sent count : ℕ) (piece : List ℕ) → now ≡ appended old (take sent piece) →
    new ≡ appended now (take count (take (length piece - sent) (drop sent piece))) → new ≡ appended old (take (sent + count) piece)
appended-more old now new sent count piece before after =
    let rest : take (length piece - sent) (drop sent piece) ≡ drop sent piece = rest_of sent piece in
    let joined : appended (appended old (take sent piece)) (take count (drop sent piece)) ≡ appended old (take sent piece ++ take count (drop sent piece)) =
    appended-append old (take sent piece) (take count (drop sent piece)) in
    let split : take (sent + count) piece ≡ take sent piece ++ take count (drop sent piece) = take-add sent count piece in
    cc

-- one more piece was read
pub take-put_mid-more : (taken room count : ℕ) (into piece file : List ℕ) → taken ≤ length into → count ≤ length piece → take taken into ≡ take taken file →
    take count piece ≡ take count (drop taken file) → take (taken + count) (put_mid taken room into piece) ≡ take (taken + count) file
take-put_mid-more taken room count into piece file within fits before after =
    let long : length (take taken into) ≡ taken = length-take-le taken into within in
    let whole : take (length (take taken into) + count) (put_mid taken room into piece) ≡ take taken into ++ take count (piece ++ post_of taken room into) =
    take-append-add (take taken into) (piece ++ post_of taken room into) count in
    let front : take count (piece ++ post_of taken room into) ≡ take count piece = take-append-le count piece (post_of taken room into) fits in
    let split : take (taken + count) file ≡ take taken file ++ take count (drop taken file) = take-add taken count file in
    cc

-- what was read lies within the buffer
pub put_mid_within : (taken count : ℕ) (into piece : List ℕ) → taken ≤ length into → count ≤ length (mid_of taken (length into - taken) into) →
    length piece ≡ length (mid_of taken (length into - taken) into) → taken + count ≤ length (put_mid taken (length into - taken) into piece)
put_mid_within taken count into piece within fits long =
    omega (arith, same_len_mid taken (length into - taken) into piece long, length-take (length into - taken) (drop taken into), length-drop taken into)

-- the first file from a place on, where the file there has the name
pub file_in-here : (files : List (String Global × Vec ℕ)) (name : List ℕ) (place : ℕ) (file : String Global × Vec ℕ) → place < length files
    → file ≡ get_or files place file →
    bytes_eq (string_bytes file.0) name ≡ true → file_in (file_list (drop place files)) name ≡ Some file.1.items
file_in-here files name place file within is same =
    rw (drop-cons files place file, ← is, same) refl
