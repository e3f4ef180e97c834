use Rattle.std.proofs.Common.{◌≡◌, drop}
use Rattle.am_base.specs.Files.{file_in, file_list}
use Rattle.am_base.proofs.memory_shelf.find_file.Given as goal

-- the file is none of those before
abbrev pub invariant-loop-key : goal.invariant-loop-key
invariant-loop-key l = file_in (file_list (drop l.key-index l.files)) l.name ≡ file_in (file_list l.files) l.name
