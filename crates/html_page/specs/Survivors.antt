-- The table of the survivors.
use Rattle.std.specs.Prelude.{ℕ, if◌then◌else◌, List, [], ◌∷◌, ◌++◌, codes, decimal, flat_map, Option, Some, None, slice_get}
use Rattle.kill_matrix.specs.Score.{Letters, is_killed}
use Rattle.instruction_list.specs.declared.line.Line.{Line}
use Rattle.html_page.specs.declared.listed.Listed.{Listed}
use Rattle.html_page.specs.Escaped.{escaped}

-- where an instruction is, and its text
abbrev pub line_text : Line → List ℕ
line_text line =
    codes "<td>" ++ escaped line.function ++ 59 ∷ decimal line.number ++ codes "<td><code>" ++ escaped line.text ++ codes "</code>"

abbrev pub place_text : Option Line → List ℕ
place_text None = codes "<td><td>"
place_text (Some line) = line_text line

-- a replacement: the mutant's number, the place, the original and what stands there
abbrev pub survivor_row : List Line → Listed → List ℕ
survivor_row lines x =
    codes "<tr><th scope=row>" ++ decimal x.mutant ++ place_text (slice_get lines x.place) ++ codes "<td><code>" ++ escaped x.text
    ++ codes "</code>\n"

-- the same, where no test kills the mutant
abbrev pub survivor_of : Letters → List Line → Listed → List ℕ
survivor_of grid lines x = if is_killed grid x.mutant then [] else survivor_row lines x

abbrev pub survivors_part : Letters → List Line → List Listed → List ℕ
survivors_part grid lines all =
    codes "<h2 id=survivors>Survivors</h2>\n<div class=t><table class=n>\n"
    ++ codes "<tr><th scope=col>mutant<th scope=col>place<th scope=col>original" ++ codes "<th scope=col>replacement\n"
    ++ flat_map (survivor_of grid lines) all ++ codes "</table></div>\n"
