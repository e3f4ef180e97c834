-- The instructions with the mutants at them.
use Rattle.std.specs.Prelude.{ℕ, ◌+◌, ◌==◌, Bool, true, false, not, ◌&&◌, if◌then◌else◌, List, [], ◌∷◌, ◌++◌, codes, decimal, flat_map}
use Rattle.kill_matrix.specs.Score.{Letters, is_killed}
use Rattle.instruction_list.specs.declared.line.Line.{Line}
use Rattle.html_page.specs.declared.listed.Listed.{Listed}
use Rattle.html_page.specs.Escaped.{escaped}

-- the replacement is at this place, and its mutant is killed or not, as asked for
abbrev pub is_asked : Letters → ℕ → Bool → Listed → Bool
is_asked grid place killed x = x.place == place && (if killed then is_killed grid x.mutant else not (is_killed grid x.mutant))

abbrev pub start_of : Bool → List ℕ
start_of killed = if killed then codes "<p>killed: " else codes "<p class=s>survives: "

-- a replacement: the mutant's number, and what stands there
abbrev pub item_of : Bool → Listed → List ℕ
item_of killed x = start_of killed ++ decimal x.mutant ++ codes " <code>" ++ escaped x.text ++ codes "</code>"

abbrev pub asked_one : Letters → ℕ → Bool → Listed → List ℕ
asked_one grid place killed x = if is_asked grid place killed x then item_of killed x else []

-- the name of a function, and the front of its table
abbrev pub name_of : List ℕ → List ℕ
name_of name = codes "</table></div>\n<h3>@" ++ escaped name ++ codes "</h3>\n<div class=t><table>\n"

-- it stands before the first instruction
abbrev pub heading_of : Line → List ℕ
heading_of line = if line.number == 1 then name_of line.function else []

-- an instruction: its number, its text and the mutants there, survivors first
abbrev pub line_row : Letters → List Listed → ℕ → Line → List ℕ
line_row grid all place line =
    heading_of line ++ codes "<tr><th scope=row>" ++ decimal line.number ++ codes "<td><code>" ++ escaped line.text ++ codes "</code><td>"
    ++ flat_map (asked_one grid place false) all ++ flat_map (asked_one grid place true) all ++ 10 ∷ []

-- those from a place on
abbrev pub rows_from : Letters → List Listed → ℕ → List Line → List ℕ
rows_from grid all place [] = []
rows_from grid all place (line ∷ lines) = line_row grid all place line ++ rows_from grid all (place + 1) lines

abbrev pub lines_part : Letters → List Listed → List Line → List ℕ
lines_part grid all lines =
    codes "<h2 id=instructions>Instructions</h2>\n<div class=t><table>" ++ rows_from grid all 0 lines ++ codes "</table></div>\n"
