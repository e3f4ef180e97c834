-- The front of a page: constants.
use Rattle.std.specs.Prelude.{ℕ, List, ◌++◌, codes}

unfoldable pub front : List ℕ
front =
    codes "<!DOCTYPE html>\n"
    ++ codes "<html lang=en>\n"
    ++ codes "<head>\n"
    ++ codes "<meta charset=utf-8>\n"
    ++ codes "<meta name=viewport content='width=device-width, initial-scale=1'>\n"
    ++ codes "<title>Mutants and tests</title>\n"
    ++ codes "<style>\n"

unfoldable pub colours : List ℕ
colours =
    codes ":root{color-scheme:light dark;--b:#fff;--f:#1b1b1b;--l:#c8c8c8;--q:#f2f2f2;--s:#b3261e}\n"
    ++ codes "@media(prefers-color-scheme:dark){\n"
    ++ codes ":root{--b:#131313;--f:#e6e6e6;--l:#484848;--q:#202020;--s:#ff9d94}}\n"
    ++ codes ".R{background:#0072b2;color:#fff}.O{background:#e69f00;color:#000}\n"
    ++ codes ".T{background:#d55e00;color:#000}.B{background:#cc79a7;color:#000}\n"

unfoldable pub text_layout : List ℕ
text_layout =
    codes "body{margin:0 auto;max-width:76rem;padding:1rem;background:var(--b);color:var(--f);\n"
    ++ codes "font:1rem/1.5 system-ui,sans-serif}\n"
    ++ codes "h1{font-size:1.7rem;margin:.5rem 0}h2{font-size:1.3rem;margin:2rem 0 .5rem}\n"
    ++ codes "h3{font-size:1.05rem;margin:1.2rem 0 .4rem}p{margin:.4rem 0}.big{font-size:1.3rem}\n"
    ++ codes "a{color:inherit}nav a{margin-right:1rem}.w{max-width:40rem}td p{margin:0}\n"
    ++ codes "code{font-family:ui-monospace,monospace;font-size:.9em;overflow-wrap:anywhere}\n"

unfoldable pub table_layout : List ℕ
table_layout =
    codes ".t{overflow-x:auto}table{border-collapse:collapse;font-variant-numeric:tabular-nums}\n"
    ++ codes "table:empty{display:none}th{background:var(--q)}\n"
    ++ codes "th,td{border:1px solid var(--l);padding:.2rem .55rem;text-align:left;vertical-align:top}\n"
    ++ codes ".m td{text-align:center;min-width:1.4rem;font-weight:700}b.R,b.O,b.T,b.B{padding:0 .4rem}\n"
    ++ codes ".s>th,p.s{border-left:.4rem solid var(--s);padding-left:.4rem}p.s{font-weight:700}\n"
    ++ codes ".s>th::after{content:' survives';color:var(--s)}.o>th::after{content:' original'}\n"

unfoldable pub printed_layout : List ℕ
printed_layout =
    codes "@media print{body{max-width:none;padding:0;font-size:9pt}.t{overflow:visible}nav{display:none}\n"
    ++ codes "tr{break-inside:avoid}h2,h3{break-after:avoid}.R,.O,.T,.B{print-color-adjust:exact}}\n"

unfoldable pub links : List ℕ
links =
    codes "</style>\n"
    ++ codes "</head>\n"
    ++ codes "<body>\n"
    ++ codes "<h1>Mutants and tests</h1>\n"
    ++ codes "<nav><a href=#survivors>Survivors</a><a href=#tests>Tests</a>\n"
    ++ codes "<a href=#matrix>Matrix</a><a href=#instructions>Instructions</a></nav>\n"

abbrev pub head : List ℕ
head = front ++ colours ++ text_layout ++ table_layout ++ printed_layout ++ links
