-- Sets of labels.
use Rattle.std.specs.Prelude.{List, [], fold}
use Rattle.ir_tree.specs.declared.name.Name.{Name}
use Rattle.ir_names.specs.Names.{with_first}

abbrev pub Labels : Type 0
Labels = List (Name × Unit {0})

abbrev pub with_label : Labels → Name → Labels
with_label t n = with_first t (n, tt)

abbrev pub label_table : List Name → Labels
label_table ns = fold with_label [] ns
